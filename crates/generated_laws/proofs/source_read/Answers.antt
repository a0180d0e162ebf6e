use Rattle.generated_laws.proofs.Sizes.{size-is}
use Rattle.generated_laws.proofs.SourceRead.{source-read}
use Rattle.generated_laws.proofs.source_read.Goals as goal

pub returns : goal.returns
returns c = source-read c.args.seed c.args.products c.args.industries (size-is c.args.seed c.args.products c.args.industries c.requires)
