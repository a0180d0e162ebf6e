use Rattle.generated_laws.proofs.ClassesRead.{classes-read}
use Rattle.generated_laws.proofs.Sizes.{size-is}
use Rattle.generated_laws.proofs.classes_read.Goals as goal

pub returns : goal.returns
returns c =
    let size = size-is c.args.seed c.args.products c.args.industries c.requires in
    classes-read c.args.products c.args.industries size.few_products size.few_industries
