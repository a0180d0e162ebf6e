use Rattle.std.proofs.Common.{◌∙◌}
use Rattle.sut_settings.proofs.ReadLemmas.{marked, unmarked}
use Rattle.sut_settings.proofs.read.skip_mark.Goals as goal

pub returns-in-Some : goal.returns-in-Some
returns-in-Some c = let (test, rest, _) = c.in-Some.ensures.cases in rest ∙ marked c.args.bytes.now test

pub returns-in-None : goal.returns-in-None
returns-in-None c = unmarked c.args.bytes.now c.in-None.ensures.cases
