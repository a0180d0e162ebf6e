use Rattle.sut_tables.proofs.FirstBreak.{first_break-admissible}
use Rattle.sut_tables.proofs.laws.no_break.Goals as goal

pub returns : goal.returns
returns c = first_break-admissible c.args.p.now c.args.t.now c.kept.ensures.problem c.requires
