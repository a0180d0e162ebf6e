use Rattle.sut_check.proofs.Ended.{told-all, told-part}
use Rattle.sut_check.proofs.checks.print_lines.Goals as goal

pub returns-in-Ok-clause-printed : goal.returns-in-Ok-clause-printed
returns-in-Ok-clause-printed g c = told-all c.args.ends c.requires c.args.lines.now _ _ c.in-Ok.ensures.sent

pub returns-in-Err-clause-printed : goal.returns-in-Err-clause-printed
returns-in-Err-clause-printed g c = told-part c.args.lines.now _ _ c.in-Err.ensures.sent
