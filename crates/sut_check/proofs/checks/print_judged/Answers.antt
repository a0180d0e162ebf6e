use Rattle.sut_check.proofs.Ended.{nothing-sent}
use Rattle.sut_check.proofs.checks.print_judged.Goals as goal

pub returns-in-Refused-clause-printed : goal.returns-in-Refused-clause-printed
returns-in-Refused-clause-printed g c = nothing-sent (g.K.Sink.sent c.args.out.now)
