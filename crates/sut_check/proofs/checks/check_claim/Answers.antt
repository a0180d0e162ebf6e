use Rattle.sut_check.proofs.Ended.{judged-answers, judged-prints, nothing-sent}
use Rattle.sut_check.proofs.checks.check_claim.Goals as goal

pub returns-in-Ok-clause-answers : goal.returns-in-Ok-clause-answers
returns-in-Ok-clause-answers g c = judged-answers c.args.p.now c.args.a.now c.in-Ok.judged c.print_judged.result c.in-Ok.ensures c.print_judged.ensures.ends

pub returns-in-Ok-clause-printed : goal.returns-in-Ok-clause-printed
returns-in-Ok-clause-printed g c = judged-prints c.args.p.now c.args.a.now c.in-Ok.judged c.print_judged.result c.in-Ok.ensures c.print_judged.ensures.ends _ _ c.print_judged.ensures.printed

pub returns-in-Err-clause-printed : goal.returns-in-Err-clause-printed
returns-in-Err-clause-printed g c = nothing-sent (g.K.Sink.sent c.args.out.now)
