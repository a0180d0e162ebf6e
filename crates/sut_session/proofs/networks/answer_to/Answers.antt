use Rattle.std.proofs.lemmas.Result.{IfOk-weaker}
use Rattle.sut_session.proofs.Solved.{near-of, no-tick, ticks-of}
use Rattle.sut_session.proofs.networks.answer_to.Goals as goal

pub returns-in_err-n-clause-few_ticks : goal.returns-in_err-n-clause-few_ticks
returns-in_err-n-clause-few_ticks g c = no-tick c.args.network.now c.args.steps.now

pub returns-clause-few_ticks : goal.returns-clause-few_ticks
returns-clause-few_ticks g c = ticks-of c.args.network.now c.in_ok-n.n _ c.in_ok-n.ensures.same c.answer_on-answer.ensures.few_ticks

pub returns-clause-near_settled : goal.returns-clause-near_settled
returns-clause-near_settled g c =
    IfOk-weaker c.answer_on-answer.result _ _ (λ a near feasible. near-of c.args.network.now c.in_ok-n.n c.answer_on-answer.new.n c.in_ok-n.ensures.same (near feasible)) c.answer_on-answer.ensures.near_settled
