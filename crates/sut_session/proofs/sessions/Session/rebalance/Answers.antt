use Rattle.std.proofs.Common.{◌-◌, ◌≤◌, subst}
use Rattle.sut_session.specs.SmallSets.{AfterSmallSet, StaysNear}
use Rattle.sut_session.proofs.Rebalanced.{after-set-near, after-set-ticks}
use Rattle.sut_session.proofs.sessions.Session.rebalance.Goals as goal

pub returns-in_err-answer-clause-few_ticks : goal.returns-in_err-answer-clause-few_ticks
returns-in_err-answer-clause-few_ticks g c =
    subst (λ s. AfterSmallSet s (λ t m d. (c.answer_to.new.steps - c.args.steps.now) ≤ d)) c.self.view_is
    (after-set-ticks c.self.inside.problem c.self.inside.answer c.self.inside.network c.kept.ensures c.self.invariant.network _ c.answer_to.ensures.few_ticks)

pub returns-clause-few_ticks : goal.returns-clause-few_ticks
returns-clause-few_ticks g c =
    subst (λ s. AfterSmallSet s (λ t m d. (c.answer_to.new.steps - c.args.steps.now) ≤ d)) c.self.view_is
    (after-set-ticks c.self.inside.problem c.self.inside.answer c.self.inside.network c.kept.ensures c.self.invariant.network _ c.answer_to.ensures.few_ticks)

pub returns-clause-near : goal.returns-clause-near
returns-clause-near g c =
    subst (λ s. AfterSmallSet s (λ t m d. StaysNear c.self.inside.problem t m d c.in_ok-answer.answer)) c.self.view_is
    (after-set-near c.self.inside.problem c.self.inside.answer c.self.inside.network c.answer_to.new.network c.kept.ensures c.self.invariant.network c.in_ok-answer.answer c.in_ok-answer.ensures.answer c.in_ok-answer.ensures.near_settled)
