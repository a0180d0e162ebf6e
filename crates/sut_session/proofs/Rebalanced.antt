-- A rebalance after a small set.
use Rattle.std.proofs.Common.{◌≡◌, ℕ, ◌≤◌, Option, Some, None, false, refl, ap}
use Rattle.std.specs.Prelude.{IfSome}
use Rattle.flow_solve.specs.Bounds.{FewTicks, NearSettled}
use Rattle.sut_tables.specs.ProblemFacts.{ProblemFacts}
use Rattle.sut_tables.specs.ProblemRules.{IsKept}
use Rattle.sut_cert.specs.Right.{is_infeasible}
use Rattle.sut_cert.specs.declared.answers.Answer.{Answer}
use Rattle.sut_cert.specs.declared.answers.Answer.TheVariants as answer
use Rattle.sut_circuit.specs.RowCosts.{cost_at}
use Rattle.sut_circuit.proofs.Places.{some-same}
use Rattle.sut_session.specs.SessionFacts.{KeptNumbers, SessionFacts}
use Rattle.sut_session.specs.SessionView.{IsNetworkOf, kept_of, numbers_of}
use Rattle.sut_session.specs.SmallSets.{AfterSmallSet, StaysNear}
use Rattle.sut_session.specs.Standing.{IsAnswerTo}
use Rattle.sut_session.specs.declared.networks.Network.{Network}
use Rattle.sut_session.proofs.TargetMoved.{set-admissible, set-near, set-ticks}

-- a session of these rows and this network
abbrev pub session : ProblemFacts → Option Answer → Option Network → SessionFacts
session p a net = record { problem = p; answer = a; kept = kept_of net }

pub after-set-ticks : (p : ProblemFacts) (was : Option Answer) (net : Option Network) → IsKept p → IfSome net (IsNetworkOf p) → (ticks : ℕ) → IfSome net (λ n. FewTicks cost_at n.circuit.state ticks)
    → AfterSmallSet (session p was net) (λ t m d. ticks ≤ d)
after-set-ticks p was None ok is ticks few = λ k e. absurd cc
after-set-ticks p was (Some n) ok is ticks few = λ k e before t shows r d small.
    let same = some-same (numbers_of n) k e in
    set-ticks before p k t shows r d small ok n.circuit is.circuit (ap (λ (z : KeptNumbers). z.numbers) same) (ap (λ (z : KeptNumbers). z.potentials) same) ticks few

pub after-set-near : (p : ProblemFacts) (was : Option Answer) (net new : Option Network) → IsKept p → IfSome net (IsNetworkOf p) → (a : Answer) → IsAnswerTo p (kept_of new) a
    → (is_infeasible a ≡ false → IfSome net (λ n. IfSome new (λ now. NearSettled cost_at n.circuit.state now.circuit.state.flows)))
    → AfterSmallSet (session p was net) (λ t m d. StaysNear p t m d a)
after-set-near p was None new ok is a right near = λ k e. absurd cc
after-set-near p was (Some n) new ok is (answer.Infeasible s) right near = λ k e before t shows r d small.
    absurd (right.infeasible.0 refl t (set-admissible before p k t shows r d small))
after-set-near p was (Some n) None ok is (answer.Balanced u ps) right near = absurd right.kept_as
after-set-near p was (Some n) (Some now) ok is (answer.Balanced u ps) right near = λ k e before t shows r d small.
    let same = some-same (numbers_of n) k e in
    set-near before p k t shows r d small ok n.circuit is.circuit (ap (λ (z : KeptNumbers). z.numbers) same) (ap (λ (z : KeptNumbers). z.potentials) same) u now.circuit.state.flows right.kept_as.0 (near refl)
