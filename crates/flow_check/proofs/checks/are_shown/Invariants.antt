use Rattle.std.proofs.Common.{ℕ, ◌<◌}
use Rattle.flow_check.specs.Shown.{IsArcShown}
use Rattle.flow_check.proofs.checks.are_shown.Given as goal

abbrev pub invariant-loop-a : goal.invariant-loop-a
invariant-loop-a g l = (k : ℕ) → k < l.a → IsArcShown g.C.Cost.value_at l.g.arcs l.costs l.flows l.potentials k
