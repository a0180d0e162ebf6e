use Rattle.std.proofs.Common.{ℕ, ◌<◌, ◌*◌, ◌^◌, pos, get_or}
use Rattle.flow_cost.specs.Cost.{IsWithin}
use Rattle.test_flow.proofs.checks.assert_potentials.Given as goal

abbrev pub invariant-loop-potential : goal.invariant-loop-potential
invariant-loop-potential g l = (k : ℕ) → k < l.potential-index → IsWithin (pos (10 ^ 24)) (get_or l.potentials k (pos 0))
