use Rattle.std.proofs.Common.{◌-◌, ℕ, ◌*◌, ◌^◌, ◌<◌, ◌≤◌, pos}
use Rattle.std.proofs.Common.{◌<ℤ◌}
use Rattle.flow_solve.proofs.scaling.first_scale.Given as goal

abbrev pub invariant-loop-k : goal.invariant-loop-k
invariant-loop-k l = record {
  highest : l.k ≤ 40;
  least : (k : ℕ) → k < l.k → pos (l.size * 2 ^ k) <ℤ l.excess;
}

abbrev pub decreases-loop-k : goal.decreases-loop-k
decreases-loop-k l = 40 - l.k
