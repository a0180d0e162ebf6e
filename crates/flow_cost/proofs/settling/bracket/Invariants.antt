use Rattle.std.proofs.Common.{ℕ, ◌-◌, ◌<◌, ◌≤◌}
use Rattle.flow_cost.specs.Settle.{place_at, Pays}
use Rattle.flow_cost.proofs.settling.bracket.Given as goal

abbrev pub invariant-loop-low : goal.invariant-loop-low
invariant-loop-low g l = record {
  within : l.low ≤ l.most;
  pay : (k : ℕ) → k < l.low → Pays (g.C.Cost.value_at l.cost) l.by l.slope (place_at l.x l.by k);
}

abbrev pub decreases-loop-low : goal.decreases-loop-low
decreases-loop-low g l = l.most - l.low
