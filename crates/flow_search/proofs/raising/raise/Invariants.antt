use Rattle.std.proofs.Common.{◌≡◌, ℕ, ◌<◌, ◌≤◌, length, ◌-ℤ◌}
use Rattle.flow_residual.specs.Edges.{potential_at}
use Rattle.flow_search.specs.Labels.{labels_of, distance}
use Rattle.flow_search.specs.Frontier.{IsGain}
use Rattle.flow_search.proofs.raising.raise.Given as goal

abbrev pub invariant-loop-v : goal.invariant-loop-v
invariant-loop-v g l = record {
  rest : l.s ≡ record l.initial.s { potentials = l.s.potentials };
  sized : length l.s.potentials ≡ length l.initial.s.potentials;
  done : (k : ℕ) → k < l.v → IsGain (distance (labels_of l.room) k) l.top (potential_at l.s k -ℤ potential_at l.initial.s k);
  other : (k : ℕ) → l.v ≤ k → potential_at l.s k ≡ potential_at l.initial.s k;
}
