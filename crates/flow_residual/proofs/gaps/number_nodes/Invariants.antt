use Rattle.std.proofs.Common.{◌≡◌, ℕ, ◌<◌, length}
use Rattle.flow_residual.specs.Gaps.{node_at}
use Rattle.flow_residual.proofs.gaps.number_nodes.Given as goal

abbrev pub invariant-loop-i : goal.invariant-loop-i
invariant-loop-i l = record {
  counted : length l.nodes.items ≡ length l.initial.nodes.items;
  numbered : (j : ℕ) → j < l.i → node_at l.nodes.items j ≡ j;
}
