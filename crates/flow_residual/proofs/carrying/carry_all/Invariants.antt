use Rattle.std.proofs.Common.{◌≡◌, ℕ, ◌*◌, ◌^◌, ◌<◌, length, drop, get_or, pos, ◌+ℤ◌}
use Rattle.flow_cost.specs.Cost.{IsWithin}
use Rattle.flow_graph.specs.Circulation.{excess}
use Rattle.flow_residual.proofs.carrying.carry_all.Given as goal

abbrev pub invariant-loop-a : goal.invariant-loop-a
invariant-loop-a g l = record {
  counted : length l.out.items ≡ length l.g.nodes;
  small : (n : ℕ) → n < length l.g.nodes → IsWithin (pos (l.a * 2 ^ 62)) (get_or l.out.items n (pos 0));
  each : (n : ℕ) → n < length l.g.nodes → get_or l.out.items n (pos 0) +ℤ excess (drop l.a l.g.arcs) (drop l.a l.flows) n ≡ excess l.g.arcs l.flows n;
}
