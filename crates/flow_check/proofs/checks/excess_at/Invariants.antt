use Rattle.std.proofs.Common.{◌≡◌, ◌+◌, ◌*◌, ◌^◌, ◌<◌, ◌≤◌, length, All, ◌+ℤ◌, unsigned_abs}
use Rattle.flow_graph.specs.declared.arcs.ArcId.{ArcId}
use Rattle.flow_graph.specs.Circulation.{excess}
use Rattle.flow_check.proofs.Touching.{sum_over, adds}
use Rattle.flow_check.proofs.checks.excess_at.Given as goal

abbrev pub invariant-loop-a : goal.invariant-loop-a
invariant-loop-a g l = record {
  there : All (λ (a : ArcId). a.0 < length l.g.arcs) l.a-iterator;
  sum : l.excess +ℤ sum_over (adds l.g.arcs l.flows l.node.0) l.a-iterator ≡ excess l.g.arcs l.flows l.node.0;
  small : unsigned_abs l.excess + length l.a-iterator * 2 ^ 63 ≤ 524_288 * 2 ^ 63;
}
