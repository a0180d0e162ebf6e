use Rattle.std.proofs.Common.{◌≡◌, ℕ, ◌<◌, ◌≤◌, length, ℤ, Some, slice_get}
use Rattle.flow_cost.specs.Settle.{IsNearestSettled}
use Rattle.flow_graph.specs.declared.arcs.Arc.{Arc}
use Rattle.flow_graph.specs.Condition.{rise, Carries}
use Rattle.flow_residual.proofs.settling.settle_flows.Given as goal

abbrev pub invariant-loop-a : goal.invariant-loop-a
invariant-loop-a g l = record {
  counted : length l.flows.items ≡ length l.initial.flows.items;
  done : (k : ℕ) → k < l.a → (arc : Arc) (c : g.row.C.Denot) (x y : ℤ) → Carries l.g.arcs l.costs l.initial.flows.items k arc c x → slice_get l.flows.items k ≡ Some y → IsNearestSettled (g.C.Cost.value_at c) x arc.lo arc.hi l.step (rise l.potentials arc) y;
  other : (k : ℕ) → l.a ≤ k → slice_get l.flows.items k ≡ slice_get l.initial.flows.items k;
}
