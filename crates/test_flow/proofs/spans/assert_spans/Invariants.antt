use Rattle.std.proofs.Common.{◌≡◌, ℕ, ◌<◌, ◌*◌, ◌^◌, pos, Some, slice_get}
use Rattle.flow_cost.specs.Cost.{IsWithin}
use Rattle.flow_graph.specs.declared.arcs.Arc.{Arc}
use Rattle.test_flow.proofs.spans.assert_spans.Given as goal

abbrev pub invariant-loop-a : goal.invariant-loop-a
invariant-loop-a g l = (k : ℕ) (arc : Arc) → k < l.a → slice_get l.graph.arcs k ≡ Some arc → IsWithin (pos (10 ^ 12)) arc.lo × IsWithin (pos (10 ^ 12)) arc.hi
