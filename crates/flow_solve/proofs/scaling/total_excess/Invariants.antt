use Rattle.std.proofs.Common.{◌≡◌}
use Rattle.flow_solve.specs.Bounds.{surplus_below}
use Rattle.flow_solve.proofs.scaling.total_excess.Given as goal

abbrev pub invariant-loop-n : goal.invariant-loop-n
invariant-loop-n g l = l.sum ≡ surplus_below l.s.graph.arcs l.s.flows l.n
