use Rattle.std.proofs.Common.{◌≡◌, ◌+◌, ◌*◌, ◌^◌, ◌≤◌, pos, length}
use Rattle.flow_residual.specs.Rooms.{IsRoomFor}
use Rattle.flow_solve.specs.Bounds.{size_of}
use Rattle.flow_solve.specs.Scales.{SettlesNear}
use Rattle.flow_solve.proofs.scaling.descend.Given as goal

abbrev pub invariant-loop-k : goal.invariant-loop-k
invariant-loop-k g l = record {
  room : IsRoomFor (length l.s.graph.nodes) l.room;
  rest : l.s ≡ record l.initial.s { flows = l.s.flows; potentials = l.s.potentials };
  counts_up : l.initial.steps ≤ l.steps;
  below : l.k ≤ l.first;
  near : SettlesNear g.C.Cost.value_at (pos (2 ^ l.first)) (pos (4 * size_of l.initial.s * 2 ^ l.first)) l.initial.s → SettlesNear g.C.Cost.value_at (pos (2 ^ l.k)) (pos (4 * size_of l.initial.s * 2 ^ l.k)) l.s;
  few : SettlesNear g.C.Cost.value_at (pos (2 ^ l.first)) (pos (4 * size_of l.initial.s * 2 ^ l.first)) l.initial.s → l.steps + 4 * size_of l.initial.s * l.k ≤ l.initial.steps + 4 * size_of l.initial.s * l.first;
}

abbrev pub decreases-loop-k : goal.decreases-loop-k
decreases-loop-k g l = l.k
