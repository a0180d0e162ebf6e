use Rattle.std.proofs.Common.{◌≡◌, length}
use Rattle.std.specs.Prelude.{unsigned_abs}
use Rattle.flow_residual.specs.Flows.{excess_of}
use Rattle.flow_residual.specs.Rooms.{IsRoomFor}
use Rattle.flow_solve.specs.Progress.{IsUnderway}
use Rattle.flow_solve.proofs.advancing.drain.Given as goal

abbrev pub invariant-loop-source : goal.invariant-loop-source
invariant-loop-source g l = record {
  underway : IsUnderway g.C.Cost.value_at l.step l.initial.s l.s l.initial.steps l.steps;
  aside : l.room.aside.items ≡ l.initial.room.aside.items;
  room : IsRoomFor (length l.s.graph.nodes) l.room;
}

abbrev pub decreases-loop-source : goal.decreases-loop-source
decreases-loop-source g l = unsigned_abs (excess_of l.s l.source.0)
