use Rattle.std.proofs.Common.{length}
use Rattle.flow_residual.specs.Rooms.{IsRoomFor}
use Rattle.flow_solve.specs.Progress.{IsUnderway}
use Rattle.flow_solve.specs.Scales.{IsPassed}
use Rattle.flow_solve.proofs.scaling.drain_open.Given as goal

abbrev pub invariant-loop-n : goal.invariant-loop-n
invariant-loop-n g l = record {
  underway : IsUnderway g.C.Cost.value_at l.step l.initial.s l.s l.initial.steps l.steps;
  room : IsRoomFor (length l.s.graph.nodes) l.room;
  passed : IsPassed l.step l.s l.room.aside.items l.n;
}
