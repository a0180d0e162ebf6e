use Rattle.std.proofs.Common.{ℕ, ◌<◌, length}
use Rattle.std.proofs.Common.{◌<ℤ◌}
use Rattle.flow_residual.specs.Flows.{excess_of}
use Rattle.flow_residual.specs.Rooms.{IsRoomFor}
use Rattle.flow_solve.specs.Progress.{IsUnderway}
use Rattle.flow_solve.proofs.advancing.drain_all.Given as goal

abbrev pub invariant-loop-n : goal.invariant-loop-n
invariant-loop-n g l = record {
  underway : IsUnderway g.C.Cost.value_at l.step l.initial.s l.s l.initial.steps l.steps;
  room : IsRoomFor (length l.s.graph.nodes) l.room;
  spent : (k : ℕ) → k < l.n → k < length l.s.graph.nodes → excess_of l.s k <ℤ l.step;
}
