use Rattle.std.proofs.Common.{◌≡◌, length}
use Rattle.flow_residual.specs.Rooms.{IsRoomFor}
use Rattle.flow_search.proofs.meeting.start_backward.Given as goal

abbrev pub invariant-loop-n : goal.invariant-loop-n
invariant-loop-n g l = record {
  room : IsRoomFor (length l.s.graph.nodes) l.room;
  source : l.room.source ≡ l.initial.room.source;
  aside : l.room.aside ≡ l.initial.room.aside;
}
