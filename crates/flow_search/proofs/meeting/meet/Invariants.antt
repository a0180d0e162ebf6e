use Rattle.std.proofs.Common.{◌≡◌, length}
use Rattle.flow_residual.specs.Rooms.{IsRoomFor}
use Rattle.flow_search.proofs.meeting.meet.Given as goal

abbrev pub invariant-loop-turn : goal.invariant-loop-turn
invariant-loop-turn g l = record {
  room : IsRoomFor (length l.s.graph.nodes) l.room;
  source : l.room.source ≡ l.initial.room.source;
  aside : l.room.aside ≡ l.initial.room.aside;
}
