use Rattle.std.proofs.Common.{◌≡◌, ◌<◌, length}
use Rattle.flow_residual.specs.Rooms.{IsRoomFor}
use Rattle.flow_search.proofs.meeting.turn_round.Given as goal

abbrev pub invariant-loop-turn : goal.invariant-loop-turn
invariant-loop-turn g l = record {
  room : IsRoomFor (length l.s.graph.nodes) l.room;
  there : l.room.last.0 < length l.s.graph.nodes;
  source : l.room.source ≡ l.initial.room.source;
  aside : l.room.aside ≡ l.initial.room.aside;
}
