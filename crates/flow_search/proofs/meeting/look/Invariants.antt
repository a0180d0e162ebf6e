use Rattle.std.proofs.Common.{◌≡◌, ◌<◌, length, All}
use Rattle.flow_graph.specs.declared.arcs.ArcId.{ArcId}
use Rattle.flow_residual.specs.Rooms.{IsRoomFor}
use Rattle.flow_search.proofs.meeting.look.Given as goal

abbrev pub invariant-loop-a : goal.invariant-loop-a
invariant-loop-a g l = record {
  within : All (λ (a : ArcId). a.0 < length l.s.graph.arcs) l.a-iterator;
  room : IsRoomFor (length l.s.graph.nodes) l.room;
  source : l.room.source ≡ l.initial.room.source;
  aside : l.room.aside ≡ l.initial.room.aside;
}
