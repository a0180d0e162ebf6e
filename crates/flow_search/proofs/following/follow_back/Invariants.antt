use Rattle.std.proofs.Common.{◌≡◌, ◌<◌, length}
use Rattle.flow_residual.specs.Rooms.{IsRoomFor}
use Rattle.flow_search.proofs.Followed.{IsFollowed}
use Rattle.flow_search.proofs.following.follow_back.Given as goal

abbrev pub invariant-loop-turn : goal.invariant-loop-turn
invariant-loop-turn g l = record {
  room : IsRoomFor (length l.s.graph.nodes) l.room;
  there : l.n.0 < length l.s.graph.nodes;
  by : l.room.by.items ≡ l.initial.room.by.items;
  source : l.room.source ≡ l.initial.room.source;
  last : l.room.last ≡ l.initial.room.last;
  aside : l.room.aside ≡ l.initial.room.aside;
  followed : IsFollowed g.C.Cost.value_at l.step l.s l.fn.room l.room.set.items l.n.0 l.fn.room.last.0;
}
