use Rattle.std.proofs.Common.{◌≡◌, ◌-◌, length, count_by}
use Rattle.flow_residual.specs.Rooms.{IsRoomFor}
use Rattle.flow_search.specs.Labels.{labels_of, IsSearched}
use Rattle.flow_search.specs.Frontier.{HasLists}
use Rattle.flow_search.proofs.searching.search.Given as goal

abbrev pub invariant-loop-u : goal.invariant-loop-u
invariant-loop-u g l = record {
  room : IsRoomFor (length l.initial.s.graph.nodes) l.room;
  state : l.s ≡ l.initial.s;
  source : l.room.source ≡ l.fn.source;
  lists : HasLists l.room l.waiting;
  aside : l.room.aside ≡ l.fn.room.aside;
  searched : IsSearched g.C.Cost.value_at l.step l.initial.s (labels_of l.room);
}

abbrev pub decreases-loop-u : goal.decreases-loop-u
decreases-loop-u g l = length l.s.graph.nodes - count_by (λ b. b) l.room.set.items
