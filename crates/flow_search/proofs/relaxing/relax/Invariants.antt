use Rattle.std.proofs.Common.{◌≡◌, ℕ, ◌<◌, length, ℤ, ◌⊎◌, All, Contains}
use Rattle.flow_residual.specs.Path.{Move}
use Rattle.flow_residual.specs.Rooms.{IsRoomFor}
use Rattle.flow_residual.specs.Edges.{IsEdge}
use Rattle.flow_search.specs.Frontier.{ListsOf}
use Rattle.flow_search.specs.Labels.{labels_of, distance, IsRelaxing, IsLowered, IsRelaxed}
use Rattle.flow_graph.specs.declared.arcs.ArcId.{ArcId}
use Rattle.flow_search.proofs.relaxing.relax.Given as goal

abbrev pub invariant-loop-a : goal.invariant-loop-a
invariant-loop-a g l = record {
  within : All (λ (a : ArcId). a.0 < length l.s.graph.arcs) l.a-iterator;
  relaxing : IsRelaxing g.C.Cost.value_at l.step l.s (labels_of l.room) l.u.0;
  lowered : IsLowered (labels_of l.initial.room) (labels_of l.room);
  relaxed : (m : Move) (v : ℕ) (price : ℤ) → IsEdge g.C.Cost.value_at l.step l.s m l.u.0 v price → Contains l.a-iterator (record { 0 = m.arc }) ⊎ IsRelaxed g.C.Cost.value_at l.step l.s (labels_of l.room) l.u.0 v price;
  lists : ListsOf l.room l.waiting (distance (labels_of l.room) l.u.0);
  source : l.room.source ≡ l.initial.room.source;
  aside : l.room.aside ≡ l.initial.room.aside;
  room : IsRoomFor (length l.s.graph.nodes) l.room;
}
