-- The room of a search: whose it is, and the path that it holds.
use Rattle.std.specs.Prelude.{◌≡◌, ℕ, List, ◌∷◌, ℤ, Some, slice_get, vec_len}
use Rattle.flow_cost.specs.Condition.{MeetsCondition}
use Rattle.flow_graph.specs.declared.arcs.Arc.{Arc}
use Rattle.flow_graph.specs.Condition.{rise}
use Rattle.flow_residual.specs.declared.rooms.Room.{Room}
use Rattle.flow_residual.specs.Flows.{Flow, HasArc, IsStep}
use Rattle.flow_residual.specs.Path.{Move, IsOpen, IsPath, IsTight}

-- the room was made for a state with this many nodes
pub record IsRoomFor (nodes : ℕ) (room : Room) : Type 0 where
  pub set : vec_len room.set ≡ nodes
  pub dist : vec_len room.dist ≡ nodes
  pub by : vec_len room.by ≡ nodes
  pub heap : vec_len room.heap ≡ nodes
  pub place : vec_len room.place ≡ nodes
  pub aside : vec_len room.aside ≡ nodes

-- each node on the way was reached by the arc of its move
abbrev pub ReachedBy : Room → List Move → List ℕ → Type 0
ReachedBy room (m ∷ ms) (n ∷ ns) = (slice_get room.by.items n ≡ Some (Some (record { 0 = m.arc }))) × ReachedBy room ms ns
ReachedBy room ms ns = Unit {0}

-- the arcs by which nodes were reached, followed back from the last node, give this path from the source
pub record HoldsPath {N A C : Type 0} (s : Flow N A C) (step : ℤ) (room : Room) (ms : List Move) : Type 0 where
  pub path : IsPath s step room.source.0 room.last.0 ms
  pub held : ReachedBy room ms path.by_way_of

-- all but the heap is as before
pub record ChangesHeapAlone (old new : Room) : Type 0 where
  pub set : new.set.items ≡ old.set.items
  pub dist : new.dist.items ≡ old.dist.items
  pub by : new.by.items ≡ old.by.items
  pub place : new.place.items ≡ old.place.items
  pub aside : new.aside.items ≡ old.aside.items
  pub source : new.source ≡ old.source
  pub last : new.last ≡ old.last

-- what was right for the old potentials at any step is right for the new ones
pub record KeepsShown {N A C : Type 0} (value : C → ℤ → ℤ) (old new : Flow N A C) : Type 0 where
  pub condition : (step : ℤ) → IsStep step → (a : ℕ) (arc : Arc) (c : C) (x : ℤ) → HasArc old a arc c x →
      MeetsCondition (value c) arc.lo arc.hi step x (rise old.potentials arc) →
      MeetsCondition (value c) arc.lo arc.hi step x (rise new.potentials arc)
  pub tight : (step : ℤ) → IsStep step → (m : Move) → IsOpen old step m → IsTight old value step m → IsTight new value step m
