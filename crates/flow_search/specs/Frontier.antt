-- What the four functions of a frontier do to the labels.
use Rattle.std.specs.Prelude.{◌≡◌, ℕ, ◌+◌, ◌-◌, ◌<◌, ◌≤◌, Bool, true, false, List, ℤ, pos, negsuc, ◌≤ℤ◌, ◌<ℤ◌, ◌⊎◌, Option, Some, None, length, count_by, replicate, slice_set, slice_index_or}
use Rattle.flow_graph.specs.declared.arcs.ArcId.{ArcId}
use Rattle.flow_graph.specs.declared.arcs.NodeId.{NodeId}
use Rattle.flow_graph.specs.Contradiction.{in_set}
use Rattle.flow_residual.specs.Gaps.{node_at}
use Rattle.flow_residual.specs.declared.rooms.Room.{Room}
use Rattle.flow_search.specs.declared.frontier.Waiting.{Waiting}
use Rattle.flow_search.specs.Heap.{key_at, IsQueue, IsAmong}
use Rattle.flow_search.specs.Labels.{Labels, distance, IsReached, IsDone}

-- nothing is settled, and the source alone is reached
abbrev pub at_start : ℕ → ℕ → Labels
at_start nodes source = record {
  source = source;
  set = replicate nodes false;
  dist = slice_set (replicate nodes (negsuc 0)) source (pos 0);
  by = replicate nodes None;
}

abbrev pub with_settled : Labels → ℕ → Labels
with_settled l u = record l { set = slice_set l.set u true }

abbrev pub with_offer : Labels → ℕ → ℤ → ArcId → Labels
with_offer l v d a = record l { dist = slice_set l.dist v d; by = slice_set l.by v (Some a) }

-- the node was nearest among those reached and not settled, and is settled now
pub record Takes (old new : Labels) (u : ℕ) : Type 0 where
  pub waiting : in_set old.set u ≡ false
  pub reached : IsReached old u
  pub nearest : (v : ℕ) → IsReached old v → in_set old.set v ≡ false → distance old u ≤ℤ distance old v
  pub new_is : new ≡ with_settled old u

-- every reached node was settled
pub record TakesNone (old new : Labels) : Type 0 where
  pub all_done : (v : ℕ) → IsReached old v → IsDone old v
  pub new_is : new ≡ old

-- the node is no further than the offer
pub record Declines (old new : Labels) (v : ℕ) (d : ℤ) : Type 0 where
  pub reached : IsReached old v
  pub nearer : distance old v ≤ℤ d
  pub new_is : new ≡ old

-- it was further, or not reached
pub record Accepts (old new : Labels) (v : ℕ) (d : ℤ) (a : ArcId) : Type 0 where
  pub further : IsReached old v → d <ℤ distance old v
  pub new_is : new ≡ with_offer old v d a

-- a distance of a node that was reached, and is no further than this
pub record IsReachedWithin (at d : ℤ) : Type 0 where
  pub reached : pos 0 ≤ℤ d
  pub near : d ≤ℤ at

-- reached, and not settled
pub record IsWaiting (set : List Bool) (dist : List ℤ) (v : ℕ) : Type 0 where
  pub apart : in_set set v ≡ false
  pub reached : pos 0 ≤ℤ slice_index_or dist v (negsuc 0)

-- the nearest of the waiting nodes below n, or none where none waits
abbrev pub IsBest : List Bool → List ℤ → ℕ → Option ℕ → Type 0
IsBest set dist n None = (v : ℕ) → v < n → IsWaiting set dist v → ⊥
IsBest set dist n (Some u) =
    (u < n) × IsWaiting set dist u × ((v : ℕ) → v < n → IsWaiting set dist v → slice_index_or dist u (negsuc 0) ≤ℤ slice_index_or dist v (negsuc 0))

-- a distance of a node that was reached
abbrev pub is_reached : ℤ → Bool
is_reached (pos n) = true
is_reached (negsuc n) = false

-- the list of ready nodes is kept from the end of the room's list on
abbrev pub ready_at : List NodeId → ℕ → ℕ
ready_at nodes j = node_at nodes (length nodes - (j + 1))

-- the node is one of so many ready ones
abbrev pub IsAmongReady : List NodeId → ℕ → ℕ → Type 0
IsAmongReady nodes count v = (j : ℕ) × (j < count) × (ready_at nodes j ≡ v)

-- so many nodes are ready: they were reached and are no further than this
pub record AreReady (dist : List ℤ) (nodes : List NodeId) (count : ℕ) (at : ℤ) : Type 0 where
  pub counted : count ≤ length nodes
  pub within : (j : ℕ) → j < count → ready_at nodes j < length dist
  pub near : (j : ℕ) → j < count → IsReachedWithin at (slice_index_or dist (ready_at nodes j) (negsuc 0))

-- the two lists: a heap from the front on, and the ready nodes from the end on. No node was added but when it was reached first
pub record AreKept (dist : List ℤ) (nodes : List NodeId) (places : List ℕ) (w : Waiting) (at : ℤ) : Type 0 where
  pub sized : length nodes ≡ length dist
  pub sized_places : length places ≡ length dist
  pub queue : IsQueue dist nodes places w.heaped
  pub reached : (i : ℕ) → i < w.heaped → pos 0 ≤ℤ key_at dist nodes i
  pub ready : AreReady dist nodes w.ready at
  pub added : w.heaped + w.ready ≤ count_by is_reached dist

-- the node is in one of the lists
abbrev pub IsListed : List NodeId → Waiting → ℕ → Type 0
IsListed nodes w v = IsAmong nodes w.heaped v ⊎ IsAmongReady nodes w.ready v

-- each node that waits is in one of the lists
pub record AreListed (set : List Bool) (dist : List ℤ) (nodes : List NodeId) (places : List ℕ) (w : Waiting) (at : ℤ) : Type 0 where
  pub kept : AreKept dist nodes places w at
  pub all : (v : ℕ) → IsWaiting set dist v → IsListed nodes w v

-- no node that waits is nearer than the ready ones
pub record HasListed (set : List Bool) (dist : List ℤ) (nodes : List NodeId) (places : List ℕ) (w : Waiting) : Type 0 where
  pub at : ℤ
  pub listed : AreListed set dist nodes places w at
  pub far : (v : ℕ) → IsWaiting set dist v → at ≤ℤ slice_index_or dist v (negsuc 0)

-- the same, in a room
abbrev pub ListsOf : Room → Waiting → ℤ → Type 0
ListsOf room w at = AreListed room.set.items room.dist.items room.heap.items room.place.items w at

abbrev pub HasLists : Room → Waiting → Type 0
HasLists room w = HasListed room.set.items room.dist.items room.heap.items room.place.items w

-- how far the potential of a node is raised where a path is found at a distance
abbrev pub IsGain : ℤ → ℤ → ℤ → Type 0
IsGain d top gain = ((gain ≡ top) × ((d <ℤ pos 0) ⊎ (top <ℤ d))) ⊎ ((gain ≡ d) × (pos 0 ≤ℤ d) × (d ≤ℤ top))
