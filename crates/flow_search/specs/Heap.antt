-- A binary heap in a list of nodes, by their distances: the first node is a nearest one.
use Rattle.std.specs.Prelude.{◌≡◌, ◌≢◌, ℕ, ◌-◌, ◌/◌, ◌<◌, ◌≤◌, List, ℤ, negsuc, ◌≤ℤ◌, length, slice_index_or}
use Rattle.flow_graph.specs.declared.arcs.NodeId.{NodeId}
use Rattle.flow_residual.specs.Gaps.{node_at}

-- the place above a place
abbrev pub parent : ℕ → ℕ
parent i = (i - 1) / 2

-- the distance of the node at a place
abbrev pub key_at : List ℤ → List NodeId → ℕ → ℤ
key_at dist nodes i = slice_index_or dist (node_at nodes i) (negsuc 0)

-- no key below n is less than its parent's
pub record IsHeap (key : ℕ → ℤ) (n : ℕ) : Type 0 where
  pub ascends : (i : ℕ) → 0 < i → i < n → key (parent i) ≤ℤ key i

-- so it is but at one place, and what is below that is no less than what is above it
pub record IsHeapButAt (key : ℕ → ℤ) (n at : ℕ) : Type 0 where
  pub ascends : (i : ℕ) → 0 < i → i < n → i ≢ at → key (parent i) ≤ℤ key i
  pub across : (i : ℕ) → 0 < i → i < n → parent i ≡ at → 0 < at → key (parent at) ≤ℤ key i

-- so it is but below one place, and what is below that is no less than what is above it
pub record IsHeapButBelow (key : ℕ → ℤ) (n at : ℕ) : Type 0 where
  pub ascends : (i : ℕ) → 0 < i → i < n → parent i ≢ at → key (parent i) ≤ℤ key i
  pub across : (i : ℕ) → 0 < i → i < n → parent i ≡ at → 0 < at → key (parent at) ≤ℤ key i

-- the place of each of the first n nodes is told
pub record ArePlaced (nodes : List NodeId) (places : List ℕ) (n : ℕ) : Type 0 where
  pub within : (i : ℕ) → i < n → node_at nodes i < length places
  pub told : (i : ℕ) → i < n → slice_index_or places (node_at nodes i) 0 ≡ i

-- the first n nodes are a heap, and their places are told
pub record IsQueue (dist : List ℤ) (nodes : List NodeId) (places : List ℕ) (n : ℕ) : Type 0 where
  pub placed : ArePlaced nodes places n
  pub heap : IsHeap (key_at dist nodes) n

-- the node is one of the first n
abbrev pub IsAmong : List NodeId → ℕ → ℕ → Type 0
IsAmong nodes n v = (i : ℕ) × (i < n) × (node_at nodes i ≡ v)

-- the first n nodes are in another order, and the others as they were
pub record IsReordered (old new : List NodeId) (n : ℕ) : Type 0 where
  pub kept : (v : ℕ) → IsAmong old n v → IsAmong new n v
  pub no_more : (v : ℕ) → IsAmong new n v → IsAmong old n v
  pub beyond : (i : ℕ) → n ≤ i → node_at new i ≡ node_at old i

-- the same, and places that were told still are
pub record Sifts (old : List NodeId) (old_places : List ℕ) (new : List NodeId) (new_places : List ℕ) (n : ℕ) : Type 0 where
  pub reordered : IsReordered old new n
  pub placed : ArePlaced old old_places n → ArePlaced new new_places n
