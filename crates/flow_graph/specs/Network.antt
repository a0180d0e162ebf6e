-- A graph as lists: the names of its nodes, the names of its arcs, and each arc's ends and bounds.
use Rattle.std.specs.Prelude.{◌≡◌, ℕ, ◌+◌, ◌^◌, ◌<◌, ◌≤◌, Bool, ◌||◌, ◌==◌, if◌then◌else◌, List, [], ◌∷◌, ℤ, pos, neg_ℤ, ◌≤ℤ◌, length, All}
use Rattle.std.specs.List.{IsDistinct}
use Rattle.flow_graph.specs.declared.arcs.Arc.{Arc}
use Rattle.flow_graph.specs.declared.arcs.ArcId.{ArcId}

-- what a contract sees of a graph
pub record Network (N A : Type 0) : Type 0 where
  pub nodes : List N
  pub names : List A
  pub arcs : List Arc

-- bounds in order, at most 2^60 away from 0
pub record AreBounds (lo hi : ℤ) : Type 0 where
  pub low : neg_ℤ (pos (2 ^ 60)) ≤ℤ lo
  pub ordered : lo ≤ℤ hi
  pub high : hi ≤ℤ pos (2 ^ 60)

-- an arc between two of this many nodes
pub record IsArcAmong (nodes : ℕ) (arc : Arc) : Type 0 where
  pub tail : arc.tail < nodes
  pub head : arc.head < nodes
  pub bounds : AreBounds arc.lo arc.hi

-- what every graph keeps: no two nodes and no two arcs have the same name
pub record IsNetwork {N A : Type 0} (node_eq : N → N → Bool) (arc_eq : A → A → Bool) (g : Network N A) : Type 0 where
  pub node_limit : length g.nodes ≤ 262_144
  pub arc_limit : length g.arcs ≤ 524_288
  pub named : length g.names ≡ length g.arcs
  pub nodes_apart : IsDistinct node_eq g.nodes
  pub names_apart : IsDistinct arc_eq g.names
  pub arcs_fit : All (IsArcAmong (length g.nodes)) g.arcs

-- the arcs that leave or enter a node, each once, where the first of the list has the place `first`
abbrev pub arcs_touching : ℕ → ℕ → List Arc → List ArcId
arcs_touching node first [] = []
arcs_touching node first (arc ∷ arcs) =
    if arc.tail == node || arc.head == node
    then record { 0 = first } ∷ arcs_touching node (first + 1) arcs
    else arcs_touching node (first + 1) arcs
