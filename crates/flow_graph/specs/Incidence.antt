-- The list of arcs at each node, linked through the arcs: each node has the last arc that touches it, and each arc has,
-- for either end, the last arc before it that touches this end.
use Rattle.std.specs.Prelude.{◌≡◌, ℕ, zero, suc, ◌<◌, Bool, false, true, ◌||◌, ◌==◌, if◌then◌else◌, List, [], ◌∷◌, length, Option, Some, None, slice_get}
use Rattle.std.specs.Option.{ForSome, option_map_or}
use Rattle.flow_graph.specs.declared.arcs.Arc.{Arc}
use Rattle.flow_graph.specs.declared.arcs.ArcId.{ArcId}
use Rattle.flow_graph.specs.declared.arcs.Links.{Links}
use Rattle.flow_graph.specs.Network.{Network, IsNetwork}

-- whether the arc at a place leaves or enters the node
abbrev pub touches_at : ℕ → List Arc → ℕ → Bool
touches_at node arcs k = option_map_or (λ arc. arc.tail == node || arc.head == node) (slice_get arcs k) false

-- the last of the first k arcs that touches the node
abbrev pub last_touching : ℕ → List Arc → ℕ → Option ArcId
last_touching node arcs zero = None
last_touching node arcs (suc k) = if touches_at node arcs k then Some (record { 0 = k }) else last_touching node arcs k

-- those of the first k arcs that touch the node, the last one first
abbrev pub touching_below : ℕ → List Arc → ℕ → List ArcId
touching_below node arcs zero = []
touching_below node arcs (suc k) =
    if touches_at node arcs k then record { 0 = k } ∷ touching_below node arcs k else touching_below node arcs k

-- how many arcs there are up to this one, and with it
abbrev pub count_to : Option ArcId → ℕ
count_to None = 0
count_to (Some a) = suc a.0

-- each arc's links
pub record AreLinked (arcs : List Arc) (links : List Links) : Type 0 where
  pub counted : length links ≡ length arcs
  pub each : (a : ℕ) (arc : Arc) (link : Links) → slice_get arcs a ≡ Some arc → slice_get links a ≡ Some link →
      (link.tail ≡ last_touching arc.tail arcs a) × (link.head ≡ last_touching arc.head arcs a)

-- each node's first link
pub record AreStarts (nodes : ℕ) (arcs : List Arc) (starts : List (Option ArcId)) : Type 0 where
  pub counted : length starts ≡ nodes
  pub each : (node : ℕ) → node < nodes → slice_get starts node ≡ Some (last_touching node arcs (length arcs))

-- the next arc of a node's list
pub record AreAt (arcs : List Arc) (links : List Links) (node : ℕ) (next : Option ArcId) : Type 0 where
  pub linked : AreLinked arcs links
  pub touches : ForSome next (λ a. touches_at node arcs a.0 ≡ true)

-- what every graph keeps: it is a network, and the lists at its nodes are right
pub record IsStored {N A : Type 0} (node_eq : N → N → Bool) (arc_eq : A → A → Bool) (g : Network N A) (starts : List (Option ArcId)) (links : List Links) : Type 0 where
  pub network : IsNetwork node_eq arc_eq g
  pub started : AreStarts (length g.nodes) g.arcs starts
  pub linked : AreLinked g.arcs links
