-- Moves along the arcs, and paths of them.
use Rattle.std.specs.Prelude.{◌≡◌, ◌≢◌, ℕ, Bool, if◌then◌else◌, List, [], ◌∷◌, ℤ, pos, neg_ℤ, ◌+ℤ◌, ◌-ℤ◌, ◌≤ℤ◌, All, AllPairs, slice_get, slice_set, slice_index_or, Some}
use Rattle.flow_cost.specs.Condition.{slope_up, slope_down}
use Rattle.flow_graph.specs.declared.arcs.Arc.{Arc}
use Rattle.flow_graph.specs.Condition.{rise}
use Rattle.flow_residual.specs.Flows.{Flow, HasArc, excess_of}

-- up an arc, from its tail to its head, or down it
pub record Move : Type 0 where
  pub arc : ℕ
  pub up : Bool

module _ {N A C : Type 0} (s : Flow N A C) where
  -- the node that the move leaves, and the node that it enters
  pub record Joins (m : Move) (from to : ℕ) : Type 0 where
    pub arc : Arc
    pub arc_is : slice_get s.graph.arcs m.arc ≡ Some arc
    pub from_is : from ≡ (if m.up then arc.tail else arc.head)
    pub to_is : to ≡ (if m.up then arc.head else arc.tail)

  -- the moves join up from one node to the other, by way of these nodes, the last one included
  abbrev pub Leads : List Move → List ℕ → ℕ → ℕ → Type 0
  Leads [] [] from to = from ≡ to
  Leads (m ∷ ms) (n ∷ ns) from to = Joins m from n × Leads ms ns n to
  Leads ms ns from to = ⊥

  -- there is room for the move at a step
  abbrev pub IsOpen : ℤ → Move → Type 0
  IsOpen step m = (arc : Arc) (c : C) (x : ℤ) → HasArc s m.arc arc c x →
      (if m.up then x +ℤ step else arc.lo) ≤ℤ (if m.up then arc.hi else x -ℤ step)

  -- the arc's rounded slope, in the move's direction, equals its rise
  abbrev pub IsTight : (C → ℤ → ℤ) → ℤ → Move → Type 0
  IsTight value step m = (arc : Arc) (c : C) (x : ℤ) → HasArc s m.arc arc c x →
      (if m.up then slope_up (value c) step x else slope_down (value c) step x) ≡ rise s.potentials arc

  -- a residual path of a step: open moves that join up and meet no node twice
  pub record IsPath (step : ℤ) (from to : ℕ) (ms : List Move) : Type 0 where
    pub by_way_of : List ℕ
    pub leads : Leads ms by_way_of from to
    pub once : AllPairs ◌≢◌ (from ∷ by_way_of)
    pub moves_open : All (IsOpen step) ms

  -- some residual path of the step leads there
  abbrev pub Reaches : ℤ → ℕ → ℕ → Type 0
  Reaches step from to = (ms : List Move) × IsPath step from to ms

  -- the node lacks at least the step
  abbrev pub IsSink : ℤ → ℕ → Type 0
  IsSink step node = step ≤ℤ neg_ℤ (excess_of s node)

-- the flows after a step along each move
abbrev pub after_moves : ℤ → List Move → List ℤ → List ℤ
after_moves step [] flows = flows
after_moves step (m ∷ ms) flows =
    let rest = after_moves step ms flows in
    slice_set rest m.arc (slice_index_or rest m.arc (pos 0) +ℤ (if m.up then step else neg_ℤ step))
