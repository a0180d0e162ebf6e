-- A way of tight moves that is followed back from its end.
use Rattle.std.specs.Prelude.{◌≡◌, ℕ, Bool, List, ℤ, pos, Option, Some, slice_get}
use Rattle.flow_graph.specs.declared.arcs.ArcId.{ArcId}
use Rattle.flow_residual.specs.Flows.{Flow}
use Rattle.flow_residual.specs.Edges.{length_of, IsEdge}

module _ {N A C : Type 0} (value : C → ℤ → ℤ) (step : ℤ) (s : Flow N A C) where
  -- one of the arc's moves leads from one node to the other, and is open and tight
  pub record HasTightMove (a from to : ℕ) : Type 0 where
    pub up : Bool
    pub price : ℤ
    pub edge : IsEdge value step s (record { arc = a; up = up }) from to price
    pub tight : length_of s from to price ≡ pos 0

  -- the same, for the arc by which the node was reached
  pub record IsEnteredFrom (by : List (Option ArcId)) (from to : ℕ) : Type 0 where
    pub arc : ℕ
    pub by_is : slice_get by to ≡ Some (Some (record { 0 = arc }))
    pub move : HasTightMove arc from to
