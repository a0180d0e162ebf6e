-- When potentials show that numbers on the arcs are right.
use Rattle.std.specs.Prelude.{◌≡◌, ℕ, List, ℤ, pos, ◌-ℤ◌, ◌≤ℤ◌, Some, length, slice_get, slice_index_or, All}
use Rattle.flow_cost.specs.Condition.{MeetsCondition}
use Rattle.flow_cost.specs.Cost.{IsWithin}
use Rattle.flow_graph.specs.declared.arcs.Arc.{Arc}
use Rattle.flow_graph.specs.Circulation.{IsCirculation, total_cost}

-- the potential of the node that the arc enters, less that of the node that it leaves
abbrev pub rise : List ℤ → Arc → ℤ
rise potentials arc = slice_index_or potentials arc.head (pos 0) -ℤ slice_index_or potentials arc.tail (pos 0)

-- the arc at a place, with its cost and its number
pub record Carries {C : Type 0} (arcs : List Arc) (costs : List C) (xs : List ℤ) (a : ℕ) (arc : Arc) (c : C) (x : ℤ) : Type 0 where
  pub arc_is : slice_get arcs a ≡ Some arc
  pub cost_is : slice_get costs a ≡ Some c
  pub number_is : slice_get xs a ≡ Some x

module _ {C : Type 0} (value : C → ℤ → ℤ) where
  -- the condition at a step holds on every arc
  abbrev pub AllMeet : ℤ → List Arc → List C → List ℤ → List ℤ → Type 0
  AllMeet step arcs costs xs potentials =
      (a : ℕ) (arc : Arc) (c : C) (x : ℤ) → Carries arcs costs xs a arc c x →
      MeetsCondition (value c) arc.lo arc.hi step x (rise potentials arc)

  -- a circulation, and potentials that meet the condition at step 1
  pub record ShowsLeast (nodes : ℕ) (arcs : List Arc) (costs : List C) (xs potentials : List ℤ) : Type 0 where
    pub circulation : IsCirculation nodes arcs xs
    pub condition : AllMeet (pos 1) arcs costs xs potentials

  -- a circulation that costs at most as much as every other
  pub record IsLeastCirculation (nodes : ℕ) (arcs : List Arc) (costs : List C) (xs : List ℤ) : Type 0 where
    pub circulation : IsCirculation nodes arcs xs
    pub least : (ys : List ℤ) → IsCirculation nodes arcs ys → total_cost value costs xs ≤ℤ total_cost value costs ys

module _ {C : Type 0} (span : C → ℤ) where
  -- one cost for each arc, whose span holds the arc's bounds
  pub record FitSpans (arcs : List Arc) (costs : List C) : Type 0 where
    pub counted : length costs ≡ length arcs
    pub within : (a : ℕ) (arc : Arc) (c : C) → slice_get arcs a ≡ Some arc → slice_get costs a ≡ Some c →
        IsWithin (span c) arc.lo × IsWithin (span c) arc.hi

-- one potential for each node, none further than this from 0
pub record ArePotentials (limit : ℤ) (nodes : ℕ) (potentials : List ℤ) : Type 0 where
  pub counted : length potentials ≡ nodes
  pub within : All (IsWithin limit) potentials
