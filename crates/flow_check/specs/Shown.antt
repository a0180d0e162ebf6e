-- What the check of one arc finds.
use Rattle.std.specs.Prelude.{ℕ, List, ℤ, pos, ◌≤ℤ◌}
use Rattle.flow_cost.specs.Condition.{MeetsCondition}
use Rattle.flow_graph.specs.declared.arcs.Arc.{Arc}
use Rattle.flow_graph.specs.Condition.{rise, Carries}

-- the number lies within the bounds and meets the condition at step 1
pub record IsShown (value : ℤ → ℤ) (lo hi x rise : ℤ) : Type 0 where
  pub low : lo ≤ℤ x
  pub high : x ≤ℤ hi
  pub condition : MeetsCondition value lo hi (pos 1) x rise

-- the number of the arc at a place does, under the arc's cost and rise
abbrev pub IsArcShown : {C : Type 0} → (C → ℤ → ℤ) → List Arc → List C → List ℤ → List ℤ → ℕ → Type 0
IsArcShown {C} value arcs costs xs potentials a =
    (arc : Arc) (c : C) (x : ℤ) → Carries arcs costs xs a arc c x → IsShown (value c) arc.lo arc.hi x (rise potentials arc)
