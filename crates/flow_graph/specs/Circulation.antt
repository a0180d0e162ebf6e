-- Circulations of a graph (Hoffman 1960), and what they cost. Only the ends and the bounds of the arcs matter.
use Rattle.std.specs.Prelude.{◌≡◌, ℕ, ◌<◌, ◌==◌, if◌then◌else◌, List, ◌∷◌, ℤ, pos, ◌+ℤ◌, ◌-ℤ◌, ◌≤ℤ◌}
use Rattle.std.specs.List.{AllZip}
use Rattle.flow_graph.specs.declared.arcs.Arc.{Arc}

-- what the arcs that enter the node carry
abbrev pub inflow : List Arc → List ℤ → ℕ → ℤ
inflow (arc ∷ arcs) (x ∷ xs) node = (if arc.head == node then x else pos 0) +ℤ inflow arcs xs node
inflow arcs xs node = pos 0

-- what the arcs that leave the node carry
abbrev pub outflow : List Arc → List ℤ → ℕ → ℤ
outflow (arc ∷ arcs) (x ∷ xs) node = (if arc.tail == node then x else pos 0) +ℤ outflow arcs xs node
outflow arcs xs node = pos 0

-- inflow less outflow
abbrev pub excess : List Arc → List ℤ → ℕ → ℤ
excess arcs xs node = inflow arcs xs node -ℤ outflow arcs xs node

-- within the arc's bounds
pub record IsFlow (arc : Arc) (x : ℤ) : Type 0 where
  pub low : arc.lo ≤ℤ x
  pub high : x ≤ℤ arc.hi

-- one number per arc, each within its arc's bounds, and no excess at any node
pub record IsCirculation (nodes : ℕ) (arcs : List Arc) (xs : List ℤ) : Type 0 where
  pub bounded : AllZip IsFlow arcs xs
  pub balanced : (node : ℕ) → node < nodes → excess arcs xs node ≡ pos 0

-- the sum of what each arc's number costs under its cost
abbrev pub total_cost : {C : Type 0} → (C → ℤ → ℤ) → List C → List ℤ → ℤ
total_cost value (c ∷ cs) (x ∷ xs) = value c x +ℤ total_cost value cs xs
total_cost value cs xs = pos 0
