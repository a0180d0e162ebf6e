-- A set of nodes whose bounds contradict each other.
use Rattle.std.specs.Prelude.{ℕ, Bool, false, not, ◌&&◌, if◌then◌else◌, List, [], ◌∷◌, ℤ, pos, ◌+ℤ◌, ◌<ℤ◌, slice_index_or}
use Rattle.flow_graph.specs.declared.arcs.Arc.{Arc}

-- whether a place is marked
abbrev pub in_set : List Bool → ℕ → Bool
in_set set node = slice_index_or set node false

-- the lower bounds of the arcs that enter the set from outside
abbrev pub entering_low : List Bool → List Arc → ℤ
entering_low set [] = pos 0
entering_low set (arc ∷ arcs) =
    (if in_set set arc.head && not (in_set set arc.tail) then arc.lo else pos 0) +ℤ entering_low set arcs

-- the upper bounds of the arcs that leave the set
abbrev pub leaving_high : List Bool → List Arc → ℤ
leaving_high set [] = pos 0
leaving_high set (arc ∷ arcs) =
    (if in_set set arc.tail && not (in_set set arc.head) then arc.hi else pos 0) +ℤ leaving_high set arcs

-- more has to enter the set than can leave it: a circulation exists exactly where no set is such (Hoffman 1960)
pub record Contradicts (arcs : List Arc) (set : List Bool) : Type 0 where
  pub gap : leaving_high set arcs <ℤ entering_low set arcs
