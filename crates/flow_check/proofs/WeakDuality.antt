-- Potentials bound the cost of every circulation.
use Rattle.std.proofs.Common.{ℕ, suc, List, [], ◌∷◌, All, ℤ, pos, ◌+ℤ◌, ◌-ℤ◌, ◌*ℤ◌, ◌≤ℤ◌, slice_index_or, refl, arith}
use Rattle.std.specs.List.{AllByRecursion, AllZip}
use Rattle.std.proofs.lemmas.Int.{ints}
use Rattle.std.proofs.lemmas.List.Elements.{recursion_from_All}
use Rattle.flow_cost.specs.Cost.{IsLawful}
use Rattle.flow_graph.specs.declared.arcs.Arc.{Arc}
use Rattle.flow_graph.specs.Circulation.{IsFlow, total_cost}
use Rattle.flow_graph.specs.Condition.{rise, AllMeet, ShowsLeast, IsLeastCirculation, FitSpans}
use Rattle.flow_graph.specs.Network.{IsArcAmong}
use Rattle.flow_cost.proofs.Line.{best_on_line}
use Rattle.flow_check.proofs.Sums.{carried, carried-circulation}

-- the potential of a node
abbrev at_node : List ℤ → ℕ → ℤ
at_node potentials k = slice_index_or potentials k (pos 0)

add_up : (p q r s t u v w : ℤ) → (p -ℤ q) ≤ℤ (r -ℤ s) → (t -ℤ u) ≤ℤ (v -ℤ w) → ((p +ℤ t) -ℤ (q +ℤ u)) ≤ℤ ((r +ℤ v) -ℤ (s +ℤ w))
add_up p q r s t u v w h k = omega (arith, ints)

module _ {C : Type 0} (value : C → ℤ → ℤ) (span : C → ℤ) (law : (c : C) → IsLawful (value c) (span c)) (potentials : List ℤ) where
  -- other numbers cost at least as much more as they carry more
  costs_more : (arcs : List Arc) (costs : List C) (xs ys : List ℤ) → FitSpans span arcs costs →
      AllMeet value (pos 1) arcs costs xs potentials → AllZip IsFlow arcs xs → AllZip IsFlow arcs ys →
      (carried (at_node potentials) arcs ys -ℤ carried (at_node potentials) arcs xs) ≤ℤ (total_cost value costs ys -ℤ total_cost value costs xs)
  costs_more [] [] [] [] fits meets fx fy = omega (arith, ints)
  costs_more [] (c ∷ cs) [] [] fits meets fx fy = omega (arith, ints)
  costs_more [] [] [] (y ∷ ys) fits meets fx fy = elim fy [ ]
  costs_more [] [] (x ∷ xs) ys fits meets fx fy = elim fx [ ]
  costs_more [] (c ∷ cs) [] (y ∷ ys) fits meets fx fy = elim fy [ ]
  costs_more [] (c ∷ cs) (x ∷ xs) ys fits meets fx fy = elim fx [ ]
  costs_more (arc ∷ arcs) (c ∷ cs) [] ys fits meets fx fy = elim fx [ ]
  costs_more (arc ∷ arcs) (c ∷ cs) (x ∷ xs) [] fits meets fx fy = elim fy [ ]
  costs_more (arc ∷ arcs) [] xs ys fits meets fx fy = absurd (omega (arith, fits.counted))
  costs_more (arc ∷ arcs) (c ∷ cs) (x ∷ xs) (y ∷ ys) fits meets fx fy =
      let w = fits.within 0 arc c refl refl in
      add_up (rise potentials arc *ℤ y) (rise potentials arc *ℤ x) (value c y) (value c x) _ _ _ _
      (best_on_line (value c) (span c) arc.lo arc.hi x y (rise potentials arc) (law c) w.0 w.1 fx.0.low fx.0.high fy.0.low fy.0.high
      (meets 0 arc c x (record { arc_is = refl; cost_is = refl; number_is = refl })))
      (costs_more arcs cs xs ys
      (record { counted = omega (arith, fits.counted); within = λ a b d e f. fits.within (suc a) b d e f })
      (λ a b d z k. meets (suc a) b d z (record { arc_is = k.arc_is; cost_is = k.cost_is; number_is = k.number_is }))
      fx.1 fy.1)

  pub least_circulation : (nodes : ℕ) (arcs : List Arc) (costs : List C) (xs : List ℤ) → All (IsArcAmong nodes) arcs →
      FitSpans span arcs costs → ShowsLeast value nodes arcs costs xs potentials → IsLeastCirculation value nodes arcs costs xs
  least_circulation nodes arcs costs xs ends fits shows =
      let r : AllByRecursion (IsArcAmong nodes) arcs = recursion_from_All (IsArcAmong nodes) arcs ends in
      record {
        circulation = shows.circulation;
        least = λ ys k.
            let more = costs_more arcs costs xs ys fits shows.condition shows.circulation.bounded k.bounded in
            let zx = carried-circulation (at_node potentials) nodes arcs xs r shows.circulation.balanced in
            let zy = carried-circulation (at_node potentials) nodes arcs ys r k.balanced in
            omega (arith, ints, more, zx, zy);
      }
