-- Flows that settled settle where they are, so what is promised from there is promised from before they settled.
use Rattle.std.proofs.Common.{◌≡◌, ℕ, ◌≤◌, List, refl, sym, subst, arith, ℤ, pos, ◌-ℤ◌, ◌≤ℤ◌}
use Rattle.std.specs.Prelude.{unsigned_abs}
use Rattle.std.proofs.lemmas.Int.{ints}
use Rattle.flow_cost.specs.Settle.{IsNearestSettled}
use Rattle.flow_graph.specs.Condition.{rise}
use Rattle.flow_graph.proofs.Lookups.{read_once}
use Rattle.flow_residual.specs.Flows.{Flow, SettlesTo}
use Rattle.flow_residual.proofs.Kept.{same_length_read}
use Rattle.flow_solve.specs.Bounds.{FewTicks, NearSettled, surplus}

no_way : (y : ℤ) (n : ℕ) → unsigned_abs (y -ℤ y) ≤ n
no_way y n = let e : y -ℤ y ≡ pos 0 = omega (arith, ints) in rw e (omega arith)

-- a number settles where it settled
place_again : (value : ℤ → ℤ) (x lo hi p y : ℤ) → IsNearestSettled value x lo hi (pos 1) p y → IsNearestSettled value y lo hi (pos 1) p y
place_again value x lo hi p y h = record {
  place = record { by_steps = (pos 0, omega (arith, ints)); above = h.place.above; below = h.place.below };
  settled = h.settled;
  nearest = λ z place settled. no_way y (unsigned_abs (z -ℤ y));
}

module _ {N A C : Type 0} (value : C → ℤ → ℤ) (old : Flow N A C) where
  settled_again : (settled : List ℤ) → SettlesTo value (pos 1) old settled → SettlesTo value (pos 1) (record old { flows = settled }) settled
  settled_again settled h = record {
    counted = refl;
    each = λ a arc c x y has got.
        let before = same_length_read old.flows settled a y (sym h.counted) got in
        let at = h.each a arc c before.0 y (record { arc_is = has.arc_is; cost_is = has.cost_is; number_is = before.1 }) got in
        subst (λ z. IsNearestSettled (value c) z arc.lo arc.hi (pos 1) (rise old.potentials arc) y) (sym (read_once settled a x y has.number_is got))
        (place_again (value c) before.0 arc.lo arc.hi (rise old.potentials arc) y at);
  }

  module _ (now : Flow N A C) (near : (settled : List ℤ) → SettlesTo value (pos 1) old settled → surplus old settled ≤ℤ pos 4_096 → now ≡ record old { flows = settled }) where
    pub few_again : (ticks : ℕ) → FewTicks value now ticks → FewTicks value old ticks
    few_again ticks few settled h little =
        let there : FewTicks value (record old { flows = settled }) ticks = subst (λ (z : Flow N A C). FewTicks value z ticks) (near settled h little) few in
        there settled (settled_again settled h) little

    pub near_again : (flows : List ℤ) → NearSettled value now flows → NearSettled value old flows
    near_again flows stays settled h little =
        let there : NearSettled value (record old { flows = settled }) flows = subst (λ (z : Flow N A C). NearSettled value z flows) (near settled h little) stays in
        there settled (settled_again settled h) little
