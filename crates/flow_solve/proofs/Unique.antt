-- Where a number settles is one place.
use Rattle.std.proofs.Common.{◌≡◌, ℕ, suc, ◌≤◌, Bool, List, length, get_or, ◌⊎◌, inl, inr, refl, ap, sym, subst, ◌∙◌, arith, ℤ, pos, negsuc, ◌+ℤ◌, ◌-ℤ◌, neg_ℤ, ◌≤ℤ◌}
use Rattle.std.specs.Prelude.{unsigned_abs}
use Rattle.std.proofs.lemmas.Int.{ints, by_lt_z}
use Rattle.std.proofs.lemmas.List.{ext_get_or}
use Rattle.std.proofs.lemmas.Option.{slice_get-get_or}
use Rattle.flow_cost.specs.Cost.{IsWithin, IsLawful}
use Rattle.flow_cost.specs.Settle.{IsSettled, IsPlace, IsNearestSettled}
use Rattle.flow_cost.proofs.Convex.{≤ℤ_trans, between, chord_mono}
use Rattle.flow_graph.specs.Condition.{rise}
use Rattle.flow_graph.proofs.Bounded.{flow_at}
use Rattle.flow_residual.specs.Flows.{Flow, IsFlowOf, SettlesTo}
use Rattle.flow_residual.proofs.Kept.{read_at}

abs_same : (d e : ℤ) → unsigned_abs d ≡ unsigned_abs e → (d ≡ e) ⊎ (d ≡ neg_ℤ e)
abs_same (pos a) (pos b) h = inl (ap pos h)
abs_same (pos a) (negsuc b) h = inr (ap pos h)
abs_same (negsuc a) (pos b) h = inr (subst (λ z. negsuc a ≡ neg_ℤ (pos z)) h refl)
abs_same (negsuc a) (negsuc b) h = inl (omega (arith, ints, h))

abs_zero : (d : ℤ) → unsigned_abs d ≤ 0 → d ≡ pos 0
abs_zero (pos a) h = omega (arith, ints, h)
abs_zero (negsuc a) h = absurd (omega (arith, h))

steps_up : (a b : ℤ) → a ≤ℤ b → (m : ℕ) × (b ≡ a +ℤ pos m)
steps_up a b l = found (b -ℤ a) refl
  where
    found : (d : ℤ) → b -ℤ a ≡ d → (m : ℕ) × (b ≡ a +ℤ pos m)
    found (pos m) e = (m, omega (arith, ints, e))
    found (negsuc m) e = absurd (omega (arith, ints, e, l))

module _ (value : ℤ → ℤ) (span : ℤ) (law : IsLawful value span) (lo hi x p : ℤ) (n : ℕ) (low : lo ≤ℤ x) (high : x ≤ℤ hi) (wl : IsWithin span lo) (wh : IsWithin span hi) where
  -- between two places where it is settled a number is settled
  settled_between : (y z : ℤ) → lo ≤ℤ y → z ≤ℤ hi → y ≤ℤ x → x ≤ℤ z → IsSettled value lo hi (pos (suc n)) p y → IsSettled value lo hi (pos (suc n)) p z → IsSettled value lo hi (pos (suc n)) p x
  settled_between y z ly zh yx xz sy sz = record {
    up = λ room.
        let m = steps_up y x yx in
        ≤ℤ_trans _ _ _ (sy.up (omega (arith, ints, room, yx)))
        (chord_mono value span law (suc n) m.0 y x (y +ℤ pos (suc n)) (x +ℤ pos (suc n)) m.1 refl refl (between span lo hi y wl wh ly (omega (arith, ints, yx, high)))
        (between span lo hi (x +ℤ pos (suc n)) wl wh (omega (arith, ints, low)) room));
    down = λ room.
        let m = steps_up x z xz in
        ≤ℤ_trans _ _ _ (chord_mono value span law (suc n) m.0 (x -ℤ pos (suc n)) (z -ℤ pos (suc n)) x z (let e = m.1 in omega (arith, ints, e)) (omega (arith, ints)) (omega (arith, ints))
        (between span lo hi (x -ℤ pos (suc n)) wl wh room (omega (arith, ints, high))) (between span lo hi z wl wh (omega (arith, ints, low, xz)) zh))
        (sz.down (omega (arith, ints, room, xz)));
  }

  here : IsPlace x lo hi (pos (suc n)) x
  here = record { by_steps = (pos 0, omega (arith, ints)); above = low; below = high }

  no_way : unsigned_abs (x -ℤ x) ≡ 0
  no_way = let e : x -ℤ x ≡ pos 0 = omega (arith, ints) in ap unsigned_abs e

  both_here : (y z : ℤ) → IsNearestSettled value x lo hi (pos (suc n)) p y → y -ℤ x ≡ neg_ℤ (z -ℤ x) → IsSettled value lo hi (pos (suc n)) p x → y ≡ z
  both_here y z sy e s =
      let d = sy.nearest x here s in
      let h = abs_zero (y -ℤ x) (omega (arith, d, no_way)) in
      omega (arith, ints, e, h)

  pub nearest_alone : (y z : ℤ) → IsNearestSettled value x lo hi (pos (suc n)) p y → IsNearestSettled value x lo hi (pos (suc n)) p z → y ≡ z
  nearest_alone y z sy sz =
      let a = sy.nearest z sz.place sz.settled in
      let b = sz.nearest y sy.place sy.settled in
      elim (abs_same (y -ℤ x) (z -ℤ x) (omega (arith, a, b))) [
        | inl e ↦ omega (arith, ints, e)
        | inr e ↦ by_lt_z x y
            (λ l. both_here y z sy e (settled_between z y sz.place.above sy.place.below (omega (arith, ints, e, l)) (omega (arith, ints, l)) sz.settled sy.settled))
            (λ l. both_here y z sy e (settled_between y z sy.place.above sz.place.below l (omega (arith, ints, e, l)) sy.settled sz.settled))
      ]

pub settles_alone : {N A C : Type 0} (node_eq : N → N → Bool) (arc_eq : A → A → Bool) (value : C → ℤ → ℤ) (span : C → ℤ) (s : Flow N A C) (xs ys : List ℤ) → ((c : C) → IsLawful (value c) (span c)) → IsFlowOf node_eq arc_eq span s →
    SettlesTo value (pos 1) s xs → SettlesTo value (pos 1) s ys → xs ≡ ys
settles_alone node_eq arc_eq value span s xs ys law kept hx hy = ext_get_or (pos 0) xs ys (hx.counted ∙ sym hy.counted) (λ i l.
    let x = read_at s.flows i (length xs) (sym hx.counted) l in
    let arc = read_at s.graph.arcs i (length xs) (sym (hx.counted ∙ kept.counted)) l in
    let c = read_at s.costs i (length xs) (kept.spans.counted ∙ sym (hx.counted ∙ kept.counted)) l in
    let f = flow_at s.graph.arcs s.flows i arc.0 x.0 kept.bounded arc.1 x.1 in
    let w = kept.spans.within i arc.0 c.0 arc.1 c.1 in
    nearest_alone (value c.0) (span c.0) (law c.0) arc.0.lo arc.0.hi x.0 (rise s.potentials arc.0) 0 f.low f.high w.0 w.1 (get_or xs i (pos 0)) (get_or ys i (pos 0))
    (hx.each i arc.0 c.0 x.0 (get_or xs i (pos 0)) (record { arc_is = arc.1; cost_is = c.1; number_is = x.1 }) (slice_get-get_or xs i (pos 0) l))
    (hy.each i arc.0 c.0 x.0 (get_or ys i (pos 0)) (record { arc_is = arc.1; cost_is = c.1; number_is = x.1 }) (slice_get-get_or ys i (pos 0) (omega (arith, l, hx.counted, hy.counted)))))
