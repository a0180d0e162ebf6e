-- How far settling at a step moves a number that was right at the double step, and that it moves none that is right at
-- step 1.
use Rattle.std.proofs.Common.{◌≡◌, ℕ, suc, ◌+◌, ◌≤◌, ℤ, pos, negsuc, ◌+ℤ◌, ◌-ℤ◌, ◌*ℤ◌, neg_ℤ, ◌≤ℤ◌, ◌<ℤ◌, ◌⊎◌, inl, inr, refl, arith, ap, ◌∙◌}
use Rattle.std.specs.Prelude.{unsigned_abs}
use Rattle.std.proofs.Math.IntN.{*ℤ_comm}
use Rattle.std.proofs.lemmas.Int.{ints, by_lt_z}
use Rattle.flow_cost.specs.Cost.{IsWithin, IsLawful, slope}
use Rattle.flow_cost.specs.Condition.{MeetsCondition, slope_down}
use Rattle.flow_cost.specs.Settle.{IsSettled, IsNearestSettled}
use Rattle.flow_cost.specs.Integers.{mul-add, mul-sub}
use Rattle.flow_cost.proofs.Convex.{≤ℤ_trans, between, slope_mono}
use Rattle.flow_cost.proofs.Rounding.{floor_by_one, ceil_by_one, floor_at_least}
use Rattle.flow_cost.proofs.Halving.{last_unit}
use Rattle.flow_cost.proofs.Line.{best_on_line}

paid_up : (p s x a b : ℤ) → (p *ℤ (x +ℤ s) -ℤ p *ℤ x) ≤ℤ (b -ℤ a) → (s *ℤ p) ≤ℤ (b -ℤ a)
paid_up p s x a b h = let e = mul-add p x s in let f = *ℤ_comm s p in omega (arith, ints, e, f, h)

paid_down : (p s x a b : ℤ) → (p *ℤ (x -ℤ s) -ℤ p *ℤ x) ≤ℤ (b -ℤ a) → (a -ℤ b) ≤ℤ (s *ℤ p)
paid_down p s x a b h = let e = mul-sub p x s in let f = *ℤ_comm s p in omega (arith, ints, e, f, h)

module _ (value : ℤ → ℤ) (span : ℤ) (law : IsLawful value span) (lo hi p : ℤ) (wl : IsWithin span lo) (wh : IsWithin span hi) where
  -- what is right at step 1 is settled at each step
  pub settled_at_once : (x : ℤ) (n : ℕ) → lo ≤ℤ x → x ≤ℤ hi → MeetsCondition value lo hi (pos 1) x p → IsSettled value lo hi (pos (suc n)) p x
  settled_at_once x n lx xh meets = record {
    up = λ room. paid_up p (pos (suc n)) x (value x) (value (x +ℤ pos (suc n))) (best_on_line value span lo hi x (x +ℤ pos (suc n)) p law wl wh lx xh (omega (arith, ints, lx)) room meets);
    down = λ room. paid_down p (pos (suc n)) x (value x) (value (x -ℤ pos (suc n))) (best_on_line value span lo hi x (x -ℤ pos (suc n)) p law wl wh lx xh room (omega (arith, ints, xh)) meets);
  }

  -- from where a unit up costs at least p, a step up does
  step_up : (z : ℤ) (n : ℕ) → lo ≤ℤ z → (z +ℤ pos (suc n)) ≤ℤ hi → p ≤ℤ slope value z → (pos (suc n) *ℤ p) ≤ℤ (value (z +ℤ pos (suc n)) -ℤ value z)
  step_up z n lz room s =
      let wz = between span lo hi z wl wh lz (omega (arith, ints, room)) in
      paid_up p (pos (suc n)) z (value z) (value (z +ℤ pos (suc n))) (best_on_line value span z hi z (z +ℤ pos (suc n)) p law wz wh (omega (arith, ints)) (omega (arith, ints, room)) (omega (arith, ints)) room
      (record { up = λ l. rw (ceil_by_one (slope value z)) s; down = λ l. absurd (omega (arith, ints, l)) }))

  -- from where a unit down saves at most p, a step down does
  step_down : (z : ℤ) (n : ℕ) → z ≤ℤ hi → lo ≤ℤ (z -ℤ pos (suc n)) → (value z -ℤ value (z -ℤ pos 1)) ≤ℤ p → (value z -ℤ value (z -ℤ pos (suc n))) ≤ℤ (pos (suc n) *ℤ p)
  step_down z n zh room s =
      let wz = between span lo hi z wl wh (omega (arith, ints, room)) zh in
      paid_down p (pos (suc n)) z (value z) (value (z -ℤ pos (suc n))) (best_on_line value span lo z z (z -ℤ pos (suc n)) p law wl wz (omega (arith, ints, room)) (omega (arith, ints)) room (omega (arith, ints))
      (record { up = λ l. absurd (omega (arith, ints, l)); down = λ l. rw (floor_by_one (value z -ℤ value (z -ℤ pos 1))) s }))

  -- the first unit of a step down saves at most p, where the condition holds at the step
  first_unit : (m : ℕ) (x : ℤ) → lo ≤ℤ (x -ℤ pos (suc m)) → x ≤ℤ hi → slope_down value (pos (suc m)) x ≤ℤ p → slope value (x -ℤ pos (suc m)) ≤ℤ p
  first_unit m x room xh c =
      let y : ℤ = x -ℤ pos (suc m) in
      let q = slope value y in
      let wy = between span lo hi y wl wh room (omega (arith, ints, xh)) in
      let wx = between span lo hi x wl wh (omega (arith, ints, room)) xh in
      let back : y +ℤ pos (suc m) ≡ x = omega (arith, ints) in
      let all : (q *ℤ x -ℤ q *ℤ y) ≤ℤ (value x -ℤ value y) = best_on_line value span y x y x q law wy wx (omega (arith, ints)) (omega (arith, ints)) (omega (arith, ints)) (omega (arith, ints))
      (record { up = λ l. rw (ceil_by_one q) (omega (arith, ints)); down = λ l. absurd (omega (arith, ints, l)) }) in
      let product : (pos (suc m) *ℤ q) ≤ℤ (value x -ℤ value y) = paid_up q (pos (suc m)) y (value y) (value x) (rw back all) in
      ≤ℤ_trans _ _ _ (floor_at_least m (value x -ℤ value y) q product) c

  module _ (x y : ℤ) (n m : ℕ) (double : suc m ≡ suc n + suc n) (lx : lo ≤ℤ x) (xh : x ≤ℤ hi) (meets : MeetsCondition value lo hi (pos (suc m)) x p) (near : IsNearestSettled value x lo hi (pos (suc n)) p y) where
    abbrev step : ℤ
    step = pos (suc n)

    abbrev IsUp : ℤ → Type 0
    IsUp z = (z +ℤ step) ≤ℤ hi → (step *ℤ p) ≤ℤ (value (z +ℤ step) -ℤ value z)

    abbrev IsDown : ℤ → Type 0
    IsDown z = lo ≤ℤ (z -ℤ step) → (value z -ℤ value (z -ℤ step)) ≤ℤ (step *ℤ p)

    far_up : IsUp (x +ℤ pos (suc m))
    far_up room =
        let wx = between span lo hi x wl wh lx xh in
        let inside : (x +ℤ pos (suc m)) ≤ℤ hi = omega (arith, ints, room) in
        let wz = between span lo hi (x +ℤ pos (suc m)) wl wh (omega (arith, ints, lx)) inside in
        let last = last_unit value span law m x p wx wz (meets.up inside) in
        let wu = between span lo hi (x +ℤ pos m) wl wh (omega (arith, ints, lx)) (omega (arith, ints, inside)) in
        let wt = between span lo hi ((x +ℤ pos (suc m)) +ℤ pos 1) wl wh (omega (arith, ints, lx)) (omega (arith, ints, room)) in
        let rise = slope_mono value span law 1 (x +ℤ pos m) (x +ℤ pos (suc m)) (omega (arith, ints)) wu wt in
        step_up (x +ℤ pos (suc m)) n (omega (arith, ints, lx)) room (≤ℤ_trans _ _ _ last rise)

    far_down : IsDown (x -ℤ pos (suc m))
    far_down room =
        let z : ℤ = x -ℤ pos (suc m) in
        let inside : lo ≤ℤ z = omega (arith, ints, room) in
        let first = first_unit m x inside xh (meets.down inside) in
        let back : (z -ℤ pos 1) +ℤ pos 1 ≡ z = omega (arith, ints) in
        let wu = between span lo hi (z -ℤ pos 1) wl wh (omega (arith, ints, room)) (omega (arith, ints, xh)) in
        let wt = between span lo hi (z +ℤ pos 1) wl wh (omega (arith, ints, inside)) (omega (arith, ints, xh)) in
        let rise = rw back at (slope_mono value span law 1 (z -ℤ pos 1) z (omega (arith, ints)) wu wt) in
        step_down z n (omega (arith, ints, xh)) room (≤ℤ_trans _ _ _ rise first)

    by_distance : (z : ℤ) (d k : ℤ) → z ≡ x +ℤ d → d ≡ k *ℤ step → unsigned_abs d ≤ suc m → lo ≤ℤ z → z ≤ℤ hi → IsUp z → IsDown z → unsigned_abs (y -ℤ x) ≤ suc m
    by_distance z d k e f l lz zh u w =
        let h = near.nearest z (record { by_steps = (k, e ∙ ap (λ t. x +ℤ t) f); above = lz; below = zh }) (record { up = u; down = w }) in
        let g : unsigned_abs (z -ℤ x) ≡ unsigned_abs d = ap unsigned_abs (let i : z -ℤ x ≡ d = omega (arith, ints, e) in i) in
        omega (arith, h, g, l)

    decide_up : (z : ℤ) → IsUp z ⊎ (((z +ℤ step) ≤ℤ hi) × ((value (z +ℤ step) -ℤ value z) <ℤ (step *ℤ p)))
    decide_up z = by_lt_z (value (z +ℤ step) -ℤ value z) (step *ℤ p)
        (λ less. by_lt_z hi (z +ℤ step) (λ l. inl (λ r. absurd (omega (arith, ints, l, r)))) (λ l. inr (l, less)))
        (λ more. inl (λ r. more))

    decide_down : (z : ℤ) → IsDown z ⊎ ((lo ≤ℤ (z -ℤ step)) × ((step *ℤ p) <ℤ (value z -ℤ value (z -ℤ step))))
    decide_down z = by_lt_z (step *ℤ p) (value z -ℤ value (z -ℤ step))
        (λ less. by_lt_z (z -ℤ step) lo (λ l. inl (λ r. absurd (omega (arith, ints, l, r)))) (λ l. inr (l, less)))
        (λ more. inl (λ r. more))

    upward : ((x +ℤ step) ≤ℤ hi) → ((value (x +ℤ step) -ℤ value x) <ℤ (step *ℤ p)) → unsigned_abs (y -ℤ x) ≤ suc m
    upward r l = elim (decide_up (x +ℤ step)) [
      | inl u ↦ by_distance (x +ℤ step) step (pos 1) refl (omega (arith, ints)) (omega (arith, double)) (omega (arith, ints, lx)) r u
          (λ b. let e : (x +ℤ step) -ℤ step ≡ x = omega (arith, ints) in rw e (omega (arith, ints, l)))
      | inr f ↦ (let e : (x +ℤ step) +ℤ step ≡ x +ℤ pos (suc m) = omega (arith, ints, double) in
          let g : (x +ℤ pos (suc m)) -ℤ step ≡ x +ℤ step = omega (arith, ints, double) in
          let v = rw e at f.1 in
          by_distance (x +ℤ pos (suc m)) (pos (suc m)) (pos 2) refl (omega (arith, ints, double)) (omega arith) (omega (arith, ints, lx)) (let h = f.0 in omega (arith, ints, h, e)) far_up
          (λ b. rw g (omega (arith, ints, v))))
    ]

    downward : (lo ≤ℤ (x -ℤ step)) → ((step *ℤ p) <ℤ (value x -ℤ value (x -ℤ step))) → unsigned_abs (y -ℤ x) ≤ suc m
    downward r l = elim (decide_down (x -ℤ step)) [
      | inl w ↦ by_distance (x -ℤ step) (neg_ℤ step) (negsuc 0) (omega (arith, ints)) (omega (arith, ints)) (omega (arith, double)) r (omega (arith, ints, xh))
          (λ b. let e : (x -ℤ step) +ℤ step ≡ x = omega (arith, ints) in rw e (omega (arith, ints, l))) w
      | inr f ↦ (let e : (x -ℤ step) -ℤ step ≡ x -ℤ pos (suc m) = omega (arith, ints, double) in
          let g : (x -ℤ pos (suc m)) +ℤ step ≡ x -ℤ step = omega (arith, ints, double) in
          let v = rw e at f.1 in
          by_distance (x -ℤ pos (suc m)) (neg_ℤ (pos (suc m))) (negsuc 1) (omega (arith, ints)) (omega (arith, ints, double)) (omega arith) (let h = f.0 in omega (arith, ints, h, e)) (omega (arith, ints, xh))
          (λ b. rw g (omega (arith, ints, v))) far_down)
    ]

    pub settles_near : unsigned_abs (y -ℤ x) ≤ suc m
    settles_near = elim (decide_up x) [
      | inr f ↦ upward f.0 f.1
      | inl u ↦ elim (decide_down x) [
        | inr f ↦ downward f.0 f.1
        | inl w ↦ by_distance x (pos 0) (pos 0) (omega (arith, ints)) (omega (arith, ints)) (omega arith) lx xh u w
      ]
    ]
