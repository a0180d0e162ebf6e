-- One cost along the line: what meets the condition at step 1 bounds the cost of every other number within the bounds.
use Rattle.std.proofs.Common.{◌≡◌, ℕ, zero, suc, ℤ, pos, negsuc, ◌+ℤ◌, ◌-ℤ◌, ◌*ℤ◌, ◌≤ℤ◌, ◌⊎◌, inl, inr, refl, arith, ap, ◌∙◌}
use Rattle.std.proofs.lemmas.Int.{ints}
use Rattle.flow_cost.specs.Condition.{MeetsCondition}
use Rattle.flow_cost.specs.Cost.{IsWithin, IsLawful, slope}
use Rattle.flow_cost.specs.Integers.{mul-add, mul-one}
use Rattle.flow_cost.proofs.Convex.{≤ℤ_trans, between, slope_mono}
use Rattle.flow_cost.proofs.Rounding.{floor_by_one, ceil_by_one}

-- a step of the two sums below
next_up : (px py pz vx vy vz p : ℤ) → (pz -ℤ px) ≤ℤ (vz -ℤ vx) → py ≡ pz +ℤ p → p ≤ℤ (vy -ℤ vz) → (py -ℤ px) ≤ℤ (vy -ℤ vx)
next_up px py pz vx vy vz p h e k = omega (arith, ints)

next_down : (px py pz vx vy vz p : ℤ) → (pz -ℤ px) ≤ℤ (vz -ℤ vx) → pz ≡ py +ℤ p → (vz -ℤ vy) ≤ℤ p → (py -ℤ px) ≤ℤ (vy -ℤ vx)
next_down px py pz vx vy vz p h e k = omega (arith, ints)

module _ (value : ℤ → ℤ) (span : ℤ) (law : IsLawful value span) where
  -- above a number whose next unit costs at least p
  above : (p : ℤ) (n : ℕ) (x y : ℤ) → y ≡ x +ℤ pos n → IsWithin span x → IsWithin span y → p ≤ℤ slope value x → (p *ℤ y -ℤ p *ℤ x) ≤ℤ (value y -ℤ value x)
  above p zero x y e h k s = let f : y ≡ x = omega (arith, ints) in rw f (omega (arith, ints))
  above p (suc n) x y e h k s =
      let z : ℤ = x +ℤ pos n in
      let yz : y ≡ z +ℤ pos 1 = omega (arith, ints) in
      let wz : IsWithin span z = between span x y z h k (omega (arith, ints)) (omega (arith, ints)) in
      let rise : slope value x ≤ℤ slope value z = slope_mono value span law n x z refl h (rw (← yz) k) in
      next_up (p *ℤ x) (p *ℤ y) (p *ℤ z) (value x) (value y) (value z) p
      (above p n x z refl h wz s)
      (ap (λ t. p *ℤ t) yz ∙ mul-add p z (pos 1) ∙ ap (λ t. p *ℤ z +ℤ t) (mul-one p))
      (rw yz (≤ℤ_trans _ _ _ s rise))

  -- below a number whose last unit costs at most p
  below : (p : ℤ) (n : ℕ) (x y : ℤ) → x ≡ y +ℤ pos n → IsWithin span x → IsWithin span y → slope value (x -ℤ pos 1) ≤ℤ p → (p *ℤ y -ℤ p *ℤ x) ≤ℤ (value y -ℤ value x)
  below p zero x y e h k s = let f : y ≡ x = omega (arith, ints) in rw f (omega (arith, ints))
  below p (suc n) x y e h k s =
      let z : ℤ = y +ℤ pos 1 in
      let wz : IsWithin span z = between span y x z k h (omega (arith, ints)) (omega (arith, ints)) in
      let x1 : (x -ℤ pos 1) +ℤ pos 1 ≡ x = omega (arith, ints) in
      let rise : slope value y ≤ℤ slope value (x -ℤ pos 1) = slope_mono value span law n y (x -ℤ pos 1) (omega (arith, ints)) k (rw x1 h) in
      next_down (p *ℤ x) (p *ℤ y) (p *ℤ z) (value x) (value y) (value z) p
      (below p n x z (omega (arith, ints)) h wz s)
      (mul-add p y (pos 1) ∙ ap (λ t. p *ℤ y +ℤ t) (mul-one p))
      (≤ℤ_trans _ _ _ rise s)

-- how one number lies to another
apart : (x y : ℤ) → ((n : ℕ) × (y ≡ x +ℤ pos n)) ⊎ ((n : ℕ) × (x ≡ y +ℤ pos (suc n)))
apart x y = by (y -ℤ x) refl
  where
    by : (d : ℤ) → d ≡ y -ℤ x → ((n : ℕ) × (y ≡ x +ℤ pos n)) ⊎ ((n : ℕ) × (x ≡ y +ℤ pos (suc n)))
    by (pos n) e = inl (n, omega (arith, ints))
    by (negsuc n) e = inr (n, omega (arith, ints))

-- what meets the condition at step 1 costs no more than any other number, once each unit is paid the rise
pub best_on_line : (value : ℤ → ℤ) (span lo hi x y p : ℤ) → IsLawful value span → IsWithin span lo → IsWithin span hi →
    lo ≤ℤ x → x ≤ℤ hi → lo ≤ℤ y → y ≤ℤ hi → MeetsCondition value lo hi (pos 1) x p →
    (p *ℤ y -ℤ p *ℤ x) ≤ℤ (value y -ℤ value x)
best_on_line value span lo hi x y p law wl wh lx xh ly yh meets =
    let wx : IsWithin span x = between span lo hi x wl wh lx xh in
    let wy : IsWithin span y = between span lo hi y wl wh ly yh in
    elim (apart x y) [
      | inl (zero, e) ↦ (let f : y ≡ x = omega (arith, ints) in rw f (omega (arith, ints)))
      | inl (suc n, e) ↦ above value span law p (suc n) x y e wx wy (rw (ceil_by_one (slope value x)) at (meets.up (omega (arith, ints))))
      | inr (n, e) ↦ below value span law p (suc n) x y e wx wy
          (let x1 : (x -ℤ pos 1) +ℤ pos 1 ≡ x = omega (arith, ints) in
          rw x1 (rw (floor_by_one (value x -ℤ value (x -ℤ pos 1))) at (meets.down (omega (arith, ints)))))
    ]
