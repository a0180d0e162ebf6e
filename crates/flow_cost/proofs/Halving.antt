-- Where the condition holds at a step, the unit a whole step further on costs at least the rise: so at the next, smaller
-- step a flow settles no further away than the old step.
use Rattle.std.proofs.Common.{◌≡◌, ℕ, zero, suc, ℤ, pos, ◌+ℤ◌, ◌-ℤ◌, ◌*ℤ◌, ◌≤ℤ◌, arith, ap, ◌∙◌}
use Rattle.std.proofs.Math.IntN.{*ℤ_comm}
use Rattle.std.proofs.lemmas.Int.{ints}
use Rattle.flow_cost.specs.Cost.{IsWithin, IsLawful, slope}
use Rattle.flow_cost.specs.Condition.{slope_up}
use Rattle.flow_cost.specs.Integers.{mul-add, mul-one}
use Rattle.flow_cost.proofs.Convex.{≤ℤ_trans, between, slope_mono}
use Rattle.flow_cost.proofs.Rounding.{ceil_at_most}

-- one more unit of a sum
further : (va vb vc p q r : ℤ) → (vb -ℤ va) ≤ℤ q → (vc -ℤ vb) ≤ℤ p → r ≡ q +ℤ p → (vc -ℤ va) ≤ℤ r
further va vb vc p q r h k e = omega (arith, ints)

module _ (value : ℤ → ℤ) (span : ℤ) (law : IsLawful value span) where
  -- n units whose last costs at most m cost at most n times m
  units : (m : ℤ) (n : ℕ) (x : ℤ) → IsWithin span x → IsWithin span (x +ℤ pos (suc n)) → slope value (x +ℤ pos n) ≤ℤ m →
      (value (x +ℤ pos (suc n)) -ℤ value x) ≤ℤ (pos (suc n) *ℤ m)
  units m zero x h w s =
      let e : x +ℤ pos 0 ≡ x = omega (arith, ints) in
      let f : pos 1 *ℤ m ≡ m = *ℤ_comm (pos 1) m ∙ mul-one m in
      rw f (rw e at s)
  units m (suc n) x h w s =
      let y : ℤ = x +ℤ pos (suc n) in
      let e : x +ℤ pos (suc (suc n)) ≡ y +ℤ pos 1 = omega (arith, ints) in
      let wy : IsWithin span y = between span x (x +ℤ pos (suc (suc n))) y h w (omega (arith, ints)) (omega (arith, ints)) in
      let before : slope value (x +ℤ pos n) ≤ℤ slope value y = slope_mono value span law 1 (x +ℤ pos n) y (omega (arith, ints))
      (between span x (x +ℤ pos (suc (suc n))) (x +ℤ pos n) h w (omega (arith, ints)) (omega (arith, ints))) (rw (← e) w) in
      let product : pos (suc (suc n)) *ℤ m ≡ pos (suc n) *ℤ m +ℤ m =
      *ℤ_comm (pos (suc (suc n))) m ∙ ap (λ t. m *ℤ t) (let k : pos (suc (suc n)) ≡ pos (suc n) +ℤ pos 1 = omega (arith, ints) in k) ∙ mul-add m (pos (suc n)) (pos 1)
      ∙ (omega (arith, ints, mul-one m, *ℤ_comm (pos (suc n)) m)) in
      rw e (further (value x) (value y) (value (y +ℤ pos 1)) m (pos (suc n) *ℤ m) (pos (suc (suc n)) *ℤ m)
      (units m n x h wy (≤ℤ_trans _ _ _ before s)) s product)

  -- the last unit of a step up costs at least the rise, where the condition holds at the step
  pub last_unit : (n : ℕ) (x p : ℤ) → IsWithin span x → IsWithin span (x +ℤ pos (suc n)) → p ≤ℤ slope_up value (pos (suc n)) x →
      p ≤ℤ slope value (x +ℤ pos n)
  last_unit n x p h w c = ≤ℤ_trans _ _ _ c (ceil_at_most n _ _ (units (slope value (x +ℤ pos n)) n x h w (record { le = (let r : slope value (x +ℤ pos n) ≤ℤ slope value (x +ℤ pos n) = omega (arith, ints) in r.le) })))
