-- A rounded slope of a lawful cost is small.
use Rattle.std.proofs.Common.{◌≡◌, ℕ, zero, suc, ◌*◌, ◌^◌, ℤ, pos, negsuc, ◌+ℤ◌, ◌-ℤ◌, neg_ℤ, ◌≤ℤ◌, refl, arith, subst}
use Rattle.std.proofs.lemmas.Int.{ints}
use Rattle.flow_cost.specs.Cost.{IsWithin, IsLawful}
use Rattle.flow_cost.specs.Condition.{floor_quotient, slope_up, slope_down}
use Rattle.flow_cost.proofs.Convex.{between}
use Rattle.flow_cost.proofs.Rounding.{floor_at_most, floor_at_least, ceil_at_most, ceil_at_least}
use Rattle.flow_residual.specs.Edges.{slope_limit}

-- a quotient is no further from 0 than the number
pub quotient_small : (step d : ℤ) → pos 1 ≤ℤ step → IsWithin (pos (8 * 10 ^ 28)) d → IsWithin (pos (8 * 10 ^ 28)) (floor_quotient d step)
quotient_small (pos zero) d l w = absurd (omega (arith, ints))
quotient_small (pos (suc n)) d l w = record {
  low = floor_at_least n d (neg_ℤ (pos (8 * 10 ^ 28))) (omega (arith, ints, w.low));
  high = floor_at_most n d (pos (8 * 10 ^ 28)) (omega (arith, ints, w.high));
}
quotient_small (negsuc n) d l w = absurd (omega (arith, ints))

-- one more unit
unit_more : (va vb vc : ℤ) (n : ℕ) → IsWithin (pos (n * (4 * 10 ^ 16))) (vb -ℤ va) → IsWithin (pos (4 * 10 ^ 16)) (vc -ℤ vb) → IsWithin (pos (suc n * (4 * 10 ^ 16))) (vc -ℤ va)
unit_more va vb vc n h k = record { low = omega (arith, ints, h.low, k.low); high = omega (arith, ints, h.high, k.high) }

module _ (value : ℤ → ℤ) (span : ℤ) (law : IsLawful value span) where
  -- what n units cost
  units_small : (n : ℕ) (a b : ℤ) → b ≡ a +ℤ pos n → IsWithin span a → IsWithin span b → IsWithin (pos (n * (4 * 10 ^ 16))) (value b -ℤ value a)
  units_small zero a b e h k = let f : b ≡ a = omega (arith, ints) in rw f (record { low = omega (arith, ints); high = omega (arith, ints) })
  units_small (suc n) a b e h k =
      let c : ℤ = a +ℤ pos n in
      let next : b ≡ (a +ℤ pos n) +ℤ pos 1 = omega (arith, ints) in
      let wc : IsWithin span (a +ℤ pos n) = between span a b (a +ℤ pos n) h k (omega (arith, ints)) (omega (arith, ints)) in
      let last : IsWithin (pos (4 * 10 ^ 16)) (value ((a +ℤ pos n) +ℤ pos 1) -ℤ value (a +ℤ pos n)) = law.slopes (a +ℤ pos n) wc (subst (λ z. IsWithin span z) next k) in
      rw next (unit_more (value a) (value (a +ℤ pos n)) (value ((a +ℤ pos n) +ℤ pos 1)) n (units_small n a (a +ℤ pos n) refl h wc) last)

  slope_up_small : (n : ℕ) (x : ℤ) → IsWithin span x → IsWithin span (x +ℤ pos (suc n)) → IsWithin slope_limit (slope_up value (pos (suc n)) x)
  slope_up_small n x h k =
      let u = units_small (suc n) x (x +ℤ pos (suc n)) refl h k in
      record {
        low = ceil_at_least n (value (x +ℤ pos (suc n)) -ℤ value x) (neg_ℤ slope_limit) (omega (arith, ints, u.low));
        high = ceil_at_most n (value (x +ℤ pos (suc n)) -ℤ value x) slope_limit (omega (arith, ints, u.high));
      }

  slope_down_small : (n : ℕ) (x : ℤ) → IsWithin span x → IsWithin span (x -ℤ pos (suc n)) → IsWithin slope_limit (slope_down value (pos (suc n)) x)
  slope_down_small n x h k =
      let u = units_small (suc n) (x -ℤ pos (suc n)) x (omega (arith, ints)) k h in
      record {
        low = floor_at_least n (value x -ℤ value (x -ℤ pos (suc n))) (neg_ℤ slope_limit) (omega (arith, ints, u.low));
        high = floor_at_most n (value x -ℤ value (x -ℤ pos (suc n))) slope_limit (omega (arith, ints, u.high));
      }

  pub price_up_small : (step x : ℤ) → pos 1 ≤ℤ step → IsWithin span x → IsWithin span (x +ℤ step) → IsWithin slope_limit (slope_up value step x)
  price_up_small (pos zero) x l h k = absurd (omega (arith, ints))
  price_up_small (pos (suc n)) x l h k = slope_up_small n x h k
  price_up_small (negsuc n) x l h k = absurd (omega (arith, ints))

  pub price_down_small : (step x : ℤ) → pos 1 ≤ℤ step → IsWithin span x → IsWithin span (x -ℤ step) → IsWithin slope_limit (slope_down value step x)
  price_down_small (pos zero) x l h k = absurd (omega (arith, ints))
  price_down_small (pos (suc n)) x l h k = slope_down_small n x h k
  price_down_small (negsuc n) x l h k = absurd (omega (arith, ints))
