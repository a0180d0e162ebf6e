-- A tight move keeps the condition.
use Rattle.std.proofs.Common.{◌≡◌, ℕ, zero, suc, ◌/◌, ◌≤◌, ℤ, pos, negsuc, ◌+ℤ◌, ◌-ℤ◌, neg_ℤ, ◌≤ℤ◌, arith, refl}
use Rattle.std.proofs.lemmas.Int.{ints}
use Rattle.flow_cost.specs.Cost.{IsWithin, IsLawful}
use Rattle.flow_cost.specs.Condition.{floor_quotient, ceil_quotient, slope_up, slope_down, MeetsCondition}
use Rattle.flow_cost.proofs.Convex.{between, chord_mono}
use Rattle.flow_cost.proofs.Rounding.{quotient_low, quotient_high, at_most_product, at_least_product}

floor_mono : (n : ℕ) (a b : ℤ) → a ≤ℤ b → floor_quotient a (pos (suc n)) ≤ℤ floor_quotient b (pos (suc n))
floor_mono n (pos a) (pos b) h = omega (arith, ints, at_least_product b n (a / suc n) (omega (arith, ints, quotient_low a n)))
floor_mono n (pos a) (negsuc b) h = omega (arith, ints)
floor_mono n (negsuc a) (pos b) h = omega (arith, ints)
floor_mono n (negsuc a) (negsuc b) h = omega (arith, ints, at_least_product a n (b / suc n) (omega (arith, ints, quotient_low b n)))

ceil_mono : (n : ℕ) (a b : ℤ) → a ≤ℤ b → ceil_quotient a (pos (suc n)) ≤ℤ ceil_quotient b (pos (suc n))
ceil_mono n a b h = omega (arith, ints, floor_mono n (neg_ℤ b) (neg_ℤ a) (omega (arith, ints)))

next_quotient : (a n : ℕ) → suc a / suc n ≤ suc (a / suc n)
next_quotient a n = at_most_product (suc a) n (suc (a / suc n)) (omega (arith, quotient_high a n))

floor_le_ceil : (n : ℕ) (d : ℤ) → floor_quotient d (pos (suc n)) ≤ℤ ceil_quotient d (pos (suc n))
floor_le_ceil n (pos zero) = omega (arith, ints, at_most_product 0 n 0 (omega arith))
floor_le_ceil n (pos (suc a)) = omega (arith, ints, next_quotient a n)
floor_le_ceil n (negsuc a) = omega (arith, ints, next_quotient a n)

module _ (value : ℤ → ℤ) (span : ℤ) (law : IsLawful value span) (lo hi x p : ℤ) (n : ℕ)
    (lx : lo ≤ℤ x) (xh : x ≤ℤ hi) (wl : IsWithin span lo) (wh : IsWithin span hi) where
  -- after a tight move up
  pub pushed_up : (x +ℤ pos (suc n)) ≤ℤ hi → slope_up value (pos (suc n)) x ≡ p → MeetsCondition value lo hi (pos (suc n)) (x +ℤ pos (suc n)) p
  pushed_up room tight =
      let back : (x +ℤ pos (suc n)) -ℤ pos (suc n) ≡ x = omega (arith, ints) in
      record {
        up = λ h. rw (← tight) (ceil_mono n _ _
            (chord_mono value span law (suc n) (suc n) x (x +ℤ pos (suc n)) (x +ℤ pos (suc n)) ((x +ℤ pos (suc n)) +ℤ pos (suc n)) refl refl refl
            (between span lo hi x wl wh lx xh) (between span lo hi ((x +ℤ pos (suc n)) +ℤ pos (suc n)) wl wh (omega (arith, ints)) h)));
        down = λ h. rw (← tight, back) (floor_le_ceil n (value (x +ℤ pos (suc n)) -ℤ value x));
      }

  -- after a tight move down
  pub pushed_down : lo ≤ℤ (x -ℤ pos (suc n)) → slope_down value (pos (suc n)) x ≡ p → MeetsCondition value lo hi (pos (suc n)) (x -ℤ pos (suc n)) p
  pushed_down room tight =
      let on : (x -ℤ pos (suc n)) +ℤ pos (suc n) ≡ x = omega (arith, ints) in
      record {
        up = λ h. rw (← tight, on) (floor_le_ceil n (value x -ℤ value (x -ℤ pos (suc n))));
        down = λ h. rw (← tight) (floor_mono n _ _
            (chord_mono value span law (suc n) (suc n) ((x -ℤ pos (suc n)) -ℤ pos (suc n)) (x -ℤ pos (suc n)) (x -ℤ pos (suc n)) x (omega (arith, ints)) (omega (arith, ints)) (omega (arith, ints))
            (between span lo hi ((x -ℤ pos (suc n)) -ℤ pos (suc n)) wl wh h (omega (arith, ints))) (between span lo hi x wl wh lx xh)));
      }
