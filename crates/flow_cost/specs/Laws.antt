-- The named costs are lawful.
use Rattle.std.specs.Prelude.{◌≡◌, ℕ, suc, zero, ◌+◌, ◌-◌, ◌*◌, ◌^◌, ◌≤◌, ℤ, pos, negsuc, ◌+ℤ◌, ◌-ℤ◌, ◌*ℤ◌, neg_ℤ, ◌≤ℤ◌, unsigned_abs, refl}
use Rattle.std.proofs.Common.{arith, ap, ◌⊎◌, inl, inr, ◌∙◌, add-one, add_assoc}
use Rattle.std.proofs.Math.Nat.{mul-le-mul_left, mul-le-mul, le_trans, le_refl}
use Rattle.std.proofs.lemmas.Int.{ints, unsigned_abs-mul}
use Rattle.std.proofs.lemmas.Bool.{cases_lt}
use Rattle.std.specs.Int.Signed.{≤ℤ_refl}
use Rattle.flow_cost.specs.Integers.{mul-add, mul-one, abs_at_most, abs_low, abs_high}
use Rattle.flow_cost.specs.Cost.{IsWithin, IsLawful, slope}
use Rattle.flow_cost.specs.Loss.{squared, square_loss, absolute_loss, band_loss, weighted}

-- to cost nothing anywhere is lawful
pub lawful_free : IsLawful (λ _. pos 0) (pos (2 ^ 60))
lawful_free = record {
  span_low = omega (arith, ints);
  span_high = omega (arith, ints);
  values = λ x h. record { low = omega (arith, ints); high = omega (arith, ints) };
  slopes = λ x h k. record { low = omega (arith, ints); high = omega (arith, ints) };
  convex = λ x h k. omega (arith, ints);
}

-- a loss that never falls as the distance grows, and rises ever faster
pub record IsRising (loss : ℕ → ℕ) : Type 0 where
  pub grows : (n : ℕ) → loss n ≤ loss (n + 1)
  pub bends : (n : ℕ) → loss (n + 1) + loss (n + 1) ≤ loss n + loss (n + 2)
  pub small : (n : ℕ) → n ≤ 2 * 10 ^ 12 → loss n ≤ 4 * 10 ^ 24
  pub slow : (n : ℕ) → n + 1 ≤ 2 * 10 ^ 12 → loss (n + 1) ≤ loss n + 4 * 10 ^ 12

-- distances of a negative number and of the numbers one and two above it
abs-neg : (n : ℕ) → unsigned_abs (neg_ℤ (pos n)) ≡ n
abs-neg zero = refl
abs-neg (suc n) = refl

abs_at : (d : ℤ) (n : ℕ) → d ≡ neg_ℤ (pos n) → unsigned_abs d ≡ n
abs_at d n e = ap unsigned_abs e ∙ abs-neg n

below_one : (n : ℕ) → unsigned_abs (negsuc n +ℤ pos 1) ≡ n
below_one n = abs_at (negsuc n +ℤ pos 1) n (omega (arith, ints))

below_two : (n : ℕ) → unsigned_abs (negsuc (suc n) +ℤ pos 2) ≡ n
below_two n = abs_at (negsuc (suc n) +ℤ pos 2) n (omega (arith, ints))

-- the arithmetic of the two lemmas on neighbours, over plain numbers
twice : (a b c : ℕ) → a ≤ b → a + a ≤ b + b
twice a b c h = omega arith

mirrored : (a b c : ℕ) → a + a ≤ b + c → a + a ≤ c + b
mirrored a b c h = omega arith

wider : (a b m : ℕ) → a ≤ b → a ≤ b + m
wider a b m h = omega arith

-- of three neighbours, twice the middle loss is at most the sum of the outer two
middle : (loss : ℕ → ℕ) → IsRising loss → (d : ℤ) → loss (unsigned_abs (d +ℤ pos 1)) + loss (unsigned_abs (d +ℤ pos 1)) ≤ loss (unsigned_abs d) + loss (unsigned_abs (d +ℤ pos 2))
middle loss r (pos n) = r.bends n
middle loss r (negsuc zero) = twice (loss 0) (loss 1) 0 (r.grows 0)
middle loss r (negsuc (suc n)) =
    rw (below_one (suc n), below_two n, ← add-one n, ← add-one (n + 1), add_assoc n 1 1)
    (mirrored (loss (n + 1)) (loss n) (loss (n + 2)) (r.bends n))

-- the losses of two neighbours differ by at most 4 * 10^12, within twice the limit of a target
rise : (loss : ℕ → ℕ) → IsRising loss → (d : ℤ) → unsigned_abs d ≤ 2 * 10 ^ 12 → unsigned_abs (d +ℤ pos 1) ≤ 2 * 10 ^ 12 → (loss (unsigned_abs (d +ℤ pos 1)) ≤ loss (unsigned_abs d) + 4 * 10 ^ 12) × (loss (unsigned_abs d) ≤ loss (unsigned_abs (d +ℤ pos 1)) + 4 * 10 ^ 12)
rise loss r (pos n) h k = (r.slow n k, wider (loss n) (loss (n + 1)) (4 * 10 ^ 12) (r.grows n))
rise loss r (negsuc n) h k =
    rw (below_one n, ← add-one n)
    (wider (loss n) (loss (n + 1)) (4 * 10 ^ 12) (r.grows n), r.slow n (rw add-one h))

-- the same facts with a weight, over plain numbers
times : (w a b : ℕ) → a ≤ b → w * a ≤ w * b
times w a b h = mul-le-mul_left w h

times_middle : (w a b c : ℕ) → b + b ≤ a + c → w * b + w * b ≤ w * a + w * c
times_middle w a b c h = omega (arith, times w (b + b) (a + c) h)

times_small : (w a m k : ℕ) → w ≤ k → a ≤ m → w * a ≤ k * m
times_small w a m k h l = mul-le-mul h l

times_rise : (w a b : ℕ) → w ≤ 10_000 → a ≤ b + 4 * 10 ^ 12 → w * a ≤ w * b + 4 * 10 ^ 16
times_rise w a b h l = omega (arith, times w a (b + 4 * 10 ^ 12) l, times_small w (4 * 10 ^ 12) (4 * 10 ^ 12) 10_000 h (omega arith))

-- the same facts as signed numbers
pos_le : (a b : ℕ) → a ≤ b → pos a ≤ℤ pos b
pos_le a b h = omega (arith, ints)

near : (a b m : ℕ) → a ≤ b + m → b ≤ a + m → IsWithin (pos m) (pos a -ℤ pos b)
near a b m h k = record { low = omega (arith, ints); high = omega (arith, ints) }

between : (a b c : ℕ) → b + b ≤ a + c → (pos b -ℤ pos a) ≤ℤ (pos c -ℤ pos b)
between a b c h = omega (arith, ints)

-- a number no further than n from 0
within_abs : (d : ℤ) (n : ℕ) → unsigned_abs d ≤ n → IsWithin (pos n) d
within_abs d n h = record { low = abs_low d n h; high = abs_high d n h }

-- two numbers up to 10^12 from 0 lie at most twice that apart
pub distance : (x target : ℤ) → unsigned_abs target ≤ 10 ^ 12 → IsWithin (pos (10 ^ 12)) x → unsigned_abs (x -ℤ target) ≤ 2 * 10 ^ 12
distance x target t h =
    let k = within_abs target (10 ^ 12) t in
    abs_at_most (x -ℤ target) (2 * 10 ^ 12) (omega (arith, ints)) (omega (arith, ints))

-- a weight times a rising loss is lawful
pub lawful_weighted : (weight : ℕ) (loss : ℕ → ℕ) (target : ℤ) → weight ≤ 10_000 → IsRising loss → unsigned_abs target ≤ 10 ^ 12 → IsLawful (weighted weight (λ d. loss (unsigned_abs d)) target) (pos (10 ^ 12))
lawful_weighted weight loss target w r t = record {
  span_low = omega (arith, ints);
  span_high = omega (arith, ints);
  values = λ x h. record {
    low = omega (arith, ints);
    high = pos_le _ _ (times_small weight _ (4 * 10 ^ 24) 10_000 w (r.small _ (distance x target t h)));
  };
  slopes = λ x h k. let e : (x +ℤ pos 1) -ℤ target ≡ (x -ℤ target) +ℤ pos 1 = omega (arith, ints) in
      rw e (let g = rise loss r (x -ℤ target) (distance x target t h) (rw (← e) (distance (x +ℤ pos 1) target t k)) in
      near _ _ (4 * 10 ^ 16) (times_rise weight _ _ w g.0) (times_rise weight _ _ w g.1));
  convex = λ x h k. let e : (x +ℤ pos 1) -ℤ target ≡ (x -ℤ target) +ℤ pos 1 = omega (arith, ints) in
      let f : ((x +ℤ pos 1) +ℤ pos 1) -ℤ target ≡ (x -ℤ target) +ℤ pos 2 = omega (arith, ints) in
      rw (e, f) (between _ _ _ (times_middle weight _ _ _ (middle loss r (x -ℤ target))));
}

-- the distance itself is such a loss
rising_absolute : IsRising (λ n. n)
rising_absolute = record {
  grows = λ n. omega arith;
  bends = λ n. omega arith;
  small = λ n h. omega arith;
  slow = λ n h. omega arith;
}

-- how far two neighbouring distances lie beyond a width: the second one further, or neither beyond it
abbrev Next : ℕ → ℕ → Type 0
Next a b = (b ≡ a + 1) ⊎ ((a ≡ 0) × (b ≡ 0))

beyond : (n m width : ℕ) → m ≡ n + 1 → Next (n - width) (m - width)
beyond n m width e = elim (cases_lt n width) [ inl h ↦ inr (omega arith, omega arith) | inr h ↦ inl (omega arith) ]

-- squares of such neighbours grow, ever faster, and slowly enough
squares_grow : (a b : ℕ) → Next a b → squared a ≤ squared b
squares_grow a b (inl e) = rw e (omega arith)
squares_grow a b (inr e) = rw (e.0, e.1) (omega arith)

squares_bend : (a b c : ℕ) → Next a b → Next b c → squared b + squared b ≤ squared a + squared c
squares_bend a b c (inl e) (inl f) = rw (f, e) (omega arith)
squares_bend a b c (inr e) (inl f) = rw (f, e.0, e.1) (omega arith)
squares_bend a b c ab (inr f) = rw (f.0, f.1) (omega arith)

squares_slow : (a b : ℕ) → Next a b → b ≤ 2 * 10 ^ 12 → squared b ≤ squared a + 4 * 10 ^ 12
squares_slow a b (inl e) h = rw e (omega arith)
squares_slow a b (inr e) h = rw (e.0, e.1) (omega arith)

squares_small : (a m : ℕ) → a ≤ m → squared a ≤ m * m
squares_small a m h = mul-le-mul h h

-- the square of what a distance has beyond a width is such a loss
rising_band : (width : ℕ) → IsRising (λ n. squared (n - width))
rising_band width = record {
  grows = λ n. squares_grow _ _ (beyond n (n + 1) width refl);
  bends = λ n. squares_bend _ _ _ (beyond n (n + 1) width refl) (beyond (n + 1) (n + 2) width (omega arith));
  small = λ n h. squares_small (n - width) (2 * 10 ^ 12) (omega arith);
  slow = λ n h. squares_slow _ _ (beyond n (n + 1) width refl) (omega arith);
}

-- the square of the distance is such a loss
rising_square : IsRising squared
rising_square = record {
  grows = λ n. squares_grow n (n + 1) (inl refl);
  bends = λ n. squares_bend n (n + 1) (n + 2) (inl refl) (inl (omega arith));
  small = λ n h. squares_small n (2 * 10 ^ 12) h;
  slow = λ n h. squares_slow n (n + 1) (inl refl) h;
}

-- the named costs
pub lawful_square : (weight : ℕ) (target : ℤ) → weight ≤ 10_000 → unsigned_abs target ≤ 10 ^ 12 → IsLawful (weighted weight square_loss target) (pos (10 ^ 12))
lawful_square weight target w t = lawful_weighted weight squared target w rising_square t

pub lawful_absolute : (weight : ℕ) (target : ℤ) → weight ≤ 10_000 → unsigned_abs target ≤ 10 ^ 12 → IsLawful (weighted weight absolute_loss target) (pos (10 ^ 12))
lawful_absolute weight target w t = lawful_weighted weight (λ n. n) target w rising_absolute t

pub lawful_band : (weight width : ℕ) (target : ℤ) → weight ≤ 10_000 → unsigned_abs target ≤ 10 ^ 12 → IsLawful (weighted weight (band_loss width) target) (pos (10 ^ 12))
lawful_band weight width target w t = lawful_weighted weight (λ n. squared (n - width)) target w (rising_band width) t

-- each unit of a linear cost costs the same
linear_slope : (a x : ℤ) → slope (λ y. a *ℤ y) x ≡ a
linear_slope a x = omega (arith, ints, mul-add a x (pos 1), mul-one a)

-- a number within the span is no further from 0 than the span
abs_in_span : (span x : ℤ) → pos 1 ≤ℤ span → IsWithin span x → unsigned_abs x ≤ unsigned_abs span
abs_in_span (pos n) x l k = abs_at_most x n k.low k.high
abs_in_span (negsuc n) x l k = absurd (omega (arith, ints))

-- a linear cost is lawful where its slope and its values at the ends of its span fit
pub lawful_linear : (a span : ℤ) → pos 1 ≤ℤ span → span ≤ℤ pos (2 ^ 60) → unsigned_abs a ≤ 4 * 10 ^ 16 → unsigned_abs a * unsigned_abs span ≤ 4 * 10 ^ 28 → IsLawful (λ x. a *ℤ x) span
lawful_linear a span l h s e = record {
  span_low = l;
  span_high = h;
  values = λ x k. within_abs (a *ℤ x) (4 * 10 ^ 28) (rw (unsigned_abs-mul a x) (le_trans (mul-le-mul (le_refl (unsigned_abs a)) (abs_in_span span x l k)) e));
  slopes = λ x k m. rw (linear_slope a x) (within_abs a (4 * 10 ^ 16) s);
  convex = λ x k m. rw (linear_slope a x, linear_slope a (x +ℤ pos 1)) (≤ℤ_refl a);
}
