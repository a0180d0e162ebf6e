-- Products of signed numbers, and their distance from 0.
use Rattle.std.proofs.Common.{◌≡◌, ℕ, zero, suc, ◌≤◌, ℤ, pos, negsuc, ◌+ℤ◌, ◌-ℤ◌, ◌*ℤ◌, neg_ℤ, ◌≤ℤ◌, unsigned_abs, refl, arith, ap, ◌∙◌}
use Rattle.std.proofs.Math.IntN.{suc_ℤ-*ℤ, pred_ℤ-*ℤ, zero-*ℤ}
use Rattle.std.proofs.lemmas.Int.{ints}

-- a product with a sum
pub mul-add : (a x y : ℤ) → a *ℤ (x +ℤ y) ≡ a *ℤ x +ℤ a *ℤ y
mul-add (pos zero) x y = rw (zero-*ℤ (x +ℤ y), zero-*ℤ x, zero-*ℤ y) refl
mul-add (pos (suc n)) x y = omega (arith, ints, mul-add (pos n) x y, suc_ℤ-*ℤ (pos n) (x +ℤ y), suc_ℤ-*ℤ (pos n) x, suc_ℤ-*ℤ (pos n) y)
mul-add (negsuc zero) x y = omega (arith, ints, pred_ℤ-*ℤ (pos 0) (x +ℤ y), pred_ℤ-*ℤ (pos 0) x, pred_ℤ-*ℤ (pos 0) y, zero-*ℤ (x +ℤ y), zero-*ℤ x, zero-*ℤ y)
mul-add (negsuc (suc n)) x y = omega (arith, ints, mul-add (negsuc n) x y, pred_ℤ-*ℤ (negsuc n) (x +ℤ y), pred_ℤ-*ℤ (negsuc n) x, pred_ℤ-*ℤ (negsuc n) y)

-- with the opposite of a number
pub mul-neg : (a x : ℤ) → a *ℤ neg_ℤ x ≡ neg_ℤ (a *ℤ x)
mul-neg (pos zero) x = rw (zero-*ℤ (neg_ℤ x), zero-*ℤ x) refl
mul-neg (pos (suc n)) x = omega (arith, ints, mul-neg (pos n) x, suc_ℤ-*ℤ (pos n) (neg_ℤ x), suc_ℤ-*ℤ (pos n) x)
mul-neg (negsuc zero) x = omega (arith, ints, pred_ℤ-*ℤ (pos 0) (neg_ℤ x), pred_ℤ-*ℤ (pos 0) x, zero-*ℤ (neg_ℤ x), zero-*ℤ x)
mul-neg (negsuc (suc n)) x = omega (arith, ints, mul-neg (negsuc n) x, pred_ℤ-*ℤ (negsuc n) (neg_ℤ x), pred_ℤ-*ℤ (negsuc n) x)

-- with a difference
pub mul-sub : (a x y : ℤ) → a *ℤ (x -ℤ y) ≡ a *ℤ x -ℤ a *ℤ y
mul-sub a x y = mul-add a x (neg_ℤ y) ∙ ap (λ t. a *ℤ x +ℤ t) (mul-neg a y)

-- with 1
pub mul-one : (a : ℤ) → a *ℤ pos 1 ≡ a
mul-one (pos n) = ap pos (omega arith)
mul-one (negsuc n) = omega (arith, ints)

-- at most n away from 0, said by both bounds
pub abs_at_most : (d : ℤ) (n : ℕ) → neg_ℤ (pos n) ≤ℤ d → d ≤ℤ pos n → unsigned_abs d ≤ n
abs_at_most (pos m) n l h = omega (arith, ints)
abs_at_most (negsuc m) n l h = omega (arith, ints)

-- and back
pub abs_low : (d : ℤ) (n : ℕ) → unsigned_abs d ≤ n → neg_ℤ (pos n) ≤ℤ d
abs_low (pos m) n h = omega (arith, ints)
abs_low (negsuc m) n h = omega (arith, ints)

pub abs_high : (d : ℤ) (n : ℕ) → unsigned_abs d ≤ n → d ≤ℤ pos n
abs_high (pos m) n h = omega (arith, ints)
abs_high (negsuc m) n h = omega (arith, ints)
