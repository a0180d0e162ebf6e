-- Quotients rounded down and up against products, and that what settles meets the condition.
use Rattle.std.proofs.Common.{◌≡◌, ap, ◌∙◌, ℕ, suc, ◌+◌, ◌*◌, ◌/◌, ◌<◌, ◌≤◌, ℤ, pos, negsuc, ◌*ℤ◌, neg_ℤ, ◌≤ℤ◌, arith, inl, inr}
use Rattle.std.proofs.Math.Nat.{mul-le-mul_left}
use Rattle.std.proofs.lemmas.Int.{ints}
use Rattle.std.proofs.lemmas.Bool.{cases_lt}
use Rattle.flow_cost.specs.Integers.{mul-neg}
use Rattle.flow_cost.specs.Condition.{floor_quotient, ceil_quotient, MeetsCondition}
use Rattle.flow_cost.specs.Settle.{IsSettled}

-- b times the quotient is at most the number, and b times one more is above it
pub quotient_low : (a n : ℕ) → suc n * (a / suc n) ≤ a
quotient_low a n = omega arith

pub quotient_high : (a n : ℕ) → a < suc n * (a / suc n + 1)
quotient_high a n = omega arith

-- the quotient is at most q where the number is at most the product, and at least q where it is at least that
pub at_most_product : (a n q : ℕ) → a ≤ suc n * q → a / suc n ≤ q
at_most_product a n q h = elim (cases_lt q (a / suc n)) [
  | inl l ↦ (let k : suc n * suc q ≤ suc n * (a / suc n) = mul-le-mul_left (suc n) l in absurd (omega (arith, quotient_low a n)))
  | inr l ↦ l
]

pub at_least_product : (a n q : ℕ) → suc n * q ≤ a → q ≤ a / suc n
at_least_product a n q h = elim (cases_lt (a / suc n) q) [
  | inl l ↦ (let k : suc n * suc (a / suc n) ≤ suc n * q = mul-le-mul_left (suc n) l in absurd (omega (arith, quotient_high a n)))
  | inr l ↦ l
]

-- the quotient rounded down is at most p where the number is at most the product
pub floor_at_most : (n : ℕ) (d p : ℤ) → d ≤ℤ (pos (suc n) *ℤ p) → floor_quotient d (pos (suc n)) ≤ℤ p
floor_at_most n (pos a) (pos q) h = omega (arith, ints, at_most_product a n q (omega (arith, ints)))
floor_at_most n (pos a) (negsuc q) h = absurd (omega (arith, ints))
floor_at_most n (negsuc a) (pos q) h = omega (arith, ints)
floor_at_most n (negsuc a) (negsuc q) h = omega (arith, ints, at_least_product a n q (omega (arith, ints)))

pub ceil_at_least : (n : ℕ) (d p : ℤ) → (pos (suc n) *ℤ p) ≤ℤ d → p ≤ℤ ceil_quotient d (pos (suc n))
ceil_at_least n d p h = omega (arith, ints, floor_at_most n (neg_ℤ d) (neg_ℤ p) (omega (arith, ints, mul-neg (pos (suc n)) p)))

-- the quotient is at most q where the number is below the next product
below_next : (a n q : ℕ) → suc a ≤ suc n * suc q → a / suc n ≤ q
below_next a n q h = elim (cases_lt q (a / suc n)) [
  | inl l ↦ (let k : suc n * suc q ≤ suc n * (a / suc n) = mul-le-mul_left (suc n) l in absurd (omega (arith, quotient_low a n)))
  | inr l ↦ l
]

-- and at least p where it is at least the product
pub floor_at_least : (n : ℕ) (d p : ℤ) → (pos (suc n) *ℤ p) ≤ℤ d → p ≤ℤ floor_quotient d (pos (suc n))
floor_at_least n (pos a) (pos q) h = omega (arith, ints, at_least_product a n q (omega (arith, ints)))
floor_at_least n (pos a) (negsuc q) h = omega (arith, ints)
floor_at_least n (negsuc a) (pos q) h = absurd (omega (arith, ints))
floor_at_least n (negsuc a) (negsuc q) h = omega (arith, ints, below_next a n q (omega (arith, ints)))

pub ceil_at_most : (n : ℕ) (d p : ℤ) → d ≤ℤ (pos (suc n) *ℤ p) → ceil_quotient d (pos (suc n)) ≤ℤ p
ceil_at_most n d p h = omega (arith, ints, floor_at_least n (neg_ℤ d) (neg_ℤ p) (omega (arith, ints, mul-neg (pos (suc n)) p)))

-- nothing is rounded at step 1
pub floor_by_one : (d : ℤ) → floor_quotient d (pos 1) ≡ d
floor_by_one (pos n) = ap pos (omega arith)
floor_by_one (negsuc n) = ap negsuc (omega arith)

pub ceil_by_one : (d : ℤ) → ceil_quotient d (pos 1) ≡ d
ceil_by_one d = ap neg_ℤ (floor_by_one (neg_ℤ d)) ∙ omega (arith, ints)

-- what settles at a step meets the condition at that step
pub settled_meets : (value : ℤ → ℤ) (lo hi y p : ℤ) (n : ℕ) → IsSettled value lo hi (pos (suc n)) p y → MeetsCondition value lo hi (pos (suc n)) y p
settled_meets value lo hi y p n s = record {
  up = λ h. ceil_at_least n _ p (s.up h);
  down = λ h. floor_at_most n _ p (s.down h);
}
