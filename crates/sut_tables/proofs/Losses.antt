-- Bounds of a loss and of a row's term.
use Rattle.std.proofs.Common.{ℕ, ℤ, pos, ◌-ℤ◌, neg_ℤ, arith, Option, None, Some}
use Rattle.std.specs.Prelude.{◌*◌, ◌-◌, ◌≤◌, ◌≤ℤ◌, unsigned_abs}
use Rattle.std.proofs.lemmas.Int.{ints}
use Rattle.sut_tables.specs.Rows.{InRange, IsAim}
use Rattle.sut_tables.specs.Costs.{loss, weighted_loss}
use Rattle.sut_tables.specs.declared.rows.Penalty.{Penalty}
use Rattle.sut_tables.specs.declared.rows.Penalty.TheVariants.{Square, Absolute, Band}

pub product-order : (a b c d : ℕ) → a ≤ c → b ≤ d → a * b ≤ c * d
product-order a b c d h k = grind arith

-- a distance of two numbers in range
pub abs-bound : (z : ℤ) → neg_ℤ (pos 2000000000000) ≤ℤ z → z ≤ℤ pos 2000000000000 → unsigned_abs z ≤ 2000000000000
abs-bound z h k = omega (arith, ints)

pub loss-bound : (e : Penalty) (d : ℕ) → d ≤ 2000000000000 → loss e d ≤ 2000000000000 * 2000000000000
loss-bound Square d h = product-order d d 2000000000000 2000000000000 h h
loss-bound Absolute d h = omega arith
loss-bound (Band w) d h = product-order (d - unsigned_abs w) (d - unsigned_abs w) 2000000000000 2000000000000 (less (unsigned_abs w)) (less (unsigned_abs w))
  where
    less : (n : ℕ) → d - n ≤ 2000000000000
    less n = omega arith

pub term-bound : (t : Option ℤ) (e : Penalty) (g w : ℕ) (x : ℤ) → IsAim t e g w → InRange x → weighted_loss t e w x ≤ 10000 * (2000000000000 * 2000000000000)
term-bound None e g w x a r = omega arith
term-bound (Some t) e g w x a r =
    product-order w (loss e (unsigned_abs (x -ℤ t))) 10000 (2000000000000 * 2000000000000) a.3
    (loss-bound e (unsigned_abs (x -ℤ t)) (abs-bound (x -ℤ t) (low t x a.0.high r.low) (high t x a.0.low r.high)))
  where
    low : (t x : ℤ) → t ≤ℤ pos 1000000000000 → neg_ℤ (pos 1000000000000) ≤ℤ x → neg_ℤ (pos 2000000000000) ≤ℤ (x -ℤ t)
    low t x h k = omega (arith, ints)

    high : (t x : ℤ) → neg_ℤ (pos 1000000000000) ≤ℤ t → x ≤ℤ pos 1000000000000 → (x -ℤ t) ≤ℤ pos 2000000000000
    high t x h k = omega (arith, ints)
