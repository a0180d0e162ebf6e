-- A cost of one number: what makes it lawful.
use Rattle.std.specs.Prelude.{◌*◌, ◌^◌, ℤ, pos, ◌+ℤ◌, ◌-ℤ◌, neg_ℤ, ◌≤ℤ◌}

-- at most n away from 0
pub record IsWithin (n x : ℤ) : Type 0 where
  pub low : neg_ℤ n ≤ℤ x
  pub high : x ≤ℤ n

-- how much more the next number costs
abbrev pub slope : (ℤ → ℤ) → ℤ → ℤ
slope value x = value (x +ℤ pos 1) -ℤ value x

-- a lawful cost: wherever it is asked at numbers within its span, its values and its slopes lie in fixed ranges, and
-- its slope never falls
pub record IsLawful (value : ℤ → ℤ) (span : ℤ) : Type 0 where
  pub span_low : pos 1 ≤ℤ span
  pub span_high : span ≤ℤ pos (2 ^ 60)
  pub values : (x : ℤ) → IsWithin span x → IsWithin (pos (4 * 10 ^ 28)) (value x)
  pub slopes : (x : ℤ) → IsWithin span x → IsWithin span (x +ℤ pos 1) → IsWithin (pos (4 * 10 ^ 16)) (slope value x)
  pub convex : (x : ℤ) → IsWithin span x → IsWithin span (x +ℤ pos 2) → slope value x ≤ℤ slope value (x +ℤ pos 1)
