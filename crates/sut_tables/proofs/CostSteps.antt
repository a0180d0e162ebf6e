-- The cost of a table, summed row by row.
use Rattle.std.proofs.Common.{◌≡◌, ℕ, ◌+◌, ◌<◌, ◌≤◌, ◌*◌, ◌^◌, ℤ, pos, neg_ℤ, ◌≤ℤ◌, List, [], ◌∷◌, ◌∙◌, ap, sym, subst, arith, to_z, of_z}
use mir.Syntax.{w64, w128}
use lib.IntN.{nat_abs}
use lib.Signed.{mag}
use Rattle.std.specs.Prelude.{sum_by}
use Rattle.std.proofs.lemmas.Int.{ints}
use Rattle.std.proofs.lemmas.List.Sums.{sum_by-cons}
use Rattle.sut_tables.specs.RowFacts.{RowFacts}
use Rattle.sut_tables.specs.Rows.{InRange}
use Rattle.sut_tables.specs.Costs.{term}

-- one more term
pub cost-more : (f : RowFacts → ℕ) (n c : ℕ) (r : RowFacts) (rest rows : List RowFacts) → rows ≡ r ∷ rest → n + sum_by f rows ≡ c → n + f r + sum_by f rest ≡ c
cost-more f n c r rest rows e h = joined n (f r) (sum_by f rest) (sum_by f rows) (ap (sum_by f) e ∙ sum_by-cons f r rest) h
  where
    joined : (n a b s : ℕ) → s ≡ a + b → n + s ≡ c → n + a + b ≡ c
    joined n a b s g k = omega (arith, g, k)

pub part-below : (n a b c : ℕ) → n + a + b ≡ c → c < 6 * 10 ^ 33 → n + a < 2 ^ 128
part-below n a b c e l = omega (arith, e)

-- a value in range in 64 bits
pub narrowed : (x v : ℤ) → x ≡ v → InRange v → to_z w64 (of_z w64 (to_z w128 (of_z w128 x))) ≡ v
narrowed x v e r = by r.low r.high
  where
    by : neg_ℤ (pos 1000000000000) ≤ℤ v → v ≤ℤ pos 1000000000000 → to_z w64 (of_z w64 (to_z w128 (of_z w128 x))) ≡ v
    by l h = omega (arith, ints, e)

-- a term in 128 bits
pub term-is : (r : RowFacts) (x v y : ℤ) → x ≡ v → InRange v → y ≡ pos (term r (to_z w64 (of_z w64 (to_z w128 (of_z w128 x))))) → mag y < 2 ^ 127 → nat_abs (to_z w128 (of_z w128 y)) ≡ term r v
term-is r x v y e b f m = by (term r v) (f ∙ ap (λ z. pos (term r z)) (narrowed x v e b))
  where
    by : (n : ℕ) → y ≡ pos n → nat_abs (to_z w128 (of_z w128 y)) ≡ n
    by n g = omega (arith, ints, g, m)
