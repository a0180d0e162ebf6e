-- Sums over the rows that are left, one row further.
use Rattle.std.proofs.Common.{◌≡◌, ◌+◌, ◌-◌, ◌*◌, ◌≤◌, ◌∷◌, ◌∙◌, ◌^◌, ℕ, suc, ℤ, pos, ◌+ℤ◌, List, length, sym, ap, arith, to_z, of_z}
use Rattle.std.specs.Prelude.{◌≤ℤ◌, neg_ℤ}
use Rattle.std.proofs.lemmas.Int.{ints}
use mir.Syntax.{w64, w128}
use Rattle.sut_tables.specs.CellSums.{IsUpTo}
use Rattle.sut_tables.specs.RowFacts.{RowFacts}
use Rattle.sut_tables.specs.Rows.{InRange}
use Rattle.sut_tables.specs.Values.{int_sum_by}

module _ (r : RowFacts) (rest rows : List RowFacts) (is : rows ≡ r ∷ rest) where
  pub counted-more : (f : RowFacts → ℤ) (sum total x : ℤ) → x ≡ f r → sum +ℤ int_sum_by f rows ≡ total → (sum +ℤ x) +ℤ int_sum_by f rest ≡ total
  counted-more f sum total x at e = ap (λ z. (sum +ℤ z) +ℤ int_sum_by f rest) at ∙ grouped sum (f r) (int_sum_by f rest) ∙ sym (ap (λ rs. sum +ℤ int_sum_by f rs) is) ∙ e
    where
      grouped : (a b c : ℤ) → (a +ℤ b) +ℤ c ≡ a +ℤ (b +ℤ c)
      grouped a b c = omega (arith, ints)

  pub few-left : length rows ≤ 147456 → length rest + 1 ≤ 147456
  few-left few = let one = ap length is in omega (arith, one, few)

  pub small-more : (sum x : ℤ) → length rows ≤ 147456 → IsUpTo ((147456 - length rows) * 1000000000000) sum → InRange x → IsUpTo ((147456 - length rest) * 1000000000000) (sum +ℤ x)
  small-more sum x few small range = by (length rows) (length rest) (ap length is) few small range
    where
      by : (n m : ℕ) → n ≡ suc m → n ≤ 147456 → IsUpTo ((147456 - n) * 1000000000000) sum → InRange x → IsUpTo ((147456 - m) * 1000000000000) (sum +ℤ x)
      by n m one few small range = record {
        low = low small.low range.low;
        high = high small.high range.high;
      }
        where
          low : neg_ℤ (pos ((147456 - n) * 1000000000000)) ≤ℤ sum → neg_ℤ (pos 1000000000000) ≤ℤ x → neg_ℤ (pos ((147456 - m) * 1000000000000)) ≤ℤ (sum +ℤ x)
          low h k = omega (arith, ints)

          high : sum ≤ℤ pos ((147456 - n) * 1000000000000) → x ≤ℤ pos 1000000000000 → (sum +ℤ x) ≤ℤ pos ((147456 - m) * 1000000000000)
          high h k = omega (arith, ints)

-- before the first row
pub counted-all : (f : RowFacts → ℤ) (left rows : List RowFacts) → left ≡ rows → pos 0 +ℤ int_sum_by f left ≡ int_sum_by f rows
counted-all f left rows same = none (int_sum_by f left) ∙ ap (int_sum_by f) same
  where
    none : (a : ℤ) → pos 0 +ℤ a ≡ a
    none a = omega (arith, ints)

pub none-up_to : (n : ℕ) → IsUpTo n (pos 0)
none-up_to n = record { low = omega (arith, ints); high = omega (arith, ints) }

-- what the code's sum is
pub added-is : (bits : ℕ) (n : ℕ) (sum y x : ℤ) → sum ≡ to_z w128 bits → IsUpTo ((147456 - n) * 1000000000000) sum → y ≡ to_z w64 (of_z w64 x) → InRange x
    → to_z w128 (of_z w128 (to_z w128 bits +ℤ to_z w128 (of_z w128 y))) ≡ sum +ℤ x
added-is bits n sum y x is small at range = by small.low small.high range.low range.high
  where
    by : neg_ℤ (pos ((147456 - n) * 1000000000000)) ≤ℤ sum → sum ≤ℤ pos ((147456 - n) * 1000000000000) → neg_ℤ (pos 1000000000000) ≤ℤ x → x ≤ℤ pos 1000000000000
        → to_z w128 (of_z w128 (to_z w128 bits +ℤ to_z w128 (of_z w128 y))) ≡ sum +ℤ x
    by a b d e = omega (arith, ints, is, at)
