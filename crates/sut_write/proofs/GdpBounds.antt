-- How far from 0 GDP of a table of a problem may lie.
use Rattle.std.proofs.Common.{◌≡◌, ◌^◌, true, ℤ, pos, ◌+ℤ◌, ◌-ℤ◌, arith, subst, sym, to_z, of_z}
use Rattle.std.specs.Prelude.{All, ◌≤ℤ◌, neg_ℤ}
use Rattle.std.proofs.lemmas.Int.{ints}
use mir.Syntax.{w128}
use Rattle.sut_measures.specs.Sums.{is_any_final, is_bought}
use Rattle.sut_tables.specs.CellSums.{IsUpTo}
use Rattle.sut_tables.specs.Gdp.{expenditure, income, is_added, is_any_industry, is_import, is_make, is_tax, production}
use Rattle.sut_tables.specs.ProblemFacts.{ProblemFacts}
use Rattle.sut_tables.specs.ProblemRules.{IsKept}
use Rattle.sut_tables.specs.Problems.{IsTableOf}
use Rattle.sut_tables.specs.Rows.{InRange}
use Rattle.sut_tables.specs.TableFacts.{TableFacts}
use Rattle.sut_tables.specs.Values.{sum_where}
use Rattle.sut_tables.specs.declared.tables.Held.{Held}
use Rattle.sut_readback.proofs.Bounds.{where-up_to}

three : (a b c : ℤ) → IsUpTo (2 ^ 58) a → IsUpTo (2 ^ 58) b → IsUpTo (2 ^ 58) c → IsUpTo (2 ^ 60) ((a -ℤ b) +ℤ c)
three a b c x y z = by x.low x.high y.low y.high z.low z.high
  where
    by : neg_ℤ (pos (2 ^ 58)) ≤ℤ a → a ≤ℤ pos (2 ^ 58) → neg_ℤ (pos (2 ^ 58)) ≤ℤ b → b ≤ℤ pos (2 ^ 58) → neg_ℤ (pos (2 ^ 58)) ≤ℤ c → c ≤ℤ pos (2 ^ 58) → IsUpTo (2 ^ 60) ((a -ℤ b) +ℤ c)
    by d e f g h i = record { low = omega (arith, ints); high = omega (arith, ints) }

sum-of_two : (a b : ℤ) → IsUpTo (2 ^ 58) a → IsUpTo (2 ^ 58) b → IsUpTo (2 ^ 60) (a +ℤ b)
sum-of_two a b x y = by x.low x.high y.low y.high
  where
    by : neg_ℤ (pos (2 ^ 58)) ≤ℤ a → a ≤ℤ pos (2 ^ 58) → neg_ℤ (pos (2 ^ 58)) ≤ℤ b → b ≤ℤ pos (2 ^ 58) → IsUpTo (2 ^ 60) (a +ℤ b)
    by d e f g = record { low = omega (arith, ints); high = omega (arith, ints) }

difference : (a b : ℤ) → IsUpTo (2 ^ 58) a → IsUpTo (2 ^ 58) b → IsUpTo (2 ^ 60) (a -ℤ b)
difference a b x y = by x.low x.high y.low y.high
  where
    by : neg_ℤ (pos (2 ^ 58)) ≤ℤ a → a ≤ℤ pos (2 ^ 58) → neg_ℤ (pos (2 ^ 58)) ≤ℤ b → b ≤ℤ pos (2 ^ 58) → IsUpTo (2 ^ 60) (a -ℤ b)
    by d e f g = record { low = omega (arith, ints); high = omega (arith, ints) }

pub kept-up_to : (x y : ℤ) → x ≡ y → IsUpTo (2 ^ 60) y → IsUpTo (2 ^ 60) (to_z w128 (of_z w128 x))
kept-up_to x y same up = subst (IsUpTo (2 ^ 60)) (sym (by (subst (IsUpTo (2 ^ 60)) (sym same) up))) (subst (IsUpTo (2 ^ 60)) (sym same) up)
  where
    within : neg_ℤ (pos (2 ^ 60)) ≤ℤ x → x ≤ℤ pos (2 ^ 60) → to_z w128 (of_z w128 x) ≡ x
    within a b = omega (arith, ints)

    by : IsUpTo (2 ^ 60) x → to_z w128 (of_z w128 x) ≡ x
    by u = within u.low u.high

module _ (p : ProblemFacts) (t : TableFacts) (kept : IsKept p) (of : IsTableOf p t) (ranges : All (λ (h : Held). InRange h.number) t.cells) where
  pub production-up_to : IsUpTo (2 ^ 60) (production t)
  production-up_to =
      three (sum_where is_make t.cells) (sum_where (is_bought (λ i. true) is_any_industry) t.cells) (sum_where is_tax t.cells)
      (where-up_to p t kept of ranges is_make) (where-up_to p t kept of ranges (is_bought (λ i. true) is_any_industry)) (where-up_to p t kept of ranges is_tax)

  pub income-up_to : IsUpTo (2 ^ 60) (income t)
  income-up_to =
      sum-of_two (sum_where is_added t.cells) (sum_where is_tax t.cells) (where-up_to p t kept of ranges is_added) (where-up_to p t kept of ranges is_tax)

  pub expenditure-up_to : IsUpTo (2 ^ 60) (expenditure t)
  expenditure-up_to =
      difference (sum_where (is_bought (λ i. true) is_any_final) t.cells) (sum_where is_import t.cells)
      (where-up_to p t kept of ranges (is_bought (λ i. true) is_any_final)) (where-up_to p t kept of ranges is_import)
