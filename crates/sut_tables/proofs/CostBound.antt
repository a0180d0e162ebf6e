-- The cost of an admissible table is below 6 * 10^33.
use Rattle.std.proofs.Common.{ℕ, suc, List, [], ◌∷◌, sym, subst, arith}
use Rattle.std.specs.Prelude.{All, ◌+◌, ◌*◌, ◌^◌, ◌<◌, ◌≤◌, length, sum_by}
use Rattle.std.proofs.lemmas.List.Elements.{All-head, All-tail}
use Rattle.std.proofs.lemmas.List.Sums.{sum_by-cons}
use Rattle.sut_tables.specs.RowFacts.{RowFacts}
use Rattle.sut_tables.specs.ProblemFacts.{ProblemFacts}
use Rattle.sut_tables.specs.TableFacts.{TableFacts}
use Rattle.sut_tables.specs.Values.{value_of}
use Rattle.sut_tables.specs.Problems.{IsProblem}
use Rattle.sut_tables.specs.Costs.{term, cost, IsAdmissible}
use Rattle.sut_tables.specs.Limits.{IsWithinLimits}
use Rattle.sut_tables.proofs.Losses.{term-bound}
use Rattle.sut_tables.proofs.Wide.{few-rows, within-in_range}

sum-bound : {X : Type 0} (f : X → ℕ) (top : ℕ) (xs : List X) → All (λ x. f x ≤ top) xs → sum_by f xs ≤ length xs * top
sum-bound f top [] a = omega arith
sum-bound f top (x ∷ xs) a =
    subst (λ n. n ≤ suc (length xs) * top) (sym (sum_by-cons f x xs))
    (joined (f x) (sum_by f xs) (length xs) (All-head (λ x. f x ≤ top) x xs a) (sum-bound f top xs (All-tail (λ x. f x ≤ top) x xs a)))
  where
    joined : (a b n : ℕ) → a ≤ top → b ≤ n * top → a + b ≤ suc n * top
    joined a b n h k = grind arith

-- The cost of an admissible table.
pub cost-below : (p : ProblemFacts) (t : TableFacts) → IsProblem p → IsWithinLimits p → IsAdmissible p t → cost p t < 6 * 10 ^ 33
cost-below p t ok limits adm =
    below (cost p t) (length p.rows) (few-rows p limits)
    (sum-bound (λ (r : RowFacts). term r (value_of t r.measure)) (10000 * (2000000000000 * 2000000000000)) p.rows
    (λ k d h. term-bound _ _ _ _ (value_of t _) (ok.in_range k d h).aim (within-in_range t _ (ok.in_range k d h) (adm.bounds k d h))))
  where
    below : (c n : ℕ) → n ≤ 147456 → c ≤ n * (10000 * (2000000000000 * 2000000000000)) → c < 6 * 10 ^ 33
    below c n l h = omega arith
