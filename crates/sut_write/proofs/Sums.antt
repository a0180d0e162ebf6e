-- What the code's sums are.
use Rattle.std.proofs.Common.{◌≡◌, ◌<◌, ◌≤◌, ◌+◌, ◌^◌, ◌∙◌, ℕ, ℤ, pos, ◌+ℤ◌, List, get_or, length, take, sym, subst, arith, to_z, of_z}
use Rattle.std.specs.Prelude.{◌≤ℤ◌, neg_ℤ}
use Rattle.std.proofs.lemmas.Int.{ints}
use Rattle.std.proofs.lemmas.Option.{slice_get-get_or}
use mir.Syntax.{w128}
use Rattle.sut_tables.specs.CellSums.{IsUpTo}
use Rattle.sut_tables.specs.Values.{int_sum_by}
use Rattle.sut_tables.proofs.SumChanges.{sum-take_more, sum-up_to, up_to-wider}
use Rattle.sut_write.specs.Places.{below}
use Rattle.sut_write.proofs.Below.{sum-more}

added-is : (bits n b : ℕ) (y : ℤ) → IsUpTo n (to_z w128 bits) → IsUpTo b y → n + b < 2 ^ 100
    → to_z w128 (of_z w128 (to_z w128 bits +ℤ to_z w128 (of_z w128 y))) ≡ to_z w128 bits +ℤ y
added-is bits n b y sum part few = by sum.low sum.high part.low part.high
  where
    by : neg_ℤ (pos n) ≤ℤ to_z w128 bits → to_z w128 bits ≤ℤ pos n → neg_ℤ (pos b) ≤ℤ y → y ≤ℤ pos b
        → to_z w128 (of_z w128 (to_z w128 bits +ℤ to_z w128 (of_z w128 y))) ≡ to_z w128 bits +ℤ y
    by a c d e = omega (arith, ints)

-- the sum with one more part
pub record IsSum (bits : ℕ) (y : ℤ) (m : ℕ) : Type 0 where
  pub is : to_z w128 (of_z w128 (to_z w128 bits +ℤ to_z w128 (of_z w128 y))) ≡ to_z w128 bits +ℤ y
  pub small : IsUpTo m (to_z w128 (of_z w128 (to_z w128 bits +ℤ to_z w128 (of_z w128 y))))

pub summed : (bits n b m : ℕ) (y : ℤ) → IsUpTo n (to_z w128 bits) → IsUpTo b y → n + b ≤ m → m < 2 ^ 100 → IsSum bits y m
summed bits n b m y sum part few small = record {
  is = added;
  small = subst (IsUpTo m) (sym added) (up_to-wider (n + b) m (to_z w128 bits +ℤ y) few (sum-up_to n b (to_z w128 bits) y sum part));
}
  where
    added : to_z w128 (of_z w128 (to_z w128 bits +ℤ to_z w128 (of_z w128 y))) ≡ to_z w128 bits +ℤ y
    added = added-is bits n b y sum part (omega arith)

pub sum-step : (f : ℕ → ℤ) (k bits m : ℕ) (y : ℤ) → IsSum bits y m → to_z w128 bits ≡ int_sum_by f (below k) → y ≡ f k
    → to_z w128 (of_z w128 (to_z w128 bits +ℤ to_z w128 (of_z w128 y))) ≡ int_sum_by f (below (k + 1))
sum-step f k bits m y sum so_far here = sum.is ∙ (λ i. so_far i +ℤ here i) ∙ sym (sum-more f k)

pub sum-element : {X : Type 0} (f : X → ℤ) (xs : List X) (k : ℕ) (d : X) (bits m : ℕ) (y : ℤ) → k < length xs → IsSum bits y m → to_z w128 bits ≡ int_sum_by f (take k xs) → y ≡ f (get_or xs k d)
    → to_z w128 (of_z w128 (to_z w128 bits +ℤ to_z w128 (of_z w128 y))) ≡ int_sum_by f (take (k + 1) xs)
sum-element f xs k d bits m y inside sum so_far here =
    sum.is ∙ (λ i. so_far i +ℤ here i) ∙ sym (sum-take_more f xs k (get_or xs k d) (slice_get-get_or xs k d inside))

pub three-sum : (a b c : ℤ) → IsUpTo (2 ^ 58) a → IsUpTo (2 ^ 68) b → IsUpTo (2 ^ 67) c
    → to_z w128 (of_z w128 (to_z w128 (of_z w128 (to_z w128 (of_z w128 a) +ℤ to_z w128 (of_z w128 b))) +ℤ to_z w128 (of_z w128 c))) ≡ (a +ℤ b) +ℤ c
three-sum a b c x y z = by x.low x.high y.low y.high z.low z.high
  where
    by : neg_ℤ (pos (2 ^ 58)) ≤ℤ a → a ≤ℤ pos (2 ^ 58) → neg_ℤ (pos (2 ^ 68)) ≤ℤ b → b ≤ℤ pos (2 ^ 68) → neg_ℤ (pos (2 ^ 67)) ≤ℤ c → c ≤ℤ pos (2 ^ 67)
        → to_z w128 (of_z w128 (to_z w128 (of_z w128 (to_z w128 (of_z w128 a) +ℤ to_z w128 (of_z w128 b))) +ℤ to_z w128 (of_z w128 c))) ≡ (a +ℤ b) +ℤ c
    by d e f g h i = omega (arith, ints)

pub three-series : (a b c : ℤ) → IsUpTo (2 ^ 67) a → IsUpTo (2 ^ 67) b → IsUpTo (2 ^ 67) c
    → to_z w128 (of_z w128 (to_z w128 (of_z w128 (to_z w128 (of_z w128 a) +ℤ to_z w128 (of_z w128 b))) +ℤ to_z w128 (of_z w128 c))) ≡ (a +ℤ b) +ℤ c
three-series a b c x y z = by x.low x.high y.low y.high z.low z.high
  where
    by : neg_ℤ (pos (2 ^ 67)) ≤ℤ a → a ≤ℤ pos (2 ^ 67) → neg_ℤ (pos (2 ^ 67)) ≤ℤ b → b ≤ℤ pos (2 ^ 67) → neg_ℤ (pos (2 ^ 67)) ≤ℤ c → c ≤ℤ pos (2 ^ 67)
        → to_z w128 (of_z w128 (to_z w128 (of_z w128 (to_z w128 (of_z w128 a) +ℤ to_z w128 (of_z w128 b))) +ℤ to_z w128 (of_z w128 c))) ≡ (a +ℤ b) +ℤ c
    by d e f g h i = omega (arith, ints)
