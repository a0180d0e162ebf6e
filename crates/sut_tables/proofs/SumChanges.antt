-- What a change of a cell's number adds to the sums over a table's cells.
use Rattle.std.proofs.Common.{◌≡◌, ℕ, zero, suc, ℤ, pos, negsuc, ◌+ℤ◌, ◌*ℤ◌, neg_ℤ, ◌≤ℤ◌, ◌<ℤ◌, ◌+◌, ◌*◌, ◌^◌, ◌≤◌, ◌<◌, List, [], ◌∷◌, take, length, Bool, true, false, if◌then◌else◌, Option, Some, None, refl, sym, ◌∙◌, ap, subst, arith, add-one, inl, inr, ⊎_elim}
use Rattle.std.specs.Prelude.{slice_get}
use Rattle.std.specs.Option.{option_map, ForSome}
use Rattle.std.proofs.lemmas.Int.{ints}
use Rattle.std.proofs.lemmas.Option.{none-some, same_Some}
use Rattle.std.proofs.lemmas.List.{length-take, length-map, take_all}
use Rattle.sut_classes.specs.declared.ids.ProductGroupId.{ProductGroupId}
use Rattle.sut_classes.specs.declared.ids.IndustryGroupId.{IndustryGroupId}
use Rattle.sut_measures.specs.Sums.{sign_in, totals_by}
use Rattle.sut_measures.proofs.TotalsBy.{totals_by-few}
use Rattle.sut_measures.specs.declared.measures.Cell.{Cell}
use Rattle.sut_measures.specs.declared.measures.Cell.TheVariants as cell
use Rattle.sut_measures.specs.declared.measures.Total.{Total}
use Rattle.sut_tables.specs.declared.sums.CellSum.{CellSum}
use Rattle.sut_tables.specs.declared.sums.CellSum.TheVariants as sum
use Rattle.sut_tables.specs.Values.{int_sum_by}
use Rattle.sut_tables.specs.CellSums.{IsUpTo, added_to, same_sum, sign_at, sums_by}
use Rattle.sut_tables.proofs.Paths.{one-*ℤ, minus_one-*ℤ}
use Rattle.sut_tables.proofs.Wide.{sign-either}

-- ---- the sign

pub sign-low : (c : Cell) (u : Total) (x : ℤ) → sign_in c u <ℤ pos 0 → neg_ℤ x ≡ sign_in c u *ℤ x
sign-low c u x low = ⊎_elim (λ e. absurd (never (sign_in c u) e low)) (λ e. rw e (sym (minus_one-*ℤ x))) (sign-either c u)
  where
    never : (s : ℤ) → s ≡ pos 1 → s <ℤ pos 0 → ⊥
    never s e l = omega (arith, ints)

pub sign-high : (c : Cell) (u : Total) (x : ℤ) → pos 0 ≤ℤ sign_in c u → x ≡ sign_in c u *ℤ x
sign-high c u x high = ⊎_elim (λ e. rw e (sym (one-*ℤ x))) (λ e. absurd (never (sign_in c u) e high)) (sign-either c u)
  where
    never : (s : ℤ) → s ≡ negsuc 0 → pos 0 ≤ℤ s → ⊥
    never s e l = omega (arith, ints)

-- ---- sums over a list's first elements

sum-take-suc : {X : Type 0} (f : X → ℤ) (xs : List X) (k : ℕ) (x : X) → slice_get xs k ≡ Some x → int_sum_by f (take (suc k) xs) ≡ int_sum_by f (take k xs) +ℤ f x
sum-take-suc f [] k x e = cc
sum-take-suc f (y ∷ ys) zero x e = rw (same_Some y x e) (omega (arith, ints))
sum-take-suc f (y ∷ ys) (suc k) x e = rw (sum-take-suc f ys k x e) (omega (arith, ints))

pub sum-take_more : {X : Type 0} (f : X → ℤ) (xs : List X) (k : ℕ) (x : X) → slice_get xs k ≡ Some x → int_sum_by f (take (k + 1) xs) ≡ int_sum_by f (take k xs) +ℤ f x
sum-take_more f xs k x e = rw add-one (sum-take-suc f xs k x e)

take-suc_past : {X : Type 0} (xs : List X) (k : ℕ) → slice_get xs k ≡ None → take (suc k) xs ≡ take k xs
take-suc_past [] zero e = refl
take-suc_past [] (suc k) e = refl
take-suc_past (y ∷ ys) zero e = cc
take-suc_past (y ∷ ys) (suc k) e = ap (λ zs. y ∷ zs) (take-suc_past ys k e)

pub take_past : {X : Type 0} (xs : List X) (k : ℕ) → slice_get xs k ≡ None → take (k + 1) xs ≡ take k xs
take_past xs k e = rw add-one (take-suc_past xs k e)

-- ---- what is added stays small

pub sum-up_to : (m n : ℕ) (x y : ℤ) → IsUpTo m x → IsUpTo n y → IsUpTo (m + n) (x +ℤ y)
sum-up_to m n x y a b = record { low = low a.low b.low; high = high a.high b.high }
  where
    low : neg_ℤ (pos m) ≤ℤ x → neg_ℤ (pos n) ≤ℤ y → neg_ℤ (pos (m + n)) ≤ℤ (x +ℤ y)
    low g h = omega (arith, ints)

    high : x ≤ℤ pos m → y ≤ℤ pos n → (x +ℤ y) ≤ℤ pos (m + n)
    high g h = omega (arith, ints)

pub up_to-wider : (m n : ℕ) (x : ℤ) → m ≤ n → IsUpTo m x → IsUpTo n x
up_to-wider m n x l a = record { low = low a.low; high = high a.high }
  where
    low : neg_ℤ (pos m) ≤ℤ x → neg_ℤ (pos n) ≤ℤ x
    low g = omega (arith, ints)

    high : x ≤ℤ pos m → x ≤ℤ pos n
    high g = omega (arith, ints)

sign_at-up_to : (n : ℕ) (c : Cell) (s : CellSum) (d : ℤ) → IsUpTo n d → IsUpTo n (sign_at c s *ℤ d)
sign_at-up_to n c (sum.Total u) d a = ⊎_elim (λ e. subst (IsUpTo n) (sym (ap (λ z. z *ℤ d) e ∙ one-*ℤ d)) a) (λ e. subst (IsUpTo n) (sym (ap (λ z. z *ℤ d) e ∙ minus_one-*ℤ d)) (record { low = low a.high; high = high a.low })) (sign-either c u)
  where
    low : d ≤ℤ pos n → neg_ℤ (pos n) ≤ℤ neg_ℤ d
    low g = omega (arith, ints)

    high : neg_ℤ (pos n) ≤ℤ d → neg_ℤ d ≤ℤ pos n
    high g = omega (arith, ints)
sign_at-up_to n c (sum.Uses i) d a = subst (IsUpTo n) (sym (one-*ℤ d)) a
sign_at-up_to n c (sum.Services k) d a = subst (IsUpTo n) (sym (one-*ℤ d)) a

added-up_to : (q : CellSum) (c : Cell) (d : ℤ) (n : ℕ) → IsUpTo n d → (ws : List CellSum) → IsUpTo (length ws * n) (added_to q c d ws)
added-up_to q c d n a [] = record { low = omega (arith, ints); high = omega (arith, ints) }
added-up_to q c d n a (w ∷ ws) =
    up_to-wider (n + length ws * n) (suc (length ws) * n) (added_to q c d (w ∷ ws)) (omega arith)
    (sum-up_to n (length ws * n) (if same_sum w q then sign_at c w *ℤ d else pos 0) (added_to q c d ws) (one (same_sum w q)) (added-up_to q c d n a ws))
  where
    one : (b : Bool) → IsUpTo n (if b then sign_at c w *ℤ d else pos 0)
    one true = sign_at-up_to n c w d a
    one false = record { low = omega (arith, ints); high = omega (arith, ints) }

pub mapped-some : (P Q : ℤ → Type 0) (f : ℤ → ℤ) → ((x : ℤ) → P x → Q (f x)) → (o r : Option ℤ) → r ≡ option_map f o → ForSome o P → ForSome r Q
mapped-some P Q f h None r e p x g = absurd (none-some x (sym e ∙ g))
mapped-some P Q f h (Some y) r e p x g = subst Q (same_Some (f y) x (sym e ∙ g)) (h y (p y refl))

-- within the bounds after some changes
pub changed-up_to : (q : CellSum) (c : Cell) (d : ℤ) (ws : List CellSum) (k : ℕ) → IsUpTo (2 ^ 50) d → k < 9 → (o r : Option ℤ)
    → r ≡ option_map (λ x. x +ℤ added_to q c d (take k ws)) o → ForSome o (IsUpTo (2 ^ 120)) → ForSome r (IsUpTo (2 ^ 125))
changed-up_to q c d ws k a l o r e =
    mapped-some (IsUpTo (2 ^ 120)) (IsUpTo (2 ^ 125)) (λ x. x +ℤ added_to q c d (take k ws))
    (λ x b. up_to-wider (2 ^ 120 + length (take k ws) * 2 ^ 50) (2 ^ 125) (x +ℤ added_to q c d (take k ws)) (small (length (take k ws)) (few ws k l))
    (sum-up_to (2 ^ 120) (length (take k ws) * 2 ^ 50) x (added_to q c d (take k ws)) b (added-up_to q c d (2 ^ 50) a (take k ws)))) o r e
  where
    small : (n : ℕ) → n < 9 → 2 ^ 120 + n * 2 ^ 50 ≤ 2 ^ 125
    small n h = omega arith

    few : (ws : List CellSum) (k : ℕ) → k < 9 → length (take k ws) < 9
    few ws k h = omega (arith, length-take {A = CellSum})

-- ---- one more change

module _ (q : CellSum) (c : Cell) (d : ℤ) (ws : List CellSum) (k : ℕ) where
  pub added-more : (s : CellSum) (amount : ℤ) → slice_get ws k ≡ Some s → amount ≡ sign_at c s *ℤ d → (o r m : Option ℤ) → r ≡ option_map (λ x. x +ℤ added_to q c d (take k ws)) o
      → m ≡ (if same_sum s q then option_map (λ x. x +ℤ amount) r else r) → m ≡ option_map (λ x. x +ℤ added_to q c d (take (k + 1) ws)) o
  added-more s amount at is o r m e f =
      rw (sum-take_more (λ w. if same_sum w q then sign_at c w *ℤ d else pos 0) ws k s at)
      (f ∙ ap (λ z. if same_sum s q then option_map (λ x. x +ℤ z) r else r) is ∙ rw e (by o (same_sum s q)))
    where
      by : (o : Option ℤ) (b : Bool) → (if b then option_map (λ x. x +ℤ sign_at c s *ℤ d) (option_map (λ x. x +ℤ added_to q c d (take k ws)) o) else option_map (λ x. x +ℤ added_to q c d (take k ws)) o)
          ≡ option_map (λ x. x +ℤ (added_to q c d (take k ws) +ℤ (if b then sign_at c s *ℤ d else pos 0))) o
      by None true = refl
      by None false = refl
      by (Some x) true = ap Some (three x (added_to q c d (take k ws)) (sign_at c s *ℤ d))
        where
          three : (x y z : ℤ) → (x +ℤ y) +ℤ z ≡ x +ℤ (y +ℤ z)
          three x y z = omega (arith, ints)
      by (Some x) false = ap Some (two x (added_to q c d (take k ws)))
        where
          two : (x y : ℤ) → x +ℤ y ≡ x +ℤ (y +ℤ pos 0)
          two x y = omega (arith, ints)

  pub added-past : slice_get ws k ≡ None → (o r : Option ℤ) → r ≡ option_map (λ x. x +ℤ added_to q c d (take k ws)) o → r ≡ option_map (λ x. x +ℤ added_to q c d (take (k + 1) ws)) o
  added-past at o r e = rw (take_past ws k at) e

-- a cell counts in at most 9 sums
pub sums_by-few : (g : Option ProductGroupId) (h : Option IndustryGroupId) (c : Cell) → length (sums_by g h c) ≤ 9
sums_by-few g h (cell.Make i j) = omega (arith, length-map (totals_by g h (cell.Make i j)) sum.Total, totals_by-few g h (cell.Make i j))
sums_by-few g h (cell.Import i) = omega (arith, length-map (totals_by g h (cell.Import i)) sum.Total, totals_by-few g h (cell.Import i))
sums_by-few g h (cell.Basic i q) = omega (arith, length-map (totals_by g h (cell.Basic i q)) sum.Total, totals_by-few g h (cell.Basic i q))
sums_by-few g h (cell.Margin k i q) = omega (arith, length-map (totals_by g h (cell.Margin k i q)) sum.Total, totals_by-few g h (cell.Margin k i q))
sums_by-few g h (cell.Tax k i q) = omega (arith, length-map (totals_by g h (cell.Tax k i q)) sum.Total, totals_by-few g h (cell.Tax k i q))
sums_by-few g h (cell.Service i k) = omega arith
sums_by-few g h (cell.Added v j) = omega (arith, length-map (totals_by g h (cell.Added v j)) sum.Total, totals_by-few g h (cell.Added v j))

-- all of them are among the first 9
pub added-all : (q : CellSum) (c : Cell) (d : ℤ) (ws : List CellSum) (k : ℕ) → length ws ≤ k → (o r : Option ℤ) → r ≡ option_map (λ x. x +ℤ added_to q c d (take k ws)) o → r ≡ option_map (λ x. x +ℤ added_to q c d ws) o
added-all q c d ws k l o r e = subst (λ ys. r ≡ option_map (λ x. x +ℤ added_to q c d ys) o) (take_all k ws l) e
