-- Tallies of live measures through one more or one less, and through a list of them.
use Rattle.std.proofs.Common.{◌≡◌, ℕ, zero, suc, ◌+◌, ◌-◌, ◌<◌, ◌≤◌, List, [], ◌∷◌, ◌++◌, length, min, take, Some, None, refl, sym, ◌∙◌, ap, subst, arith, add-one}
use Rattle.std.specs.Prelude.{slice_get, ◌*◌, ◌^◌}
use Rattle.std.specs.List.{flat_map}
use Rattle.std.specs.declared.cmp.Ordering.{Ordering}
use Rattle.std.specs.Ordering.{is_eq}
use Rattle.std.proofs.lemmas.Grind.{flat_map-append}
use Rattle.std.proofs.lemmas.List.{length-map, length-take}
use Rattle.std.proofs.lemmas.List.Sums.{sum_by-append, count_by-le-length}
use Rattle.sut_classes.specs.Groups.{Groups}
use Rattle.sut_measures.specs.Sums.{totals_with, cell_product_group, cell_industry_group}
use Rattle.sut_measures.proofs.TotalsBy.{totals_with-by, totals_by-few}
use Rattle.sut_measures.specs.declared.measures.Measure.{Measure}
use Rattle.sut_measures.specs.declared.measures.Measure.TheVariants as measure
use Rattle.sut_tables.specs.Problems.{made_live}
use Rattle.sut_tables.specs.Tallies.{times_in}
use Rattle.sut_tables.specs.LiveTallies.{account_cmp, measure_cmp, ends_of, CountsLess, CountsMore, HasRoom}
use Rattle.sut_tables.specs.declared.live_tallies.LiveTallies.{LiveTallies}

-- ---- the first of a list, and one more

pub take-more : {X : Type 0} (xs : List X) (k : ℕ) (x : X) → slice_get xs k ≡ Some x → take (k + 1) xs ≡ take k xs ++ x ∷ []
take-more xs k x e = rw add-one (by xs k e)
  where
    by : {X : Type 0} {x : X} (xs : List X) (k : ℕ) → slice_get xs k ≡ Some x → take (suc k) xs ≡ take k xs ++ x ∷ []
    by [] k e = absurd cc
    by (y ∷ ys) zero e = cc
    by (y ∷ ys) (suc k) e = ap (λ zs. y ∷ zs) (by ys k e)

pub take-past : {X : Type 0} (xs : List X) (k : ℕ) → slice_get xs k ≡ None → take k xs ≡ xs
take-past [] zero e = refl
take-past [] (suc k) e = refl
take-past (y ∷ ys) zero e = absurd cc
take-past (y ∷ ys) (suc k) e = ap (λ zs. y ∷ zs) (take-past ys k e)

pub take-past-more : {X : Type 0} (xs : List X) (k : ℕ) → slice_get xs k ≡ None → take (k + 1) xs ≡ take k xs
take-past-more xs k e = rw add-one (by xs k e)
  where
    by : {X : Type 0} (xs : List X) (k : ℕ) → slice_get xs k ≡ None → take (suc k) xs ≡ take k xs
    by [] zero e = refl
    by [] (suc k) e = refl
    by (y ∷ ys) zero e = absurd cc
    by (y ∷ ys) (suc k) e = ap (λ zs. y ∷ zs) (by ys k e)

pub take-all : {X : Type 0} (xs : List X) (k : ℕ) → length xs ≤ k → take k xs ≡ xs
take-all [] zero h = refl
take-all [] (suc k) h = refl
take-all (y ∷ ys) zero h = absurd (omega (arith, h))
take-all (y ∷ ys) (suc k) h = ap (λ zs. y ∷ zs) (take-all ys k (omega (arith, h)))

pub in-reach : {X : Type 0} (xs : List X) (k : ℕ) (x : X) → slice_get xs k ≡ Some x → k < length xs
in-reach [] k x e = absurd cc
in-reach (y ∷ ys) zero x e = omega arith
in-reach (y ∷ ys) (suc k) x e = omega (arith, in-reach ys k x e)

-- ---- counts

times-append : {K : Type 0} (cmp : K → K → Ordering) (xs ys : List K) (q : K) → times_in cmp (xs ++ ys) q ≡ times_in cmp xs q + times_in cmp ys q
times-append cmp xs ys q = sum_by-append _ xs ys

pub count-more : (gs : Groups) (a b c : LiveTallies) (xs ys : List Measure) → CountsMore gs a b xs → CountsMore gs b c ys → CountsMore gs a c (xs ++ ys)
count-more gs a b c xs ys m n = record {
  measures = λ q. n.measures q ∙ ap (λ x. x + times_in measure_cmp ys q) (m.measures q) ∙ more _ _ _ _ (times-append measure_cmp xs ys q);
  accounts = λ q.
      n.accounts q ∙ ap (λ x. x + times_in account_cmp (flat_map (ends_of gs) ys) q) (m.accounts q)
      ∙ more _ _ _ _ (ap (λ zs. times_in account_cmp zs q) (flat_map-append (ends_of gs) xs ys) ∙ times-append account_cmp (flat_map (ends_of gs) xs) (flat_map (ends_of gs) ys) q);
}
  where
    more : (a x y z : ℕ) → z ≡ x + y → a + x + y ≡ a + z
    more a x y z e = omega (arith, e)

pub count-less : (gs : Groups) (a b c : LiveTallies) (xs ys : List Measure) → CountsLess gs a b xs → CountsLess gs b c ys → CountsLess gs a c (xs ++ ys)
count-less gs a b c xs ys m n = record {
  measures = λ q. n.measures q ∙ ap (λ x. x - times_in measure_cmp ys q) (m.measures q) ∙ less _ _ _ _ (times-append measure_cmp xs ys q);
  accounts = λ q.
      n.accounts q ∙ ap (λ x. x - times_in account_cmp (flat_map (ends_of gs) ys) q) (m.accounts q)
      ∙ less _ _ _ _ (ap (λ zs. times_in account_cmp zs q) (flat_map-append (ends_of gs) xs ys) ∙ times-append account_cmp (flat_map (ends_of gs) xs) (flat_map (ends_of gs) ys) q);
}
  where
    less : (a x y z : ℕ) → z ≡ x + y → a - x - y ≡ a - z
    less a x y z e = omega (arith, e)

-- counted less again, the counts are as before
pub count-undone : (gs : Groups) (a b c : LiveTallies) (xs : List Measure) → CountsMore gs a b xs → CountsLess gs b c xs → CountsMore gs a c []
count-undone gs a b c xs m n = record {
  measures = λ q. n.measures q ∙ ap (λ x. x - times_in measure_cmp xs q) (m.measures q) ∙ undone _ _;
  accounts = λ q. n.accounts q ∙ ap (λ x. x - times_in account_cmp (flat_map (ends_of gs) xs) q) (m.accounts q) ∙ undone _ _;
}
  where
    undone : (a x : ℕ) → a + x - x ≡ a + 0
    undone a x = omega arith

-- nothing more
pub count-same : (gs : Groups) (a b c : LiveTallies) (xs : List Measure) → CountsMore gs a b xs → CountsMore gs b c [] → CountsMore gs a c xs
count-same gs a b c xs m n = record {
  measures = λ q. n.measures q ∙ none _ ∙ m.measures q;
  accounts = λ q. n.accounts q ∙ none _ ∙ m.accounts q;
}
  where
    none : (a : ℕ) → a + 0 ≡ a
    none a = omega arith

-- where there is room for 18, there is room for 2 after at most 8 measures
pub ends-twice : (gs : Groups) (xs : List Measure) → length (flat_map (ends_of gs) xs) ≡ 2 * length xs
ends-twice gs [] = refl
ends-twice gs (x ∷ xs) = omega (arith, ends-twice gs xs)

pub room-left : (gs : Groups) (a b : LiveTallies) (xs : List Measure) → HasRoom 18 a → CountsMore gs a b xs → length xs ≤ 8 → HasRoom 2 b
room-left gs a b xs room m few = record {
  measures = λ q. fits _ _ _ (m.measures q) (count_by-le-length (λ x. is_eq (measure_cmp x q)) xs) few (room.measures q);
  accounts = λ q. fit _ _ _ _ (m.accounts q) (count_by-le-length (λ x. is_eq (account_cmp x q)) (flat_map (ends_of gs) xs)) (ends-twice gs xs) few (room.accounts q);
}
  where
    fits : (b a x : ℕ) {n : ℕ} → b ≡ a + x → x ≤ n → n ≤ 8 → a + 18 < 2 ^ 32 → b + 2 < 2 ^ 32
    fits b a x e h f r = omega (arith, e, h, f, r)

    fit : (b a x n : ℕ) {k : ℕ} → b ≡ a + x → x ≤ n → n ≡ 2 * k → k ≤ 8 → a + 18 < 2 ^ 32 → b + 2 < 2 ^ 32
    fit b a x n e h g f r = omega (arith, e, h, g, f, r)

-- a row makes at most 9 measures live
pub made-few : (gs : Groups) (m : Measure) → length (made_live gs m) ≤ 9
made-few gs (measure.Cell c) =
    few _ _ (length-map (totals_with gs c) measure.Total) (subst (λ us. length us ≤ 8) (sym (totals_with-by gs c)) (totals_by-few (cell_product_group gs c) (cell_industry_group gs c) c))
  where
    few : (a b : ℕ) → a ≡ b → b ≤ 8 → suc a ≤ 9
    few a b e h = omega (arith, e, h)
made-few gs (measure.Total t) = omega arith

-- before one of them is reached, at most 8 are counted
pub first-few : (gs : Groups) (m : Measure) (xs : List Measure) (k : ℕ) (x : Measure) → xs ≡ made_live gs m → slice_get xs k ≡ Some x → (k < length xs) × (k ≤ 8) × (length (take k xs) ≤ 8)
first-few gs m xs k x e h =
    let reach = in-reach xs k x h in
    let few = subst (λ ys. length ys ≤ 9) (sym e) (made-few gs m) in
    let short : k ≤ 8 = omega (arith, reach, few) in
    (reach, short, at-most _ _ (length-take k xs) short)
  where
    at-most : (a b : ℕ) → a ≡ min b (length xs) → b ≤ 8 → a ≤ 8
    at-most a b e h = omega (arith, e, h)
