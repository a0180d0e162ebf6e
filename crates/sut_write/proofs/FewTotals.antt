-- Few totals fit the classes: each has a rank of its own, below 247,808.
use Rattle.std.proofs.Common.{◌≡◌, ℕ, ◌+◌, ◌-◌, ◌*◌, ◌/◌, ◌%◌, ◌<◌, ◌≤◌, List, [], ◌∷◌, length, map, get_or, eqb, Bool, true, false, ◌||◌, nat_lt, if◌then◌else◌, refl, sym, ap, subst, ◌∙◌, arith, inl, inr}
use Rattle.std.specs.Prelude.{All}
use Rattle.std.specs.List.{AllByRecursion, IsDistinct, list_any}
use Rattle.std.proofs.lemmas.Bool.{cases_Bool, eqb-true, lt-ltb}
use Rattle.std.proofs.lemmas.Bool.Decides.{nat_tests}
use Rattle.std.proofs.lemmas.List.{length-map}
use Rattle.std.proofs.lemmas.List.Elements.{All-head, All-tail}
use Rattle.std.proofs.lemmas.Map.Steps.{length-le_from_distinct_below}
use Rattle.sut_classes.specs.ClassLists.{ClassLists}
use Rattle.sut_classes.specs.Kept.{IsClasses}
use Rattle.sut_classes.specs.declared.ids.Column.{Column}
use Rattle.sut_measures.specs.Fits.{has_column, has_industry, has_industry_group, has_item, has_margin, has_product, has_product_group, has_tax, total_fits}
use Rattle.sut_measures.specs.Keys.{total_key}
use Rattle.sut_measures.specs.declared.measures.Total.{Total}
use Rattle.sut_measures.specs.declared.measures.Total.TheVariants as total
use Rattle.sut_tables.specs.InOrder.{same_key}
use Rattle.sut_tables.proofs.Ordered.{After, Sorted, differ_back, same-refl}
use Rattle.sut_cert.proofs.FewAccounts.{Few, below, column-back, column-below, column_at, column_digit, few-classes}
use Rattle.sut_cert.proofs.Ranges.{both}

-- ---- elements with ranks of their own below a bound are few

module _ {X : Type 0} (key : X → List ℕ) (fits : X → Bool) (rank : X → ℕ) (bound : ℕ) (low : (x : X) → fits x ≡ true → rank x < bound) (apart : (x y : X) → fits x ≡ true → fits y ≡ true → rank x ≡ rank y → x ≡ y) where
  differs : (x y : X) → fits x ≡ true → fits y ≡ true → same_key (key x) (key y) ≡ false → eqb (rank x) (rank y) ≡ false
  differs x y f g other = elim (cases_Bool (eqb (rank x) (rank y))) [
    | inl same ↦ absurd (by (apart x y f g (eqb-true (rank x) (rank y) same)))
    | inr other_rank ↦ other_rank
  ]
    where
      by : x ≡ y → ⊥
      by e = let clash : true ≡ false = sym (same-refl (key x)) ∙ ap (λ z. same_key (key x) (key z)) e ∙ other in cc

  later : (x : X) (ys : List X) → fits x ≡ true → All (λ y. fits y ≡ true) ys → After key (key x) ys → AllByRecursion (λ r. eqb (rank x) r ≡ false) (map rank ys)
  later x [] f all after = tt
  later x (y ∷ ys) f all after = (
    differs x y f (All-head (λ y. fits y ≡ true) y ys all) (differ_back (key x) (key y) after.0),
    later x ys f (All-tail (λ y. fits y ≡ true) y ys all) after.1,
  )

  distinct : (xs : List X) → Sorted key xs → All (λ x. fits x ≡ true) xs → IsDistinct eqb (map rank xs)
  unfolding IsDistinct
  distinct [] s all = tt
  distinct (x ∷ xs) s all =
      (later x xs (All-head (λ x. fits x ≡ true) x xs all) (All-tail (λ x. fits x ≡ true) x xs all) s.0, distinct xs s.1 (All-tail (λ x. fits x ≡ true) x xs all))

  all-below : (xs : List X) → All (λ x. fits x ≡ true) xs → (q : ℕ) → list_any (eqb q) (map rank xs) ≡ true → q < bound
  all-below [] all q h = cc
  all-below (x ∷ xs) all q h = by (eqb q (rank x)) refl h (all-below xs (All-tail (λ x. fits x ≡ true) x xs all) q)
    where
      by : (b : Bool) → eqb q (rank x) ≡ b → (b || list_any (eqb q) (map rank xs)) ≡ true → (list_any (eqb q) (map rank xs) ≡ true → q < bound) → q < bound
      by true e h rest = subst (λ n. n < bound) (sym (eqb-true q (rank x) e)) (low x (All-head (λ x. fits x ≡ true) x xs all))
      by false e h rest = rest h

  few-ranked : (xs : List X) → Sorted key xs → All (λ x. fits x ≡ true) xs → length xs ≤ bound
  few-ranked xs s all =
      subst (λ n. n ≤ bound) (length-map xs rank) (length-le_from_distinct_below (map rank xs) bound (distinct xs s all) (all-below xs all))

-- ---- the ranks of totals

-- the totals with this digit, one of each kind of at most 4,096
small_at : ℕ → List Total
small_at d =
    total.Supply (record { 0 = d })
    ∷ total.Output (record { 0 = d })
    ∷ total.Inputs (record { 0 = d })
    ∷ total.ValueAdded (record { 0 = d })
    ∷ total.ItemTotal (record { 0 = d })
    ∷ total.FinalTotal (record { 0 = d })
    ∷ total.ImportTotal
    ∷ total.MarginTotal (record { 0 = d })
    ∷ total.MarginProduct (record { 0 = d / 512 }) (record { 0 = d % 512 })
    ∷ total.TaxTotal (record { 0 = d })
    ∷ total.TaxProduct (record { 0 = d / 512 }) (record { 0 = d % 512 })
    ∷ total.Gdp
    ∷ total.ImportGroup (record { 0 = d })
    ∷ total.MarginGroup (record { 0 = d / 64 }) (record { 0 = d % 64 })
    ∷ total.TaxGroup (record { 0 = d / 64 }) (record { 0 = d % 64 })
    ∷ total.ItemGroup (record { 0 = d / 32 }) (record { 0 = d % 32 })
    ∷ []

made_at : ℕ → Total
made_at d = total.MakeGroup (record { 0 = d / 256 }) (record { 0 = d % 256 })

group_at : ℕ → Total
group_at d = total.PurchaseGroup (record { 0 = d / 288 }) (column_at (d % 288))

purchase_at : ℕ → Total
purchase_at d = total.Purchase (record { 0 = d / 288 }) (column_at (d % 288))

total_at : ℕ → Total
total_at r =
    if nat_lt r 65536 then get_or (small_at (r % 4096)) (r / 4096) total.Gdp
    else if nat_lt r 81920 then made_at (r - 65536)
    else if nat_lt r 100352 then group_at (r - 81920)
    else purchase_at (r - 100352)

rank : Total → ℕ
rank (total.Supply i) = 0 * 4096 + i.0
rank (total.Output j) = 1 * 4096 + j.0
rank (total.Inputs j) = 2 * 4096 + j.0
rank (total.ValueAdded j) = 3 * 4096 + j.0
rank (total.ItemTotal v) = 4 * 4096 + v.0
rank (total.FinalTotal f) = 5 * 4096 + f.0
rank total.ImportTotal = 6 * 4096 + 0
rank (total.MarginTotal k) = 7 * 4096 + k.0
rank (total.MarginProduct k i) = 8 * 4096 + (k.0 * 512 + i.0)
rank (total.TaxTotal t) = 9 * 4096 + t.0
rank (total.TaxProduct t i) = 10 * 4096 + (t.0 * 512 + i.0)
rank total.Gdp = 11 * 4096 + 0
rank (total.ImportGroup g) = 12 * 4096 + g.0
rank (total.MarginGroup k g) = 13 * 4096 + (k.0 * 64 + g.0)
rank (total.TaxGroup t g) = 14 * 4096 + (t.0 * 64 + g.0)
rank (total.ItemGroup v h) = 15 * 4096 + (v.0 * 32 + h.0)
rank (total.MakeGroup g j) = 65536 + (g.0 * 256 + j.0)
rank (total.PurchaseGroup g q) = 81920 + (g.0 * 288 + column_digit q)
rank (total.Purchase i q) = 100352 + (i.0 * 288 + column_digit q)

past : (n m : ℕ) → m ≤ n → nat_lt n m ≡ false
past n m l = grind (arith, nat_tests)

-- the total of a rank that lies below the bound
record IsRanked (r : ℕ) (u : Total) : Type 0 where
  low : r < 247808
  back : total_at r ≡ u

small : (k d : ℕ) (u : Total) → k < 16 → d < 4096 → get_or (small_at d) k total.Gdp ≡ u → IsRanked (k * 4096 + d) u
unfolding total_at
small k d u below within same = record {
  low = omega arith;
  back =
      let e : (k * 4096 + d) / 4096 ≡ k = omega arith in
      let f : (k * 4096 + d) % 4096 ≡ d = omega arith in
      rw (lt-ltb (k * 4096 + d) 65536 (omega arith)) ((λ t. get_or (small_at (f t)) (e t) total.Gdp) ∙ same);
}

made : (d : ℕ) (u : Total) → d < 16384 → made_at d ≡ u → IsRanked (65536 + d) u
unfolding total_at
made d u within same = record {
  low = omega arith;
  back =
      let e : 65536 + d - 65536 ≡ d = omega arith in
      rw (past (65536 + d) 65536 (omega arith), lt-ltb (65536 + d) 81920 (omega arith)) (ap made_at e ∙ same);
}

grouped : (d : ℕ) (u : Total) → d < 18432 → group_at d ≡ u → IsRanked (81920 + d) u
unfolding total_at
grouped d u within same = record {
  low = omega arith;
  back =
      let e : 81920 + d - 81920 ≡ d = omega arith in
      rw (past (81920 + d) 65536 (omega arith), past (81920 + d) 81920 (omega arith), lt-ltb (81920 + d) 100352 (omega arith)) (ap group_at e ∙ same);
}

purchased : (d : ℕ) (u : Total) → d < 147456 → purchase_at d ≡ u → IsRanked (100352 + d) u
unfolding total_at
purchased d u within same = record {
  low = omega arith;
  back =
      let e : 100352 + d - 100352 ≡ d = omega arith in
      rw (past (100352 + d) 65536 (omega arith), past (100352 + d) 81920 (omega arith), past (100352 + d) 100352 (omega arith)) (ap purchase_at e ∙ same);
}

module _ (cs : ClassLists) (few : Few cs) where
  product : (n : ℕ) → nat_lt n (length cs.products) ≡ true → n < 512
  product n h = below n (length cs.products) 512 h few.products

  industry : (n : ℕ) → nat_lt n (length cs.industries) ≡ true → n < 256
  industry n h = below n (length cs.industries) 256 h few.industries

  margin : (n : ℕ) → nat_lt n (length cs.margins) ≡ true → n < 4
  margin n h = below n (length cs.margins) 4 h few.margins

  tax : (n : ℕ) → nat_lt n (length cs.taxes) ≡ true → n < 8
  tax n h = below n (length cs.taxes) 8 h few.taxes

  group : (n : ℕ) → nat_lt n (length cs.product_groups) ≡ true → n < 64
  group n h = below n (length cs.product_groups) 64 h few.product_groups

  industry-group : (n : ℕ) → nat_lt n (length cs.industry_groups) ≡ true → n < 32
  industry-group n h = below n (length cs.industry_groups) 32 h few.industry_groups

  item : (n : ℕ) → nat_lt n (length cs.items) ≡ true → n < 16
  item n h = below n (length cs.items) 16 h few.items

  final : (n : ℕ) → nat_lt n (length cs.finals) ≡ true → n < 32
  final n h = below n (length cs.finals) 32 h few.finals

  ranked : (u : Total) → total_fits cs u ≡ true → IsRanked (rank u) u
  unfolding rank small_at made_at group_at purchase_at
  ranked (total.Supply i) h = let k = product i.0 h in small 0 i.0 _ (omega arith) (omega arith) refl
  ranked (total.Output j) h = let k = industry j.0 h in small 1 j.0 _ (omega arith) (omega arith) refl
  ranked (total.Inputs j) h = let k = industry j.0 h in small 2 j.0 _ (omega arith) (omega arith) refl
  ranked (total.ValueAdded j) h = let k = industry j.0 h in small 3 j.0 _ (omega arith) (omega arith) refl
  ranked (total.ItemTotal v) h = let k = item v.0 h in small 4 v.0 _ (omega arith) (omega arith) refl
  ranked (total.FinalTotal f) h = let k = final f.0 h in small 5 f.0 _ (omega arith) (omega arith) refl
  ranked total.ImportTotal h = small 6 0 _ (omega arith) (omega arith) refl
  ranked (total.MarginTotal k) h = let l = margin k.0 h in small 7 k.0 _ (omega arith) (omega arith) refl
  ranked (total.MarginProduct k i) h =
      let p = both (has_margin cs k) (has_product cs i) h in
      let m = margin k.0 p.0 in let l = product i.0 p.1 in
      let e : (k.0 * 512 + i.0) / 512 ≡ k.0 = omega arith in
      let f : (k.0 * 512 + i.0) % 512 ≡ i.0 = omega arith in
      small 8 (k.0 * 512 + i.0) _ (omega arith) (omega arith) (λ t. total.MarginProduct (record { 0 = e t }) (record { 0 = f t }))
  ranked (total.TaxTotal t) h = let k = tax t.0 h in small 9 t.0 _ (omega arith) (omega arith) refl
  ranked (total.TaxProduct x i) h =
      let p = both (has_tax cs x) (has_product cs i) h in
      let m = tax x.0 p.0 in let l = product i.0 p.1 in
      let e : (x.0 * 512 + i.0) / 512 ≡ x.0 = omega arith in
      let f : (x.0 * 512 + i.0) % 512 ≡ i.0 = omega arith in
      small 10 (x.0 * 512 + i.0) _ (omega arith) (omega arith) (λ t. total.TaxProduct (record { 0 = e t }) (record { 0 = f t }))
  ranked total.Gdp h = small 11 0 _ (omega arith) (omega arith) refl
  ranked (total.ImportGroup g) h = let k = group g.0 h in small 12 g.0 _ (omega arith) (omega arith) refl
  ranked (total.MarginGroup k g) h =
      let p = both (has_margin cs k) (has_product_group cs g) h in
      let m = margin k.0 p.0 in let l = group g.0 p.1 in
      let e : (k.0 * 64 + g.0) / 64 ≡ k.0 = omega arith in
      let f : (k.0 * 64 + g.0) % 64 ≡ g.0 = omega arith in
      small 13 (k.0 * 64 + g.0) _ (omega arith) (omega arith) (λ t. total.MarginGroup (record { 0 = e t }) (record { 0 = f t }))
  ranked (total.TaxGroup x g) h =
      let p = both (has_tax cs x) (has_product_group cs g) h in
      let m = tax x.0 p.0 in let l = group g.0 p.1 in
      let e : (x.0 * 64 + g.0) / 64 ≡ x.0 = omega arith in
      let f : (x.0 * 64 + g.0) % 64 ≡ g.0 = omega arith in
      small 14 (x.0 * 64 + g.0) _ (omega arith) (omega arith) (λ t. total.TaxGroup (record { 0 = e t }) (record { 0 = f t }))
  ranked (total.ItemGroup v g) h =
      let p = both (has_item cs v) (has_industry_group cs g) h in
      let m = item v.0 p.0 in let l = industry-group g.0 p.1 in
      let e : (v.0 * 32 + g.0) / 32 ≡ v.0 = omega arith in
      let f : (v.0 * 32 + g.0) % 32 ≡ g.0 = omega arith in
      small 15 (v.0 * 32 + g.0) _ (omega arith) (omega arith) (λ t. total.ItemGroup (record { 0 = e t }) (record { 0 = f t }))
  ranked (total.MakeGroup g j) h =
      let p = both (has_product_group cs g) (has_industry cs j) h in
      let m = group g.0 p.0 in let l = industry j.0 p.1 in
      let e : (g.0 * 256 + j.0) / 256 ≡ g.0 = omega arith in
      let f : (g.0 * 256 + j.0) % 256 ≡ j.0 = omega arith in
      made (g.0 * 256 + j.0) _ (omega arith) (λ t. total.MakeGroup (record { 0 = e t }) (record { 0 = f t }))
  ranked (total.PurchaseGroup g q) h =
      let p = both (has_product_group cs g) (has_column cs q) h in
      let m = group g.0 p.0 in let l = column-below cs few q p.1 in
      let e : (g.0 * 288 + column_digit q) / 288 ≡ g.0 = omega arith in
      let f : (g.0 * 288 + column_digit q) % 288 ≡ column_digit q = omega arith in
      grouped (g.0 * 288 + column_digit q) _ (omega arith) ((λ t. total.PurchaseGroup (record { 0 = e t }) (column_at (f t))) ∙ ap (total.PurchaseGroup g) (column-back cs few q p.1))
  ranked (total.Purchase i q) h =
      let p = both (has_product cs i) (has_column cs q) h in
      let m = product i.0 p.0 in let l = column-below cs few q p.1 in
      let e : (i.0 * 288 + column_digit q) / 288 ≡ i.0 = omega arith in
      let f : (i.0 * 288 + column_digit q) % 288 ≡ column_digit q = omega arith in
      purchased (i.0 * 288 + column_digit q) _ (omega arith) ((λ t. total.Purchase (record { 0 = e t }) (column_at (f t))) ∙ ap (total.Purchase i) (column-back cs few q p.1))

-- totals in order that fit are at most 247,808
pub few-totals : (cs : ClassLists) → IsClasses cs → (us : List Total) → Sorted total_key us → All (λ u. total_fits cs u ≡ true) us → length us ≤ 247808
few-totals cs kept us s all =
    let few = few-classes cs kept in
    few-ranked total_key (total_fits cs) rank 247808 (λ u f. (ranked cs few u f).low)
    (λ u w f g e. sym (ranked cs few u f).back ∙ ap total_at e ∙ (ranked cs few w g).back) us s all
