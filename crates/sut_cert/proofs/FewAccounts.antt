-- Few accounts fit the classes: each has a rank of its own, below 552,960.
use Rattle.std.proofs.Common.{◌≡◌, ℕ, ◌+◌, ◌-◌, ◌*◌, ◌/◌, ◌%◌, ◌<◌, ◌≤◌, List, [], ◌∷◌, length, map, get_or, eqb, Bool, true, false, ◌||◌, nat_lt, if◌then◌else◌, refl, sym, ap, subst, ◌∙◌, arith, inl, inr}
use Rattle.std.specs.Prelude.{All}
use Rattle.std.specs.List.{AllByRecursion, IsDistinct, list_any}
use Rattle.std.proofs.lemmas.Bool.{cases_Bool, cases_lt, eqb-true, lt-ltb, ltb-true}
use Rattle.std.proofs.lemmas.Bool.Decides.{nat_tests}
use Rattle.std.proofs.lemmas.List.{length-map}
use Rattle.std.proofs.lemmas.List.Elements.{All-head, All-tail}
use Rattle.std.proofs.lemmas.Map.Steps.{length-le_from_distinct_below}
use Rattle.sut_classes.specs.ClassLists.{ClassLists, ProductClass, IndustryClass}
use Rattle.sut_classes.specs.Kept.{IsClasses}
use Rattle.sut_classes.specs.declared.ids.Axis.TheVariants as axis
use Rattle.sut_classes.specs.declared.ids.Column.{Column}
use Rattle.sut_classes.specs.declared.ids.Column.TheVariants as column
use Rattle.sut_measures.specs.Fits.{account_fits, has_column, has_industry, has_industry_group, has_item, has_margin, has_product, has_product_group, has_tax}
use Rattle.sut_measures.specs.Keys.{account_key}
use Rattle.sut_measures.specs.declared.accounts.Account.{Account}
use Rattle.sut_measures.specs.declared.accounts.Account.TheVariants as account
use Rattle.sut_tables.proofs.Conservation.{Sorted-from_ascending}
use Rattle.sut_tables.proofs.Ordered.{After, Sorted, differ_back, same-refl}
use Rattle.sut_tables.specs.InOrder.{same_key}
use Rattle.sut_cert.specs.Certificates.{IsAccountSet}
use Rattle.sut_cert.proofs.Ranges.{both}

-- ---- ranks

pub column_digit : Column → ℕ
column_digit (column.Industry j) = j.0
column_digit (column.Final f) = 256 + f.0

pub column_at : ℕ → Column
column_at c = if nat_lt c 256 then column.Industry (record { 0 = c }) else column.Final (record { 0 = c - 256 })

-- the accounts with this digit, one of each kind; the kinds are numbered from 0
accounts_at : ℕ → List Account
accounts_at d =
    account.Supplied (record { 0 = d })
    ∷ account.Used (record { 0 = d })
    ∷ account.Buying (record { 0 = d })
    ∷ account.Adding (record { 0 = d })
    ∷ account.Industry (record { 0 = d })
    ∷ account.Making (record { 0 = d })
    ∷ account.Final (record { 0 = d })
    ∷ account.Item (record { 0 = d })
    ∷ account.Imports
    ∷ account.Services (record { 0 = d })
    ∷ account.Margins (record { 0 = d })
    ∷ account.MarginOf (record { 0 = d / 512 }) (record { 0 = d % 512 })
    ∷ account.Taxes (record { 0 = d })
    ∷ account.TaxOf (record { 0 = d / 512 }) (record { 0 = d % 512 })
    ∷ account.Spending
    ∷ account.Income
    ∷ account.MakingIn (record { 0 = d / 256 }) (record { 0 = d % 256 })
    ∷ account.Importing (record { 0 = d })
    ∷ account.BuyingIn (record { 0 = d / 288 }) (column_at (d % 288))
    ∷ account.MarginIn (record { 0 = d / 64 }) (record { 0 = d % 64 })
    ∷ account.TaxIn (record { 0 = d / 64 }) (record { 0 = d % 64 })
    ∷ account.ItemIn (record { 0 = d / 32 }) (record { 0 = d % 32 })
    ∷ account.Bought (record { 0 = d / 288 }) (column_at (d % 288))
    ∷ []

kind : Account → ℕ
kind (account.Supplied i) = 0
kind (account.Used i) = 1
kind (account.Buying j) = 2
kind (account.Adding j) = 3
kind (account.Industry j) = 4
kind (account.Making j) = 5
kind (account.Final f) = 6
kind (account.Item v) = 7
kind account.Imports = 8
kind (account.Services m) = 9
kind (account.Margins m) = 10
kind (account.MarginOf m i) = 11
kind (account.Taxes t) = 12
kind (account.TaxOf t i) = 13
kind account.Spending = 14
kind account.Income = 15
kind (account.MakingIn g j) = 16
kind (account.Importing g) = 17
kind (account.BuyingIn g q) = 18
kind (account.MarginIn m g) = 19
kind (account.TaxIn t g) = 20
kind (account.ItemIn v h) = 21
kind (account.Bought i q) = 22

digit : Account → ℕ
digit (account.Supplied i) = i.0
digit (account.Used i) = i.0
digit (account.Buying j) = j.0
digit (account.Adding j) = j.0
digit (account.Industry j) = j.0
digit (account.Making j) = j.0
digit (account.Final f) = f.0
digit (account.Item v) = v.0
digit account.Imports = 0
digit (account.Services m) = m.0
digit (account.Margins m) = m.0
digit (account.MarginOf m i) = m.0 * 512 + i.0
digit (account.Taxes t) = t.0
digit (account.TaxOf t i) = t.0 * 512 + i.0
digit account.Spending = 0
digit account.Income = 0
digit (account.MakingIn g j) = g.0 * 256 + j.0
digit (account.Importing g) = g.0
digit (account.BuyingIn g q) = g.0 * 288 + column_digit q
digit (account.MarginIn m g) = m.0 * 64 + g.0
digit (account.TaxIn t g) = t.0 * 64 + g.0
digit (account.ItemIn v h) = v.0 * 32 + h.0
digit (account.Bought i q) = i.0 * 288 + column_digit q

rank : Account → ℕ
unfolding kind digit
rank a = kind a * 18432 + digit a

-- ---- how large the places are

pub record Few (cs : ClassLists) : Type 0 where
  pub products : length cs.products ≤ 512
  pub industries : length cs.industries ≤ 256
  pub finals : length cs.finals ≤ 32
  pub items : length cs.items ≤ 16
  pub margins : length cs.margins ≤ 4
  pub taxes : length cs.taxes ≤ 8
  pub product_groups : length cs.product_groups ≤ 64
  pub industry_groups : length cs.industry_groups ≤ 32

pub few-classes : (cs : ClassLists) → IsClasses cs → Few cs
few-classes cs kept = record {
  products = subst (λ n. n ≤ 512) (length-map cs.products (λ (p : ProductClass). p.code)) (kept.few axis.Product);
  industries = subst (λ n. n ≤ 256) (length-map cs.industries (λ (j : IndustryClass). j.code)) (kept.few axis.Industry);
  finals = kept.few axis.Final;
  items = kept.few axis.Item;
  margins = kept.few axis.Margin;
  taxes = kept.few axis.Tax;
  product_groups = kept.few axis.ProductGroup;
  industry_groups = kept.few axis.IndustryGroup;
}

pub below : (n len top : ℕ) → nat_lt n len ≡ true → len ≤ top → n < top
below n len top h g = let k = ltb-true n len h in omega arith

pub column-below : (cs : ClassLists) → Few cs → (q : Column) → has_column cs q ≡ true → column_digit q < 288
unfolding column_digit
column-below cs few (column.Industry j) h = let k = below j.0 (length cs.industries) 256 h few.industries in omega arith
column-below cs few (column.Final f) h = let k = below f.0 (length cs.finals) 32 h few.finals in omega arith

pub column-back : (cs : ClassLists) → Few cs → (q : Column) → has_column cs q ≡ true → column_at (column_digit q) ≡ q
unfolding column_digit column_at
column-back cs few (column.Industry j) h = rw (lt-ltb j.0 256 (below j.0 (length cs.industries) 256 h few.industries)) refl
column-back cs few (column.Final f) h = rw (past f.0) (ap (λ n. column.Final (record { 0 = n })) (back f.0))
  where
    past : (n : ℕ) → nat_lt (256 + n) 256 ≡ false
    past n = grind (arith, nat_tests)

    back : (n : ℕ) → 256 + n - 256 ≡ n
    back n = omega arith

-- a kind and a digit of it
record IsPlaced (k d : ℕ) : Type 0 where
  kind : k ≤ 22
  small : k < 22 → d < 18432
  wide : d < 147456

small-kind : (k d : ℕ) → k ≤ 22 → d < 18432 → IsPlaced k d
small-kind k d h g = record { kind = h; small = λ l. g; wide = omega arith }

module _ (cs : ClassLists) (few : Few cs) where
  product : (n : ℕ) → nat_lt n (length cs.products) ≡ true → n < 512
  product n h = below n (length cs.products) 512 h few.products

  industry : (n : ℕ) → nat_lt n (length cs.industries) ≡ true → n < 256
  industry n h = below n (length cs.industries) 256 h few.industries

  margin : (n : ℕ) → nat_lt n (length cs.margins) ≡ true → n < 4
  margin n h = below n (length cs.margins) 4 h few.margins

  tax : (n : ℕ) → nat_lt n (length cs.taxes) ≡ true → n < 8
  tax n h = below n (length cs.taxes) 8 h few.taxes

  group : (n : ℕ) → nat_lt n (length cs.product_groups) ≡ true → n < 64
  group n h = below n (length cs.product_groups) 64 h few.product_groups

  industry-group : (n : ℕ) → nat_lt n (length cs.industry_groups) ≡ true → n < 32
  industry-group n h = below n (length cs.industry_groups) 32 h few.industry_groups

  item : (n : ℕ) → nat_lt n (length cs.items) ≡ true → n < 16
  item n h = below n (length cs.items) 16 h few.items

  final : (n : ℕ) → nat_lt n (length cs.finals) ≡ true → n < 32
  final n h = below n (length cs.finals) 32 h few.finals

  placed : (a : Account) → account_fits cs a ≡ true → IsPlaced (kind a) (digit a)
  unfolding kind digit
  placed (account.Supplied i) h = let k = product i.0 h in small-kind 0 _ (omega arith) (omega arith)
  placed (account.Used i) h = let k = product i.0 h in small-kind 1 _ (omega arith) (omega arith)
  placed (account.Buying j) h = let k = industry j.0 h in small-kind 2 _ (omega arith) (omega arith)
  placed (account.Adding j) h = let k = industry j.0 h in small-kind 3 _ (omega arith) (omega arith)
  placed (account.Industry j) h = let k = industry j.0 h in small-kind 4 _ (omega arith) (omega arith)
  placed (account.Making j) h = let k = industry j.0 h in small-kind 5 _ (omega arith) (omega arith)
  placed (account.Final f) h = let k = final f.0 h in small-kind 6 _ (omega arith) (omega arith)
  placed (account.Item v) h = let k = item v.0 h in small-kind 7 _ (omega arith) (omega arith)
  placed account.Imports h = small-kind 8 0 (omega arith) (omega arith)
  placed (account.Services m) h = let k = margin m.0 h in small-kind 9 _ (omega arith) (omega arith)
  placed (account.Margins m) h = let k = margin m.0 h in small-kind 10 _ (omega arith) (omega arith)
  placed (account.MarginOf m i) h =
      let p = both (has_margin cs m) (has_product cs i) h in
      let k = margin m.0 p.0 in let l = product i.0 p.1 in small-kind 11 _ (omega arith) (omega arith)
  placed (account.Taxes t) h = let k = tax t.0 h in small-kind 12 _ (omega arith) (omega arith)
  placed (account.TaxOf t i) h =
      let p = both (has_tax cs t) (has_product cs i) h in
      let k = tax t.0 p.0 in let l = product i.0 p.1 in small-kind 13 _ (omega arith) (omega arith)
  placed account.Spending h = small-kind 14 0 (omega arith) (omega arith)
  placed account.Income h = small-kind 15 0 (omega arith) (omega arith)
  placed (account.MakingIn g j) h =
      let p = both (has_product_group cs g) (has_industry cs j) h in
      let k = group g.0 p.0 in let l = industry j.0 p.1 in small-kind 16 _ (omega arith) (omega arith)
  placed (account.Importing g) h = let k = group g.0 h in small-kind 17 _ (omega arith) (omega arith)
  placed (account.BuyingIn g q) h =
      let p = both (has_product_group cs g) (has_column cs q) h in
      let k = group g.0 p.0 in let l = column-below cs few q p.1 in small-kind 18 _ (omega arith) (omega arith)
  placed (account.MarginIn m g) h =
      let p = both (has_margin cs m) (has_product_group cs g) h in
      let k = margin m.0 p.0 in let l = group g.0 p.1 in small-kind 19 _ (omega arith) (omega arith)
  placed (account.TaxIn t g) h =
      let p = both (has_tax cs t) (has_product_group cs g) h in
      let k = tax t.0 p.0 in let l = group g.0 p.1 in small-kind 20 _ (omega arith) (omega arith)
  placed (account.ItemIn v g) h =
      let p = both (has_item cs v) (has_industry_group cs g) h in
      let k = item v.0 p.0 in let l = industry-group g.0 p.1 in small-kind 21 _ (omega arith) (omega arith)
  placed (account.Bought i q) h =
      let p = both (has_product cs i) (has_column cs q) h in
      let k = product i.0 p.0 in let l = column-below cs few q p.1 in
      record { kind = omega arith; small = λ e. absurd (omega arith); wide = omega arith }

  -- the kind and the digit tell the account
  unranked : (a : Account) → account_fits cs a ≡ true → get_or (accounts_at (digit a)) (kind a) account.Income ≡ a
  unfolding kind digit accounts_at
  unranked (account.Supplied i) h = refl
  unranked (account.Used i) h = refl
  unranked (account.Buying j) h = refl
  unranked (account.Adding j) h = refl
  unranked (account.Industry j) h = refl
  unranked (account.Making j) h = refl
  unranked (account.Final f) h = refl
  unranked (account.Item v) h = refl
  unranked account.Imports h = refl
  unranked (account.Services m) h = refl
  unranked (account.Margins m) h = refl
  unranked (account.MarginOf m i) h =
      let l = product i.0 (both (has_margin cs m) (has_product cs i) h).1 in
      let e : (m.0 * 512 + i.0) / 512 ≡ m.0 = omega arith in
      let f : (m.0 * 512 + i.0) % 512 ≡ i.0 = omega arith in
      λ t. account.MarginOf (record { 0 = e t }) (record { 0 = f t })
  unranked (account.Taxes t) h = refl
  unranked (account.TaxOf x i) h =
      let l = product i.0 (both (has_tax cs x) (has_product cs i) h).1 in
      let e : (x.0 * 512 + i.0) / 512 ≡ x.0 = omega arith in
      let f : (x.0 * 512 + i.0) % 512 ≡ i.0 = omega arith in
      λ t. account.TaxOf (record { 0 = e t }) (record { 0 = f t })
  unranked account.Spending h = refl
  unranked account.Income h = refl
  unranked (account.MakingIn g j) h =
      let l = industry j.0 (both (has_product_group cs g) (has_industry cs j) h).1 in
      let e : (g.0 * 256 + j.0) / 256 ≡ g.0 = omega arith in
      let f : (g.0 * 256 + j.0) % 256 ≡ j.0 = omega arith in
      λ t. account.MakingIn (record { 0 = e t }) (record { 0 = f t })
  unranked (account.Importing g) h = refl
  unranked (account.BuyingIn g q) h =
      let there = (both (has_product_group cs g) (has_column cs q) h).1 in
      let l = column-below cs few q there in
      let e : (g.0 * 288 + column_digit q) / 288 ≡ g.0 = omega arith in
      let f : (g.0 * 288 + column_digit q) % 288 ≡ column_digit q = omega arith in
      (λ t. account.BuyingIn (record { 0 = e t }) (column_at (f t))) ∙ ap (account.BuyingIn g) (column-back cs few q there)
  unranked (account.MarginIn m g) h =
      let l = group g.0 (both (has_margin cs m) (has_product_group cs g) h).1 in
      let e : (m.0 * 64 + g.0) / 64 ≡ m.0 = omega arith in
      let f : (m.0 * 64 + g.0) % 64 ≡ g.0 = omega arith in
      λ t. account.MarginIn (record { 0 = e t }) (record { 0 = f t })
  unranked (account.TaxIn x g) h =
      let l = group g.0 (both (has_tax cs x) (has_product_group cs g) h).1 in
      let e : (x.0 * 64 + g.0) / 64 ≡ x.0 = omega arith in
      let f : (x.0 * 64 + g.0) % 64 ≡ g.0 = omega arith in
      λ t. account.TaxIn (record { 0 = e t }) (record { 0 = f t })
  unranked (account.ItemIn v g) h =
      let l = industry-group g.0 (both (has_item cs v) (has_industry_group cs g) h).1 in
      let e : (v.0 * 32 + g.0) / 32 ≡ v.0 = omega arith in
      let f : (v.0 * 32 + g.0) % 32 ≡ g.0 = omega arith in
      λ t. account.ItemIn (record { 0 = e t }) (record { 0 = f t })
  unranked (account.Bought i q) h =
      let there = (both (has_product cs i) (has_column cs q) h).1 in
      let l = column-below cs few q there in
      let e : (i.0 * 288 + column_digit q) / 288 ≡ i.0 = omega arith in
      let f : (i.0 * 288 + column_digit q) % 288 ≡ column_digit q = omega arith in
      (λ t. account.Bought (record { 0 = e t }) (column_at (f t))) ∙ ap (account.Bought i) (column-back cs few q there)

  -- ---- ranks tell accounts apart

  split : (k l d e : ℕ) → IsPlaced k d → IsPlaced l e → k * 18432 + d ≡ l * 18432 + e → (k ≡ l) × (d ≡ e)
  split k l d e p q h = by p.kind q.kind p.small q.small h
    where
      by : k ≤ 22 → l ≤ 22 → (k < 22 → d < 18432) → (l < 22 → e < 18432) → k * 18432 + d ≡ l * 18432 + e → (k ≡ l) × (d ≡ e)
      by hk hl sk sl h = elim (cases_lt k 22) [
        | inl low ↦
            let dd = sk low in
            elim (cases_lt l 22) [
              | inl also ↦ let ee = sl also in (omega arith, omega arith)
              | inr high ↦ absurd (omega arith)
            ]
        | inr high ↦ elim (cases_lt l 22) [
          | inl low ↦ let ee = sl low in absurd (omega arith)
          | inr also ↦ (omega arith, omega arith)
        ]
      ]

  apart : (a b : Account) → account_fits cs a ≡ true → account_fits cs b ≡ true → rank a ≡ rank b → a ≡ b
  unfolding rank
  apart a b fa fb e =
      let same = split (kind a) (kind b) (digit a) (digit b) (placed a fa) (placed b fb) e in
      sym (unranked a fa) ∙ (λ i. get_or (accounts_at (same.1 i)) (same.0 i) account.Income) ∙ unranked b fb

  rank-below : (a : Account) → account_fits cs a ≡ true → rank a < 552960
  unfolding rank
  rank-below a fit = by (kind a) (digit a) (placed a fit)
    where
      by : (k d : ℕ) → IsPlaced k d → k * 18432 + d < 552960
      by k d p = let high = p.kind in let wide = p.wide in omega arith

  differs : (a b : Account) → account_fits cs a ≡ true → account_fits cs b ≡ true → same_key (account_key a) (account_key b) ≡ false → eqb (rank a) (rank b) ≡ false
  differs a b fa fb other = elim (cases_Bool (eqb (rank a) (rank b))) [
    | inl same ↦ absurd (by (apart a b fa fb (eqb-true (rank a) (rank b) same)))
    | inr other_rank ↦ other_rank
  ]
    where
      by : a ≡ b → ⊥
      by e = let clash : true ≡ false = sym (same-refl (account_key a)) ∙ ap (λ x. same_key (account_key a) (account_key x)) e ∙ other in cc

  later : (a : Account) (xs : List Account) → account_fits cs a ≡ true → All (λ x. account_fits cs x ≡ true) xs → After account_key (account_key a) xs
      → AllByRecursion (λ r. eqb (rank a) r ≡ false) (map rank xs)
  later a [] fit all after = tt
  later a (x ∷ xs) fit all after = (
    differs a x fit (All-head (λ y. account_fits cs y ≡ true) x xs all) (differ_back (account_key a) (account_key x) after.0),
    later a xs fit (All-tail (λ y. account_fits cs y ≡ true) x xs all) after.1,
  )

  distinct : (xs : List Account) → Sorted account_key xs → All (λ x. account_fits cs x ≡ true) xs → IsDistinct eqb (map rank xs)
  unfolding IsDistinct
  distinct [] s all = tt
  distinct (x ∷ xs) s all =
      (later x xs (All-head (λ y. account_fits cs y ≡ true) x xs all) (All-tail (λ y. account_fits cs y ≡ true) x xs all) s.0, distinct xs s.1 (All-tail (λ y. account_fits cs y ≡ true) x xs all))

  all-below : (xs : List Account) → All (λ x. account_fits cs x ≡ true) xs → (q : ℕ) → list_any (eqb q) (map rank xs) ≡ true → q < 552960
  all-below [] all q h = cc
  all-below (x ∷ xs) all q h = by (eqb q (rank x)) refl h (all-below xs (All-tail (λ y. account_fits cs y ≡ true) x xs all) q)
    where
      by : (b : Bool) → eqb q (rank x) ≡ b → (b || list_any (eqb q) (map rank xs)) ≡ true → (list_any (eqb q) (map rank xs) ≡ true → q < 552960) → q < 552960
      by true e h rest = subst (λ n. n < 552960) (sym (eqb-true q (rank x) e)) (rank-below x (All-head (λ y. account_fits cs y ≡ true) x xs all))
      by false e h rest = rest h

-- accounts in order that fit are at most 552,960
pub few-accounts : (cs : ClassLists) → IsClasses cs → (xs : List Account) → IsAccountSet xs → All (λ x. account_fits cs x ≡ true) xs → length xs ≤ 552960
few-accounts cs kept xs asc all =
    let few = few-classes cs kept in
    subst (λ n. n ≤ 552960) (length-map xs rank)
    (length-le_from_distinct_below (map rank xs) 552960 (distinct cs few xs (Sorted-from_ascending account_key xs asc) all) (all-below cs few xs all))
