-- The lines of the accounts, and the numbers that they spell.
use Rattle.std.proofs.Common.{◌≡◌, ◌<◌, ◌^◌, ◌++◌, ◌∷◌, ◌∙◌, Bool, true, ℤ, pos, negsuc, neg_ℤ, ◌+ℤ◌, ◌-ℤ◌, List, [], cond, map, refl, sym, ap, append_assoc, append-nil, arith, codes}
use Rattle.std.specs.Prelude.{All, filter}
use Rattle.std.specs.List.{flat_map}
use Rattle.std.proofs.lemmas.Int.{ints}
use Rattle.std.proofs.lemmas.List.Elements.{filter-append}
use lib.Signed.{mag}
use Rattle.sut_text.specs.Number.{whole_of}
use Rattle.sut_text.specs.Text.{whole_text}
use Rattle.sut_text.proofs.Spelling.{whole-spelled}
use Rattle.sut_records.specs.RecordList.{Fields}
use Rattle.sut_measures.specs.Sums.{is_bought}
use Rattle.sut_measures.specs.declared.measures.Measure.{Measure}
use Rattle.sut_measures.specs.declared.measures.Measure.TheVariants as measure
use Rattle.sut_measures.specs.declared.measures.Total.TheVariants as total
use Rattle.sut_tables.specs.CellSums.{IsUpTo}
use Rattle.sut_tables.specs.Gdp.{expenditure, income, is_any_industry, is_make, is_tax, production}
use Rattle.sut_tables.specs.ProblemFacts.{ProblemFacts}
use Rattle.sut_tables.specs.ProblemRules.{IsKept}
use Rattle.sut_tables.specs.Problems.{IsTableOf}
use Rattle.sut_tables.specs.Rows.{InRange}
use Rattle.sut_tables.specs.TableFacts.{TableFacts}
use Rattle.sut_tables.specs.Values.{int_sum_by, sum_where, value_of}
use Rattle.sut_tables.specs.declared.tables.Held.{Held}
use Rattle.sut_tables.proofs.IntSums.{sum-append, sum-map, sum-same}
use Rattle.sut_readback.proofs.Bounds.{value-up_to, where-up_to}
use Rattle.sut_write.specs.Accounts.{account_lines, entry, expenditure_entries, final_entry, income_entries, industry_entries, item_entry, product_entries, production_entries}
use Rattle.sut_write.specs.Numbers.{all_inputs, all_outputs, all_taxes, total_of}
use Rattle.sut_write.specs.Places.{finals, industries, items, products}
use Rattle.sut_write.proofs.GdpBounds.{expenditure-up_to, income-up_to, production-up_to}
use Rattle.sut_laws.specs.PrintedAccounts.{AddsUp, is_of, or_zero, signed_number}
use Rattle.sut_laws.proofs.GdpSums.{expenditure-is, income-is, inputs-are, outputs-are, production-is, taxes-are}

-- ---- the lines that pass a test

module _ (test : Fields → Bool) where
  five : (a b c d e a' b' c' d' e' : List Fields) → filter test a ≡ a' → filter test b ≡ b' → filter test c ≡ c' → filter test d ≡ d' → filter test e ≡ e'
      → filter test ((((a ++ b) ++ c) ++ d) ++ e) ≡ (((a' ++ b') ++ c') ++ d') ++ e'
  five a b c d e a' b' c' d' e' f g h i j =
      filter-append test (((a ++ b) ++ c) ++ d) e
      ∙ ap (λ l. l ++ filter test e) (filter-append test ((a ++ b) ++ c) d ∙ ap (λ l. l ++ filter test d) (filter-append test (a ++ b) c ∙ ap (λ l. l ++ filter test c) (filter-append test a b)))
      ∙ (λ k. (((f k ++ g k) ++ h k) ++ i k) ++ j k)

  kept-map : {I : Type 0} (f : I → Fields) → ((i : I) → test (f i) ≡ true) → (is : List I) → filter test (map f is) ≡ map f is
  kept-map f e [] = refl
  kept-map f e (i ∷ is) =
      ap (λ b. cond b (f i ∷ filter test (map f is)) (filter test (map f is))) (e i) ∙ ap (λ l. f i ∷ l) (kept-map f e is)

  none-flat : {I : Type 0} (f : I → List Fields) → ((i : I) → filter test (f i) ≡ []) → (is : List I) → filter test (flat_map f is) ≡ []
  none-flat f e [] = refl
  none-flat f e (i ∷ is) = filter-append test (f i) (flat_map f is) ∙ (λ k. e i k ++ none-flat f e is k)

  none-map : {I : Type 0} (f : I → Fields) → ((i : I) → filter test (f i ∷ []) ≡ []) → (is : List I) → filter test (map f is) ≡ []
  none-map f e [] = refl
  none-map f e (i ∷ is) = filter-append test (f i ∷ []) (map f is) ∙ (λ k. e i k ++ none-map f e is k)

-- ---- what is printed for a number spells it

pub small : (z : ℤ) → IsUpTo (2 ^ 60) z → mag z < 2 ^ 127
small (pos n) r = omega (arith, ints, r.high)
small (negsuc n) r = omega (arith, ints, r.low)

pub wider : (z : ℤ) → IsUpTo (2 ^ 58) z → mag z < 2 ^ 127
wider (pos n) r = omega (arith, ints, r.high)
wider (negsuc n) r = omega (arith, ints, r.low)

spelled : (z : ℤ) → mag z < 2 ^ 127 → or_zero (whole_of (whole_text z)) ≡ z
spelled z h = ap or_zero (whole-spelled z h)

module _ (p : ProblemFacts) (t : TableFacts) (kept : IsKept p) (of : IsTableOf p t) (ranges : All (λ (h : Held). InRange h.number) t.cells) where
  abbrev read : ℤ → ℤ
  read z = or_zero (whole_of (whole_text z))

  value-read : (m : Measure) → read (value_of t m) ≡ value_of t m
  value-read m = spelled (value_of t m) (wider (value_of t m) (value-up_to p t kept of ranges m))

  outputs-read : read (all_outputs p.classes t) ≡ all_outputs p.classes t
  outputs-read = let e = outputs-are p t kept.problem of in ap read e ∙ spelled (sum_where is_make t.cells) (wider _ (where-up_to p t kept of ranges is_make)) ∙ sym e

  inputs-read : read (all_inputs p.classes t) ≡ all_inputs p.classes t
  inputs-read =
      let e = inputs-are p t kept.problem of in
      ap read e ∙ spelled (sum_where (is_bought (λ i. true) is_any_industry) t.cells) (wider _ (where-up_to p t kept of ranges (is_bought (λ i. true) is_any_industry))) ∙ sym e

  taxes-read : read (all_taxes p.classes t) ≡ all_taxes p.classes t
  taxes-read = let e = taxes-are p t kept.problem of in ap read e ∙ spelled (sum_where is_tax t.cells) (wider _ (where-up_to p t kept of ranges is_tax)) ∙ sym e

  -- ---- production

  pub production-adds : AddsUp (codes "production") (account_lines p.classes t)
  production-adds =
      let cs = p.classes in
      let test = is_of (codes "production") in
      record {
        above =
            entry (codes "production") (codes "output") (all_outputs cs t)
            ∷ entry (codes "production") (codes "intermediate") (all_inputs cs t)
            ∷ entry (codes "production") (codes "taxes") (all_taxes cs t)
            ∷ [];
        last = entry (codes "production") (codes "gdp") (production t);
        all =
            five test (production_entries cs t) (income_entries cs t) (expenditure_entries cs t) (flat_map (industry_entries cs t) (industries cs)) (flat_map (product_entries cs t) (products cs))
            (production_entries cs t) [] [] [] [] refl
            (filter-append test (map (item_entry cs t) (items cs)) _ ∙ ap (λ l. l ++ []) (none-map test (item_entry cs t) (λ v. refl) (items cs)))
            (filter-append test (map (final_entry cs t) (finals cs)) _ ∙ ap (λ l. l ++ []) (none-map test (final_entry cs t) (λ f. refl) (finals cs)))
            (none-flat test (industry_entries cs t) (λ j. refl) (industries cs)) (none-flat test (product_entries cs t) (λ i. refl) (products cs));
        name = refl;
        number =
            joined (all_outputs cs t) (all_inputs cs t) (all_taxes cs t) (read (all_outputs cs t)) (read (all_inputs cs t)) (read (all_taxes cs t)) (read (production t)) outputs-read inputs-read taxes-read
            (spelled (production t) (small (production t) (production-up_to p t kept of ranges)) ∙ production-is p t kept.problem of);
      }
    where
      joined : (o i x o' i' x' g : ℤ) → o' ≡ o → i' ≡ i → x' ≡ x → g ≡ (o -ℤ i) +ℤ x → g ≡ o' +ℤ (neg_ℤ i' +ℤ (x' +ℤ pos 0))
      joined o i x o' i' x' g a b c d = omega (arith, ints)

  -- ---- income

  pub income-adds : AddsUp (codes "income") (account_lines p.classes t)
  income-adds =
      let cs = p.classes in
      let test = is_of (codes "income") in
      let parts = map (item_entry cs t) (items cs) in
      let taxes = entry (codes "income") (codes "taxes") (all_taxes cs t) in
      let gdp = entry (codes "income") (codes "gdp") (income t) in
      record {
        above = parts ++ taxes ∷ [];
        last = gdp;
        all =
            five test (production_entries cs t) (income_entries cs t) (expenditure_entries cs t) (flat_map (industry_entries cs t) (industries cs)) (flat_map (product_entries cs t) (products cs))
            [] (parts ++ (taxes ∷ gdp ∷ [])) [] [] [] refl
            (filter-append test parts (taxes ∷ gdp ∷ []) ∙ ap (λ l. l ++ (taxes ∷ gdp ∷ [])) (kept-map test (item_entry cs t) (λ v. refl) (items cs)))
            (filter-append test (map (final_entry cs t) (finals cs)) _ ∙ ap (λ l. l ++ []) (none-map test (final_entry cs t) (λ f. refl) (finals cs)))
            (none-flat test (industry_entries cs t) (λ j. refl) (industries cs)) (none-flat test (product_entries cs t) (λ i. refl) (products cs))
            ∙ three-nil (parts ++ (taxes ∷ gdp ∷ []))
            ∙ sym (append_assoc parts (taxes ∷ []) (gdp ∷ []));
        name = refl;
        number =
            joined (int_sum_by (λ v. total_of t (total.ItemTotal v)) (items cs)) (all_taxes cs t) (int_sum_by signed_number parts) (read (all_taxes cs t)) (int_sum_by signed_number (parts ++ taxes ∷ [])) (read (income t))
            (sum-map signed_number (item_entry cs t) (items cs) ∙ sum-same (λ v. read (total_of t (total.ItemTotal v))) (λ v. total_of t (total.ItemTotal v)) (λ v. value-read (measure.Total (total.ItemTotal v))) (items cs))
            taxes-read (sum-append signed_number parts (taxes ∷ []))
            (spelled (income t) (small (income t) (income-up_to p t kept of ranges)) ∙ income-is p t kept.problem of);
      }
    where
      three-nil : (l : List Fields) → ((l ++ []) ++ []) ++ [] ≡ l
      three-nil l = append-nil ((l ++ []) ++ []) ∙ append-nil (l ++ []) ∙ append-nil l

      joined : (v x v' x' s g : ℤ) → v' ≡ v → x' ≡ x → s ≡ v' +ℤ (x' +ℤ pos 0) → g ≡ v +ℤ x → g ≡ s
      joined v x v' x' s g a b c d = omega (arith, ints)

  -- ---- expenditure

  pub expenditure-adds : AddsUp (codes "expenditure") (account_lines p.classes t)
  expenditure-adds =
      let cs = p.classes in
      let test = is_of (codes "expenditure") in
      let parts = map (final_entry cs t) (finals cs) in
      let imports = entry (codes "expenditure") (codes "imports") (total_of t total.ImportTotal) in
      let gdp = entry (codes "expenditure") (codes "gdp") (expenditure t) in
      record {
        above = parts ++ imports ∷ [];
        last = gdp;
        all =
            five test (production_entries cs t) (income_entries cs t) (expenditure_entries cs t) (flat_map (industry_entries cs t) (industries cs)) (flat_map (product_entries cs t) (products cs))
            [] [] (parts ++ (imports ∷ gdp ∷ [])) [] [] refl
            (filter-append test (map (item_entry cs t) (items cs)) _ ∙ ap (λ l. l ++ []) (none-map test (item_entry cs t) (λ v. refl) (items cs)))
            (filter-append test parts (imports ∷ gdp ∷ []) ∙ ap (λ l. l ++ (imports ∷ gdp ∷ [])) (kept-map test (final_entry cs t) (λ f. refl) (finals cs)))
            (none-flat test (industry_entries cs t) (λ j. refl) (industries cs)) (none-flat test (product_entries cs t) (λ i. refl) (products cs))
            ∙ two-nil (parts ++ (imports ∷ gdp ∷ []))
            ∙ sym (append_assoc parts (imports ∷ []) (gdp ∷ []));
        name = refl;
        number =
            joined (int_sum_by (λ f. total_of t (total.FinalTotal f)) (finals cs)) (total_of t total.ImportTotal) (int_sum_by signed_number parts) (read (total_of t total.ImportTotal)) (int_sum_by signed_number (parts ++ imports ∷ [])) (read (expenditure t))
            (sum-map signed_number (final_entry cs t) (finals cs) ∙ sum-same (λ f. read (total_of t (total.FinalTotal f))) (λ f. total_of t (total.FinalTotal f)) (λ f. value-read (measure.Total (total.FinalTotal f))) (finals cs))
            (value-read (measure.Total total.ImportTotal)) (sum-append signed_number parts (imports ∷ []))
            (spelled (expenditure t) (small (expenditure t) (expenditure-up_to p t kept of ranges)) ∙ expenditure-is p t kept.problem of);
      }
    where
      two-nil : (l : List Fields) → (l ++ []) ++ [] ≡ l
      two-nil l = append-nil (l ++ []) ∙ append-nil l

      joined : (f m f' m' s g : ℤ) → f' ≡ f → m' ≡ m → s ≡ f' +ℤ (neg_ℤ m' +ℤ pos 0) → g ≡ f -ℤ m → g ≡ s
      joined f m f' m' s g a b c d = omega (arith, ints)
