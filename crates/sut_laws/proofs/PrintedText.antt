-- The file of accounts reads back as its lines.
use Rattle.std.proofs.Common.{◌≡◌, ◌<◌, ◌^◌, ◌++◌, ◌∷◌, ℕ, true, false, ℤ, List, [], map, refl, sym, ap, subst, arith, codes}
use Rattle.std.specs.Prelude.{All, IsOk, is_ok}
use Rattle.std.specs.List.{flat_map}
use Rattle.std.proofs.lemmas.List.Elements.{All-append, All-cons, All-head, All-map, All-nil, All-tail, All-weaker}
use Rattle.csv.specs.Reading.{strip_bom}
use lib.Signed.{mag}
use Rattle.sut_text.specs.Number.{whole_of}
use Rattle.sut_text.specs.Text.{file_text, needs_quotes, tagged}
use Rattle.sut_text.proofs.Spelling.{whole-spelled}
use Rattle.sut_records.specs.Plain.{ArePlainRows, IsPlainRow}
use Rattle.sut_records.specs.RecordList.{Fields, field}
use Rattle.sut_records.proofs.PlainText.{printed-file}
use Rattle.sut_classes.specs.Kept.{IsClasses}
use Rattle.sut_classes.specs.declared.ids.FinalId.{FinalId}
use Rattle.sut_classes.specs.declared.ids.IndustryId.{IndustryId}
use Rattle.sut_classes.specs.declared.ids.ItemId.{ItemId}
use Rattle.sut_classes.specs.declared.ids.ProductId.{ProductId}
use Rattle.sut_measures.specs.Names.{final_code, industry_code, item_code, product_code}
use Rattle.sut_measures.specs.Sums.{is_bought}
use Rattle.sut_measures.specs.declared.measures.Measure.TheVariants as measure
use Rattle.sut_measures.specs.declared.measures.Total.TheVariants as total
use Rattle.sut_tables.specs.Gdp.{expenditure, income, is_any_industry, is_make, is_tax, production}
use Rattle.sut_tables.specs.Identities.{is_used_or_serving, used_and_serving}
use Rattle.sut_tables.specs.ProblemFacts.{ProblemFacts}
use Rattle.sut_tables.specs.ProblemRules.{IsKept}
use Rattle.sut_tables.specs.Problems.{IsTableOf}
use Rattle.sut_tables.specs.Rows.{InRange}
use Rattle.sut_tables.specs.TableFacts.{TableFacts}
use Rattle.sut_tables.specs.declared.tables.Held.{Held}
use Rattle.sut_tables.proofs.Lists.{All-flat_map}
use Rattle.sut_readback.proofs.Bounds.{value-small, where-up_to}
use Rattle.sut_readback.proofs.PlainLines.{name-plain, whole-plain}
use Rattle.sut_write.specs.Accounts.{account_lines, accounts_text, entry, expenditure_entries, final_entry, income_entries, industry_entries, item_entry, product_entries, production_entries}
use Rattle.sut_write.specs.Numbers.{all_inputs, all_outputs, all_taxes, total_of}
use Rattle.sut_write.specs.Places.{finals, industries, items, products}
use Rattle.sut_write.proofs.GdpBounds.{expenditure-up_to, income-up_to, production-up_to}
use Rattle.sut_laws.specs.PrintedAccounts.{AccountsReadBack}
use Rattle.sut_laws.proofs.GdpSums.{inputs-are, outputs-are, taxes-are}
use Rattle.sut_laws.proofs.PrintedLines.{small, wider}

-- a line that needs no quotes, and whose third field spells a number
abbrev IsEntry : Fields → Type 0
IsEntry line = IsPlainRow line × IsOk (whole_of (field line 2))

entry-is : (account name : List ℕ) (z : ℤ) → needs_quotes account ≡ false → needs_quotes name ≡ false → mag z < 2 ^ 127 → IsEntry (entry account name z)
entry-is account name z e f h = (record { wide = omega arith; plain = (e, (f, (whole-plain z h, tt))) }, ap is_ok (whole-spelled z h))

plain-rows : (lines : List Fields) → All IsEntry lines → ArePlainRows lines
plain-rows [] all = tt
plain-rows (line ∷ lines) all = ((All-head IsEntry line lines all).0, plain-rows lines (All-tail IsEntry line lines all))

two : (a b : Fields) → IsEntry a → IsEntry b → All IsEntry (a ∷ b ∷ [])
two a b e f = All-cons IsEntry a (b ∷ []) e (All-cons IsEntry b [] f (All-nil IsEntry))

three : (a b c : Fields) → IsEntry a → IsEntry b → IsEntry c → All IsEntry (a ∷ b ∷ c ∷ [])
three a b c e f g = All-cons IsEntry a (b ∷ c ∷ []) e (two b c f g)

no-mark : (lines : List Fields) → strip_bom (file_text (codes "account" ∷ codes "entry" ∷ codes "value" ∷ []) lines) ≡ file_text (codes "account" ∷ codes "entry" ∷ codes "value" ∷ []) lines
unfolding strip_bom
no-mark lines = refl

module _ (p : ProblemFacts) (t : TableFacts) (classes : IsClasses p.classes) (kept : IsKept p) (of : IsTableOf p t) (ranges : All (λ (h : Held). InRange h.number) t.cells) where
  taxes-small : mag (all_taxes p.classes t) < 2 ^ 127
  taxes-small = subst (λ z. mag z < 2 ^ 127) (sym (taxes-are p t kept.problem of)) (wider _ (where-up_to p t kept of ranges is_tax))

  production-entries : All IsEntry (production_entries p.classes t)
  production-entries =
      let cs = p.classes in
      let account = codes "production" in
      let output = entry account (codes "output") (all_outputs cs t) in
      let intermediate = entry account (codes "intermediate") (all_inputs cs t) in
      let taxes = entry account (codes "taxes") (all_taxes cs t) in
      let gdp = entry account (codes "gdp") (production t) in
      All-cons IsEntry output (intermediate ∷ taxes ∷ gdp ∷ [])
      (entry-is account (codes "output") (all_outputs cs t) refl refl
      (subst (λ z. mag z < 2 ^ 127) (sym (outputs-are p t kept.problem of)) (wider _ (where-up_to p t kept of ranges is_make))))
      (three intermediate taxes gdp
      (entry-is account (codes "intermediate") (all_inputs cs t) refl refl
      (subst (λ z. mag z < 2 ^ 127) (sym (inputs-are p t kept.problem of)) (wider _ (where-up_to p t kept of ranges (is_bought (λ i. true) is_any_industry)))))
      (entry-is account (codes "taxes") (all_taxes cs t) refl refl taxes-small)
      (entry-is account (codes "gdp") (production t) refl refl (small (production t) (production-up_to p t kept of ranges))))

  -- the account of a place, whose code needs no quotes
  item-is : (v : ItemId) → IsEntry (item_entry p.classes t v)
  item-is v =
      entry-is (codes "income") (tagged (codes "item") (item_code p.classes v)) (total_of t (total.ItemTotal v)) refl
      (name-plain p.classes classes (measure.Total (total.ItemTotal v))).1.0 (value-small p t kept of ranges (measure.Total (total.ItemTotal v)))

  final-is : (f : FinalId) → IsEntry (final_entry p.classes t f)
  final-is f =
      entry-is (codes "expenditure") (tagged (codes "final") (final_code p.classes f)) (total_of t (total.FinalTotal f)) refl
      (name-plain p.classes classes (measure.Total (total.FinalTotal f))).1.0 (value-small p t kept of ranges (measure.Total (total.FinalTotal f)))

  industry-is : (j : IndustryId) → All IsEntry (industry_entries p.classes t j)
  industry-is j =
      let account = tagged (codes "industry") (industry_code p.classes j) in
      let plain = (name-plain p.classes classes (measure.Total (total.Output j))).1.0 in
      three (entry account (codes "output") (total_of t (total.Output j))) (entry account (codes "inputs") (total_of t (total.Inputs j))) (entry account (codes "value_added") (total_of t (total.ValueAdded j)))
      (entry-is account (codes "output") (total_of t (total.Output j)) plain refl (value-small p t kept of ranges (measure.Total (total.Output j))))
      (entry-is account (codes "inputs") (total_of t (total.Inputs j)) plain refl (value-small p t kept of ranges (measure.Total (total.Inputs j))))
      (entry-is account (codes "value_added") (total_of t (total.ValueAdded j)) plain refl (value-small p t kept of ranges (measure.Total (total.ValueAdded j))))

  product-is : (i : ProductId) → All IsEntry (product_entries p.classes t i)
  product-is i =
      let account = tagged (codes "product") (product_code p.classes i) in
      let plain = (name-plain p.classes classes (measure.Total (total.Supply i))).1.0 in
      two (entry account (codes "supply") (total_of t (total.Supply i))) (entry account (codes "used") (used_and_serving t i))
      (entry-is account (codes "supply") (total_of t (total.Supply i)) plain refl (value-small p t kept of ranges (measure.Total (total.Supply i))))
      (entry-is account (codes "used") (used_and_serving t i) plain refl (wider (used_and_serving t i) (where-up_to p t kept of ranges (is_used_or_serving i))))

  income-entries : All IsEntry (income_entries p.classes t)
  income-entries =
      let cs = p.classes in
      let taxes = entry (codes "income") (codes "taxes") (all_taxes cs t) in
      let gdp = entry (codes "income") (codes "gdp") (income t) in
      All-append IsEntry (map (item_entry cs t) (items cs)) (taxes ∷ gdp ∷ []) (All-map IsEntry (item_entry cs t) (items cs) (λ k v l. item-is _))
      (two taxes gdp (entry-is (codes "income") (codes "taxes") (all_taxes cs t) refl refl taxes-small)
      (entry-is (codes "income") (codes "gdp") (income t) refl refl (small (income t) (income-up_to p t kept of ranges))))

  expenditure-entries : All IsEntry (expenditure_entries p.classes t)
  expenditure-entries =
      let cs = p.classes in
      let imports = entry (codes "expenditure") (codes "imports") (total_of t total.ImportTotal) in
      let gdp = entry (codes "expenditure") (codes "gdp") (expenditure t) in
      All-append IsEntry (map (final_entry cs t) (finals cs)) (imports ∷ gdp ∷ []) (All-map IsEntry (final_entry cs t) (finals cs) (λ k f l. final-is _))
      (two imports gdp (entry-is (codes "expenditure") (codes "imports") (total_of t total.ImportTotal) refl refl (value-small p t kept of ranges (measure.Total total.ImportTotal)))
      (entry-is (codes "expenditure") (codes "gdp") (expenditure t) refl refl (small (expenditure t) (expenditure-up_to p t kept of ranges))))

  pub all-entries : All IsEntry (account_lines p.classes t)
  all-entries =
      let cs = p.classes in
      let a = production_entries cs t in
      let b = income_entries cs t in
      let c = expenditure_entries cs t in
      let d = flat_map (industry_entries cs t) (industries cs) in
      All-append IsEntry (((a ++ b) ++ c) ++ d) (flat_map (product_entries cs t) (products cs))
      (All-append IsEntry ((a ++ b) ++ c) d (All-append IsEntry (a ++ b) c (All-append IsEntry a b production-entries income-entries) expenditure-entries)
      (All-flat_map IsEntry (industry_entries cs t) (industries cs) (λ k j l. industry-is _)))
      (All-flat_map IsEntry (product_entries cs t) (products cs) (λ k i l. product-is _))

pub accounts-read_back : AccountsReadBack
unfolding accounts_text
accounts-read_back p t classes kept of ranges =
    let lines = account_lines p.classes t in
    let all = all-entries p t classes kept of ranges in (
      printed-file (codes "account" ∷ codes "entry" ∷ codes "value" ∷ []) lines (record { wide = omega arith; plain = (refl, (refl, (refl, tt))) }) (plain-rows lines all) (no-mark lines),
      All-weaker IsEntry (λ line. IsOk (whole_of (field line 2))) (λ line e. e.1) lines all,
    )
