-- Names that were printed are read back, and a name read is the one that is printed of what it gives.
use Rattle.std.proofs.Common.{◌≡◌, ◌≢◌, ◌<◌, ℕ, Bool, true, false, List, [], ◌∷◌, Some, None, Result, Ok, length, refl, sym, ◌∙◌, ap, arith, eq-eqb}
use Rattle.std.specs.Prelude.{IsTrue, nat_lt, ◌==◌, ◌&&◌}
use Rattle.std.proofs.lemmas.Bool.{false≢true, true_from_ne_false, ltb-true}
use Rattle.std.proofs.lemmas.Option.{unwrap_or-slice_get}
use Rattle.std.proofs.lemmas.Result.{IfOk-at_ok}
use Rattle.sut_records.specs.FirstFault.{only_if, or_fault}
use Rattle.sut_classes.specs.ClassLists.{ClassLists}
use Rattle.sut_classes.specs.Places.{column_from, column_of, place_of}
use Rattle.sut_classes.specs.declared.ids.Axis.{Axis}
use Rattle.sut_classes.specs.declared.ids.Axis.TheVariants as axis
use Rattle.sut_classes.specs.declared.ids.Column.{Column}
use Rattle.sut_classes.specs.declared.ids.Column.TheVariants as column
use Rattle.sut_measures.specs.Shapes.{length_of}
use Rattle.sut_measures.specs.DistinctCodes.{HasDistinctCodes}
use Rattle.sut_measures.specs.Fits.{fits, cell_fits, total_fits, account_fits, has_column}
use Rattle.sut_measures.specs.Names.{Name, name3, cell_name, total_name, measure_name, name_fields, code, column_code, AccountName, account2, account_name, account_fields}
use Rattle.sut_measures.specs.ReadNames.{account_of, measure_of, code_in, column_in}
use Rattle.sut_measures.specs.declared.accounts.Account.{Account}
use Rattle.sut_measures.specs.declared.accounts.Account.TheVariants as account
use Rattle.sut_measures.specs.declared.faults.Field.{Field}
use Rattle.sut_measures.specs.declared.faults.Field.TheVariants as field
use Rattle.sut_measures.specs.declared.faults.NameFault.{NameFault}
use Rattle.sut_measures.specs.declared.faults.NameFault.TheVariants as fault
use Rattle.sut_measures.specs.declared.measures.Cell.{Cell}
use Rattle.sut_measures.specs.declared.measures.Cell.TheVariants as cell
use Rattle.sut_measures.specs.declared.measures.Total.{Total}
use Rattle.sut_measures.specs.declared.measures.Total.TheVariants as total
use Rattle.sut_measures.specs.declared.measures.Measure.{Measure}
use Rattle.sut_measures.specs.declared.measures.Measure.TheVariants as measure
use Rattle.sut_measures.proofs.CodePlaces.{place_of-code}
use Rattle.sut_measures.proofs.NamedLemmas.{IsNamed, IsAccountNamed}
use Rattle.sut_measures.proofs.ReadLemmas.{measure_of-named, account_of-named}

both_of : {x y : Bool} → IsTrue (x && y) → IsTrue x × IsTrue y
both_of {x = true} h = (refl, h)
both_of {x = false} h = absurd cc

all_three_of : {x y z : Bool} → IsTrue (x && y && z) → IsTrue x × IsTrue y × IsTrue z
all_three_of h = let p = both_of h in let q = both_of p.0 in (q.0, q.1, p.1)

only_if-true : {R F : Type 0} (b : Bool) (fault : F) (next : Result R F) → IsTrue b → only_if b fault next ≡ next
only_if-true true fault next h = refl
only_if-true false fault next h = absurd cc

-- the field of a place's code gives the place
code_in-code : {R : Type 0} (cs : ClassLists) → HasDistinctCodes cs → (a : Axis) (at : Field) (n : ℕ) (next : ℕ → Result R NameFault)
    → IsTrue (nat_lt n (length_of cs a)) → code_in cs a at (code cs a n) next ≡ next n
code_in-code cs d a at n next h = ap (λ o. or_fault o (fault.UnknownCode at) next) (place_of-code cs d a n h)

final-code-apart : (cs : ClassLists) → HasDistinctCodes cs → (n : ℕ) → IsTrue (nat_lt n (length cs.finals)) → place_of cs axis.Industry (code cs axis.Final n) ≡ None
final-code-apart cs d n h = rw (unwrap_or-slice_get cs.finals n []) (d.apart n [] (ltb-true n (length cs.finals) h))

column_of-code : (cs : ClassLists) → HasDistinctCodes cs → (q : Column) → IsTrue (has_column cs q) → column_of cs (column_code cs q) ≡ Some q
column_of-code cs d (column.Industry j) h = ap (λ o. column_from o (place_of cs axis.Final (code cs axis.Industry j.0))) (place_of-code cs d axis.Industry j.0 h)
column_of-code cs d (column.Final f) h =
    ap (λ o. column_from o (place_of cs axis.Final (code cs axis.Final f.0))) (final-code-apart cs d f.0 h)
    ∙ ap (λ o. column_from None o) (place_of-code cs d axis.Final f.0 h)

column_in-code : {R : Type 0} (cs : ClassLists) → HasDistinctCodes cs → (at : Field) (q : Column) (next : Column → Result R NameFault)
    → IsTrue (has_column cs q) → column_in cs at (column_code cs q) next ≡ next q
column_in-code cs d at q next h = ap (λ o. or_fault o (fault.UnknownCode at) next) (column_of-code cs d q h)

-- classes that have a group are of format 2
no-place : {X : Type 0} (xs : List X) (n : ℕ) → xs ≡ [] → IsTrue (nat_lt n (length xs)) → ⊥
no-place xs n e h = let below : n < length xs = ltb-true n (length xs) h in omega (arith, ap length e)

not-two : (cs : ClassLists) → (cs.format == 2) ≡ false → cs.format ≢ 2
not-two cs e two = false≢true (sym e ∙ eq-eqb cs.format 2 two)

two-from_product_group : (cs : ClassLists) → HasDistinctCodes cs → (n : ℕ) → IsTrue (nat_lt n (length cs.product_groups)) → (cs.format == 2) ≡ true
two-from_product_group cs d n h =
    true_from_ne_false (cs.format == 2) (λ e. no-place cs.product_groups n (d.groups (not-two cs e)).0 h)

two-from_industry_group : (cs : ClassLists) → HasDistinctCodes cs → (n : ℕ) → IsTrue (nat_lt n (length cs.industry_groups)) → (cs.format == 2) ≡ true
two-from_industry_group cs d n h =
    true_from_ne_false (cs.format == 2) (λ e. no-place cs.industry_groups n (d.groups (not-two cs e)).1 h)

cell-name : (cs : ClassLists) → HasDistinctCodes cs → (c : Cell) → IsTrue (cell_fits cs c)
    → measure_of cs (cell_name cs c).kind (cell_name cs c).a (cell_name cs c).b (cell_name cs c).c ≡ Ok (measure.Cell c)
unfolding measure_of
cell-name cs d (cell.Make i j) fit = let p = both_of fit in code_in-code cs d axis.Product field.A i.0 _ p.0 ∙ code_in-code cs d axis.Industry field.B j.0 _ p.1
cell-name cs d (cell.Import i) fit = code_in-code cs d axis.Product field.A i.0 _ fit
cell-name cs d (cell.Basic i q) fit = let p = both_of fit in code_in-code cs d axis.Product field.A i.0 _ p.0 ∙ column_in-code cs d field.B q _ p.1
cell-name cs d (cell.Margin k i q) fit = let p = all_three_of fit in code_in-code cs d axis.Margin field.A k.0 _ p.0 ∙ code_in-code cs d axis.Product field.B i.0 _ p.1 ∙ column_in-code cs d field.C q _ p.2
cell-name cs d (cell.Tax t i q) fit = let p = all_three_of fit in code_in-code cs d axis.Tax field.A t.0 _ p.0 ∙ code_in-code cs d axis.Product field.B i.0 _ p.1 ∙ column_in-code cs d field.C q _ p.2
cell-name cs d (cell.Service i k) fit = let p = all_three_of fit in code_in-code cs d axis.Product field.A i.0 _ p.0 ∙ code_in-code cs d axis.Margin field.B k.0 _ p.1 ∙ only_if-true (cell_fits cs (cell.Service i k)) _ _ fit
cell-name cs d (cell.Added v j) fit = let p = both_of fit in code_in-code cs d axis.Item field.A v.0 _ p.0 ∙ code_in-code cs d axis.Industry field.B j.0 _ p.1

total-name : (cs : ClassLists) → HasDistinctCodes cs → (t : Total) → IsTrue (total_fits cs t)
    → measure_of cs (total_name cs t).kind (total_name cs t).a (total_name cs t).b (total_name cs t).c ≡ Ok (measure.Total t)
unfolding measure_of
total-name cs d (total.Purchase i q) fit = let p = both_of fit in code_in-code cs d axis.Product field.A i.0 _ p.0 ∙ column_in-code cs d field.B q _ p.1
total-name cs d (total.Supply i) fit = code_in-code cs d axis.Product field.A i.0 _ fit
total-name cs d (total.Output j) fit = code_in-code cs d axis.Industry field.A j.0 _ fit
total-name cs d (total.Inputs j) fit = code_in-code cs d axis.Industry field.A j.0 _ fit
total-name cs d (total.ValueAdded j) fit = code_in-code cs d axis.Industry field.A j.0 _ fit
total-name cs d (total.ItemTotal v) fit = code_in-code cs d axis.Item field.A v.0 _ fit
total-name cs d (total.FinalTotal f) fit = code_in-code cs d axis.Final field.A f.0 _ fit
total-name cs d total.ImportTotal fit = refl
total-name cs d (total.MarginTotal k) fit = code_in-code cs d axis.Margin field.A k.0 _ fit
total-name cs d (total.MarginProduct k i) fit = let p = both_of fit in code_in-code cs d axis.Margin field.A k.0 _ p.0 ∙ code_in-code cs d axis.Product field.B i.0 _ p.1
total-name cs d (total.TaxTotal t) fit = code_in-code cs d axis.Tax field.A t.0 _ fit
total-name cs d (total.TaxProduct t i) fit = let p = both_of fit in code_in-code cs d axis.Tax field.A t.0 _ p.0 ∙ code_in-code cs d axis.Product field.B i.0 _ p.1
total-name cs d total.Gdp fit = refl
total-name cs d (total.MakeGroup g j) fit = let p = both_of fit in only_if-true (cs.format == 2) _ _ (two-from_product_group cs d g.0 p.0) ∙ code_in-code cs d axis.ProductGroup field.A g.0 _ p.0 ∙ code_in-code cs d axis.Industry field.B j.0 _ p.1
total-name cs d (total.ImportGroup g) fit = only_if-true (cs.format == 2) _ _ (two-from_product_group cs d g.0 fit) ∙ code_in-code cs d axis.ProductGroup field.A g.0 _ fit
total-name cs d (total.PurchaseGroup g q) fit = let p = both_of fit in only_if-true (cs.format == 2) _ _ (two-from_product_group cs d g.0 p.0) ∙ code_in-code cs d axis.ProductGroup field.A g.0 _ p.0 ∙ column_in-code cs d field.B q _ p.1
total-name cs d (total.MarginGroup k g) fit = let p = both_of fit in only_if-true (cs.format == 2) _ _ (two-from_product_group cs d g.0 p.1) ∙ code_in-code cs d axis.Margin field.A k.0 _ p.0 ∙ code_in-code cs d axis.ProductGroup field.B g.0 _ p.1
total-name cs d (total.TaxGroup t g) fit = let p = both_of fit in only_if-true (cs.format == 2) _ _ (two-from_product_group cs d g.0 p.1) ∙ code_in-code cs d axis.Tax field.A t.0 _ p.0 ∙ code_in-code cs d axis.ProductGroup field.B g.0 _ p.1
total-name cs d (total.ItemGroup v h) fit = let p = both_of fit in only_if-true (cs.format == 2) _ _ (two-from_industry_group cs d h.0 p.1) ∙ code_in-code cs d axis.Item field.A v.0 _ p.0 ∙ code_in-code cs d axis.IndustryGroup field.B h.0 _ p.1

-- the name of a measure that fits is read as this measure
pub measure_of-name : (cs : ClassLists) → HasDistinctCodes cs → (m : Measure) → IsTrue (fits cs m)
    → measure_of cs (measure_name cs m).kind (measure_name cs m).a (measure_name cs m).b (measure_name cs m).c ≡ Ok m
measure_of-name cs d (measure.Cell c) h = cell-name cs d c h
measure_of-name cs d (measure.Total t) h = total-name cs d t h

-- the name of an account that fits is read as this account
pub account_of-name : (cs : ClassLists) → HasDistinctCodes cs → (x : Account) → IsTrue (account_fits cs x)
    → account_of cs (account_name cs x).word (account_name cs x).a (account_name cs x).b ≡ Ok x
unfolding account_of
account_of-name cs d (account.Supplied i) fit = code_in-code cs d axis.Product field.A i.0 _ fit
account_of-name cs d (account.Used i) fit = code_in-code cs d axis.Product field.A i.0 _ fit
account_of-name cs d (account.Bought i q) fit = let p = both_of fit in code_in-code cs d axis.Product field.A i.0 _ p.0 ∙ column_in-code cs d field.B q _ p.1
account_of-name cs d (account.Buying j) fit = code_in-code cs d axis.Industry field.A j.0 _ fit
account_of-name cs d (account.Adding j) fit = code_in-code cs d axis.Industry field.A j.0 _ fit
account_of-name cs d (account.Industry j) fit = code_in-code cs d axis.Industry field.A j.0 _ fit
account_of-name cs d (account.Making j) fit = code_in-code cs d axis.Industry field.A j.0 _ fit
account_of-name cs d (account.Final f) fit = code_in-code cs d axis.Final field.A f.0 _ fit
account_of-name cs d (account.Item v) fit = code_in-code cs d axis.Item field.A v.0 _ fit
account_of-name cs d account.Imports fit = refl
account_of-name cs d (account.Services k) fit = code_in-code cs d axis.Margin field.A k.0 _ fit
account_of-name cs d (account.Margins k) fit = code_in-code cs d axis.Margin field.A k.0 _ fit
account_of-name cs d (account.MarginOf k i) fit = let p = both_of fit in code_in-code cs d axis.Margin field.A k.0 _ p.0 ∙ code_in-code cs d axis.Product field.B i.0 _ p.1
account_of-name cs d (account.Taxes t) fit = code_in-code cs d axis.Tax field.A t.0 _ fit
account_of-name cs d (account.TaxOf t i) fit = let p = both_of fit in code_in-code cs d axis.Tax field.A t.0 _ p.0 ∙ code_in-code cs d axis.Product field.B i.0 _ p.1
account_of-name cs d account.Spending fit = refl
account_of-name cs d account.Income fit = refl
account_of-name cs d (account.MakingIn g j) fit = let p = both_of fit in only_if-true (cs.format == 2) _ _ (two-from_product_group cs d g.0 p.0) ∙ code_in-code cs d axis.ProductGroup field.A g.0 _ p.0 ∙ code_in-code cs d axis.Industry field.B j.0 _ p.1
account_of-name cs d (account.Importing g) fit = only_if-true (cs.format == 2) _ _ (two-from_product_group cs d g.0 fit) ∙ code_in-code cs d axis.ProductGroup field.A g.0 _ fit
account_of-name cs d (account.BuyingIn g q) fit = let p = both_of fit in only_if-true (cs.format == 2) _ _ (two-from_product_group cs d g.0 p.0) ∙ code_in-code cs d axis.ProductGroup field.A g.0 _ p.0 ∙ column_in-code cs d field.B q _ p.1
account_of-name cs d (account.MarginIn k g) fit = let p = both_of fit in only_if-true (cs.format == 2) _ _ (two-from_product_group cs d g.0 p.1) ∙ code_in-code cs d axis.Margin field.A k.0 _ p.0 ∙ code_in-code cs d axis.ProductGroup field.B g.0 _ p.1
account_of-name cs d (account.TaxIn t g) fit = let p = both_of fit in only_if-true (cs.format == 2) _ _ (two-from_product_group cs d g.0 p.1) ∙ code_in-code cs d axis.Tax field.A t.0 _ p.0 ∙ code_in-code cs d axis.ProductGroup field.B g.0 _ p.1
account_of-name cs d (account.ItemIn v h) fit = let p = both_of fit in only_if-true (cs.format == 2) _ _ (two-from_industry_group cs d h.0 p.1) ∙ code_in-code cs d axis.Item field.A v.0 _ p.0 ∙ code_in-code cs d axis.IndustryGroup field.B h.0 _ p.1

-- a name read is the one that is printed of what it gives, and that fits
pub name-measure_of : (cs : ClassLists) (kind a b c : List ℕ) (m : Measure) → measure_of cs kind a b c ≡ Ok m → name_fields cs m ≡ kind ∷ a ∷ b ∷ c ∷ []
name-measure_of cs kind a b c m e =
    let named = IfOk-at_ok (IsNamed cs (name3 kind a b c)) e (measure_of-named cs kind a b c) in
    ap (λ (n : Name). n.kind ∷ n.a ∷ n.b ∷ n.c ∷ []) named.1

pub fits-measure_of : (cs : ClassLists) (kind a b c : List ℕ) (m : Measure) → measure_of cs kind a b c ≡ Ok m → IsTrue (fits cs m)
fits-measure_of cs kind a b c m e = (IfOk-at_ok (IsNamed cs (name3 kind a b c)) e (measure_of-named cs kind a b c)).0

pub name-account_of : (cs : ClassLists) (word a b : List ℕ) (x : Account) → account_of cs word a b ≡ Ok x → account_fields cs x ≡ word ∷ a ∷ b ∷ []
name-account_of cs word a b x e =
    let named = IfOk-at_ok (IsAccountNamed cs (account2 word a b)) e (account_of-named cs word a b) in
    ap (λ (n : AccountName). n.word ∷ n.a ∷ n.b ∷ []) named.1

pub account_fits-account_of : (cs : ClassLists) (word a b : List ℕ) (x : Account) → account_of cs word a b ≡ Ok x → IsTrue (account_fits cs x)
account_fits-account_of cs word a b x e = (IfOk-at_ok (IsAccountNamed cs (account2 word a b)) e (account_of-named cs word a b)).0
