-- What a name spells: the measure of a kind and three fields, and the account of a word and two fields.
use Rattle.std.specs.Prelude.{ℕ, ◌==◌, if◌then◌else◌, List, codes, length, Result, Ok, Err}
use Rattle.std.specs.Str.{bytes_eq}
use Rattle.sut_records.specs.FirstFault.{only_if, or_fault}
use Rattle.sut_classes.specs.ClassLists.{ClassLists}
use Rattle.sut_classes.specs.Places.{column_of, place_of}
use Rattle.sut_classes.specs.declared.ids.Axis.{Axis}
use Rattle.sut_classes.specs.declared.ids.Axis.TheVariants as axis
use Rattle.sut_classes.specs.declared.ids.Column.{Column}
use Rattle.sut_measures.specs.Fits.{fits}
use Rattle.sut_measures.specs.declared.measures.Cell.TheVariants as cell
use Rattle.sut_measures.specs.declared.measures.Total.TheVariants as total
use Rattle.sut_measures.specs.declared.measures.Measure.{Measure}
use Rattle.sut_measures.specs.declared.measures.Measure.TheVariants as measure
use Rattle.sut_measures.specs.declared.accounts.Account.{Account}
use Rattle.sut_measures.specs.declared.accounts.Account.TheVariants as account
use Rattle.sut_measures.specs.declared.faults.Field.{Field}
use Rattle.sut_measures.specs.declared.faults.Field.TheVariants as field
use Rattle.sut_measures.specs.declared.faults.NameFault.{NameFault}
use Rattle.sut_measures.specs.declared.faults.NameFault.TheVariants as fault

-- a field that must be a code of an axis, or of a column, or be empty; what comes next takes the place
abbrev pub code_in : {R : Type 0} → ClassLists → Axis → Field → List ℕ → (ℕ → Result R NameFault) → Result R NameFault
code_in cs a at text next = or_fault (place_of cs a text) (fault.UnknownCode at) next

abbrev pub column_in : {R : Type 0} → ClassLists → Field → List ℕ → (Column → Result R NameFault) → Result R NameFault
column_in cs at text next = or_fault (column_of cs text) (fault.UnknownCode at) next

abbrev pub nothing_in : {R : Type 0} → Field → List ℕ → Result R NameFault → Result R NameFault
nothing_in at text next = only_if (length text == 0) (fault.NotEmpty at) next

-- a service names its product's margin kind
abbrev pub with_right_service : ClassLists → Measure → Result Measure NameFault
with_right_service cs m = only_if (fits cs m) fault.WrongService (Ok m)

-- the kinds, in the order of measures; the group kinds of classes that have groups alone
unfoldable pub measure_of : ClassLists → List ℕ → List ℕ → List ℕ → List ℕ → Result Measure NameFault
measure_of cs kind a b c =
    if bytes_eq kind (codes "make") then code_in cs axis.Product field.A a (λ i. code_in cs axis.Industry field.B b (λ j. nothing_in field.C c (Ok (measure.Cell (cell.Make (record { 0 = i }) (record { 0 = j }))))))
    else if bytes_eq kind (codes "import") then code_in cs axis.Product field.A a (λ i. nothing_in field.B b (nothing_in field.C c (Ok (measure.Cell (cell.Import (record { 0 = i }))))))
    else if bytes_eq kind (codes "basic") then code_in cs axis.Product field.A a (λ i. column_in cs field.B b (λ q. nothing_in field.C c (Ok (measure.Cell (cell.Basic (record { 0 = i }) q)))))
    else if bytes_eq kind (codes "margin") then code_in cs axis.Margin field.A a (λ k. code_in cs axis.Product field.B b (λ i. column_in cs field.C c (λ q. Ok (measure.Cell (cell.Margin (record { 0 = k }) (record { 0 = i }) q)))))
    else if bytes_eq kind (codes "tax") then code_in cs axis.Tax field.A a (λ t. code_in cs axis.Product field.B b (λ i. column_in cs field.C c (λ q. Ok (measure.Cell (cell.Tax (record { 0 = t }) (record { 0 = i }) q)))))
    else if bytes_eq kind (codes "service") then code_in cs axis.Product field.A a (λ i. code_in cs axis.Margin field.B b (λ k. nothing_in field.C c (with_right_service cs (measure.Cell (cell.Service (record { 0 = i }) (record { 0 = k }))))))
    else if bytes_eq kind (codes "added") then code_in cs axis.Item field.A a (λ v. code_in cs axis.Industry field.B b (λ j. nothing_in field.C c (Ok (measure.Cell (cell.Added (record { 0 = v }) (record { 0 = j }))))))
    else if bytes_eq kind (codes "purchase") then code_in cs axis.Product field.A a (λ i. column_in cs field.B b (λ q. nothing_in field.C c (Ok (measure.Total (total.Purchase (record { 0 = i }) q)))))
    else if bytes_eq kind (codes "supply") then code_in cs axis.Product field.A a (λ i. nothing_in field.B b (nothing_in field.C c (Ok (measure.Total (total.Supply (record { 0 = i }))))))
    else if bytes_eq kind (codes "output") then code_in cs axis.Industry field.A a (λ j. nothing_in field.B b (nothing_in field.C c (Ok (measure.Total (total.Output (record { 0 = j }))))))
    else if bytes_eq kind (codes "inputs") then code_in cs axis.Industry field.A a (λ j. nothing_in field.B b (nothing_in field.C c (Ok (measure.Total (total.Inputs (record { 0 = j }))))))
    else if bytes_eq kind (codes "value_added") then code_in cs axis.Industry field.A a (λ j. nothing_in field.B b (nothing_in field.C c (Ok (measure.Total (total.ValueAdded (record { 0 = j }))))))
    else if bytes_eq kind (codes "item_total") then code_in cs axis.Item field.A a (λ v. nothing_in field.B b (nothing_in field.C c (Ok (measure.Total (total.ItemTotal (record { 0 = v }))))))
    else if bytes_eq kind (codes "final_total") then code_in cs axis.Final field.A a (λ f. nothing_in field.B b (nothing_in field.C c (Ok (measure.Total (total.FinalTotal (record { 0 = f }))))))
    else if bytes_eq kind (codes "import_total") then nothing_in field.A a (nothing_in field.B b (nothing_in field.C c (Ok (measure.Total total.ImportTotal))))
    else if bytes_eq kind (codes "margin_total") then code_in cs axis.Margin field.A a (λ k. nothing_in field.B b (nothing_in field.C c (Ok (measure.Total (total.MarginTotal (record { 0 = k }))))))
    else if bytes_eq kind (codes "margin_product") then code_in cs axis.Margin field.A a (λ k. code_in cs axis.Product field.B b (λ i. nothing_in field.C c (Ok (measure.Total (total.MarginProduct (record { 0 = k }) (record { 0 = i }))))))
    else if bytes_eq kind (codes "tax_total") then code_in cs axis.Tax field.A a (λ t. nothing_in field.B b (nothing_in field.C c (Ok (measure.Total (total.TaxTotal (record { 0 = t }))))))
    else if bytes_eq kind (codes "tax_product") then code_in cs axis.Tax field.A a (λ t. code_in cs axis.Product field.B b (λ i. nothing_in field.C c (Ok (measure.Total (total.TaxProduct (record { 0 = t }) (record { 0 = i }))))))
    else if bytes_eq kind (codes "gdp") then nothing_in field.A a (nothing_in field.B b (nothing_in field.C c (Ok (measure.Total total.Gdp))))
    else only_if (cs.format == 2) fault.UnknownKind
    (if bytes_eq kind (codes "make_group") then code_in cs axis.ProductGroup field.A a (λ g. code_in cs axis.Industry field.B b (λ j. nothing_in field.C c (Ok (measure.Total (total.MakeGroup (record { 0 = g }) (record { 0 = j }))))))
    else if bytes_eq kind (codes "import_group") then code_in cs axis.ProductGroup field.A a (λ g. nothing_in field.B b (nothing_in field.C c (Ok (measure.Total (total.ImportGroup (record { 0 = g }))))))
    else if bytes_eq kind (codes "purchase_group") then code_in cs axis.ProductGroup field.A a (λ g. column_in cs field.B b (λ q. nothing_in field.C c (Ok (measure.Total (total.PurchaseGroup (record { 0 = g }) q)))))
    else if bytes_eq kind (codes "margin_group") then code_in cs axis.Margin field.A a (λ k. code_in cs axis.ProductGroup field.B b (λ g. nothing_in field.C c (Ok (measure.Total (total.MarginGroup (record { 0 = k }) (record { 0 = g }))))))
    else if bytes_eq kind (codes "tax_group") then code_in cs axis.Tax field.A a (λ t. code_in cs axis.ProductGroup field.B b (λ g. nothing_in field.C c (Ok (measure.Total (total.TaxGroup (record { 0 = t }) (record { 0 = g }))))))
    else if bytes_eq kind (codes "item_group") then code_in cs axis.Item field.A a (λ v. code_in cs axis.IndustryGroup field.B b (λ h. nothing_in field.C c (Ok (measure.Total (total.ItemGroup (record { 0 = v }) (record { 0 = h }))))))
    else Err fault.UnknownKind)

-- the account words, in the order of accounts; the group words of classes that have groups alone
unfoldable pub account_of : ClassLists → List ℕ → List ℕ → List ℕ → Result Account NameFault
account_of cs word a b =
    if bytes_eq word (codes "supplied") then code_in cs axis.Product field.A a (λ x. nothing_in field.B b (Ok (account.Supplied (record { 0 = x }))))
    else if bytes_eq word (codes "used") then code_in cs axis.Product field.A a (λ x. nothing_in field.B b (Ok (account.Used (record { 0 = x }))))
    else if bytes_eq word (codes "bought") then code_in cs axis.Product field.A a (λ x. column_in cs field.B b (λ y. Ok (account.Bought (record { 0 = x }) y)))
    else if bytes_eq word (codes "buying") then code_in cs axis.Industry field.A a (λ x. nothing_in field.B b (Ok (account.Buying (record { 0 = x }))))
    else if bytes_eq word (codes "adding") then code_in cs axis.Industry field.A a (λ x. nothing_in field.B b (Ok (account.Adding (record { 0 = x }))))
    else if bytes_eq word (codes "industry") then code_in cs axis.Industry field.A a (λ x. nothing_in field.B b (Ok (account.Industry (record { 0 = x }))))
    else if bytes_eq word (codes "making") then code_in cs axis.Industry field.A a (λ x. nothing_in field.B b (Ok (account.Making (record { 0 = x }))))
    else if bytes_eq word (codes "final") then code_in cs axis.Final field.A a (λ x. nothing_in field.B b (Ok (account.Final (record { 0 = x }))))
    else if bytes_eq word (codes "item") then code_in cs axis.Item field.A a (λ x. nothing_in field.B b (Ok (account.Item (record { 0 = x }))))
    else if bytes_eq word (codes "imports") then nothing_in field.A a (nothing_in field.B b (Ok account.Imports))
    else if bytes_eq word (codes "services") then code_in cs axis.Margin field.A a (λ x. nothing_in field.B b (Ok (account.Services (record { 0 = x }))))
    else if bytes_eq word (codes "margins") then code_in cs axis.Margin field.A a (λ x. nothing_in field.B b (Ok (account.Margins (record { 0 = x }))))
    else if bytes_eq word (codes "margin_of") then code_in cs axis.Margin field.A a (λ x. code_in cs axis.Product field.B b (λ y. Ok (account.MarginOf (record { 0 = x }) (record { 0 = y }))))
    else if bytes_eq word (codes "taxes") then code_in cs axis.Tax field.A a (λ x. nothing_in field.B b (Ok (account.Taxes (record { 0 = x }))))
    else if bytes_eq word (codes "tax_of") then code_in cs axis.Tax field.A a (λ x. code_in cs axis.Product field.B b (λ y. Ok (account.TaxOf (record { 0 = x }) (record { 0 = y }))))
    else if bytes_eq word (codes "spending") then nothing_in field.A a (nothing_in field.B b (Ok account.Spending))
    else if bytes_eq word (codes "income") then nothing_in field.A a (nothing_in field.B b (Ok account.Income))
    else only_if (cs.format == 2) fault.UnknownKind
    (if bytes_eq word (codes "making_in") then code_in cs axis.ProductGroup field.A a (λ x. code_in cs axis.Industry field.B b (λ y. Ok (account.MakingIn (record { 0 = x }) (record { 0 = y }))))
    else if bytes_eq word (codes "importing") then code_in cs axis.ProductGroup field.A a (λ x. nothing_in field.B b (Ok (account.Importing (record { 0 = x }))))
    else if bytes_eq word (codes "buying_in") then code_in cs axis.ProductGroup field.A a (λ x. column_in cs field.B b (λ y. Ok (account.BuyingIn (record { 0 = x }) y)))
    else if bytes_eq word (codes "margin_in") then code_in cs axis.Margin field.A a (λ x. code_in cs axis.ProductGroup field.B b (λ y. Ok (account.MarginIn (record { 0 = x }) (record { 0 = y }))))
    else if bytes_eq word (codes "tax_in") then code_in cs axis.Tax field.A a (λ x. code_in cs axis.ProductGroup field.B b (λ y. Ok (account.TaxIn (record { 0 = x }) (record { 0 = y }))))
    else if bytes_eq word (codes "item_in") then code_in cs axis.Item field.A a (λ x. code_in cs axis.IndustryGroup field.B b (λ y. Ok (account.ItemIn (record { 0 = x }) (record { 0 = y }))))
    else Err fault.UnknownKind)
