-- What is read of a name fits, and the name is the one that is printed of it.
use Rattle.std.proofs.Common.{◌≡◌, ℕ, List, Ok, refl}
use Rattle.std.specs.Prelude.{IsTrue, IfOk, ◌==◌}
use Rattle.sut_classes.specs.ClassLists.{ClassLists}
use Rattle.sut_classes.specs.declared.ids.Axis.TheVariants as axis
use Rattle.sut_measures.specs.Fits.{fits, account_fits}
use Rattle.sut_measures.specs.Kinds.{cell_word, total_word, group_word, account_word, group_account_word}
use Rattle.sut_measures.specs.Names.{Name, name3, measure_name, AccountName, account2, account_name}
use Rattle.sut_measures.specs.ReadNames.{account_of, measure_of, with_right_service}
use Rattle.sut_measures.specs.declared.accounts.Account.{Account}
use Rattle.sut_measures.specs.declared.faults.Field.TheVariants as field
use Rattle.sut_measures.specs.declared.kinds.CellKind.{CellKind}
use Rattle.sut_measures.specs.declared.kinds.CellKind.TheVariants as cell
use Rattle.sut_measures.specs.declared.kinds.TotalKind.{TotalKind}
use Rattle.sut_measures.specs.declared.kinds.TotalKind.TheVariants as total
use Rattle.sut_measures.specs.declared.kinds.GroupKind.{GroupKind}
use Rattle.sut_measures.specs.declared.kinds.GroupKind.TheVariants as group
use Rattle.sut_measures.specs.declared.kinds.AccountKind.{AccountKind}
use Rattle.sut_measures.specs.declared.kinds.AccountKind.TheVariants as account
use Rattle.sut_measures.specs.declared.kinds.GroupAccountKind.{GroupAccountKind}
use Rattle.sut_measures.specs.declared.kinds.GroupAccountKind.TheVariants as group_account
use Rattle.sut_measures.specs.declared.measures.Cell.TheVariants as a_cell
use Rattle.sut_measures.specs.declared.measures.Measure.{Measure}
use Rattle.sut_measures.specs.declared.measures.Measure.TheVariants as measure
use Rattle.sut_measures.proofs.NameParts.{both, code_in-parts, column_in-parts, nothing_in-parts, only_if-parts}

-- the measure fits, and has this name
abbrev pub IsNamed : ClassLists → Name → Measure → Type 0
IsNamed cs name m = IsTrue (fits cs m) × (measure_name cs m ≡ name)

abbrev pub IsAccountNamed : ClassLists → AccountName → Account → Type 0
IsAccountNamed cs name x = IsTrue (account_fits cs x) × (account_name cs x ≡ name)

same_name : (kind : List ℕ) {a b c d e f : List ℕ} → a ≡ d → b ≡ e → c ≡ f → name3 kind a b c ≡ name3 kind d e f
same_name kind p q r = cc

same_account_name : (word : List ℕ) {a b d e : List ℕ} → a ≡ d → b ≡ e → account2 word a b ≡ account2 word d e
same_account_name word p q = cc

service-parts : (cs : ClassLists) (m : Measure) (P : Measure → Type 0) → (IsTrue (fits cs m) → P m) → IfOk (with_right_service cs m) P
service-parts cs m P each = only_if-parts (fits cs m) _ (Ok m) P each

pub cell-named : (cs : ClassLists) (kind : CellKind) (a b c : List ℕ) → IfOk (measure_of cs (cell_word kind) a b c) (IsNamed cs (name3 (cell_word kind) a b c))
unfolding measure_of
cell-named cs cell.Make a b c = code_in-parts cs axis.Product field.A a _ _ (λ i hi ei. code_in-parts cs axis.Industry field.B b _ _ (λ j hj ej. nothing_in-parts field.C c _ _ (λ nc. (both hi hj, same_name _ ei ej nc))))
cell-named cs cell.Import a b c = code_in-parts cs axis.Product field.A a _ _ (λ i hi ei. nothing_in-parts field.B b _ _ (λ nb. nothing_in-parts field.C c _ _ (λ nc. (hi, same_name _ ei nb nc))))
cell-named cs cell.Basic a b c = code_in-parts cs axis.Product field.A a _ _ (λ i hi ei. column_in-parts cs field.B b _ _ (λ q hq eq. nothing_in-parts field.C c _ _ (λ nc. (both hi hq, same_name _ ei eq nc))))
cell-named cs cell.Margin a b c = code_in-parts cs axis.Margin field.A a _ _ (λ k hk ek. code_in-parts cs axis.Product field.B b _ _ (λ i hi ei. column_in-parts cs field.C c _ _ (λ q hq eq. (both (both hk hi) hq, same_name _ ek ei eq))))
cell-named cs cell.Tax a b c = code_in-parts cs axis.Tax field.A a _ _ (λ t ht et. code_in-parts cs axis.Product field.B b _ _ (λ i hi ei. column_in-parts cs field.C c _ _ (λ q hq eq. (both (both ht hi) hq, same_name _ et ei eq))))
cell-named cs cell.Service a b c = code_in-parts cs axis.Product field.A a _ _ (λ i hi ei. code_in-parts cs axis.Margin field.B b _ _ (λ k hk ek. nothing_in-parts field.C c _ _ (λ nc. service-parts cs (measure.Cell (a_cell.Service (record { 0 = i }) (record { 0 = k }))) (IsNamed cs (name3 (cell_word cell.Service) a b c)) (λ hs. (hs, same_name _ ei ek nc)))))
cell-named cs cell.Added a b c = code_in-parts cs axis.Item field.A a _ _ (λ v hv ev. code_in-parts cs axis.Industry field.B b _ _ (λ j hj ej. nothing_in-parts field.C c _ _ (λ nc. (both hv hj, same_name _ ev ej nc))))

pub total-named : (cs : ClassLists) (kind : TotalKind) (a b c : List ℕ) → IfOk (measure_of cs (total_word kind) a b c) (IsNamed cs (name3 (total_word kind) a b c))
unfolding measure_of
total-named cs total.Purchase a b c = code_in-parts cs axis.Product field.A a _ _ (λ i hi ei. column_in-parts cs field.B b _ _ (λ q hq eq. nothing_in-parts field.C c _ _ (λ nc. (both hi hq, same_name _ ei eq nc))))
total-named cs total.Supply a b c = code_in-parts cs axis.Product field.A a _ _ (λ i hi ei. nothing_in-parts field.B b _ _ (λ nb. nothing_in-parts field.C c _ _ (λ nc. (hi, same_name _ ei nb nc))))
total-named cs total.Output a b c = code_in-parts cs axis.Industry field.A a _ _ (λ j hj ej. nothing_in-parts field.B b _ _ (λ nb. nothing_in-parts field.C c _ _ (λ nc. (hj, same_name _ ej nb nc))))
total-named cs total.Inputs a b c = code_in-parts cs axis.Industry field.A a _ _ (λ j hj ej. nothing_in-parts field.B b _ _ (λ nb. nothing_in-parts field.C c _ _ (λ nc. (hj, same_name _ ej nb nc))))
total-named cs total.ValueAdded a b c = code_in-parts cs axis.Industry field.A a _ _ (λ j hj ej. nothing_in-parts field.B b _ _ (λ nb. nothing_in-parts field.C c _ _ (λ nc. (hj, same_name _ ej nb nc))))
total-named cs total.ItemTotal a b c = code_in-parts cs axis.Item field.A a _ _ (λ v hv ev. nothing_in-parts field.B b _ _ (λ nb. nothing_in-parts field.C c _ _ (λ nc. (hv, same_name _ ev nb nc))))
total-named cs total.FinalTotal a b c = code_in-parts cs axis.Final field.A a _ _ (λ f hf ef. nothing_in-parts field.B b _ _ (λ nb. nothing_in-parts field.C c _ _ (λ nc. (hf, same_name _ ef nb nc))))
total-named cs total.ImportTotal a b c = nothing_in-parts field.A a _ _ (λ na. nothing_in-parts field.B b _ _ (λ nb. nothing_in-parts field.C c _ _ (λ nc. (refl, same_name _ na nb nc))))
total-named cs total.MarginTotal a b c = code_in-parts cs axis.Margin field.A a _ _ (λ k hk ek. nothing_in-parts field.B b _ _ (λ nb. nothing_in-parts field.C c _ _ (λ nc. (hk, same_name _ ek nb nc))))
total-named cs total.MarginProduct a b c = code_in-parts cs axis.Margin field.A a _ _ (λ k hk ek. code_in-parts cs axis.Product field.B b _ _ (λ i hi ei. nothing_in-parts field.C c _ _ (λ nc. (both hk hi, same_name _ ek ei nc))))
total-named cs total.TaxTotal a b c = code_in-parts cs axis.Tax field.A a _ _ (λ t ht et. nothing_in-parts field.B b _ _ (λ nb. nothing_in-parts field.C c _ _ (λ nc. (ht, same_name _ et nb nc))))
total-named cs total.TaxProduct a b c = code_in-parts cs axis.Tax field.A a _ _ (λ t ht et. code_in-parts cs axis.Product field.B b _ _ (λ i hi ei. nothing_in-parts field.C c _ _ (λ nc. (both ht hi, same_name _ et ei nc))))
total-named cs total.Gdp a b c = nothing_in-parts field.A a _ _ (λ na. nothing_in-parts field.B b _ _ (λ nb. nothing_in-parts field.C c _ _ (λ nc. (refl, same_name _ na nb nc))))

pub group-named : (cs : ClassLists) (kind : GroupKind) (a b c : List ℕ) → IfOk (measure_of cs (group_word kind) a b c) (IsNamed cs (name3 (group_word kind) a b c))
unfolding measure_of
group-named cs group.Make a b c = only_if-parts (cs.format == 2) _ _ (IsNamed cs (name3 (group_word group.Make) a b c)) (λ two. code_in-parts cs axis.ProductGroup field.A a _ _ (λ g hg eg. code_in-parts cs axis.Industry field.B b _ _ (λ j hj ej. nothing_in-parts field.C c _ _ (λ nc. (both hg hj, same_name _ eg ej nc)))))
group-named cs group.Import a b c = only_if-parts (cs.format == 2) _ _ (IsNamed cs (name3 (group_word group.Import) a b c)) (λ two. code_in-parts cs axis.ProductGroup field.A a _ _ (λ g hg eg. nothing_in-parts field.B b _ _ (λ nb. nothing_in-parts field.C c _ _ (λ nc. (hg, same_name _ eg nb nc)))))
group-named cs group.Purchase a b c = only_if-parts (cs.format == 2) _ _ (IsNamed cs (name3 (group_word group.Purchase) a b c)) (λ two. code_in-parts cs axis.ProductGroup field.A a _ _ (λ g hg eg. column_in-parts cs field.B b _ _ (λ q hq eq. nothing_in-parts field.C c _ _ (λ nc. (both hg hq, same_name _ eg eq nc)))))
group-named cs group.Margin a b c = only_if-parts (cs.format == 2) _ _ (IsNamed cs (name3 (group_word group.Margin) a b c)) (λ two. code_in-parts cs axis.Margin field.A a _ _ (λ k hk ek. code_in-parts cs axis.ProductGroup field.B b _ _ (λ g hg eg. nothing_in-parts field.C c _ _ (λ nc. (both hk hg, same_name _ ek eg nc)))))
group-named cs group.Tax a b c = only_if-parts (cs.format == 2) _ _ (IsNamed cs (name3 (group_word group.Tax) a b c)) (λ two. code_in-parts cs axis.Tax field.A a _ _ (λ t ht et. code_in-parts cs axis.ProductGroup field.B b _ _ (λ g hg eg. nothing_in-parts field.C c _ _ (λ nc. (both ht hg, same_name _ et eg nc)))))
group-named cs group.Item a b c = only_if-parts (cs.format == 2) _ _ (IsNamed cs (name3 (group_word group.Item) a b c)) (λ two. code_in-parts cs axis.Item field.A a _ _ (λ v hv ev. code_in-parts cs axis.IndustryGroup field.B b _ _ (λ h hh eh. nothing_in-parts field.C c _ _ (λ nc. (both hv hh, same_name _ ev eh nc)))))

pub account-named : (cs : ClassLists) (kind : AccountKind) (a b : List ℕ) → IfOk (account_of cs (account_word kind) a b) (IsAccountNamed cs (account2 (account_word kind) a b))
unfolding account_of
account-named cs account.Supplied a b = code_in-parts cs axis.Product field.A a _ _ (λ i hi ei. nothing_in-parts field.B b _ _ (λ nb. (hi, same_account_name _ ei nb)))
account-named cs account.Used a b = code_in-parts cs axis.Product field.A a _ _ (λ i hi ei. nothing_in-parts field.B b _ _ (λ nb. (hi, same_account_name _ ei nb)))
account-named cs account.Bought a b = code_in-parts cs axis.Product field.A a _ _ (λ i hi ei. column_in-parts cs field.B b _ _ (λ q hq eq. (both hi hq, same_account_name _ ei eq)))
account-named cs account.Buying a b = code_in-parts cs axis.Industry field.A a _ _ (λ j hj ej. nothing_in-parts field.B b _ _ (λ nb. (hj, same_account_name _ ej nb)))
account-named cs account.Adding a b = code_in-parts cs axis.Industry field.A a _ _ (λ j hj ej. nothing_in-parts field.B b _ _ (λ nb. (hj, same_account_name _ ej nb)))
account-named cs account.Industry a b = code_in-parts cs axis.Industry field.A a _ _ (λ j hj ej. nothing_in-parts field.B b _ _ (λ nb. (hj, same_account_name _ ej nb)))
account-named cs account.Making a b = code_in-parts cs axis.Industry field.A a _ _ (λ j hj ej. nothing_in-parts field.B b _ _ (λ nb. (hj, same_account_name _ ej nb)))
account-named cs account.Final a b = code_in-parts cs axis.Final field.A a _ _ (λ f hf ef. nothing_in-parts field.B b _ _ (λ nb. (hf, same_account_name _ ef nb)))
account-named cs account.Item a b = code_in-parts cs axis.Item field.A a _ _ (λ v hv ev. nothing_in-parts field.B b _ _ (λ nb. (hv, same_account_name _ ev nb)))
account-named cs account.Imports a b = nothing_in-parts field.A a _ _ (λ na. nothing_in-parts field.B b _ _ (λ nb. (refl, same_account_name _ na nb)))
account-named cs account.Services a b = code_in-parts cs axis.Margin field.A a _ _ (λ k hk ek. nothing_in-parts field.B b _ _ (λ nb. (hk, same_account_name _ ek nb)))
account-named cs account.Margins a b = code_in-parts cs axis.Margin field.A a _ _ (λ k hk ek. nothing_in-parts field.B b _ _ (λ nb. (hk, same_account_name _ ek nb)))
account-named cs account.MarginOf a b = code_in-parts cs axis.Margin field.A a _ _ (λ k hk ek. code_in-parts cs axis.Product field.B b _ _ (λ i hi ei. (both hk hi, same_account_name _ ek ei)))
account-named cs account.Taxes a b = code_in-parts cs axis.Tax field.A a _ _ (λ t ht et. nothing_in-parts field.B b _ _ (λ nb. (ht, same_account_name _ et nb)))
account-named cs account.TaxOf a b = code_in-parts cs axis.Tax field.A a _ _ (λ t ht et. code_in-parts cs axis.Product field.B b _ _ (λ i hi ei. (both ht hi, same_account_name _ et ei)))
account-named cs account.Spending a b = nothing_in-parts field.A a _ _ (λ na. nothing_in-parts field.B b _ _ (λ nb. (refl, same_account_name _ na nb)))
account-named cs account.Income a b = nothing_in-parts field.A a _ _ (λ na. nothing_in-parts field.B b _ _ (λ nb. (refl, same_account_name _ na nb)))

pub group_account-named : (cs : ClassLists) (kind : GroupAccountKind) (a b : List ℕ) → IfOk (account_of cs (group_account_word kind) a b) (IsAccountNamed cs (account2 (group_account_word kind) a b))
unfolding account_of
group_account-named cs group_account.Making a b = only_if-parts (cs.format == 2) _ _ (IsAccountNamed cs (account2 (group_account_word group_account.Making) a b)) (λ two. code_in-parts cs axis.ProductGroup field.A a _ _ (λ g hg eg. code_in-parts cs axis.Industry field.B b _ _ (λ j hj ej. (both hg hj, same_account_name _ eg ej))))
group_account-named cs group_account.Importing a b = only_if-parts (cs.format == 2) _ _ (IsAccountNamed cs (account2 (group_account_word group_account.Importing) a b)) (λ two. code_in-parts cs axis.ProductGroup field.A a _ _ (λ g hg eg. nothing_in-parts field.B b _ _ (λ nb. (hg, same_account_name _ eg nb))))
group_account-named cs group_account.Buying a b = only_if-parts (cs.format == 2) _ _ (IsAccountNamed cs (account2 (group_account_word group_account.Buying) a b)) (λ two. code_in-parts cs axis.ProductGroup field.A a _ _ (λ g hg eg. column_in-parts cs field.B b _ _ (λ q hq eq. (both hg hq, same_account_name _ eg eq))))
group_account-named cs group_account.Margin a b = only_if-parts (cs.format == 2) _ _ (IsAccountNamed cs (account2 (group_account_word group_account.Margin) a b)) (λ two. code_in-parts cs axis.Margin field.A a _ _ (λ k hk ek. code_in-parts cs axis.ProductGroup field.B b _ _ (λ g hg eg. (both hk hg, same_account_name _ ek eg))))
group_account-named cs group_account.Tax a b = only_if-parts (cs.format == 2) _ _ (IsAccountNamed cs (account2 (group_account_word group_account.Tax) a b)) (λ two. code_in-parts cs axis.Tax field.A a _ _ (λ t ht et. code_in-parts cs axis.ProductGroup field.B b _ _ (λ g hg eg. (both ht hg, same_account_name _ et eg))))
group_account-named cs group_account.Item a b = only_if-parts (cs.format == 2) _ _ (IsAccountNamed cs (account2 (group_account_word group_account.Item) a b)) (λ two. code_in-parts cs axis.Item field.A a _ _ (λ v hv ev. code_in-parts cs axis.IndustryGroup field.B b _ _ (λ h hh eh. (both hv hh, same_account_name _ ev eh))))
