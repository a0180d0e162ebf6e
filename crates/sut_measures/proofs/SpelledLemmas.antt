-- What is read by the shape of a kind is what a name of the kind spells.
use Rattle.std.proofs.Common.{◌≡◌, ℕ, List, [], Ok}
use Rattle.sut_records.specs.FirstFault.{and_then}
use Rattle.sut_classes.specs.ClassLists.{ClassLists}
use Rattle.sut_measures.specs.KindPlaces.{cell_at, total_at, group_total_at, account_at, group_account_at, place_read, two_read, cell_read}
use Rattle.sut_measures.specs.Kinds.{cell_word, total_word, group_word, account_word, group_account_word}
use Rattle.sut_measures.specs.ReadNames.{account_of, measure_of}
use Rattle.sut_measures.specs.Shapes.{cell_shape, total_shape, account_shape}
use Rattle.sut_measures.specs.declared.faults.Field.TheVariants as field
use Rattle.sut_measures.specs.declared.kinds.CellKind.{CellKind}
use Rattle.sut_measures.specs.declared.kinds.CellKind.TheVariants as cell
use Rattle.sut_measures.specs.declared.kinds.TotalKind.{TotalKind}
use Rattle.sut_measures.specs.declared.kinds.TotalKind.TheVariants as total
use Rattle.sut_measures.specs.declared.kinds.GroupKind.{GroupKind}
use Rattle.sut_measures.specs.declared.kinds.GroupKind.TheVariants as group
use Rattle.sut_measures.specs.declared.kinds.AccountKind.{AccountKind}
use Rattle.sut_measures.specs.declared.kinds.AccountKind.TheVariants as account
use Rattle.sut_measures.specs.declared.kinds.GroupAccountKind.{GroupAccountKind}
use Rattle.sut_measures.specs.declared.kinds.GroupAccountKind.TheVariants as group_account
use Rattle.sut_measures.specs.declared.measures.Measure.TheVariants as measure
use Rattle.sut_measures.specs.declared.shapes.Place.TheVariants as place
use Rattle.sut_measures.proofs.ReadLemmas.{and_then-or_fault, and_then-only_if}

pub cell-spelled : (cs : ClassLists) (kind : CellKind) (a b c : List ℕ) → and_then (two_read cs (cell_shape (cell_at kind place.Nothing place.Nothing place.Nothing)) a b) (λ p. and_then (place_read cs (cell_shape (cell_at kind place.Nothing place.Nothing place.Nothing)).c field.C c) (λ z. cell_read cs (cell_at kind p.0 p.1 z))) ≡ measure_of cs (cell_word kind) a b c
unfolding measure_of
cell-spelled cs cell.Make a b c = simp (and_then-or_fault, and_then-only_if)
cell-spelled cs cell.Import a b c = simp (and_then-or_fault, and_then-only_if)
cell-spelled cs cell.Basic a b c = simp (and_then-or_fault, and_then-only_if)
cell-spelled cs cell.Margin a b c = simp (and_then-or_fault, and_then-only_if)
cell-spelled cs cell.Tax a b c = simp (and_then-or_fault, and_then-only_if)
cell-spelled cs cell.Service a b c = simp (and_then-or_fault, and_then-only_if)
cell-spelled cs cell.Added a b c = simp (and_then-or_fault, and_then-only_if)

pub total-spelled : (cs : ClassLists) (kind : TotalKind) (a b : List ℕ) → and_then (two_read cs (total_shape (total_at kind place.Nothing place.Nothing)) a b) (λ p. Ok (measure.Total (total_at kind p.0 p.1))) ≡ measure_of cs (total_word kind) a b []
unfolding measure_of
total-spelled cs total.Purchase a b = simp (and_then-or_fault, and_then-only_if)
total-spelled cs total.Supply a b = simp (and_then-or_fault, and_then-only_if)
total-spelled cs total.Output a b = simp (and_then-or_fault, and_then-only_if)
total-spelled cs total.Inputs a b = simp (and_then-or_fault, and_then-only_if)
total-spelled cs total.ValueAdded a b = simp (and_then-or_fault, and_then-only_if)
total-spelled cs total.ItemTotal a b = simp (and_then-or_fault, and_then-only_if)
total-spelled cs total.FinalTotal a b = simp (and_then-or_fault, and_then-only_if)
total-spelled cs total.ImportTotal a b = simp (and_then-or_fault, and_then-only_if)
total-spelled cs total.MarginTotal a b = simp (and_then-or_fault, and_then-only_if)
total-spelled cs total.MarginProduct a b = simp (and_then-or_fault, and_then-only_if)
total-spelled cs total.TaxTotal a b = simp (and_then-or_fault, and_then-only_if)
total-spelled cs total.TaxProduct a b = simp (and_then-or_fault, and_then-only_if)
total-spelled cs total.Gdp a b = simp (and_then-or_fault, and_then-only_if)

pub group-spelled : (cs : ClassLists) (kind : GroupKind) (a b : List ℕ) → cs.format ≡ 2 → and_then (two_read cs (total_shape (group_total_at kind place.Nothing place.Nothing)) a b) (λ p. Ok (measure.Total (group_total_at kind p.0 p.1))) ≡ measure_of cs (group_word kind) a b []
unfolding measure_of
group-spelled cs group.Make a b two = rw two (simp (and_then-or_fault, and_then-only_if))
group-spelled cs group.Import a b two = rw two (simp (and_then-or_fault, and_then-only_if))
group-spelled cs group.Purchase a b two = rw two (simp (and_then-or_fault, and_then-only_if))
group-spelled cs group.Margin a b two = rw two (simp (and_then-or_fault, and_then-only_if))
group-spelled cs group.Tax a b two = rw two (simp (and_then-or_fault, and_then-only_if))
group-spelled cs group.Item a b two = rw two (simp (and_then-or_fault, and_then-only_if))

pub account-spelled : (cs : ClassLists) (kind : AccountKind) (a b : List ℕ) → and_then (two_read cs (account_shape (account_at kind place.Nothing place.Nothing)) a b) (λ p. Ok (account_at kind p.0 p.1)) ≡ account_of cs (account_word kind) a b
unfolding account_of
account-spelled cs account.Supplied a b = simp (and_then-or_fault, and_then-only_if)
account-spelled cs account.Used a b = simp (and_then-or_fault, and_then-only_if)
account-spelled cs account.Bought a b = simp (and_then-or_fault, and_then-only_if)
account-spelled cs account.Buying a b = simp (and_then-or_fault, and_then-only_if)
account-spelled cs account.Adding a b = simp (and_then-or_fault, and_then-only_if)
account-spelled cs account.Industry a b = simp (and_then-or_fault, and_then-only_if)
account-spelled cs account.Making a b = simp (and_then-or_fault, and_then-only_if)
account-spelled cs account.Final a b = simp (and_then-or_fault, and_then-only_if)
account-spelled cs account.Item a b = simp (and_then-or_fault, and_then-only_if)
account-spelled cs account.Imports a b = simp (and_then-or_fault, and_then-only_if)
account-spelled cs account.Services a b = simp (and_then-or_fault, and_then-only_if)
account-spelled cs account.Margins a b = simp (and_then-or_fault, and_then-only_if)
account-spelled cs account.MarginOf a b = simp (and_then-or_fault, and_then-only_if)
account-spelled cs account.Taxes a b = simp (and_then-or_fault, and_then-only_if)
account-spelled cs account.TaxOf a b = simp (and_then-or_fault, and_then-only_if)
account-spelled cs account.Spending a b = simp (and_then-or_fault, and_then-only_if)
account-spelled cs account.Income a b = simp (and_then-or_fault, and_then-only_if)

pub group_account-spelled : (cs : ClassLists) (kind : GroupAccountKind) (a b : List ℕ) → cs.format ≡ 2 → and_then (two_read cs (account_shape (group_account_at kind place.Nothing place.Nothing)) a b) (λ p. Ok (group_account_at kind p.0 p.1)) ≡ account_of cs (group_account_word kind) a b
unfolding account_of
group_account-spelled cs group_account.Making a b two = rw two (simp (and_then-or_fault, and_then-only_if))
group_account-spelled cs group_account.Importing a b two = rw two (simp (and_then-or_fault, and_then-only_if))
group_account-spelled cs group_account.Buying a b two = rw two (simp (and_then-or_fault, and_then-only_if))
group_account-spelled cs group_account.Margin a b two = rw two (simp (and_then-or_fault, and_then-only_if))
group_account-spelled cs group_account.Tax a b two = rw two (simp (and_then-or_fault, and_then-only_if))
group_account-spelled cs group_account.Item a b two = rw two (simp (and_then-or_fault, and_then-only_if))
