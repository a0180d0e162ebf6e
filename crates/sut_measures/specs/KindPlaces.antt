-- A name's fields are read by the shape of its kind: each is empty, or a code of an axis, or that of a column; and what is
-- read is put together again.
use Rattle.std.specs.Prelude.{ℕ, List, Result, Ok}
use Rattle.sut_records.specs.FirstFault.{and_then}
use Rattle.sut_classes.specs.ClassLists.{ClassLists}
use Rattle.sut_classes.specs.declared.ids.Column.{Column}
use Rattle.sut_classes.specs.declared.ids.Column.TheVariants as column
use Rattle.sut_measures.specs.ReadNames.{code_in, column_in, nothing_in, with_right_service}
use Rattle.sut_measures.specs.Shapes.{Shape}
use Rattle.sut_measures.specs.declared.accounts.Account.{Account}
use Rattle.sut_measures.specs.declared.accounts.Account.TheVariants as an_account
use Rattle.sut_measures.specs.declared.faults.Field.{Field}
use Rattle.sut_measures.specs.declared.faults.Field.TheVariants as field
use Rattle.sut_measures.specs.declared.faults.NameFault.{NameFault}
use Rattle.sut_measures.specs.declared.kinds.CellKind.{CellKind}
use Rattle.sut_measures.specs.declared.kinds.CellKind.TheVariants as cell
use Rattle.sut_measures.specs.declared.kinds.TotalKind.{TotalKind}
use Rattle.sut_measures.specs.declared.kinds.TotalKind.TheVariants as total
use Rattle.sut_measures.specs.declared.kinds.GroupKind.{GroupKind}
use Rattle.sut_measures.specs.declared.kinds.GroupKind.TheVariants as group
use Rattle.sut_measures.specs.declared.kinds.AccountKind.{AccountKind}
use Rattle.sut_measures.specs.declared.kinds.AccountKind.TheVariants as account
use Rattle.sut_measures.specs.declared.kinds.GroupAccountKind.{GroupAccountKind}
use Rattle.sut_measures.specs.declared.kinds.GroupAccountKind.TheVariants as group_account
use Rattle.sut_measures.specs.declared.measures.Cell.{Cell}
use Rattle.sut_measures.specs.declared.measures.Cell.TheVariants as a_cell
use Rattle.sut_measures.specs.declared.measures.Total.{Total}
use Rattle.sut_measures.specs.declared.measures.Total.TheVariants as a_total
use Rattle.sut_measures.specs.declared.measures.Measure.{Measure}
use Rattle.sut_measures.specs.declared.measures.Measure.TheVariants as measure
use Rattle.sut_measures.specs.declared.shapes.Place.{Place}
use Rattle.sut_measures.specs.declared.shapes.Place.TheVariants as place

-- the code of a place, and its column
abbrev pub code_of : Place → ℕ
code_of (place.Code a n) = n
code_of _ = 0

abbrev pub column_of : Place → Column
column_of (place.Buyer q) = q
column_of _ = column.Industry (record { 0 = 0 })

abbrev pub cell_at : CellKind → Place → Place → Place → Cell
cell_at cell.Make a b c = a_cell.Make (record { 0 = code_of a }) (record { 0 = code_of b })
cell_at cell.Import a b c = a_cell.Import (record { 0 = code_of a })
cell_at cell.Basic a b c = a_cell.Basic (record { 0 = code_of a }) (column_of b)
cell_at cell.Margin a b c = a_cell.Margin (record { 0 = code_of a }) (record { 0 = code_of b }) (column_of c)
cell_at cell.Tax a b c = a_cell.Tax (record { 0 = code_of a }) (record { 0 = code_of b }) (column_of c)
cell_at cell.Service a b c = a_cell.Service (record { 0 = code_of a }) (record { 0 = code_of b })
cell_at cell.Added a b c = a_cell.Added (record { 0 = code_of a }) (record { 0 = code_of b })

abbrev pub total_at : TotalKind → Place → Place → Total
total_at total.Purchase a b = a_total.Purchase (record { 0 = code_of a }) (column_of b)
total_at total.Supply a b = a_total.Supply (record { 0 = code_of a })
total_at total.Output a b = a_total.Output (record { 0 = code_of a })
total_at total.Inputs a b = a_total.Inputs (record { 0 = code_of a })
total_at total.ValueAdded a b = a_total.ValueAdded (record { 0 = code_of a })
total_at total.ItemTotal a b = a_total.ItemTotal (record { 0 = code_of a })
total_at total.FinalTotal a b = a_total.FinalTotal (record { 0 = code_of a })
total_at total.ImportTotal a b = a_total.ImportTotal
total_at total.MarginTotal a b = a_total.MarginTotal (record { 0 = code_of a })
total_at total.MarginProduct a b = a_total.MarginProduct (record { 0 = code_of a }) (record { 0 = code_of b })
total_at total.TaxTotal a b = a_total.TaxTotal (record { 0 = code_of a })
total_at total.TaxProduct a b = a_total.TaxProduct (record { 0 = code_of a }) (record { 0 = code_of b })
total_at total.Gdp a b = a_total.Gdp

abbrev pub group_total_at : GroupKind → Place → Place → Total
group_total_at group.Make a b = a_total.MakeGroup (record { 0 = code_of a }) (record { 0 = code_of b })
group_total_at group.Import a b = a_total.ImportGroup (record { 0 = code_of a })
group_total_at group.Purchase a b = a_total.PurchaseGroup (record { 0 = code_of a }) (column_of b)
group_total_at group.Margin a b = a_total.MarginGroup (record { 0 = code_of a }) (record { 0 = code_of b })
group_total_at group.Tax a b = a_total.TaxGroup (record { 0 = code_of a }) (record { 0 = code_of b })
group_total_at group.Item a b = a_total.ItemGroup (record { 0 = code_of a }) (record { 0 = code_of b })

abbrev pub account_at : AccountKind → Place → Place → Account
account_at account.Supplied a b = an_account.Supplied (record { 0 = code_of a })
account_at account.Used a b = an_account.Used (record { 0 = code_of a })
account_at account.Bought a b = an_account.Bought (record { 0 = code_of a }) (column_of b)
account_at account.Buying a b = an_account.Buying (record { 0 = code_of a })
account_at account.Adding a b = an_account.Adding (record { 0 = code_of a })
account_at account.Industry a b = an_account.Industry (record { 0 = code_of a })
account_at account.Making a b = an_account.Making (record { 0 = code_of a })
account_at account.Final a b = an_account.Final (record { 0 = code_of a })
account_at account.Item a b = an_account.Item (record { 0 = code_of a })
account_at account.Imports a b = an_account.Imports
account_at account.Services a b = an_account.Services (record { 0 = code_of a })
account_at account.Margins a b = an_account.Margins (record { 0 = code_of a })
account_at account.MarginOf a b = an_account.MarginOf (record { 0 = code_of a }) (record { 0 = code_of b })
account_at account.Taxes a b = an_account.Taxes (record { 0 = code_of a })
account_at account.TaxOf a b = an_account.TaxOf (record { 0 = code_of a }) (record { 0 = code_of b })
account_at account.Spending a b = an_account.Spending
account_at account.Income a b = an_account.Income

abbrev pub group_account_at : GroupAccountKind → Place → Place → Account
group_account_at group_account.Making a b = an_account.MakingIn (record { 0 = code_of a }) (record { 0 = code_of b })
group_account_at group_account.Importing a b = an_account.Importing (record { 0 = code_of a })
group_account_at group_account.Buying a b = an_account.BuyingIn (record { 0 = code_of a }) (column_of b)
group_account_at group_account.Margin a b = an_account.MarginIn (record { 0 = code_of a }) (record { 0 = code_of b })
group_account_at group_account.Tax a b = an_account.TaxIn (record { 0 = code_of a }) (record { 0 = code_of b })
group_account_at group_account.Item a b = an_account.ItemIn (record { 0 = code_of a }) (record { 0 = code_of b })

-- a field read where such a place is due
abbrev pub place_read : ClassLists → Place → Field → List ℕ → Result Place NameFault
place_read cs place.Nothing at text = nothing_in at text (Ok place.Nothing)
place_read cs (place.Code a n) at text = code_in cs a at text (λ m. Ok (place.Code a m))
place_read cs (place.Buyer q) at text = column_in cs at text (λ r. Ok (place.Buyer r))

-- the fields a and b read where such a shape is due
abbrev pub two_read : ClassLists → Shape → List ℕ → List ℕ → Result (Place × Place) NameFault
two_read cs s a b = and_then (place_read cs s.a field.A a) (λ x. and_then (place_read cs s.b field.B b) (λ y. Ok (x, y)))

-- a cell read, of which a service names its product's margin kind
abbrev pub cell_read : ClassLists → Cell → Result Measure NameFault
cell_read cs (a_cell.Service i k) = with_right_service cs (measure.Cell (a_cell.Service i k))
cell_read cs c = Ok (measure.Cell c)
