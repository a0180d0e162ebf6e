-- A key tells its measure, and its account.
use Rattle.std.proofs.Common.{◌≡◌, ℕ, List, drop, refl, sym, ◌∙◌, ap}
use Rattle.std.specs.Prelude.{◌==◌, nat_lt, if◌then◌else◌, slice_index}
use Rattle.sut_classes.specs.declared.ids.Column.{Column}
use Rattle.sut_classes.specs.declared.ids.Column.TheVariants as column
use Rattle.sut_measures.specs.Keys.{cell_key, total_key, measure_key, account_key}
use Rattle.sut_measures.specs.declared.measures.Cell.{Cell}
use Rattle.sut_measures.specs.declared.measures.Cell.TheVariants as cell
use Rattle.sut_measures.specs.declared.measures.Total.{Total}
use Rattle.sut_measures.specs.declared.measures.Total.TheVariants as total
use Rattle.sut_measures.specs.declared.measures.Measure.{Measure}
use Rattle.sut_measures.specs.declared.measures.Measure.TheVariants as measure
use Rattle.sut_measures.specs.declared.accounts.Account.{Account}
use Rattle.sut_measures.specs.declared.accounts.Account.TheVariants as account

abbrev column_from : List ℕ → Column
column_from k = if slice_index k 0 == 0 then column.Industry (record { 0 = slice_index k 1 }) else column.Final (record { 0 = slice_index k 1 })

abbrev cell_from : List ℕ → Cell
cell_from k =
    if slice_index k 0 == 0 then (cell.Make (record { 0 = slice_index k 1 }) (record { 0 = slice_index k 2 })) else
    if slice_index k 0 == 1 then (cell.Import (record { 0 = slice_index k 1 })) else
    if slice_index k 0 == 2 then (cell.Basic (record { 0 = slice_index k 1 }) (column_from (drop 2 k))) else
    if slice_index k 0 == 3 then (cell.Margin (record { 0 = slice_index k 1 }) (record { 0 = slice_index k 2 }) (column_from (drop 3 k))) else
    if slice_index k 0 == 4 then (cell.Tax (record { 0 = slice_index k 1 }) (record { 0 = slice_index k 2 }) (column_from (drop 3 k))) else
    if slice_index k 0 == 5 then (cell.Service (record { 0 = slice_index k 1 }) (record { 0 = slice_index k 2 })) else
    (cell.Added (record { 0 = slice_index k 1 }) (record { 0 = slice_index k 2 }))

cell_from-key : (x : Cell) → cell_from (cell_key x) ≡ x
cell_from-key (cell.Make i j) = refl
cell_from-key (cell.Import i) = refl
cell_from-key (cell.Basic i (column.Industry m)) = refl
cell_from-key (cell.Basic i (column.Final m)) = refl
cell_from-key (cell.Margin k i (column.Industry m)) = refl
cell_from-key (cell.Margin k i (column.Final m)) = refl
cell_from-key (cell.Tax t i (column.Industry m)) = refl
cell_from-key (cell.Tax t i (column.Final m)) = refl
cell_from-key (cell.Service i k) = refl
cell_from-key (cell.Added v j) = refl

abbrev total_from : List ℕ → Total
total_from k =
    if slice_index k 0 == 7 then (total.Purchase (record { 0 = slice_index k 1 }) (column_from (drop 2 k))) else
    if slice_index k 0 == 8 then (total.Supply (record { 0 = slice_index k 1 })) else
    if slice_index k 0 == 9 then (total.Output (record { 0 = slice_index k 1 })) else
    if slice_index k 0 == 10 then (total.Inputs (record { 0 = slice_index k 1 })) else
    if slice_index k 0 == 11 then (total.ValueAdded (record { 0 = slice_index k 1 })) else
    if slice_index k 0 == 12 then (total.ItemTotal (record { 0 = slice_index k 1 })) else
    if slice_index k 0 == 13 then (total.FinalTotal (record { 0 = slice_index k 1 })) else
    if slice_index k 0 == 14 then (total.ImportTotal) else
    if slice_index k 0 == 15 then (total.MarginTotal (record { 0 = slice_index k 1 })) else
    if slice_index k 0 == 16 then (total.MarginProduct (record { 0 = slice_index k 1 }) (record { 0 = slice_index k 2 })) else
    if slice_index k 0 == 17 then (total.TaxTotal (record { 0 = slice_index k 1 })) else
    if slice_index k 0 == 18 then (total.TaxProduct (record { 0 = slice_index k 1 }) (record { 0 = slice_index k 2 })) else
    if slice_index k 0 == 19 then (total.Gdp) else
    if slice_index k 0 == 20 then (total.MakeGroup (record { 0 = slice_index k 1 }) (record { 0 = slice_index k 2 })) else
    if slice_index k 0 == 21 then (total.ImportGroup (record { 0 = slice_index k 1 })) else
    if slice_index k 0 == 22 then (total.PurchaseGroup (record { 0 = slice_index k 1 }) (column_from (drop 2 k))) else
    if slice_index k 0 == 23 then (total.MarginGroup (record { 0 = slice_index k 1 }) (record { 0 = slice_index k 2 })) else
    if slice_index k 0 == 24 then (total.TaxGroup (record { 0 = slice_index k 1 }) (record { 0 = slice_index k 2 })) else
    (total.ItemGroup (record { 0 = slice_index k 1 }) (record { 0 = slice_index k 2 }))

total_from-key : (x : Total) → total_from (total_key x) ≡ x
total_from-key (total.Purchase i (column.Industry m)) = refl
total_from-key (total.Purchase i (column.Final m)) = refl
total_from-key (total.Supply i) = refl
total_from-key (total.Output j) = refl
total_from-key (total.Inputs j) = refl
total_from-key (total.ValueAdded j) = refl
total_from-key (total.ItemTotal v) = refl
total_from-key (total.FinalTotal f) = refl
total_from-key total.ImportTotal = refl
total_from-key (total.MarginTotal k) = refl
total_from-key (total.MarginProduct k i) = refl
total_from-key (total.TaxTotal t) = refl
total_from-key (total.TaxProduct t i) = refl
total_from-key total.Gdp = refl
total_from-key (total.MakeGroup g j) = refl
total_from-key (total.ImportGroup g) = refl
total_from-key (total.PurchaseGroup g (column.Industry m)) = refl
total_from-key (total.PurchaseGroup g (column.Final m)) = refl
total_from-key (total.MarginGroup k g) = refl
total_from-key (total.TaxGroup t g) = refl
total_from-key (total.ItemGroup v h) = refl

abbrev account_from : List ℕ → Account
account_from k =
    if slice_index k 0 == 0 then (account.Supplied (record { 0 = slice_index k 1 })) else
    if slice_index k 0 == 1 then (account.Used (record { 0 = slice_index k 1 })) else
    if slice_index k 0 == 2 then (account.Bought (record { 0 = slice_index k 1 }) (column_from (drop 2 k))) else
    if slice_index k 0 == 3 then (account.Buying (record { 0 = slice_index k 1 })) else
    if slice_index k 0 == 4 then (account.Adding (record { 0 = slice_index k 1 })) else
    if slice_index k 0 == 5 then (account.Industry (record { 0 = slice_index k 1 })) else
    if slice_index k 0 == 6 then (account.Making (record { 0 = slice_index k 1 })) else
    if slice_index k 0 == 7 then (account.Final (record { 0 = slice_index k 1 })) else
    if slice_index k 0 == 8 then (account.Item (record { 0 = slice_index k 1 })) else
    if slice_index k 0 == 9 then (account.Imports) else
    if slice_index k 0 == 10 then (account.Services (record { 0 = slice_index k 1 })) else
    if slice_index k 0 == 11 then (account.Margins (record { 0 = slice_index k 1 })) else
    if slice_index k 0 == 12 then (account.MarginOf (record { 0 = slice_index k 1 }) (record { 0 = slice_index k 2 })) else
    if slice_index k 0 == 13 then (account.Taxes (record { 0 = slice_index k 1 })) else
    if slice_index k 0 == 14 then (account.TaxOf (record { 0 = slice_index k 1 }) (record { 0 = slice_index k 2 })) else
    if slice_index k 0 == 15 then (account.Spending) else
    if slice_index k 0 == 16 then (account.Income) else
    if slice_index k 0 == 17 then (account.MakingIn (record { 0 = slice_index k 1 }) (record { 0 = slice_index k 2 })) else
    if slice_index k 0 == 18 then (account.Importing (record { 0 = slice_index k 1 })) else
    if slice_index k 0 == 19 then (account.BuyingIn (record { 0 = slice_index k 1 }) (column_from (drop 2 k))) else
    if slice_index k 0 == 20 then (account.MarginIn (record { 0 = slice_index k 1 }) (record { 0 = slice_index k 2 })) else
    if slice_index k 0 == 21 then (account.TaxIn (record { 0 = slice_index k 1 }) (record { 0 = slice_index k 2 })) else
    (account.ItemIn (record { 0 = slice_index k 1 }) (record { 0 = slice_index k 2 }))

account_from-key : (x : Account) → account_from (account_key x) ≡ x
account_from-key (account.Supplied i) = refl
account_from-key (account.Used i) = refl
account_from-key (account.Bought i (column.Industry m)) = refl
account_from-key (account.Bought i (column.Final m)) = refl
account_from-key (account.Buying j) = refl
account_from-key (account.Adding j) = refl
account_from-key (account.Industry j) = refl
account_from-key (account.Making j) = refl
account_from-key (account.Final f) = refl
account_from-key (account.Item v) = refl
account_from-key account.Imports = refl
account_from-key (account.Services k) = refl
account_from-key (account.Margins k) = refl
account_from-key (account.MarginOf k i) = refl
account_from-key (account.Taxes t) = refl
account_from-key (account.TaxOf t i) = refl
account_from-key account.Spending = refl
account_from-key account.Income = refl
account_from-key (account.MakingIn g j) = refl
account_from-key (account.Importing g) = refl
account_from-key (account.BuyingIn g (column.Industry m)) = refl
account_from-key (account.BuyingIn g (column.Final m)) = refl
account_from-key (account.MarginIn k g) = refl
account_from-key (account.TaxIn t g) = refl
account_from-key (account.ItemIn v h) = refl

abbrev measure_from : List ℕ → Measure
measure_from k = if nat_lt (slice_index k 0) 7 then measure.Cell (cell_from k) else measure.Total (total_from k)

measure_from-key : (x : Measure) → measure_from (measure_key x) ≡ x
measure_from-key (measure.Cell (cell.Make i j)) = refl
measure_from-key (measure.Cell (cell.Import i)) = refl
measure_from-key (measure.Cell (cell.Basic i (column.Industry m))) = refl
measure_from-key (measure.Cell (cell.Basic i (column.Final m))) = refl
measure_from-key (measure.Cell (cell.Margin k i (column.Industry m))) = refl
measure_from-key (measure.Cell (cell.Margin k i (column.Final m))) = refl
measure_from-key (measure.Cell (cell.Tax t i (column.Industry m))) = refl
measure_from-key (measure.Cell (cell.Tax t i (column.Final m))) = refl
measure_from-key (measure.Cell (cell.Service i k)) = refl
measure_from-key (measure.Cell (cell.Added v j)) = refl
measure_from-key (measure.Total (total.Purchase i (column.Industry m))) = refl
measure_from-key (measure.Total (total.Purchase i (column.Final m))) = refl
measure_from-key (measure.Total (total.Supply i)) = refl
measure_from-key (measure.Total (total.Output j)) = refl
measure_from-key (measure.Total (total.Inputs j)) = refl
measure_from-key (measure.Total (total.ValueAdded j)) = refl
measure_from-key (measure.Total (total.ItemTotal v)) = refl
measure_from-key (measure.Total (total.FinalTotal f)) = refl
measure_from-key (measure.Total total.ImportTotal) = refl
measure_from-key (measure.Total (total.MarginTotal k)) = refl
measure_from-key (measure.Total (total.MarginProduct k i)) = refl
measure_from-key (measure.Total (total.TaxTotal t)) = refl
measure_from-key (measure.Total (total.TaxProduct t i)) = refl
measure_from-key (measure.Total total.Gdp) = refl
measure_from-key (measure.Total (total.MakeGroup g j)) = refl
measure_from-key (measure.Total (total.ImportGroup g)) = refl
measure_from-key (measure.Total (total.PurchaseGroup g (column.Industry m))) = refl
measure_from-key (measure.Total (total.PurchaseGroup g (column.Final m))) = refl
measure_from-key (measure.Total (total.MarginGroup k g)) = refl
measure_from-key (measure.Total (total.TaxGroup t g)) = refl
measure_from-key (measure.Total (total.ItemGroup v h)) = refl

pub cell_key-injective : (x y : Cell) → cell_key x ≡ cell_key y → x ≡ y
cell_key-injective x y e = sym (cell_from-key x) ∙ ap cell_from e ∙ cell_from-key y

pub total_key-injective : (x y : Total) → total_key x ≡ total_key y → x ≡ y
total_key-injective x y e = sym (total_from-key x) ∙ ap total_from e ∙ total_from-key y

pub measure_key-injective : (x y : Measure) → measure_key x ≡ measure_key y → x ≡ y
measure_key-injective x y e = sym (measure_from-key x) ∙ ap measure_from e ∙ measure_from-key y

pub account_key-injective : (x y : Account) → account_key x ≡ account_key y → x ≡ y
account_key-injective x y e = sym (account_from-key x) ∙ ap account_from e ∙ account_from-key y
