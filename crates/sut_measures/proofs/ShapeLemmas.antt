-- Names, status words and fitting follow the shape.
use Rattle.std.proofs.Common.{◌≡◌, Bool, true, false, refl}
use Rattle.std.specs.Prelude.{◌&&◌}
use Rattle.sut_classes.specs.ClassLists.{ClassLists}
use Rattle.sut_classes.specs.declared.ids.Column.TheVariants as column
use Rattle.sut_measures.specs.Fits.{cell_fits, total_fits, account_fits}
use Rattle.sut_measures.specs.Names.{cell_name, total_name, name_list, name_fields, account_fields}
use Rattle.sut_measures.specs.Shapes.{cell_shape, total_shape, measure_shape, account_shape, shape_fields, account_shape_fields, shape_words, shape_fits, has_right_kind}
use Rattle.sut_measures.specs.Words.{cell_words, total_words, measure_words, account_words}
use Rattle.sut_measures.specs.declared.measures.Cell.{Cell}
use Rattle.sut_measures.specs.declared.measures.Cell.TheVariants as cell
use Rattle.sut_measures.specs.declared.measures.Total.{Total}
use Rattle.sut_measures.specs.declared.measures.Total.TheVariants as total
use Rattle.sut_measures.specs.declared.measures.Measure.{Measure}
use Rattle.sut_measures.specs.declared.measures.Measure.TheVariants as measure
use Rattle.sut_measures.specs.declared.accounts.Account.{Account}
use Rattle.sut_measures.specs.declared.accounts.Account.TheVariants as account

and-true : (b : Bool) → (b && true) ≡ b
and-true true = refl
and-true false = refl

pub cell-fields : (cs : ClassLists) (x : Cell) → shape_fields cs (cell_shape x) ≡ name_list (cell_name cs x)
cell-fields cs (cell.Make i j) = refl
cell-fields cs (cell.Import i) = refl
cell-fields cs (cell.Basic i q) = refl
cell-fields cs (cell.Margin k i q) = refl
cell-fields cs (cell.Tax t i q) = refl
cell-fields cs (cell.Service i k) = refl
cell-fields cs (cell.Added v j) = refl

pub cell-words : (x : Cell) → shape_words (cell_shape x) ≡ cell_words x
cell-words (cell.Make i j) = refl
cell-words (cell.Import i) = refl
cell-words (cell.Basic i (column.Industry m)) = refl
cell-words (cell.Basic i (column.Final m)) = refl
cell-words (cell.Margin k i (column.Industry m)) = refl
cell-words (cell.Margin k i (column.Final m)) = refl
cell-words (cell.Tax t i (column.Industry m)) = refl
cell-words (cell.Tax t i (column.Final m)) = refl
cell-words (cell.Service i k) = refl
cell-words (cell.Added v j) = refl

pub cell-fits : (cs : ClassLists) (x : Cell) → (shape_fits cs (cell_shape x) && has_right_kind cs x) ≡ cell_fits cs x
cell-fits cs (cell.Make i j) = simp and-true
cell-fits cs (cell.Import i) = simp and-true
cell-fits cs (cell.Basic i q) = simp and-true
cell-fits cs (cell.Margin k i q) = simp and-true
cell-fits cs (cell.Tax t i q) = simp and-true
cell-fits cs (cell.Service i k) = simp and-true
cell-fits cs (cell.Added v j) = simp and-true

pub total-fields : (cs : ClassLists) (x : Total) → shape_fields cs (total_shape x) ≡ name_list (total_name cs x)
total-fields cs (total.Purchase i q) = refl
total-fields cs (total.Supply i) = refl
total-fields cs (total.Output j) = refl
total-fields cs (total.Inputs j) = refl
total-fields cs (total.ValueAdded j) = refl
total-fields cs (total.ItemTotal v) = refl
total-fields cs (total.FinalTotal f) = refl
total-fields cs total.ImportTotal = refl
total-fields cs (total.MarginTotal k) = refl
total-fields cs (total.MarginProduct k i) = refl
total-fields cs (total.TaxTotal t) = refl
total-fields cs (total.TaxProduct t i) = refl
total-fields cs total.Gdp = refl
total-fields cs (total.MakeGroup g j) = refl
total-fields cs (total.ImportGroup g) = refl
total-fields cs (total.PurchaseGroup g q) = refl
total-fields cs (total.MarginGroup k g) = refl
total-fields cs (total.TaxGroup t g) = refl
total-fields cs (total.ItemGroup v h) = refl

pub measure-fields : (cs : ClassLists) (m : Measure) → shape_fields cs (measure_shape m) ≡ name_fields cs m
measure-fields cs (measure.Cell c) = cell-fields cs c
measure-fields cs (measure.Total t) = total-fields cs t

pub total-words : (x : Total) → shape_words (total_shape x) ≡ total_words x
total-words (total.Purchase i (column.Industry m)) = refl
total-words (total.Purchase i (column.Final m)) = refl
total-words (total.Supply i) = refl
total-words (total.Output j) = refl
total-words (total.Inputs j) = refl
total-words (total.ValueAdded j) = refl
total-words (total.ItemTotal v) = refl
total-words (total.FinalTotal f) = refl
total-words total.ImportTotal = refl
total-words (total.MarginTotal k) = refl
total-words (total.MarginProduct k i) = refl
total-words (total.TaxTotal t) = refl
total-words (total.TaxProduct t i) = refl
total-words total.Gdp = refl
total-words (total.MakeGroup g j) = refl
total-words (total.ImportGroup g) = refl
total-words (total.PurchaseGroup g (column.Industry m)) = refl
total-words (total.PurchaseGroup g (column.Final m)) = refl
total-words (total.MarginGroup k g) = refl
total-words (total.TaxGroup t g) = refl
total-words (total.ItemGroup v h) = refl

pub measure-words : (m : Measure) → shape_words (measure_shape m) ≡ measure_words m
measure-words (measure.Cell c) = cell-words c
measure-words (measure.Total t) = total-words t

pub total-fits : (cs : ClassLists) (x : Total) → (shape_fits cs (total_shape x)) ≡ total_fits cs x
total-fits cs (total.Purchase i q) = simp and-true
total-fits cs (total.Supply i) = simp and-true
total-fits cs (total.Output j) = simp and-true
total-fits cs (total.Inputs j) = simp and-true
total-fits cs (total.ValueAdded j) = simp and-true
total-fits cs (total.ItemTotal v) = simp and-true
total-fits cs (total.FinalTotal f) = simp and-true
total-fits cs total.ImportTotal = refl
total-fits cs (total.MarginTotal k) = simp and-true
total-fits cs (total.MarginProduct k i) = simp and-true
total-fits cs (total.TaxTotal t) = simp and-true
total-fits cs (total.TaxProduct t i) = simp and-true
total-fits cs total.Gdp = refl
total-fits cs (total.MakeGroup g j) = simp and-true
total-fits cs (total.ImportGroup g) = simp and-true
total-fits cs (total.PurchaseGroup g q) = simp and-true
total-fits cs (total.MarginGroup k g) = simp and-true
total-fits cs (total.TaxGroup t g) = simp and-true
total-fits cs (total.ItemGroup v h) = simp and-true

pub account-fields : (cs : ClassLists) (x : Account) → account_shape_fields cs (account_shape x) ≡ account_fields cs x
account-fields cs (account.Supplied i) = refl
account-fields cs (account.Used i) = refl
account-fields cs (account.Bought i q) = refl
account-fields cs (account.Buying j) = refl
account-fields cs (account.Adding j) = refl
account-fields cs (account.Industry j) = refl
account-fields cs (account.Making j) = refl
account-fields cs (account.Final f) = refl
account-fields cs (account.Item v) = refl
account-fields cs account.Imports = refl
account-fields cs (account.Services k) = refl
account-fields cs (account.Margins k) = refl
account-fields cs (account.MarginOf k i) = refl
account-fields cs (account.Taxes t) = refl
account-fields cs (account.TaxOf t i) = refl
account-fields cs account.Spending = refl
account-fields cs account.Income = refl
account-fields cs (account.MakingIn g j) = refl
account-fields cs (account.Importing g) = refl
account-fields cs (account.BuyingIn g q) = refl
account-fields cs (account.MarginIn k g) = refl
account-fields cs (account.TaxIn t g) = refl
account-fields cs (account.ItemIn v h) = refl

pub account-words : (x : Account) → shape_words (account_shape x) ≡ account_words x
account-words (account.Supplied i) = refl
account-words (account.Used i) = refl
account-words (account.Bought i (column.Industry m)) = refl
account-words (account.Bought i (column.Final m)) = refl
account-words (account.Buying j) = refl
account-words (account.Adding j) = refl
account-words (account.Industry j) = refl
account-words (account.Making j) = refl
account-words (account.Final f) = refl
account-words (account.Item v) = refl
account-words account.Imports = refl
account-words (account.Services k) = refl
account-words (account.Margins k) = refl
account-words (account.MarginOf k i) = refl
account-words (account.Taxes t) = refl
account-words (account.TaxOf t i) = refl
account-words account.Spending = refl
account-words account.Income = refl
account-words (account.MakingIn g j) = refl
account-words (account.Importing g) = refl
account-words (account.BuyingIn g (column.Industry m)) = refl
account-words (account.BuyingIn g (column.Final m)) = refl
account-words (account.MarginIn k g) = refl
account-words (account.TaxIn t g) = refl
account-words (account.ItemIn v h) = refl

pub account-fits : (cs : ClassLists) (x : Account) → (shape_fits cs (account_shape x)) ≡ account_fits cs x
account-fits cs (account.Supplied i) = simp and-true
account-fits cs (account.Used i) = simp and-true
account-fits cs (account.Bought i q) = simp and-true
account-fits cs (account.Buying j) = simp and-true
account-fits cs (account.Adding j) = simp and-true
account-fits cs (account.Industry j) = simp and-true
account-fits cs (account.Making j) = simp and-true
account-fits cs (account.Final f) = simp and-true
account-fits cs (account.Item v) = simp and-true
account-fits cs account.Imports = refl
account-fits cs (account.Services k) = simp and-true
account-fits cs (account.Margins k) = simp and-true
account-fits cs (account.MarginOf k i) = simp and-true
account-fits cs (account.Taxes t) = simp and-true
account-fits cs (account.TaxOf t i) = simp and-true
account-fits cs account.Spending = refl
account-fits cs account.Income = refl
account-fits cs (account.MakingIn g j) = simp and-true
account-fits cs (account.Importing g) = simp and-true
account-fits cs (account.BuyingIn g q) = simp and-true
account-fits cs (account.MarginIn k g) = simp and-true
account-fits cs (account.TaxIn t g) = simp and-true
account-fits cs (account.ItemIn v h) = simp and-true
