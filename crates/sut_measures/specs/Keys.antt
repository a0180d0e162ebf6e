-- The key of a measure and of an account: its kind, then its codes. Keys are compared as lists, number by number:
-- this is the order of measures and that of accounts, and two of them are the same where their keys are.
use Rattle.std.specs.Prelude.{ℕ, List, [], ◌∷◌}
use Rattle.sut_classes.specs.Columns.{column_key}
use Rattle.sut_measures.specs.declared.measures.Cell.{Cell}
use Rattle.sut_measures.specs.declared.measures.Cell.TheVariants as cell
use Rattle.sut_measures.specs.declared.measures.Total.{Total}
use Rattle.sut_measures.specs.declared.measures.Total.TheVariants as total
use Rattle.sut_measures.specs.declared.measures.Measure.{Measure}
use Rattle.sut_measures.specs.declared.measures.Measure.TheVariants as measure
use Rattle.sut_measures.specs.declared.accounts.Account.{Account}
use Rattle.sut_measures.specs.declared.accounts.Account.TheVariants as account

abbrev pub cell_key : Cell → List ℕ
cell_key (cell.Make i j) = 0 ∷ i.0 ∷ j.0 ∷ []
cell_key (cell.Import i) = 1 ∷ i.0 ∷ []
cell_key (cell.Basic i q) = 2 ∷ i.0 ∷ column_key q
cell_key (cell.Margin k i q) = 3 ∷ k.0 ∷ i.0 ∷ column_key q
cell_key (cell.Tax t i q) = 4 ∷ t.0 ∷ i.0 ∷ column_key q
cell_key (cell.Service i k) = 5 ∷ i.0 ∷ k.0 ∷ []
cell_key (cell.Added v j) = 6 ∷ v.0 ∷ j.0 ∷ []

abbrev pub total_key : Total → List ℕ
total_key (total.Purchase i q) = 7 ∷ i.0 ∷ column_key q
total_key (total.Supply i) = 8 ∷ i.0 ∷ []
total_key (total.Output j) = 9 ∷ j.0 ∷ []
total_key (total.Inputs j) = 10 ∷ j.0 ∷ []
total_key (total.ValueAdded j) = 11 ∷ j.0 ∷ []
total_key (total.ItemTotal v) = 12 ∷ v.0 ∷ []
total_key (total.FinalTotal f) = 13 ∷ f.0 ∷ []
total_key total.ImportTotal = 14 ∷ []
total_key (total.MarginTotal k) = 15 ∷ k.0 ∷ []
total_key (total.MarginProduct k i) = 16 ∷ k.0 ∷ i.0 ∷ []
total_key (total.TaxTotal t) = 17 ∷ t.0 ∷ []
total_key (total.TaxProduct t i) = 18 ∷ t.0 ∷ i.0 ∷ []
total_key total.Gdp = 19 ∷ []
total_key (total.MakeGroup g j) = 20 ∷ g.0 ∷ j.0 ∷ []
total_key (total.ImportGroup g) = 21 ∷ g.0 ∷ []
total_key (total.PurchaseGroup g q) = 22 ∷ g.0 ∷ column_key q
total_key (total.MarginGroup k g) = 23 ∷ k.0 ∷ g.0 ∷ []
total_key (total.TaxGroup t g) = 24 ∷ t.0 ∷ g.0 ∷ []
total_key (total.ItemGroup v h) = 25 ∷ v.0 ∷ h.0 ∷ []

abbrev pub measure_key : Measure → List ℕ
measure_key (measure.Cell c) = cell_key c
measure_key (measure.Total t) = total_key t

abbrev pub account_key : Account → List ℕ
account_key (account.Supplied i) = 0 ∷ i.0 ∷ []
account_key (account.Used i) = 1 ∷ i.0 ∷ []
account_key (account.Bought i q) = 2 ∷ i.0 ∷ column_key q
account_key (account.Buying j) = 3 ∷ j.0 ∷ []
account_key (account.Adding j) = 4 ∷ j.0 ∷ []
account_key (account.Industry j) = 5 ∷ j.0 ∷ []
account_key (account.Making j) = 6 ∷ j.0 ∷ []
account_key (account.Final f) = 7 ∷ f.0 ∷ []
account_key (account.Item v) = 8 ∷ v.0 ∷ []
account_key account.Imports = 9 ∷ []
account_key (account.Services k) = 10 ∷ k.0 ∷ []
account_key (account.Margins k) = 11 ∷ k.0 ∷ []
account_key (account.MarginOf k i) = 12 ∷ k.0 ∷ i.0 ∷ []
account_key (account.Taxes t) = 13 ∷ t.0 ∷ []
account_key (account.TaxOf t i) = 14 ∷ t.0 ∷ i.0 ∷ []
account_key account.Spending = 15 ∷ []
account_key account.Income = 16 ∷ []
account_key (account.MakingIn g j) = 17 ∷ g.0 ∷ j.0 ∷ []
account_key (account.Importing g) = 18 ∷ g.0 ∷ []
account_key (account.BuyingIn g q) = 19 ∷ g.0 ∷ column_key q
account_key (account.MarginIn k g) = 20 ∷ k.0 ∷ g.0 ∷ []
account_key (account.TaxIn t g) = 21 ∷ t.0 ∷ g.0 ∷ []
account_key (account.ItemIn v h) = 22 ∷ v.0 ∷ h.0 ∷ []
