-- Measures and accounts in a status line, which knows no codes: a word, and the places of the codes, counted from 1.
use Rattle.std.specs.Prelude.{ℕ, ◌+◌, List, [], ◌∷◌, codes, decimal}
use Rattle.sut_classes.specs.declared.ids.Column.{Column}
use Rattle.sut_classes.specs.declared.ids.Column.TheVariants as column
use Rattle.sut_measures.specs.declared.measures.Cell.{Cell}
use Rattle.sut_measures.specs.declared.measures.Cell.TheVariants as cell
use Rattle.sut_measures.specs.declared.measures.Total.{Total}
use Rattle.sut_measures.specs.declared.measures.Total.TheVariants as total
use Rattle.sut_measures.specs.declared.measures.Measure.{Measure}
use Rattle.sut_measures.specs.declared.measures.Measure.TheVariants as measure
use Rattle.sut_measures.specs.declared.accounts.Account.{Account}
use Rattle.sut_measures.specs.declared.accounts.Account.TheVariants as account

-- a place, counted from 1
abbrev pub nth : ℕ → List ℕ
nth n = decimal (n + 1)

-- a column has its axis before its place
abbrev pub column_words : Column → List (List ℕ)
column_words (column.Industry j) = codes "industry" ∷ nth j.0 ∷ []
column_words (column.Final f) = codes "final" ∷ nth f.0 ∷ []

abbrev pub cell_words : Cell → List (List ℕ)
cell_words (cell.Make i j) = codes "make" ∷ nth i.0 ∷ nth j.0 ∷ []
cell_words (cell.Import i) = codes "import" ∷ nth i.0 ∷ []
cell_words (cell.Basic i q) = codes "basic" ∷ nth i.0 ∷ column_words q
cell_words (cell.Margin k i q) = codes "margin" ∷ nth k.0 ∷ nth i.0 ∷ column_words q
cell_words (cell.Tax t i q) = codes "tax" ∷ nth t.0 ∷ nth i.0 ∷ column_words q
cell_words (cell.Service i k) = codes "service" ∷ nth i.0 ∷ nth k.0 ∷ []
cell_words (cell.Added v j) = codes "added" ∷ nth v.0 ∷ nth j.0 ∷ []

abbrev pub total_words : Total → List (List ℕ)
total_words (total.Purchase i q) = codes "purchase" ∷ nth i.0 ∷ column_words q
total_words (total.Supply i) = codes "supply" ∷ nth i.0 ∷ []
total_words (total.Output j) = codes "output" ∷ nth j.0 ∷ []
total_words (total.Inputs j) = codes "inputs" ∷ nth j.0 ∷ []
total_words (total.ValueAdded j) = codes "value_added" ∷ nth j.0 ∷ []
total_words (total.ItemTotal v) = codes "item_total" ∷ nth v.0 ∷ []
total_words (total.FinalTotal f) = codes "final_total" ∷ nth f.0 ∷ []
total_words total.ImportTotal = codes "import_total" ∷ []
total_words (total.MarginTotal k) = codes "margin_total" ∷ nth k.0 ∷ []
total_words (total.MarginProduct k i) = codes "margin_product" ∷ nth k.0 ∷ nth i.0 ∷ []
total_words (total.TaxTotal t) = codes "tax_total" ∷ nth t.0 ∷ []
total_words (total.TaxProduct t i) = codes "tax_product" ∷ nth t.0 ∷ nth i.0 ∷ []
total_words total.Gdp = codes "gdp" ∷ []
total_words (total.MakeGroup g j) = codes "make_group" ∷ nth g.0 ∷ nth j.0 ∷ []
total_words (total.ImportGroup g) = codes "import_group" ∷ nth g.0 ∷ []
total_words (total.PurchaseGroup g q) = codes "purchase_group" ∷ nth g.0 ∷ column_words q
total_words (total.MarginGroup k g) = codes "margin_group" ∷ nth k.0 ∷ nth g.0 ∷ []
total_words (total.TaxGroup t g) = codes "tax_group" ∷ nth t.0 ∷ nth g.0 ∷ []
total_words (total.ItemGroup v h) = codes "item_group" ∷ nth v.0 ∷ nth h.0 ∷ []

-- a measure in a status line
abbrev pub measure_words : Measure → List (List ℕ)
measure_words (measure.Cell c) = cell_words c
measure_words (measure.Total t) = total_words t

-- an account in a status line
abbrev pub account_words : Account → List (List ℕ)
account_words (account.Supplied i) = codes "supplied" ∷ nth i.0 ∷ []
account_words (account.Used i) = codes "used" ∷ nth i.0 ∷ []
account_words (account.Bought i q) = codes "bought" ∷ nth i.0 ∷ column_words q
account_words (account.Buying j) = codes "buying" ∷ nth j.0 ∷ []
account_words (account.Adding j) = codes "adding" ∷ nth j.0 ∷ []
account_words (account.Industry j) = codes "industry" ∷ nth j.0 ∷ []
account_words (account.Making j) = codes "making" ∷ nth j.0 ∷ []
account_words (account.Final f) = codes "final" ∷ nth f.0 ∷ []
account_words (account.Item v) = codes "item" ∷ nth v.0 ∷ []
account_words account.Imports = codes "imports" ∷ []
account_words (account.Services k) = codes "services" ∷ nth k.0 ∷ []
account_words (account.Margins k) = codes "margins" ∷ nth k.0 ∷ []
account_words (account.MarginOf k i) = codes "margin_of" ∷ nth k.0 ∷ nth i.0 ∷ []
account_words (account.Taxes t) = codes "taxes" ∷ nth t.0 ∷ []
account_words (account.TaxOf t i) = codes "tax_of" ∷ nth t.0 ∷ nth i.0 ∷ []
account_words account.Spending = codes "spending" ∷ []
account_words account.Income = codes "income" ∷ []
account_words (account.MakingIn g j) = codes "making_in" ∷ nth g.0 ∷ nth j.0 ∷ []
account_words (account.Importing g) = codes "importing" ∷ nth g.0 ∷ []
account_words (account.BuyingIn g q) = codes "buying_in" ∷ nth g.0 ∷ column_words q
account_words (account.MarginIn k g) = codes "margin_in" ∷ nth k.0 ∷ nth g.0 ∷ []
account_words (account.TaxIn t g) = codes "tax_in" ∷ nth t.0 ∷ nth g.0 ∷ []
account_words (account.ItemIn v h) = codes "item_in" ∷ nth v.0 ∷ nth h.0 ∷ []
