-- The account that each measure leaves and the one that it enters.
use Rattle.std.specs.Prelude.{Option, None, Some}
use Rattle.sut_classes.specs.Groups.{Groups, product_group, industry_group}
use Rattle.sut_classes.specs.declared.ids.ProductGroupId.{ProductGroupId}
use Rattle.sut_classes.specs.declared.ids.IndustryGroupId.{IndustryGroupId}
use Rattle.sut_classes.specs.declared.ids.Column.{Column}
use Rattle.sut_classes.specs.declared.ids.Column.TheVariants as column
use Rattle.sut_measures.specs.declared.measures.Cell.{Cell}
use Rattle.sut_measures.specs.declared.measures.Cell.TheVariants as cell
use Rattle.sut_measures.specs.declared.measures.Total.{Total}
use Rattle.sut_measures.specs.declared.measures.Total.TheVariants as total
use Rattle.sut_measures.specs.declared.measures.Measure.{Measure}
use Rattle.sut_measures.specs.declared.measures.Measure.TheVariants as measure
use Rattle.sut_measures.specs.declared.accounts.Account.{Account}
use Rattle.sut_measures.specs.declared.accounts.Account.TheVariants as account

-- the group's account where there is a group, and else the account given
abbrev pub by_product_group : Option ProductGroupId → (ProductGroupId → Account) → Account → Account
by_product_group None of_group other = other
by_product_group (Some g) of_group other = of_group g

abbrev pub by_industry_group : Option IndustryGroupId → (IndustryGroupId → Account) → Account → Account
by_industry_group None of_group other = other
by_industry_group (Some h) of_group other = of_group h

-- the account of a column's purchases
abbrev pub buyer : Column → Account
buyer (column.Industry j) = account.Buying j
buyer (column.Final f) = account.Final f

abbrev pub cell_left : Groups → Cell → Account
cell_left gs (cell.Make i j) = by_product_group (product_group gs i) (λ g. account.MakingIn g j) (account.Making j)
cell_left gs (cell.Import i) = by_product_group (product_group gs i) (λ g. account.Importing g) account.Imports
cell_left gs (cell.Basic i q) = account.Used i
cell_left gs (cell.Margin k i q) = account.MarginOf k i
cell_left gs (cell.Tax t i q) = account.TaxOf t i
cell_left gs (cell.Service i k) = account.Used i
cell_left gs (cell.Added v j) = by_industry_group (industry_group gs j) (λ h. account.ItemIn v h) (account.Item v)

abbrev pub cell_entered : Groups → Cell → Account
cell_entered gs (cell.Make i j) = account.Supplied i
cell_entered gs (cell.Import i) = account.Supplied i
cell_entered gs (cell.Basic i q) = account.Bought i q
cell_entered gs (cell.Margin k i q) = account.Bought i q
cell_entered gs (cell.Tax t i q) = account.Bought i q
cell_entered gs (cell.Service i k) = account.Services k
cell_entered gs (cell.Added v j) = account.Adding j

abbrev pub total_left : Groups → Total → Account
total_left gs (total.Purchase i q) = account.Bought i q
total_left gs (total.Supply i) = account.Supplied i
total_left gs (total.Output j) = account.Industry j
total_left gs (total.Inputs j) = account.Buying j
total_left gs (total.ValueAdded j) = account.Adding j
total_left gs (total.ItemTotal v) = account.Income
total_left gs (total.FinalTotal f) = account.Final f
total_left gs total.ImportTotal = account.Spending
total_left gs (total.MarginTotal k) = account.Services k
total_left gs (total.MarginProduct k i) =
    by_product_group (product_group gs i) (λ g. account.MarginIn k g) (account.Margins k)
total_left gs (total.TaxTotal t) = account.Income
total_left gs (total.TaxProduct t i) =
    by_product_group (product_group gs i) (λ g. account.TaxIn t g) (account.Taxes t)
total_left gs total.Gdp = account.Spending
total_left gs (total.MakeGroup g j) = account.Making j
total_left gs (total.ImportGroup g) = account.Imports
total_left gs (total.PurchaseGroup g q) = account.BuyingIn g q
total_left gs (total.MarginGroup k g) = account.Margins k
total_left gs (total.TaxGroup t g) = account.Taxes t
total_left gs (total.ItemGroup v h) = account.Item v

abbrev pub total_entered : Groups → Total → Account
total_entered gs (total.Purchase i q) =
    by_product_group (product_group gs i) (λ g. account.BuyingIn g q) (buyer q)
total_entered gs (total.Supply i) = account.Used i
total_entered gs (total.Output j) = account.Making j
total_entered gs (total.Inputs j) = account.Industry j
total_entered gs (total.ValueAdded j) = account.Industry j
total_entered gs (total.ItemTotal v) = account.Item v
total_entered gs (total.FinalTotal f) = account.Spending
total_entered gs total.ImportTotal = account.Imports
total_entered gs (total.MarginTotal k) = account.Margins k
total_entered gs (total.MarginProduct k i) = account.MarginOf k i
total_entered gs (total.TaxTotal t) = account.Taxes t
total_entered gs (total.TaxProduct t i) = account.TaxOf t i
total_entered gs total.Gdp = account.Income
total_entered gs (total.MakeGroup g j) = account.MakingIn g j
total_entered gs (total.ImportGroup g) = account.Importing g
total_entered gs (total.PurchaseGroup g q) = buyer q
total_entered gs (total.MarginGroup k g) = account.MarginIn k g
total_entered gs (total.TaxGroup t g) = account.TaxIn t g
total_entered gs (total.ItemGroup v h) = account.ItemIn v h

abbrev pub left : Groups → Measure → Account
left gs (measure.Cell c) = cell_left gs c
left gs (measure.Total t) = total_left gs t

abbrev pub entered : Groups → Measure → Account
entered gs (measure.Cell c) = cell_entered gs c
entered gs (measure.Total t) = total_entered gs t
