-- Which measures and accounts the classes have: every place is below its list's length, and a service has its product's kind.
use Rattle.std.specs.Prelude.{Bool, true, false, ◌&&◌, nat_lt, ◌==◌, length, Option, None, Some}
use Rattle.sut_classes.specs.ClassLists.{ClassLists}
use Rattle.sut_classes.specs.Places.{kind_at}
use Rattle.sut_classes.specs.declared.ids.ProductId.{ProductId}
use Rattle.sut_classes.specs.declared.ids.IndustryId.{IndustryId}
use Rattle.sut_classes.specs.declared.ids.FinalId.{FinalId}
use Rattle.sut_classes.specs.declared.ids.ItemId.{ItemId}
use Rattle.sut_classes.specs.declared.ids.MarginId.{MarginId}
use Rattle.sut_classes.specs.declared.ids.TaxId.{TaxId}
use Rattle.sut_classes.specs.declared.ids.ProductGroupId.{ProductGroupId}
use Rattle.sut_classes.specs.declared.ids.IndustryGroupId.{IndustryGroupId}
use Rattle.sut_classes.specs.declared.ids.Column.{Column}
use Rattle.sut_classes.specs.declared.ids.Column.TheVariants as column
use Rattle.sut_measures.specs.declared.measures.Cell.{Cell}
use Rattle.sut_measures.specs.declared.measures.Cell.TheVariants as cell
use Rattle.sut_measures.specs.declared.measures.Total.{Total}
use Rattle.sut_measures.specs.declared.measures.Total.TheVariants as total
use Rattle.sut_measures.specs.declared.measures.Measure.{Measure}
use Rattle.sut_measures.specs.declared.measures.Measure.TheVariants as measure
use Rattle.sut_measures.specs.declared.accounts.Account.{Account}
use Rattle.sut_measures.specs.declared.accounts.Account.TheVariants as account

abbrev pub has_product : ClassLists → ProductId → Bool
has_product cs i = nat_lt i.0 (length cs.products)

abbrev pub has_industry : ClassLists → IndustryId → Bool
has_industry cs j = nat_lt j.0 (length cs.industries)

abbrev pub has_final : ClassLists → FinalId → Bool
has_final cs f = nat_lt f.0 (length cs.finals)

abbrev pub has_item : ClassLists → ItemId → Bool
has_item cs v = nat_lt v.0 (length cs.items)

abbrev pub has_margin : ClassLists → MarginId → Bool
has_margin cs k = nat_lt k.0 (length cs.margins)

abbrev pub has_tax : ClassLists → TaxId → Bool
has_tax cs t = nat_lt t.0 (length cs.taxes)

abbrev pub has_product_group : ClassLists → ProductGroupId → Bool
has_product_group cs g = nat_lt g.0 (length cs.product_groups)

abbrev pub has_industry_group : ClassLists → IndustryGroupId → Bool
has_industry_group cs h = nat_lt h.0 (length cs.industry_groups)

abbrev pub has_column : ClassLists → Column → Bool
has_column cs (column.Industry j) = has_industry cs j
has_column cs (column.Final f) = has_final cs f

-- the kind is this one
abbrev pub is_kind : Option MarginId → MarginId → Bool
is_kind None k = false
is_kind (Some m) k = m.0 == k.0

abbrev pub cell_fits : ClassLists → Cell → Bool
cell_fits cs (cell.Make i j) = has_product cs i && has_industry cs j
cell_fits cs (cell.Import i) = has_product cs i
cell_fits cs (cell.Basic i q) = has_product cs i && has_column cs q
cell_fits cs (cell.Margin k i q) = has_margin cs k && has_product cs i && has_column cs q
cell_fits cs (cell.Tax t i q) = has_tax cs t && has_product cs i && has_column cs q
cell_fits cs (cell.Service i k) = has_product cs i && has_margin cs k && is_kind (kind_at cs i) k
cell_fits cs (cell.Added v j) = has_item cs v && has_industry cs j

abbrev pub total_fits : ClassLists → Total → Bool
total_fits cs (total.Purchase i q) = has_product cs i && has_column cs q
total_fits cs (total.Supply i) = has_product cs i
total_fits cs (total.Output j) = has_industry cs j
total_fits cs (total.Inputs j) = has_industry cs j
total_fits cs (total.ValueAdded j) = has_industry cs j
total_fits cs (total.ItemTotal v) = has_item cs v
total_fits cs (total.FinalTotal f) = has_final cs f
total_fits cs total.ImportTotal = true
total_fits cs (total.MarginTotal k) = has_margin cs k
total_fits cs (total.MarginProduct k i) = has_margin cs k && has_product cs i
total_fits cs (total.TaxTotal t) = has_tax cs t
total_fits cs (total.TaxProduct t i) = has_tax cs t && has_product cs i
total_fits cs total.Gdp = true
total_fits cs (total.MakeGroup g j) = has_product_group cs g && has_industry cs j
total_fits cs (total.ImportGroup g) = has_product_group cs g
total_fits cs (total.PurchaseGroup g q) = has_product_group cs g && has_column cs q
total_fits cs (total.MarginGroup k g) = has_margin cs k && has_product_group cs g
total_fits cs (total.TaxGroup t g) = has_tax cs t && has_product_group cs g
total_fits cs (total.ItemGroup v h) = has_item cs v && has_industry_group cs h

abbrev pub fits : ClassLists → Measure → Bool
fits cs (measure.Cell c) = cell_fits cs c
fits cs (measure.Total t) = total_fits cs t

abbrev pub account_fits : ClassLists → Account → Bool
account_fits cs (account.Supplied i) = has_product cs i
account_fits cs (account.Used i) = has_product cs i
account_fits cs (account.Bought i q) = has_product cs i && has_column cs q
account_fits cs (account.Buying j) = has_industry cs j
account_fits cs (account.Adding j) = has_industry cs j
account_fits cs (account.Industry j) = has_industry cs j
account_fits cs (account.Making j) = has_industry cs j
account_fits cs (account.Final f) = has_final cs f
account_fits cs (account.Item v) = has_item cs v
account_fits cs account.Imports = true
account_fits cs (account.Services k) = has_margin cs k
account_fits cs (account.Margins k) = has_margin cs k
account_fits cs (account.MarginOf k i) = has_margin cs k && has_product cs i
account_fits cs (account.Taxes t) = has_tax cs t
account_fits cs (account.TaxOf t i) = has_tax cs t && has_product cs i
account_fits cs account.Spending = true
account_fits cs account.Income = true
account_fits cs (account.MakingIn g j) = has_product_group cs g && has_industry cs j
account_fits cs (account.Importing g) = has_product_group cs g
account_fits cs (account.BuyingIn g q) = has_product_group cs g && has_column cs q
account_fits cs (account.MarginIn k g) = has_margin cs k && has_product_group cs g
account_fits cs (account.TaxIn t g) = has_tax cs t && has_product_group cs g
account_fits cs (account.ItemIn v h) = has_item cs v && has_industry_group cs h
