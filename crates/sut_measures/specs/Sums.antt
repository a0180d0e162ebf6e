-- The sum that each total is: which cells stand in it, and with which factor.
use Rattle.std.specs.Prelude.{Bool, true, false, ◌&&◌, ◌==◌, if◌then◌else◌, ℤ, pos, negsuc, Option, None, Some, option_map, List, [], ◌∷◌, ◌++◌}
use Rattle.sut_measures.specs.Keys.{cell_key, total_key}
use lib.Pointwise.{pointwise}
use Rattle.sut_classes.specs.Groups.{Groups, group_in, product_group, industry_group}
use Rattle.sut_classes.specs.declared.ids.ProductId.{ProductId}
use Rattle.sut_classes.specs.declared.ids.IndustryId.{IndustryId}
use Rattle.sut_classes.specs.declared.ids.FinalId.{FinalId}
use Rattle.sut_classes.specs.declared.ids.ProductGroupId.{ProductGroupId}
use Rattle.sut_classes.specs.declared.ids.IndustryGroupId.{IndustryGroupId}
use Rattle.sut_classes.specs.declared.ids.Column.{Column}
use Rattle.sut_classes.specs.declared.ids.Column.TheVariants as column
use Rattle.sut_measures.specs.declared.measures.Cell.{Cell}
use Rattle.sut_measures.specs.declared.measures.Cell.TheVariants as cell
use Rattle.sut_measures.specs.declared.measures.Total.{Total}
use Rattle.sut_measures.specs.declared.measures.Total.TheVariants as total

abbrev pub same_column : Column → Column → Bool
same_column (column.Industry j) (column.Industry k) = j.0 == k.0
same_column (column.Final f) (column.Final g) = f.0 == g.0
same_column _ _ = false

abbrev pub is_industry : Column → IndustryId → Bool
is_industry (column.Industry k) j = k.0 == j.0
is_industry (column.Final f) j = false

abbrev pub is_final : Column → FinalId → Bool
is_final (column.Industry j) f = false
is_final (column.Final g) f = g.0 == f.0

abbrev pub is_any_final : Column → Bool
is_any_final (column.Industry j) = false
is_any_final (column.Final f) = true

abbrev pub is_product_group : Option ProductGroupId → ProductGroupId → Bool
is_product_group None g = false
is_product_group (Some h) g = h.0 == g.0

abbrev pub is_industry_group : Option IndustryGroupId → IndustryGroupId → Bool
is_industry_group None g = false
is_industry_group (Some h) g = h.0 == g.0

-- the product, or the industry, is in this group
abbrev pub is_in : Groups → ProductId → ProductGroupId → Bool
is_in gs i g = is_product_group (product_group gs i) g

abbrev pub is_industry_in : Groups → IndustryId → IndustryGroupId → Bool
is_industry_in gs j h = is_industry_group (industry_group gs j) h

-- the cell is a part of a purchase, basic, margin or tax, whose product and column pass the tests
abbrev pub is_bought : (ProductId → Bool) → (Column → Bool) → Cell → Bool
is_bought p r (cell.Basic i q) = p i && r q
is_bought p r (cell.Margin k i q) = p i && r q
is_bought p r (cell.Tax t i q) = p i && r q
is_bought p r _ = false

-- the cell stands in the total's sum
abbrev pub stands_in : Groups → Cell → Total → Bool
stands_in gs c (total.Purchase i q) = is_bought (λ n. n.0 == i.0) (λ r. same_column r q) c
stands_in gs (cell.Make n m) (total.Supply i) = n.0 == i.0
stands_in gs (cell.Import n) (total.Supply i) = n.0 == i.0
stands_in gs (cell.Make n m) (total.Output j) = m.0 == j.0
stands_in gs c (total.Inputs j) = is_bought (λ n. true) (λ r. is_industry r j) c
stands_in gs (cell.Added v m) (total.ValueAdded j) = m.0 == j.0
stands_in gs (cell.Added w j) (total.ItemTotal v) = w.0 == v.0
stands_in gs c (total.FinalTotal f) = is_bought (λ n. true) (λ r. is_final r f) c
stands_in gs (cell.Import n) total.ImportTotal = true
stands_in gs (cell.Margin l n r) (total.MarginTotal k) = l.0 == k.0
stands_in gs (cell.Margin l n r) (total.MarginProduct k i) = l.0 == k.0 && n.0 == i.0
stands_in gs (cell.Tax u n r) (total.TaxTotal t) = u.0 == t.0
stands_in gs (cell.Tax u n r) (total.TaxProduct t i) = u.0 == t.0 && n.0 == i.0
stands_in gs (cell.Import n) total.Gdp = true
stands_in gs c total.Gdp = is_bought (λ n. true) is_any_final c
stands_in gs (cell.Make n m) (total.MakeGroup g j) = is_in gs n g && m.0 == j.0
stands_in gs (cell.Import n) (total.ImportGroup g) = is_in gs n g
stands_in gs c (total.PurchaseGroup g q) = is_bought (λ n. is_in gs n g) (λ r. same_column r q) c
stands_in gs (cell.Margin l n r) (total.MarginGroup k g) = l.0 == k.0 && is_in gs n g
stands_in gs (cell.Tax u n r) (total.TaxGroup t g) = u.0 == t.0 && is_in gs n g
stands_in gs (cell.Added w j) (total.ItemGroup v h) = w.0 == v.0 && is_industry_in gs j h
stands_in gs c t = false

-- GDP is final uses less imports: imports alone have the factor -1, and there alone
abbrev pub sign_in : Cell → Total → ℤ
sign_in (cell.Import i) total.Gdp = negsuc 0
sign_in c t = pos 1

-- a cell's factor in a total: 1, -1 or, where the cell doesn't stand in the sum, 0
abbrev pub factor : Groups → Cell → Total → ℤ
factor gs c t = if stands_in gs c t then sign_in c t else pos 0

-- ---- the same table by cells: the totals in whose sum a cell stands

abbrev pub for_product_group : Option ProductGroupId → (ProductGroupId → Total) → List Total
for_product_group None t = []
for_product_group (Some g) t = t g ∷ []

abbrev pub for_industry_group : Option IndustryGroupId → (IndustryGroupId → Total) → List Total
for_industry_group None t = []
for_industry_group (Some h) t = t h ∷ []

-- of a column: its own total, and GDP for a final use
abbrev pub column_totals : Column → List Total
column_totals (column.Industry j) = total.Inputs j ∷ []
column_totals (column.Final f) = total.FinalTotal f ∷ total.Gdp ∷ []

-- of a part of a purchase
abbrev pub purchase_totals : Groups → ProductId → Column → List Total
purchase_totals gs i q =
    for_product_group (product_group gs i) (λ g. total.PurchaseGroup g q) ++ total.Purchase i q ∷ column_totals q

abbrev pub totals_with : Groups → Cell → List Total
totals_with gs (cell.Make i j) =
    for_product_group (product_group gs i) (λ g. total.MakeGroup g j) ++ total.Supply i ∷ total.Output j ∷ []
totals_with gs (cell.Import i) =
    for_product_group (product_group gs i) (λ g. total.ImportGroup g)
    ++ total.Supply i ∷ total.ImportTotal ∷ total.Gdp ∷ []
totals_with gs (cell.Basic i q) = purchase_totals gs i q
totals_with gs (cell.Margin k i q) =
    for_product_group (product_group gs i) (λ g. total.MarginGroup k g)
    ++ total.MarginTotal k ∷ total.MarginProduct k i ∷ purchase_totals gs i q
totals_with gs (cell.Tax t i q) =
    for_product_group (product_group gs i) (λ g. total.TaxGroup t g)
    ++ total.TaxTotal t ∷ total.TaxProduct t i ∷ purchase_totals gs i q
totals_with gs (cell.Service i k) = []
totals_with gs (cell.Added v j) =
    for_industry_group (industry_group gs j) (λ h. total.ItemGroup v h) ++ total.ValueAdded j ∷ total.ItemTotal v ∷ []

-- ---- the same list for a cell whose groups are given, so without the classes

-- the product of a cell; none of an added item
abbrev pub cell_product : Cell → Option ProductId
cell_product (cell.Make i j) = Some i
cell_product (cell.Import i) = Some i
cell_product (cell.Basic i q) = Some i
cell_product (cell.Margin k i q) = Some i
cell_product (cell.Tax t i q) = Some i
cell_product (cell.Service i k) = Some i
cell_product (cell.Added v j) = None

-- the industry of an added item; none of another cell
abbrev pub item_industry : Cell → Option IndustryId
item_industry (cell.Added v j) = Some j
item_industry _ = None

-- the group of a cell's product, and that of an added item's industry
abbrev pub cell_product_group : Groups → Cell → Option ProductGroupId
cell_product_group gs c = group_in (option_map (product_group gs) (cell_product c))

abbrev pub cell_industry_group : Groups → Cell → Option IndustryGroupId
cell_industry_group gs c = group_in (option_map (industry_group gs) (item_industry c))

abbrev pub purchase_totals_by : Option ProductGroupId → ProductId → Column → List Total
purchase_totals_by product_group i q =
    for_product_group product_group (λ g. total.PurchaseGroup g q) ++ total.Purchase i q ∷ column_totals q

-- the totals in whose sum a cell stands, with its product's group and its industry's
abbrev pub totals_by : Option ProductGroupId → Option IndustryGroupId → Cell → List Total
totals_by product_group industry_group (cell.Make i j) =
    for_product_group product_group (λ g. total.MakeGroup g j) ++ total.Supply i ∷ total.Output j ∷ []
totals_by product_group industry_group (cell.Import i) =
    for_product_group product_group (λ g. total.ImportGroup g)
    ++ total.Supply i ∷ total.ImportTotal ∷ total.Gdp ∷ []
totals_by product_group industry_group (cell.Basic i q) = purchase_totals_by product_group i q
totals_by product_group industry_group (cell.Margin k i q) =
    for_product_group product_group (λ g. total.MarginGroup k g)
    ++ total.MarginTotal k ∷ total.MarginProduct k i ∷ purchase_totals_by product_group i q
totals_by product_group industry_group (cell.Tax t i q) =
    for_product_group product_group (λ g. total.TaxGroup t g)
    ++ total.TaxTotal t ∷ total.TaxProduct t i ∷ purchase_totals_by product_group i q
totals_by product_group industry_group (cell.Service i k) = []
totals_by product_group industry_group (cell.Added v j) =
    for_industry_group industry_group (λ h. total.ItemGroup v h) ++ total.ValueAdded j ∷ total.ItemTotal v ∷ []

-- two measures, or two accounts, are the same where their keys are
abbrev pub same_total : Total → Total → Bool
same_total t u = pointwise (λ m n. m == n) (total_key t) (total_key u)

abbrev pub same_cell : Cell → Cell → Bool
same_cell c d = pointwise (λ m n. m == n) (cell_key c) (cell_key d)
