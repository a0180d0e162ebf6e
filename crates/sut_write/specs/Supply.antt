-- `supply.csv`: a line for each product and a line of the column sums, by a list of columns.
use Rattle.std.specs.Prelude.{ℕ, ℤ, List, [], ◌∷◌, ◌++◌, map, codes}
use Rattle.sut_text.specs.Text.{whole_text, tagged, file_text}
use Rattle.sut_classes.specs.ClassLists.{ClassLists}
use Rattle.sut_classes.specs.declared.ids.ProductId.{ProductId}
use Rattle.sut_measures.specs.Names.{product_code, industry_code, margin_code, tax_code}
use Rattle.sut_measures.specs.declared.measures.Cell.TheVariants as cell
use Rattle.sut_measures.specs.declared.measures.Total.TheVariants as total
use Rattle.sut_tables.specs.TableFacts.{TableFacts}
use Rattle.sut_tables.specs.Values.{int_sum_by}
use Rattle.sut_write.specs.Places.{products, industries, margins, taxes}
use Rattle.sut_write.specs.Numbers.{cell_value, total_of, net_margin, product_tax, supply_at_purchasers}
use Rattle.sut_write.specs.declared.supply.SupplyColumn.{SupplyColumn}
use Rattle.sut_write.specs.declared.supply.SupplyColumn.TheVariants as column

-- the makes of each industry, imports, supply, the net margins of each kind, the taxes of each kind, and supply at purchasers' prices
abbrev pub supply_columns : ClassLists → List SupplyColumn
supply_columns cs =
    map column.Make (industries cs)
    ++ column.Import ∷ column.Supply ∷ map column.Margin (margins cs)
    ++ map column.Tax (taxes cs)
    ++ column.Purchasers ∷ []

abbrev pub supply_heading : ClassLists → SupplyColumn → List ℕ
supply_heading cs (column.Make j) = tagged (codes "make") (industry_code cs j)
supply_heading cs column.Import = codes "import"
supply_heading cs column.Supply = codes "supply"
supply_heading cs (column.Margin k) = tagged (codes "margin") (margin_code cs k)
supply_heading cs (column.Tax x) = tagged (codes "tax") (tax_code cs x)
supply_heading cs column.Purchasers = codes "purchasers"

-- the number of a product in a column
abbrev pub supply_number : ClassLists → TableFacts → SupplyColumn → ProductId → ℤ
supply_number cs t (column.Make j) i = cell_value t (cell.Make i j)
supply_number cs t column.Import i = cell_value t (cell.Import i)
supply_number cs t column.Supply i = total_of t (total.Supply i)
supply_number cs t (column.Margin k) i = net_margin t k i
supply_number cs t (column.Tax x) i = product_tax t x i
supply_number cs t column.Purchasers i = supply_at_purchasers cs t i

abbrev pub supply_header : ClassLists → List (List ℕ)
supply_header cs = codes "product" ∷ map (supply_heading cs) (supply_columns cs)

-- the line of a product
abbrev pub supply_line : ClassLists → TableFacts → ProductId → List (List ℕ)
supply_line cs t i = product_code cs i ∷ map (λ c. whole_text (supply_number cs t c i)) (supply_columns cs)

-- the sum of a column
abbrev pub column_sum : ClassLists → TableFacts → SupplyColumn → ℤ
column_sum cs t c = int_sum_by (supply_number cs t c) (products cs)

-- the line of the column sums
abbrev pub supply_sums : ClassLists → TableFacts → List (List ℕ)
supply_sums cs t = codes ":total" ∷ map (λ c. whole_text (column_sum cs t c)) (supply_columns cs)

unfoldable pub supply_text : ClassLists → TableFacts → List ℕ
supply_text cs t = file_text (supply_header cs) (map (supply_line cs t) (products cs) ++ supply_sums cs t ∷ [])
