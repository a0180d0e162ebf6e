-- `use.csv`: for each product a line for each layer of its price, and then the lines of all products together.
use Rattle.std.specs.Prelude.{ℕ, ℤ, pos, Option, Some, None, List, [], ◌∷◌, ◌++◌, map, codes, option_map}
use Rattle.std.specs.List.{flat_map}
use Rattle.sut_text.specs.Text.{whole_text, optional_text, tagged, file_text}
use Rattle.sut_classes.specs.ClassLists.{ClassLists}
use Rattle.sut_classes.specs.declared.ids.ProductId.{ProductId}
use Rattle.sut_classes.specs.declared.ids.IndustryId.{IndustryId}
use Rattle.sut_classes.specs.declared.ids.Column.{Column}
use Rattle.sut_classes.specs.declared.ids.Column.TheVariants as column
use Rattle.sut_measures.specs.Names.{product_code, industry_code, final_code, item_code, margin_code, tax_code}
use Rattle.sut_measures.specs.declared.measures.Cell.TheVariants as cell
use Rattle.sut_measures.specs.declared.measures.Total.TheVariants as total
use Rattle.sut_measures.specs.declared.measures.Measure.{Measure}
use Rattle.sut_measures.specs.declared.measures.Measure.TheVariants as measure
use Rattle.sut_tables.specs.TableFacts.{TableFacts}
use Rattle.sut_tables.specs.Values.{int_sum_by, value_of}
use Rattle.sut_write.specs.Places.{products, columns, items, margins, taxes}
use Rattle.sut_write.specs.declared.use_table.UseLine.{UseLine}
use Rattle.sut_write.specs.declared.use_table.UseLine.TheVariants as line

-- the layers of a product: at basic prices, the margins and the taxes of each kind, and at purchasers' prices
abbrev pub product_lines : ClassLists → ProductId → List UseLine
product_lines cs i = line.Basic i ∷ map (line.Margin i) (margins cs) ++ map (line.Tax i) (taxes cs) ++ line.Purchasers i ∷ []

-- the lines of all products together
abbrev pub total_lines : ClassLists → List UseLine
total_lines cs = line.Spent ∷ map line.Added (items cs) ++ line.ValueAdded ∷ line.Output ∷ []

abbrev pub use_lines : ClassLists → List UseLine
use_lines cs = flat_map (product_lines cs) (products cs) ++ total_lines cs

abbrev pub line_product : ClassLists → UseLine → List ℕ
line_product cs (line.Basic i) = product_code cs i
line_product cs (line.Margin i k) = product_code cs i
line_product cs (line.Tax i x) = product_code cs i
line_product cs (line.Purchasers i) = product_code cs i
line_product cs line.Spent = codes ":total"
line_product cs (line.Added v) = codes ":total"
line_product cs line.ValueAdded = codes ":total"
line_product cs line.Output = codes ":total"

abbrev pub line_layer : ClassLists → UseLine → List ℕ
line_layer cs (line.Basic i) = codes "basic"
line_layer cs (line.Margin i k) = tagged (codes "margin") (margin_code cs k)
line_layer cs (line.Tax i x) = tagged (codes "tax") (tax_code cs x)
line_layer cs (line.Purchasers i) = codes "purchasers"
line_layer cs line.Spent = codes "purchasers"
line_layer cs (line.Added v) = tagged (codes "added") (item_code cs v)
line_layer cs line.ValueAdded = codes "value_added"
line_layer cs line.Output = codes "output"

-- only the columns of industries have a measure
abbrev pub of_industry : (IndustryId → Measure) → Column → Option Measure
of_industry f (column.Industry j) = Some (f j)
of_industry f (column.Final u) = None

-- what a column spends at purchasers' prices: an industry's inputs, or the total of a final use
abbrev pub spent : Column → Measure
spent (column.Industry j) = measure.Total (total.Inputs j)
spent (column.Final f) = measure.Total (total.FinalTotal f)

-- the measure of a line in a column, if it has one there
abbrev pub line_measure : UseLine → Column → Option Measure
line_measure (line.Basic i) q = Some (measure.Cell (cell.Basic i q))
line_measure (line.Margin i k) q = Some (measure.Cell (cell.Margin k i q))
line_measure (line.Tax i x) q = Some (measure.Cell (cell.Tax x i q))
line_measure (line.Purchasers i) q = Some (measure.Total (total.Purchase i q))
line_measure line.Spent q = Some (spent q)
line_measure (line.Added v) q = of_industry (λ j. measure.Cell (cell.Added v j)) q
line_measure line.ValueAdded q = of_industry (λ j. measure.Total (total.ValueAdded j)) q
line_measure line.Output q = of_industry (λ j. measure.Total (total.Output j)) q

abbrev pub line_number : TableFacts → UseLine → Column → Option ℤ
line_number t l q = option_map (value_of t) (line_measure l q)

-- an absent number counts as 0
abbrev pub or_zero : Option ℤ → ℤ
or_zero None = pos 0
or_zero (Some z) = z

-- the sum of a line's numbers
abbrev pub line_sum : ClassLists → TableFacts → UseLine → ℤ
line_sum cs t l = int_sum_by (λ q. or_zero (line_number t l q)) (columns cs)

abbrev pub column_heading : ClassLists → Column → List ℕ
column_heading cs (column.Industry j) = tagged (codes "industry") (industry_code cs j)
column_heading cs (column.Final f) = tagged (codes "final") (final_code cs f)

abbrev pub use_header : ClassLists → List (List ℕ)
use_header cs = codes "product" ∷ codes "layer" ∷ map (column_heading cs) (columns cs) ++ codes "total" ∷ []

abbrev pub use_line : ClassLists → TableFacts → UseLine → List (List ℕ)
use_line cs t l =
    line_product cs l ∷ line_layer cs l ∷ map (λ q. optional_text (line_number t l q)) (columns cs) ++ whole_text (line_sum cs t l) ∷ []

unfoldable pub use_text : ClassLists → TableFacts → List ℕ
use_text cs t = file_text (use_header cs) (map (use_line cs t) (use_lines cs))
