-- The numbers that the texts print, by the values of measures.
use Rattle.std.specs.Prelude.{ℤ, ◌+ℤ◌, ◌-ℤ◌}
use Rattle.sut_classes.specs.ClassLists.{ClassLists}
use Rattle.sut_classes.specs.declared.ids.ProductId.{ProductId}
use Rattle.sut_classes.specs.declared.ids.MarginId.{MarginId}
use Rattle.sut_classes.specs.declared.ids.TaxId.{TaxId}
use Rattle.sut_measures.specs.declared.measures.Cell.{Cell}
use Rattle.sut_measures.specs.declared.measures.Cell.TheVariants as cell
use Rattle.sut_measures.specs.declared.measures.Total.{Total}
use Rattle.sut_measures.specs.declared.measures.Total.TheVariants as total
use Rattle.sut_measures.specs.declared.measures.Measure.TheVariants as measure
use Rattle.sut_tables.specs.TableFacts.{TableFacts}
use Rattle.sut_tables.specs.Values.{value_of, int_sum_by}
use Rattle.sut_write.specs.Places.{industries, margins, taxes}

abbrev pub cell_value : TableFacts → Cell → ℤ
cell_value t c = value_of t (measure.Cell c)

abbrev pub total_of : TableFacts → Total → ℤ
total_of t u = value_of t (measure.Total u)

-- the margins of a kind on a product, less the product's own services of that kind
abbrev pub net_margin : TableFacts → MarginId → ProductId → ℤ
net_margin t k i = total_of t (total.MarginProduct k i) -ℤ cell_value t (cell.Service i k)

abbrev pub product_tax : TableFacts → TaxId → ProductId → ℤ
product_tax t x i = total_of t (total.TaxProduct x i)

-- the supply of a product at purchasers' prices: at basic prices, with its net margins and its taxes (SNA 2008, chapter 14)
abbrev pub supply_at_purchasers : ClassLists → TableFacts → ProductId → ℤ
supply_at_purchasers cs t i =
    total_of t (total.Supply i) +ℤ int_sum_by (λ k. net_margin t k i) (margins cs) +ℤ int_sum_by (λ x. product_tax t x i) (taxes cs)

abbrev pub all_outputs : ClassLists → TableFacts → ℤ
all_outputs cs t = int_sum_by (λ j. total_of t (total.Output j)) (industries cs)

abbrev pub all_inputs : ClassLists → TableFacts → ℤ
all_inputs cs t = int_sum_by (λ j. total_of t (total.Inputs j)) (industries cs)

abbrev pub all_taxes : ClassLists → TableFacts → ℤ
all_taxes cs t = int_sum_by (λ x. total_of t (total.TaxTotal x)) (taxes cs)
