use Rattle.std.proofs.Common.{◌∙◌, ◌+ℤ◌, length, sym}
use Rattle.sut_classes.specs.declared.ids.Column.TheVariants as column
use Rattle.sut_classes.specs.declared.ids.FinalId.{FinalId}
use Rattle.sut_classes.specs.declared.ids.IndustryId.{IndustryId}
use Rattle.sut_measures.specs.declared.measures.Cell.TheVariants as cell
use Rattle.sut_tables.specs.Values.{int_sum_by}
use Rattle.sut_tables.proofs.IntSums.{sum-map}
use Rattle.sut_tables.proofs.Sides.{supply-made}
use Rattle.sut_write.specs.Numbers.{cell_value}
use Rattle.sut_write.specs.Places.{below, margins}
use Rattle.sut_write.proofs.Layers.{used-parts}
use Rattle.sut_laws.proofs.balances.product_balances.Goals as goal

pub returns : goal.returns
returns c = λ p t ok of meets i.
    supply-made t i
    ∙ meets.products i
    ∙ used-parts p t ok of i
    ∙ (λ d. (sym (sum-map (λ (j : IndustryId). cell_value t (cell.Basic i (column.Industry j))) (λ n. record { 0 = n }) (below (length p.classes.industries))) d
    +ℤ sym (sum-map (λ (f : FinalId). cell_value t (cell.Basic i (column.Final f))) (λ n. record { 0 = n }) (below (length p.classes.finals))) d)
    +ℤ int_sum_by (λ k. cell_value t (cell.Service i k)) (margins p.classes))
