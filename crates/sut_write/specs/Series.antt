-- Measures that are summed over a list of places.
use Rattle.std.specs.Prelude.{ℕ}
use Rattle.sut_classes.specs.declared.ids.Column.TheVariants as column
use Rattle.sut_measures.specs.declared.measures.Cell.TheVariants as cell
use Rattle.sut_measures.specs.declared.measures.Measure.{Measure}
use Rattle.sut_measures.specs.declared.measures.Measure.TheVariants as measure
use Rattle.sut_measures.specs.declared.measures.Total.TheVariants as total
use Rattle.sut_write.specs.declared.numbers.Series.{Series}
use Rattle.sut_write.specs.declared.numbers.Series.TheVariants as series

-- the measure at a place
abbrev pub measure_in : Series → ℕ → Measure
measure_in series.Outputs n = measure.Total (total.Output (record { 0 = n }))
measure_in series.Inputs n = measure.Total (total.Inputs (record { 0 = n }))
measure_in series.Taxes n = measure.Total (total.TaxTotal (record { 0 = n }))
measure_in (series.TaxesOf i) n = measure.Total (total.TaxProduct (record { 0 = n }) i)
measure_in (series.Intermediate i) n = measure.Cell (cell.Basic i (column.Industry (record { 0 = n })))
measure_in (series.Final i) n = measure.Cell (cell.Basic i (column.Final (record { 0 = n })))
measure_in (series.ServicesOf i) n = measure.Cell (cell.Service i (record { 0 = n }))
