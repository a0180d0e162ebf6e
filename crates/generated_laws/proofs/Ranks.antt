-- The rows of a made source stand in the order of these numbers, so no two of them are of one measure.
use Rattle.std.proofs.Common.{◌+◌, ◌*◌, ℕ}
use Rattle.sut_measures.specs.declared.measures.Cell.{Cell}
use Rattle.sut_measures.specs.declared.measures.Cell.TheVariants as cell
use Rattle.sut_measures.specs.declared.measures.Measure.{Measure}
use Rattle.sut_measures.specs.declared.measures.Measure.TheVariants as measure
use Rattle.sut_classes.specs.declared.ids.Column.TheVariants as column

abbrev pub cell_rank : Cell → ℕ
cell_rank (cell.Make i j) = i.0 * 1000
cell_rank (cell.Import i) = i.0 * 1000 + 1
cell_rank (cell.Basic i (column.Industry j)) = i.0 * 1000 + 2 + j.0
cell_rank (cell.Basic i (column.Final f)) = i.0 * 1000 + 300 + f.0
cell_rank (cell.Margin k i q) = i.0 * 1000 + 400
cell_rank (cell.Tax t i q) = i.0 * 1000 + 401
cell_rank (cell.Service i k) = 512000
cell_rank (cell.Added v j) = 512001 + j.0

abbrev pub rank : Measure → ℕ
rank (measure.Cell c) = cell_rank c
rank (measure.Total t) = 0
