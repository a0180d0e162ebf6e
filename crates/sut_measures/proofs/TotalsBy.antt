-- The totals of a cell by its groups are those by the classes' groups, and are at most 8.
use Rattle.std.proofs.Common.{◌≡◌, ◌≤◌, Option, Some, None, length, refl, arith}
use Rattle.sut_classes.specs.Groups.{Groups}
use Rattle.sut_classes.specs.declared.ids.ProductGroupId.{ProductGroupId}
use Rattle.sut_classes.specs.declared.ids.IndustryGroupId.{IndustryGroupId}
use Rattle.sut_classes.specs.declared.ids.Column.TheVariants as column
use Rattle.sut_measures.specs.Sums.{totals_with, totals_by, cell_product_group, cell_industry_group}
use Rattle.sut_measures.specs.declared.measures.Cell.{Cell}
use Rattle.sut_measures.specs.declared.measures.Cell.TheVariants as cell

pub totals_with-by : (gs : Groups) (c : Cell) → totals_with gs c ≡ totals_by (cell_product_group gs c) (cell_industry_group gs c) c
totals_with-by gs (cell.Make i j) = refl
totals_with-by gs (cell.Import i) = refl
totals_with-by gs (cell.Basic i q) = refl
totals_with-by gs (cell.Margin k i q) = refl
totals_with-by gs (cell.Tax t i q) = refl
totals_with-by gs (cell.Service i k) = refl
totals_with-by gs (cell.Added v j) = refl

pub totals_by-few : (g : Option ProductGroupId) (h : Option IndustryGroupId) (c : Cell) → length (totals_by g h c) ≤ 8
totals_by-few None h (cell.Make i j) = omega arith
totals_by-few (Some g) h (cell.Make i j) = omega arith
totals_by-few None h (cell.Import i) = omega arith
totals_by-few (Some g) h (cell.Import i) = omega arith
totals_by-few None h (cell.Basic i (column.Industry j)) = omega arith
totals_by-few (Some g) h (cell.Basic i (column.Industry j)) = omega arith
totals_by-few None h (cell.Basic i (column.Final f)) = omega arith
totals_by-few (Some g) h (cell.Basic i (column.Final f)) = omega arith
totals_by-few None h (cell.Margin k i (column.Industry j)) = omega arith
totals_by-few (Some g) h (cell.Margin k i (column.Industry j)) = omega arith
totals_by-few None h (cell.Margin k i (column.Final f)) = omega arith
totals_by-few (Some g) h (cell.Margin k i (column.Final f)) = omega arith
totals_by-few None h (cell.Tax t i (column.Industry j)) = omega arith
totals_by-few (Some g) h (cell.Tax t i (column.Industry j)) = omega arith
totals_by-few None h (cell.Tax t i (column.Final f)) = omega arith
totals_by-few (Some g) h (cell.Tax t i (column.Final f)) = omega arith
totals_by-few g h (cell.Service i k) = omega arith
totals_by-few g None (cell.Added v j) = omega arith
totals_by-few g (Some h) (cell.Added v j) = omega arith
