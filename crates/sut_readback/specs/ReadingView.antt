-- What the fields of a reading stand for.
use Rattle.std.specs.Prelude.{◌≡◌, ◌++◌, drop, take, map, Option, Some, None}
use Rattle.std.specs.List.{filter_map}
use Rattle.sut_measures.specs.declared.measures.Measure.{Measure}
use Rattle.sut_measures.specs.declared.measures.Measure.TheVariants as measure
use Rattle.sut_measures.specs.declared.measures.Total.{Total}
use Rattle.sut_tables.specs.declared.tables.Held.{Held}
use Rattle.sut_readback.specs.BalancedFile.{TableSoFar}
use Rattle.sut_readback.specs.declared.reading.Reading.TheInside.{Inside}

-- the cells of the lines so far, and the measures after them
abbrev pub reading_of : Inside → TableSoFar
reading_of r = record { table = record r.table { cells = take r.lines r.table.cells }; coming = drop r.lines r.measures.items }

abbrev pub measure_at : Held → Measure
measure_at h = measure.Cell h.cell

abbrev pub total_in : Measure → Option Total
total_in (measure.Cell c) = None
total_in (measure.Total u) = Some u

-- the measures are the table's cells, and then totals
abbrev pub HasCellsFirst : Inside → Type 0
HasCellsFirst r = r.measures.items ≡ map measure_at r.table.cells ++ map measure.Total (filter_map total_in r.measures.items)
