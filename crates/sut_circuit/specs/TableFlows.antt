-- A table that takes the flows of its cells' arcs.
use Rattle.std.specs.Prelude.{ℤ}
use Rattle.sut_measures.specs.declared.measures.Measure.{Measure}
use Rattle.sut_measures.specs.declared.measures.Measure.TheVariants as measure
use Rattle.sut_tables.specs.Rows.{InRange}
use Rattle.sut_tables.specs.TableFacts.{TableFacts}
use Rattle.sut_tables.specs.Tables.{put_number}

-- the number of a cell is in the range of tables
abbrev pub FitsIn : Measure → ℤ → Type 0
FitsIn (measure.Cell c) x = InRange x
FitsIn (measure.Total u) x = Unit {0}

-- a cell's number is put, and a total has none
abbrev pub put_flow : TableFacts → Measure → ℤ → TableFacts
put_flow t (measure.Cell c) x = put_number t c x
put_flow t (measure.Total u) x = t
