-- Changes of a problem's rows: a row added, replaced or taken out.
use Rattle.std.specs.Prelude.{Bool, true, false, not, nat_lt, length, map, filter, if◌then◌else◌}
use Rattle.sut_measures.specs.Keys.{measure_key}
use Rattle.sut_measures.specs.declared.measures.Measure.{Measure}
use Rattle.sut_measures.specs.declared.measures.Measure.TheVariants as measure
use Rattle.sut_tables.specs.InOrder.{same_key, put_in_order}
use Rattle.sut_tables.specs.RowFacts.{RowFacts}
use Rattle.sut_tables.specs.ProblemFacts.{ProblemFacts}

-- the row is the measure's
abbrev pub is_of : Measure → RowFacts → Bool
is_of m r = same_key (measure_key r.measure) (measure_key m)

abbrev pub is_cell : Measure → Bool
is_cell (measure.Cell c) = true
is_cell (measure.Total t) = false

-- whether another row of the measure's sort may be added: there are fewer than 131,072 rows of cells, or 16,384 of totals
abbrev pub has_room : ProblemFacts → Measure → Bool
has_room p (measure.Cell c) = nat_lt (length (filter (λ (r : RowFacts). is_cell r.measure) p.rows)) 131072
has_room p (measure.Total t) = nat_lt (length (filter (λ (r : RowFacts). not (is_cell r.measure)) p.rows)) 16384

-- the row put in its place
abbrev pub with_row : ProblemFacts → RowFacts → ProblemFacts
with_row p r = record p { rows = put_in_order (λ (r : RowFacts). measure_key r.measure) r p.rows }

-- the row in place of that of its measure; where there is none, nothing changes
abbrev pub row_replaced : ProblemFacts → RowFacts → ProblemFacts
row_replaced p r = record p { rows = map (λ s. if is_of r.measure s then r else s) p.rows }

-- without the measure's row
abbrev pub row_removed : ProblemFacts → Measure → ProblemFacts
row_removed p m = record p { rows = filter (λ s. not (is_of m s)) p.rows }
