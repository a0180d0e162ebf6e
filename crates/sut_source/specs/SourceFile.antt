-- Reading `source.csv`: how a line is judged by the rows of the lines before it.
use Rattle.std.specs.Prelude.{ℕ, ◌==◌, List, [], ◌∷◌, codes, length, map, find, Option, Some, None, option_map, Result, Ok, Err}
use Rattle.sut_records.specs.RecordList.{Fields, records_of, same_fields}
use Rattle.sut_records.specs.FirstFault.{and_then, fault_as, only_if, read_lines}
use Rattle.sut_classes.specs.ClassLists.{ClassLists}
use Rattle.sut_measures.specs.Keys.{measure_key}
use Rattle.sut_measures.specs.declared.measures.Measure.{Measure}
use Rattle.sut_tables.specs.InOrder.{put_in_order, same_key}
use Rattle.sut_tables.specs.Changes.{has_room}
use Rattle.sut_tables.specs.RowFacts.{RowFacts}
use Rattle.sut_tables.specs.ProblemFacts.{ProblemFacts}
use Rattle.sut_settings.specs.SettingsFacts.{SettingsFacts}
use Rattle.sut_source.specs.RowFile.{row_fields, row_in}
use Rattle.sut_source.specs.declared.faults.RowFault.{RowFault}
use Rattle.sut_source.specs.declared.faults.RowFault.TheVariants as fault
use Rattle.sut_source.specs.declared.faults.SourceFault.{SourceFault}

-- a row with its line
pub record RowLine : Type 0 where
  pub row : RowFacts
  pub line : ℕ

abbrev pub rows_of : List RowLine → List RowFacts
rows_of before = map (λ (r : RowLine). r.row) before

-- the line of the measure's row, if it has one
abbrev pub first_line : List RowLine → Measure → Option ℕ
first_line before m = option_map (λ (r : RowLine). r.line) (find (λ (r : RowLine). same_key (measure_key r.row.measure) (measure_key m)) before)

abbrev pub unless_there : {A : Type 0} → Option ℕ → Result A RowFault → Result A RowFault
unless_there (Some line) next = Err (fault.Duplicate line)
unless_there None next = next

-- the rows in measure order, with one more
abbrev pub with_row : RowLine → List RowLine → List RowLine
with_row r before = put_in_order (λ (r : RowLine). measure_key r.row.measure) r before

-- the rows with that of line n, unless its measure has an earlier line or its sort has its greatest number of rows
unfoldable pub row_added : ClassLists → ℕ → List RowLine → RowFacts → Result (List RowLine) RowFault
row_added cs n before row =
    unless_there (first_line before row.measure)
    (only_if (has_room (record { classes = cs; rows = rows_of before }) row.measure) fault.TooMany
    (Ok (with_row (record { row = row; line = n }) before)))

-- a cause with its line
abbrev pub at_line : {A : Type 0} → ℕ → Result A RowFault → Result A SourceFault
at_line n r = fault_as (λ cause. record { line = n; cause = cause }) r

-- line n, after the rows of the lines before it
unfoldable pub source_line : SettingsFacts → ClassLists → ℕ → List RowLine → Fields → Result (List RowLine) SourceFault
source_line s cs n before line = at_line n
    (only_if (length line == 8) fault.Csv
    (and_then (row_in s cs (row_fields 0 line)) (row_added cs n before)))

abbrev pub source_header : Fields
source_header = codes "kind" ∷ codes "a" ∷ codes "b" ∷ codes "c" ∷ codes "target" ∷ codes "grade" ∷ codes "lower" ∷ codes "upper" ∷ []

-- the records under the header
unfoldable pub under_header : List Fields → Result (List Fields) SourceFault
under_header [] = Err (record { line = 1; cause = fault.Header })
under_header (header ∷ lines) = only_if (same_fields header source_header) (record { line = 1; cause = fault.Header }) (Ok lines)

-- the problem of the rows of all lines, or the fault of the first line that has one
abbrev pub problem_from : ClassLists → Result (List RowLine) SourceFault → Result ProblemFacts SourceFault
problem_from cs read = and_then read (λ rows. Ok (record { classes = cs; rows = rows_of rows }))

-- what the records of a source give: the problem, or the first fault with its line
abbrev pub source_in : SettingsFacts → ClassLists → List Fields → Result ProblemFacts SourceFault
source_in s cs records = and_then (under_header records) (λ lines. problem_from cs (read_lines (source_line s cs) 2 [] lines))

abbrev pub source_of : SettingsFacts → ClassLists → List ℕ → Result ProblemFacts SourceFault
source_of s cs bytes = source_in s cs (records_of bytes)
