-- `balanced.csv`: the value of each live measure of a problem over a table, in order.
use Rattle.std.specs.Prelude.{ℕ, ℤ, Option, Some, None, List, [], ◌∷◌, ◌++◌, map, codes}
use Rattle.sut_text.specs.Text.{whole_text, optional_text, file_text}
use Rattle.sut_records.specs.RecordList.{Fields}
use Rattle.sut_measures.specs.Names.{name_fields}
use Rattle.sut_measures.specs.declared.measures.Measure.{Measure}
use Rattle.sut_tables.specs.RowFacts.{RowFacts}
use Rattle.sut_tables.specs.ProblemFacts.{ProblemFacts}
use Rattle.sut_tables.specs.TableFacts.{TableFacts}
use Rattle.sut_tables.specs.Values.{value_of}
use Rattle.sut_tables.specs.Problems.{row_at, live_measures}

-- the target of a row, if there is a row and it has one
abbrev pub target_in : Option RowFacts → Option ℤ
target_in None = None
target_in (Some r) = r.target

-- the target of a measure's row as it is printed: nothing where there is none
abbrev pub target_text : ProblemFacts → Measure → List ℕ
target_text p m = optional_text (target_in (row_at p m))

abbrev pub balanced_header : Fields
balanced_header = codes "kind" ∷ codes "a" ∷ codes "b" ∷ codes "c" ∷ codes "target" ∷ codes "value" ∷ []

-- the name of a measure, its target and its value
abbrev pub balanced_line : ProblemFacts → TableFacts → Measure → Fields
balanced_line p t m = name_fields p.classes m ++ target_text p m ∷ whole_text (value_of t m) ∷ []

abbrev pub balanced_lines : ProblemFacts → TableFacts → List Fields
balanced_lines p t = map (balanced_line p t) (live_measures p)

unfoldable pub balanced_text : ProblemFacts → TableFacts → List ℕ
balanced_text p t = file_text balanced_header (balanced_lines p t)
