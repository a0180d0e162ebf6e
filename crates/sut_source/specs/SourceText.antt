-- The text of the rows of a problem: a line for each row, in measure order, with both bounds written.
use Rattle.std.specs.Prelude.{◌≡◌, ◌≤◌, ℕ, List, [], ◌∷◌, ◌++◌, codes, length, map, slice_get, unwrap_or}
use Rattle.sut_records.specs.RecordList.{Fields}
use Rattle.sut_text.specs.Text.{file_text, optional_text, whole_text}
use Rattle.sut_classes.specs.ClassLists.{ClassLists}
use Rattle.sut_measures.specs.Names.{name_fields}
use Rattle.sut_tables.specs.ProblemFacts.{ProblemFacts}
use Rattle.sut_tables.specs.RowFacts.{RowFacts}
use Rattle.sut_tables.specs.declared.rows.Penalty.{Penalty}
use Rattle.sut_tables.specs.declared.rows.Penalty.TheVariants.{Square, Absolute, Band}
use Rattle.sut_settings.specs.SettingsFacts.{GradeFacts, SettingsFacts}
use Rattle.sut_source.specs.RowFile.{weight_for}
use Rattle.sut_source.specs.SourceFile.{source_header}

-- the row's grade is one of the settings, and its weight is that of this grade for its target
pub record HasGrade (s : SettingsFacts) (r : RowFacts) : Type 0 where
  pub grade : r.grade ≤ length s.grades
  pub weight : r.weight ≡ weight_for s r.target r.grade

-- the name of the grade at a place; that of place 0 is empty
abbrev pub grade_name : SettingsFacts → ℕ → List ℕ
grade_name s place = unwrap_or (slice_get ([] ∷ map (λ (g : GradeFacts). g.name) s.grades) place) []

-- a penalty, as it stands behind the grade's name
abbrev pub penalty_text : Penalty → List ℕ
penalty_text Square = []
penalty_text Absolute = codes ":abs"
penalty_text (Band width) = codes ":band:" ++ whole_text width

-- the target, the grade with its penalty, and both bounds of a row
abbrev pub number_fields : SettingsFacts → RowFacts → Fields
number_fields s r = optional_text r.target ∷ (grade_name s r.grade ++ penalty_text r.penalty) ∷ whole_text r.lower ∷ whole_text r.upper ∷ []

-- the line of a row
abbrev pub row_line : SettingsFacts → ClassLists → RowFacts → Fields
row_line s cs r = name_fields cs r.measure ++ number_fields s r

-- the lines of rows under the header
unfoldable pub rows_text : SettingsFacts → ClassLists → List RowFacts → List ℕ
rows_text s cs rows = file_text source_header (map (row_line s cs) rows)

abbrev pub source_text : SettingsFacts → ProblemFacts → List ℕ
source_text s p = rows_text s p.classes p.rows
