-- The lines of `trail.csv`, which has the cells of each balanced table of a run of edits.
use Rattle.std.specs.Prelude.{ℕ, List, [], ◌∷◌, ◌++◌, codes, decimal}
use Rattle.std.specs.List.{flat_map}
use Rattle.sut_records.specs.RecordList.{Fields}
use Rattle.sut_text.specs.Text.{line_text, whole_text}
use Rattle.sut_classes.specs.ClassLists.{ClassLists}
use Rattle.sut_measures.specs.Names.{name_fields}
use Rattle.sut_measures.specs.declared.measures.Measure.TheVariants as measure
use Rattle.sut_tables.specs.ProblemFacts.{ProblemFacts}
use Rattle.sut_tables.specs.declared.tables.Held.{Held}
use Rattle.sut_cert.specs.declared.answers.Answer.{Answer}
use Rattle.sut_cert.specs.declared.answers.Answer.TheVariants as answer

abbrev pub trail_header : Fields
trail_header = codes "balance" ∷ codes "kind" ∷ codes "a" ∷ codes "b" ∷ codes "c" ∷ codes "value" ∷ []

-- the number of the rebalance, the name of a cell and its number
abbrev pub cell_line : ℕ → ClassLists → Held → Fields
cell_line n cs h = decimal n ∷ (name_fields cs (measure.Cell h.cell) ++ whole_text h.number ∷ [])

abbrev pub cell_lines : ℕ → ClassLists → List Held → List ℕ
cell_lines n cs cells = flat_map (λ h. line_text (cell_line n cs h)) cells

-- the lines of the n-th rebalance: one for each cell that has a row, in order, where it was balanced
abbrev pub answer_lines : ℕ → ProblemFacts → Answer → List ℕ
answer_lines n p (answer.Balanced t c) = cell_lines n p.classes t.cells
answer_lines n p (answer.Infeasible s) = []
