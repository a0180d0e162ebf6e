-- The rows of a problem and the lines of their measures, which the reader keeps apart, as rows with their lines.
use Rattle.std.specs.Prelude.{◌≡◌, ℕ, List, [], ◌∷◌, map}
use Rattle.std.specs.Map.{keys_of}
use Rattle.sut_measures.specs.declared.measures.Measure.{Measure}
use Rattle.sut_tables.specs.RowFacts.{RowFacts}
use Rattle.sut_source.specs.SourceFile.{RowLine}

-- each row's measure has a line, and no other measure has one
abbrev pub KeepsLines : List RowFacts → List (Measure × ℕ) → Type 0
KeepsLines rows lines = keys_of lines ≡ map (λ (r : RowFacts). r.measure) rows

abbrev pub lined_rows : List RowFacts → List (Measure × ℕ) → List RowLine
lined_rows (r ∷ rows) (l ∷ lines) = record { row = r; line = l.1 } ∷ lined_rows rows lines
lined_rows rows lines = []
