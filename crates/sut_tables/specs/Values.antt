-- The value of a measure over a table.
use Rattle.std.specs.Prelude.{Bool, if◌then◌else◌, ℤ, pos, ◌+ℤ◌, ◌*ℤ◌, List, [], ◌∷◌}
use Rattle.sut_measures.specs.Sums.{factor, same_cell}
use Rattle.sut_tables.specs.TableFacts.{TableFacts}
use Rattle.sut_tables.specs.declared.tables.Held.{Held}
use Rattle.sut_measures.specs.declared.measures.Cell.{Cell}
use Rattle.sut_measures.specs.declared.measures.Total.{Total}
use Rattle.sut_measures.specs.declared.measures.Measure.{Measure}
use Rattle.sut_measures.specs.declared.measures.Measure.TheVariants as measure

-- the sum of a number of each element
abbrev pub int_sum_by : {X : Type 0} → (X → ℤ) → List X → ℤ
int_sum_by f [] = pos 0
int_sum_by f (x ∷ xs) = f x +ℤ int_sum_by f xs

-- the number of a cell; one that isn't held is 0
abbrev pub number_at : List Held → Cell → ℤ
number_at [] c = pos 0
number_at (h ∷ hs) c = if same_cell h.cell c then h.number else number_at hs c

-- the sum of the numbers of the cells that pass the test
abbrev pub sum_where : (Cell → Bool) → List Held → ℤ
sum_where p = int_sum_by (λ h. if p h.cell then h.number else pos 0)

-- a total is the sum of its cells' numbers, each times its factor
abbrev pub total_value : TableFacts → Total → ℤ
total_value t u = int_sum_by (λ h. factor t.groups h.cell u *ℤ h.number) t.cells

abbrev pub value_of : TableFacts → Measure → ℤ
value_of t (measure.Cell c) = number_at t.cells c
value_of t (measure.Total u) = total_value t u
