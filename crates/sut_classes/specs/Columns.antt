-- The key of a column: its kind, then its place. Keys are compared number by number, so the columns of industries come
-- before those of final uses, and those of one kind in the order of `classes.csv`.
use Rattle.std.specs.Prelude.{ℕ, List, [], ◌∷◌}
use Rattle.sut_classes.specs.declared.ids.Column.{Column}
use Rattle.sut_classes.specs.declared.ids.Column.TheVariants as column

abbrev pub column_key : Column → List ℕ
column_key (column.Industry j) = 0 ∷ j.0 ∷ []
column_key (column.Final f) = 1 ∷ f.0 ∷ []
