use Rattle.std.proofs.Common.{◌≡◌, ◌++◌, map}
use Rattle.sut_classes.specs.declared.ids.Column.TheVariants as column
use Rattle.sut_write.specs.Places.{below}
use Rattle.sut_write.proofs.use_table.push_industries.Given as goal

abbrev pub invariant-loop-place : goal.invariant-loop-place
invariant-loop-place l = l.columns.items ≡ l.initial.columns.items ++ map (λ n. column.Industry (record { 0 = n })) (below l.place)
