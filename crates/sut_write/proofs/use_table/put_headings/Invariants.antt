use Rattle.std.proofs.Common.{◌≡◌, ◌++◌, ◌∷◌, take}
use Rattle.std.specs.List.{flat_map}
use Rattle.sut_write.specs.Use.{column_heading}
use Rattle.sut_write.proofs.use_table.put_headings.Given as goal

abbrev pub invariant-loop-column : goal.invariant-loop-column
invariant-loop-column l = l.out.items ≡ l.fn.out.items ++ flat_map (λ q. 44 ∷ column_heading l.classes q) (take l.column-index l.columns)
