use Rattle.std.proofs.Common.{◌≡◌, ◌++◌, ◌∷◌, take}
use Rattle.std.specs.List.{flat_map}
use Rattle.sut_text.specs.Text.{optional_text}
use Rattle.sut_write.specs.Use.{line_number}
use Rattle.sut_write.proofs.use_table.put_numbers.Given as goal

abbrev pub invariant-loop-column : goal.invariant-loop-column
invariant-loop-column l = l.out.items ≡ l.fn.out.items ++ flat_map (λ q. 44 ∷ optional_text (line_number l.t l.line q)) (take l.column-index l.columns)
