use Rattle.std.proofs.Common.{◌≡◌, ◌++◌, map}
use Rattle.std.specs.List.{flat_map}
use Rattle.sut_text.specs.Text.{line_text}
use Rattle.sut_source.specs.SourceText.{row_line, source_text}
use Rattle.sut_source.proofs.print.print_source.Given as goal

-- what is written and the lines of the rows that are left make the text
abbrev pub invariant-loop-row : goal.invariant-loop-row
invariant-loop-row l = l.out.items ++ flat_map line_text (map (row_line l.s l.p.classes) l.row-iterator) ≡ source_text l.s l.p
