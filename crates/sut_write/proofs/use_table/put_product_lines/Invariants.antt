use Rattle.std.proofs.Common.{◌≡◌, ◌++◌, map}
use Rattle.std.specs.List.{flat_map}
use Rattle.sut_text.specs.Text.{line_text}
use Rattle.sut_write.specs.Use.{product_lines, use_line}
use Rattle.sut_write.specs.Places.{below}
use Rattle.sut_write.proofs.use_table.put_product_lines.Given as goal

abbrev pub invariant-loop-place : goal.invariant-loop-place
invariant-loop-place l = l.out.items ≡ l.initial.out.items ++ flat_map (λ n. flat_map line_text (map (use_line l.p.classes l.t) (product_lines l.p.classes (record { 0 = n })))) (below l.place)
