use Rattle.std.proofs.Common.{◌≡◌, ◌++◌, map, take}
use Rattle.std.specs.List.{flat_map}
use Rattle.sut_text.specs.Text.{line_text}
use Rattle.sut_classes.specs.ClassText.{industry_line}
use Rattle.sut_classes.proofs.print.put_industries.Given as goal

abbrev pub invariant-loop-place : goal.invariant-loop-place
invariant-loop-place l = l.out.items ≡ l.initial.out.items ++ flat_map line_text (map (industry_line l.classes) (take l.place l.classes.industries))
