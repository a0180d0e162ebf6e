use Rattle.std.proofs.Common.{◌≡◌, ◌++◌, map, take}
use Rattle.std.specs.List.{flat_map}
use Rattle.sut_text.specs.Text.{line_text}
use Rattle.sut_classes.specs.ClassText.{plain_line}
use Rattle.sut_classes.specs.Places.{codes_of}
use Rattle.sut_classes.proofs.print.put_codes.Given as goal

abbrev pub invariant-loop-place : goal.invariant-loop-place
invariant-loop-place l = l.out.items ≡ l.initial.out.items ++ flat_map line_text (map (plain_line l.axis) (take l.place (codes_of l.classes l.axis)))
