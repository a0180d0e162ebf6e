use Rattle.std.proofs.Common.{◌≡◌, ◌++◌}
use Rattle.sut_generate.specs.Generator.{added_line}
use Rattle.sut_generate.specs.DrawnRows.{numbered_text}
use Rattle.sut_generate.proofs.source.put_added.Given as goal

abbrev pub invariant-loop-j : goal.invariant-loop-j
invariant-loop-j l = l.out.items ≡ l.fn.out.items ++ numbered_text added_line l.j
