use Rattle.std.proofs.Common.{◌≡◌, ◌++◌}
use Rattle.sut_generate.specs.Generator.{final_line}
use Rattle.sut_generate.specs.DrawnRows.{numbered_text}
use Rattle.sut_generate.proofs.classes.put_finals.Given as goal

abbrev pub invariant-loop-k : goal.invariant-loop-k
invariant-loop-k l = l.out.items ≡ l.fn.out.items ++ numbered_text final_line l.k
