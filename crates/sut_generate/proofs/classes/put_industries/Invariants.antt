use Rattle.std.proofs.Common.{◌≡◌, ◌++◌}
use Rattle.sut_generate.specs.Generator.{industry_line}
use Rattle.sut_generate.specs.DrawnRows.{numbered_text}
use Rattle.sut_generate.proofs.classes.put_industries.Given as goal

abbrev pub invariant-loop-j : goal.invariant-loop-j
invariant-loop-j l = l.out.items ≡ l.fn.out.items ++ numbered_text industry_line l.j
