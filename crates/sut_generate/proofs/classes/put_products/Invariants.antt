use Rattle.std.proofs.Common.{◌≡◌, ◌++◌}
use Rattle.sut_generate.specs.Generator.{product_line}
use Rattle.sut_generate.specs.DrawnRows.{numbered_text}
use Rattle.sut_generate.proofs.classes.put_products.Given as goal

abbrev pub invariant-loop-i : goal.invariant-loop-i
invariant-loop-i l = l.out.items ≡ l.fn.out.items ++ numbered_text product_line l.i
