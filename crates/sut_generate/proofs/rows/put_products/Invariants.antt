use Rattle.std.specs.List.{flat_map, range_with_len}
use Rattle.sut_generate.specs.Generator.{rows_of_product}
use Rattle.sut_generate.specs.DrawnRows.{Draws}
use Rattle.sut_generate.proofs.rows.put_products.Given as goal

abbrev pub invariant-loop-i : goal.invariant-loop-i
invariant-loop-i l = Draws l.fn.out.items l.fn.state (flat_map (rows_of_product l.industries) (range_with_len 1 l.i)) l.out.items l.state
