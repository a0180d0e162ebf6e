use Rattle.std.proofs.Common.{map}
use Rattle.std.specs.List.{range_with_len}
use Rattle.sut_generate.specs.Generator.{industry_row}
use Rattle.sut_generate.specs.DrawnRows.{Draws}
use Rattle.sut_generate.proofs.rows.put_uses.Given as goal

abbrev pub invariant-loop-j : goal.invariant-loop-j
invariant-loop-j l = Draws l.fn.out.items l.fn.state (map (industry_row l.product) (range_with_len 1 l.j)) l.out.items l.state
