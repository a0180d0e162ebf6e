use Rattle.std.proofs.Common.{map}
use Rattle.std.specs.List.{range_with_len}
use Rattle.sut_generate.specs.Generator.{final_row}
use Rattle.sut_generate.specs.DrawnRows.{Draws}
use Rattle.sut_generate.proofs.rows.put_finals.Given as goal

abbrev pub invariant-loop-k : goal.invariant-loop-k
invariant-loop-k l = Draws l.fn.out.items l.fn.state (map (final_row l.product) (range_with_len 1 l.k)) l.out.items l.state
