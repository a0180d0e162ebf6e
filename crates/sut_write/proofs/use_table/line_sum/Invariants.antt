use Rattle.std.proofs.Common.{◌≡◌, ◌*◌, ◌^◌, take}
use Rattle.sut_tables.specs.CellSums.{IsUpTo}
use Rattle.sut_tables.specs.Values.{int_sum_by}
use Rattle.sut_write.specs.Use.{line_number, or_zero}
use Rattle.sut_write.proofs.use_table.line_sum.Given as goal

abbrev pub invariant-loop-column : goal.invariant-loop-column
invariant-loop-column l = record {
  sum : l.sum ≡ int_sum_by (λ q. or_zero (line_number l.t l.line q)) (take l.column-index l.columns);
  small : IsUpTo (l.column-index * 2 ^ 58) l.sum;
}
