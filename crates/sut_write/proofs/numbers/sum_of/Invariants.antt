use Rattle.std.proofs.Common.{◌≡◌, ◌*◌, ◌^◌}
use Rattle.sut_tables.specs.CellSums.{IsUpTo}
use Rattle.sut_tables.specs.Values.{int_sum_by, value_of}
use Rattle.sut_write.specs.Series.{measure_in}
use Rattle.sut_write.specs.Places.{below}
use Rattle.sut_write.proofs.numbers.sum_of.Given as goal

abbrev pub invariant-loop-place : goal.invariant-loop-place
invariant-loop-place l = record {
  sum : l.sum ≡ int_sum_by (λ n. value_of l.t (measure_in l.series n)) (below l.place);
  small : IsUpTo (l.place * 2 ^ 58) l.sum;
}
