use Rattle.std.proofs.Common.{◌≡◌, ◌*◌, ◌^◌}
use Rattle.sut_tables.specs.CellSums.{IsUpTo}
use Rattle.sut_tables.specs.Values.{int_sum_by}
use Rattle.sut_write.specs.Numbers.{net_margin}
use Rattle.sut_write.specs.Places.{below}
use Rattle.sut_write.proofs.numbers.margins_on.Given as goal

abbrev pub invariant-loop-kind : goal.invariant-loop-kind
invariant-loop-kind l = record {
  sum : l.sum ≡ int_sum_by (λ n. net_margin l.t (record { 0 = n }) l.i) (below l.kind);
  small : IsUpTo (l.kind * 2 ^ 59) l.sum;
}
