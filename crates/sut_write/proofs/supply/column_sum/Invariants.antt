use Rattle.std.proofs.Common.{◌≡◌, ◌*◌, ◌^◌}
use Rattle.sut_tables.specs.CellSums.{IsUpTo}
use Rattle.sut_tables.specs.Values.{int_sum_by}
use Rattle.sut_write.specs.Supply.{supply_number}
use Rattle.sut_write.specs.Places.{below}
use Rattle.sut_write.proofs.supply.column_sum.Given as goal

abbrev pub invariant-loop-place : goal.invariant-loop-place
invariant-loop-place l = record {
  sum : l.sum ≡ int_sum_by (λ n. supply_number l.p.classes l.t l.column (record { 0 = n })) (below l.place);
  small : IsUpTo (l.place * 2 ^ 69) l.sum;
}
