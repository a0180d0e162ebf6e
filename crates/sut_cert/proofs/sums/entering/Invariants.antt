use Rattle.std.proofs.Common.{◌≡◌, ◌-◌, ◌*◌, ◌≤◌, ◌+ℤ◌, if◌then◌else◌, length, pos}
use Rattle.sut_tables.specs.CellSums.{IsUpTo}
use Rattle.sut_tables.specs.Problems.{groups}
use Rattle.sut_tables.specs.RowFacts.{RowFacts}
use Rattle.sut_tables.specs.Values.{int_sum_by}
use Rattle.sut_cert.specs.Certificates as certificate
use Rattle.sut_cert.proofs.sums.entering.Given as goal

-- the sum so far and the bounds of the rows that are left make the sum
abbrev pub invariant-loop-row : goal.invariant-loop-row
invariant-loop-row l = record {
  counted : l.sum +ℤ int_sum_by (λ (r : RowFacts). if certificate.enters (groups l.p) l.s r.measure then r.lower else pos 0) l.row-iterator ≡ certificate.entering l.p l.s;
  few : length l.row-iterator ≤ 147456;
  small : IsUpTo ((147456 - length l.row-iterator) * 1000000000000) l.sum;
}
