use Rattle.std.proofs.Common.{◌≡◌, ◌+◌, All}
use Rattle.std.specs.Prelude.{sum_by}
use Rattle.sut_tables.specs.RowFacts.{RowFacts}
use Rattle.sut_tables.specs.Rows.{InRange}
use Rattle.sut_tables.specs.Values.{value_of}
use Rattle.sut_tables.specs.Costs.{cost, term}
use Rattle.sut_tables.proofs.costs.cost.Given as goal

-- the sum so far and the terms of the rows that are left make the cost
abbrev pub invariant-loop-row : goal.invariant-loop-row
invariant-loop-row l = record {
  counted : l.sum + sum_by (λ (r : RowFacts). term r (value_of l.t r.measure)) l.row-iterator ≡ cost l.p l.t;
  in_range : All (λ (r : RowFacts). InRange (value_of l.t r.measure)) l.row-iterator;
}
