use Rattle.sut_tables.specs.Problems.{IsTableOf}
use Rattle.test_tables.proofs.years.put_all.Given as goal

abbrev pub invariant-loop-line : goal.invariant-loop-line
invariant-loop-line l = IsTableOf l.problem l.table
