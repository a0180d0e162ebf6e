-- The problem that the fields of `Problem` stand for.
use Rattle.std.specs.Prelude.{◌≡◌, map, filter, length, not}
use Rattle.std.specs.BTreeMap.{keys, values}
use Rattle.sut_tables.specs.RowFacts.{RowFacts}
use Rattle.sut_tables.specs.ProblemFacts.{ProblemFacts}
use Rattle.sut_tables.specs.Changes.{is_cell}
use Rattle.sut_tables.specs.ProblemRules.{IsKept}
use Rattle.sut_tables.specs.LiveTallies.{IsTallyOf}
use Rattle.sut_tables.specs.declared.problems.Problem.TheInside.{Inside}

abbrev pub problem_of : Inside → ProblemFacts
problem_of p = record { classes = p.classes; rows = values p.rows }

-- each row stands under its measure, the rows are those of a problem and not too many, they are counted by sort, and the
-- tallies are those of the rows
pub record KeepsRows (p : Inside) : Type 0 where
  pub named : keys p.rows ≡ map (λ (r : RowFacts). r.measure) (values p.rows)
  pub kept : IsKept (problem_of p)
  pub cells : p.cells ≡ length (filter (λ (r : RowFacts). is_cell r.measure) (values p.rows))
  pub totals : p.totals ≡ length (filter (λ (r : RowFacts). not (is_cell r.measure)) (values p.rows))
  pub live : IsTallyOf (problem_of p) p.live
