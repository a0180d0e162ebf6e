-- What a table costs, which tables are admissible, and which is least.
use Rattle.std.specs.Prelude.{ℕ, ◌*◌, ◌-◌, ◌≤◌, ℤ, ◌-ℤ◌, ◌≤ℤ◌, unsigned_abs, Option, None, Some, sum_by, All}
use Rattle.sut_tables.specs.RowFacts.{RowFacts}
use Rattle.sut_tables.specs.ProblemFacts.{ProblemFacts}
use Rattle.sut_tables.specs.TableFacts.{TableFacts}
use Rattle.sut_tables.specs.Problems.{IsTableOf}
use Rattle.sut_tables.specs.Values.{value_of}
use Rattle.sut_tables.specs.Identities.{MeetsIdentities}
use Rattle.sut_tables.specs.declared.rows.Penalty.{Penalty}
use Rattle.sut_tables.specs.declared.rows.Penalty.TheVariants.{Square, Absolute, Band}

-- the loss of a distance: its square, the distance itself, or the square of what it has beyond the band
abbrev pub loss : Penalty → ℕ → ℕ
loss Square d = d * d
loss Absolute d = d
loss (Band width) d = (d - unsigned_abs width) * (d - unsigned_abs width)

abbrev pub weighted_loss : Option ℤ → Penalty → ℕ → ℤ → ℕ
weighted_loss None penalty weight x = 0
weighted_loss (Some target) penalty weight x = weight * loss penalty (unsigned_abs (x -ℤ target))

-- a row's term at a value: the weight times the loss of the distance to the target, which isn't moved into the bounds
abbrev pub term : RowFacts → ℤ → ℕ
term r x = weighted_loss r.target r.penalty r.weight x

abbrev pub cost : ProblemFacts → TableFacts → ℕ
cost p t = sum_by (λ (r : RowFacts). term r (value_of t r.measure)) p.rows

-- a row's measure is at least the lower and at most the upper bound
pub record IsWithin (t : TableFacts) (r : RowFacts) : Type 0 where
  pub above : r.lower ≤ℤ value_of t r.measure
  pub below : value_of t r.measure ≤ℤ r.upper

-- a table of the problem that meets the identities and the bounds
pub record IsAdmissible (p : ProblemFacts) (t : TableFacts) : Type 0 where
  pub of_problem : IsTableOf p t
  pub identities : MeetsIdentities t
  pub bounds : All (IsWithin t) p.rows

-- admissible, and no admissible table of the problem costs less
pub record IsLeast (p : ProblemFacts) (t : TableFacts) : Type 0 where
  pub admissible : IsAdmissible p t
  pub least : (u : TableFacts) → IsAdmissible p u → cost p t ≤ cost p u

-- no table is admissible
abbrev pub IsImpossible : ProblemFacts → Type 0
IsImpossible p = (t : TableFacts) → ¬ IsAdmissible p t
