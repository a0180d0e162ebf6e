-- Rules of reviewers: which rows they mark, and how often.
use Rattle.std.specs.Prelude.{◌≡◌, ◌&&◌, ℕ, ◌^◌, ℤ, ◌≤ℤ◌, pos, neg_ℤ, int_le, All, Bool, List, count_by, sum_by}
use Rattle.sut_tables.specs.RowFacts.{RowFacts}
use Rattle.sut_tables.specs.ProblemFacts.{ProblemFacts}
use Rattle.sut_tables.specs.TableFacts.{TableFacts}
use Rattle.sut_tables.specs.Values.{value_of}
use Rattle.sut_tables.specs.ProblemRules.{IsKept}
use Rattle.sut_tables.specs.Problems.{IsTableOf}
use Rattle.sut_tables.specs.Rows.{InRange}
use Rattle.sut_tables.specs.declared.tables.Held.{Held}

-- which rows a reviewer marks, with which values
abbrev pub Rule : Type 0
Rule = RowFacts → ℤ → Bool

-- the values that a rule is asked about
pub record IsAsked (value : ℤ) : Type 0 where
  pub low : neg_ℤ (pos (2 ^ 60)) ≤ℤ value
  pub high : value ≤ℤ pos (2 ^ 60)

-- the two rules mark alike, where they are asked
abbrev pub SameRule : Rule → Rule → Type 0
SameRule old new = (row : RowFacts) (value : ℤ) → IsAsked value → new row value ≡ old row value

-- how many rows of a problem a rule marks with the values of their measures over a table
abbrev pub marks_of : Rule → ProblemFacts → TableFacts → ℕ
marks_of rule p t = count_by (λ (r : RowFacts). rule r (value_of t r.measure)) p.rows

-- The tally of a rule over problems and tables: the pairs of a table and a row of its problem that the rule marks with the
-- value of the row's measure.
abbrev pub tally_of : Rule → List (ProblemFacts × TableFacts) → ℕ
tally_of rule tables = sum_by (λ (shown : ProblemFacts × TableFacts). marks_of rule shown.0 shown.1) tables

-- a table of the problem, as both are held
pub record IsHeld (p : ProblemFacts) (t : TableFacts) : Type 0 where
  pub problem : IsKept p
  pub of : IsTableOf p t
  pub numbers : All (λ (h : Held). InRange h.number) t.cells

abbrev pub is_asked : ℤ → Bool
is_asked value = int_le (neg_ℤ (pos (2 ^ 60))) value && int_le value (pos (2 ^ 60))

-- the rule as far as it is asked: it marks nothing else
unfoldable pub asked : Rule → Rule
asked rule row value = is_asked value && rule row value
