-- The laws over the definitions, stated.
use Rattle.std.specs.Prelude.{◌≡◌, ℤ, pos, ◌-ℤ◌, ◌*ℤ◌, All}
use Rattle.sut_measures.specs.Ends.{left, entered}
use Rattle.sut_measures.specs.declared.measures.Measure.{Measure}
use Rattle.sut_measures.specs.declared.measures.Measure.TheVariants as measure
use Rattle.sut_measures.specs.declared.measures.Total.TheVariants as total
use Rattle.sut_measures.specs.declared.accounts.Account.{Account}
use Rattle.sut_tables.specs.ProblemFacts.{ProblemFacts}
use Rattle.sut_tables.specs.TableFacts.{TableFacts}
use Rattle.sut_tables.specs.Values.{int_sum_by, value_of}
use Rattle.sut_tables.specs.Identities.{MeetsIdentities}
use Rattle.sut_tables.specs.Problems.{IsProblem, IsTableOf, groups, live_measures}
use Rattle.sut_tables.specs.Flows.{IsBalanced, table_of}
use Rattle.sut_tables.specs.Gdp.{production, income, expenditure}

-- For every table of a problem that meets the identities, and every map of accounts to numbers: the values of the live
-- measures, each times what the map rises along it, sum to 0. At the map that is 1 at one account and 0 elsewhere this
-- says that what enters the account is what leaves it.
abbrev pub Conservation : Type 0
Conservation =
    (p : ProblemFacts) (t : TableFacts) → IsProblem p → IsTableOf p t → MeetsIdentities t → (at : Account → ℤ)
    → int_sum_by (λ m. value_of t m *ℤ (at (entered (groups p) m) -ℤ at (left (groups p) m))) (live_measures p) ≡ pos 0

-- The values of a table that meets the identities balance: at each live account those entering sum to those leaving.
abbrev pub ValuesBalance : Type 0
ValuesBalance =
    (p : ProblemFacts) (t : TableFacts) → IsProblem p → IsTableOf p t → MeetsIdentities t → IsBalanced p (value_of t)

-- The converse: where each live measure is given a number, and these balance, the table of the cells' numbers meets the
-- identities, and each live measure's number is its value over that table.
abbrev pub BalancedAreValues : Type 0
BalancedAreValues =
    (p : ProblemFacts) → IsProblem p → (x : Measure → ℤ) → IsBalanced p x
    → IsTableOf p (table_of p x) × MeetsIdentities (table_of p x) × All (λ m. x m ≡ value_of (table_of p x) m) (live_measures p)

-- The table of a table's values is the table, and numbers that are the same at each live measure give the same table.
abbrev pub ValuesGiveBack : Type 0
ValuesGiveBack =
    ((p : ProblemFacts) (t : TableFacts) → IsProblem p → IsTableOf p t → table_of p (value_of t) ≡ t)
    × ((p : ProblemFacts) (x y : Measure → ℤ) → All (λ m. x m ≡ y m) (live_measures p) → table_of p x ≡ table_of p y)

-- Where the identities hold, the three sums of GDP are equal, and equal the total `gdp`.
abbrev pub OneGdp : Type 0
OneGdp =
    (t : TableFacts) → MeetsIdentities t
    → (production t ≡ income t) × (expenditure t ≡ income t) × (value_of t (measure.Total total.Gdp) ≡ income t)
