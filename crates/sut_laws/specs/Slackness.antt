-- What potentials that show a table least say of each measure: complementary slackness. The rise of a measure is the potential
-- of the account that it enters less that of the account that it leaves; potentials are the multipliers of the identities in
-- the least squares of Stone, Champernowne and Meade (1942), for whole numbers.
use Rattle.std.specs.Prelude.{◌≡◌, ℤ, pos, ◌≤ℤ◌, ◌<ℤ◌, List, All, None, IsNone}
use Rattle.sut_measures.specs.declared.accounts.Account.{Account}
use Rattle.sut_tables.specs.ProblemFacts.{ProblemFacts}
use Rattle.sut_tables.specs.Problems.{IsProblem, groups, live_measures, row_at}
use Rattle.sut_tables.specs.RowFacts.{RowFacts}
use Rattle.sut_tables.specs.TableFacts.{TableFacts}
use Rattle.sut_tables.specs.Values.{value_of}
use Rattle.sut_cert.specs.Certificates.{ShowsLeast, rise, slope_down, slope_up}

-- of a row at a value and a rise: strictly between its bounds the rise lies between its two marginal penalties, what the last
-- unit added and what one more would add; at its lower bound only the second bounds the rise, at its upper bound only the
-- first; without a target there is no penalty, so strictly between its bounds the rise is 0
pub record IsPriced (r : RowFacts) (x p : ℤ) : Type 0 where
  pub last : r.lower <ℤ x → x <ℤ r.upper → slope_down r x ≤ℤ p
  pub next : r.lower <ℤ x → x <ℤ r.upper → p ≤ℤ slope_up r x
  pub at_lower : x ≡ r.lower → r.lower <ℤ r.upper → p ≤ℤ slope_up r x
  pub at_upper : x ≡ r.upper → r.lower <ℤ r.upper → slope_down r x ≤ℤ p
  pub free : r.target ≡ None → r.lower <ℤ x → x <ℤ r.upper → p ≡ pos 0

-- Under potentials that show a table least, each row is priced so at its measure's value and rise, and a live measure without
-- a row has rise 0. (`balance` and `verify` say where potentials show a table.)
abbrev pub RisesArePrices : Type 0
RisesArePrices =
    (p : ProblemFacts) (t : TableFacts) (ps : List (Account × ℤ)) → IsProblem p → ShowsLeast p t ps
    → All (λ (r : RowFacts). IsPriced r (value_of t r.measure) (rise (groups p) ps r.measure)) p.rows
    × All (λ m. IsNone (row_at p m) → rise (groups p) ps m ≡ pos 0) (live_measures p)
