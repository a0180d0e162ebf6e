-- Which measures and accounts are live, and what their keys tell. These are definitions of this project.
use Rattle.std.specs.Prelude.{◌≡◌, ◌↔◌, ◌⊎◌, true, Contains}
use Rattle.sut_measures.specs.Ends.{entered, left}
use Rattle.sut_measures.specs.Keys.{account_key, measure_key}
use Rattle.sut_measures.specs.declared.accounts.Account.{Account}
use Rattle.sut_measures.specs.declared.measures.Measure.{Measure}
use Rattle.sut_tables.specs.InOrder.{IsAscending}
use Rattle.sut_tables.specs.LiveRule.{is_live}
use Rattle.sut_tables.specs.ProblemFacts.{ProblemFacts}
use Rattle.sut_tables.specs.Problems.{groups, live_accounts, live_measures}

-- The live measures of a problem, each once and in ascending order, are those that have a row and the totals of which a cell
-- has one.
abbrev pub LiveMeasuresAreListed : Type 0
LiveMeasuresAreListed =
    (p : ProblemFacts)
    → IsAscending measure_key (live_measures p) × ((m : Measure) → Contains (live_measures p) m ↔ (is_live p m ≡ true))

-- a live measure leaves the account or enters it
abbrev pub IsEnd : ProblemFacts → Account → Type 0
IsEnd p a = (m : Measure) × Contains (live_measures p) m × ((left (groups p) m ≡ a) ⊎ (entered (groups p) m ≡ a))

-- The live accounts of a problem, each once and in ascending order, are those that a live measure leaves or enters.
abbrev pub LiveAccountsAreListed : Type 0
LiveAccountsAreListed =
    (p : ProblemFacts)
    → IsAscending account_key (live_accounts p) × ((a : Account) → Contains (live_accounts p) a ↔ IsEnd p a)

-- Two measures with one key are one, and so are two accounts.
abbrev pub KeysTellApart : Type 0
KeysTellApart =
    ((m n : Measure) → measure_key m ≡ measure_key n → m ≡ n) × ((a b : Account) → account_key a ≡ account_key b → a ≡ b)
