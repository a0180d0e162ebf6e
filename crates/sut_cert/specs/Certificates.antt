-- Potentials that show a table least, and sets of accounts that show a problem impossible.
use Rattle.std.specs.Prelude.{◌≡◌, ℕ, Bool, true, false, ◌&&◌, not, int_lt, if◌then◌else◌, ℤ, pos, ◌+ℤ◌, ◌-ℤ◌, neg_ℤ, ◌≤ℤ◌, ◌<ℤ◌, List, [], ◌∷◌, All, Option, None, Some, IsSome, IsNone, MatchOption, unwrap_or}
use Rattle.sut_classes.specs.Groups.{Groups}
use Rattle.sut_measures.specs.Keys.{account_key}
use Rattle.sut_measures.specs.Ends.{left, entered}
use Rattle.sut_measures.specs.declared.measures.Measure.{Measure}
use Rattle.sut_measures.specs.declared.accounts.Account.{Account}
use Rattle.sut_tables.specs.InOrder.{IsAscending, same_key}
use Rattle.sut_tables.specs.RowFacts.{RowFacts}
use Rattle.sut_tables.specs.ProblemFacts.{ProblemFacts}
use Rattle.sut_tables.specs.TableFacts.{TableFacts}
use Rattle.sut_tables.specs.Values.{value_of, int_sum_by}
use Rattle.sut_tables.specs.Problems.{groups, row_at, live_measures, live_accounts}
use Rattle.sut_tables.specs.Costs.{term, IsAdmissible}

-- ---- potentials

-- 10^24
abbrev pub potential_limit : ℤ
potential_limit = pos 1000000000000000000000000

pub record IsPotential (x : ℤ) : Type 0 where
  pub low : neg_ℤ potential_limit ≤ℤ x
  pub high : x ≤ℤ potential_limit

-- the same as a test
abbrev pub is_potential : ℤ → Bool
is_potential x = not (int_lt x (neg_ℤ potential_limit)) && not (int_lt potential_limit x)

abbrev pub has_potential : Account × ℤ → Bool
has_potential a = is_potential a.1

-- the key of a pair's account
abbrev pub pair_key : Account × ℤ → List ℕ
pair_key a = account_key a.0

-- accounts in order, each once, with numbers in range
pub record IsPotentials (ps : List (Account × ℤ)) : Type 0 where
  pub in_order : IsAscending pair_key ps
  pub in_range : All (λ (a : Account × ℤ). IsPotential a.1) ps

-- the pair is the account's
abbrev pub IsPairOf : Account → Account × ℤ → Type 0
IsPairOf a p = p.0 ≡ a

abbrev pub potential_at : List (Account × ℤ) → Account → Option ℤ
potential_at [] a = None
potential_at (p ∷ ps) a = if same_key (account_key p.0) (account_key a) then Some p.1 else potential_at ps a

-- an account that isn't held counts as 0
abbrev pub potential_or_zero : List (Account × ℤ) → Account → ℤ
potential_or_zero ps a = unwrap_or (potential_at ps a) (pos 0)

-- the rise of a measure: the potential of the account entered less that of the account left
abbrev pub rise : Groups → List (Account × ℤ) → Measure → ℤ
rise gs ps m = potential_or_zero ps (entered gs m) -ℤ potential_or_zero ps (left gs m)

-- what one more adds to a row's term, and what the last one added
abbrev pub slope_up : RowFacts → ℤ → ℤ
slope_up r x = pos (term r (x +ℤ pos 1)) -ℤ pos (term r x)

abbrev pub slope_down : RowFacts → ℤ → ℤ
slope_down r x = pos (term r x) -ℤ pos (term r (x -ℤ pos 1))

-- below the upper bound one more costs at least the rise, and above the lower bound the last one cost at most the rise
pub record RowIsShown (r : RowFacts) (x p : ℤ) : Type 0 where
  pub up : x <ℤ r.upper → p ≤ℤ slope_up r x
  pub down : r.lower <ℤ x → slope_down r x ≤ℤ p

-- a measure without a row has no rise
abbrev pub MeasureIsShown : ProblemFacts → TableFacts → List (Account × ℤ) → Measure → Type 0
MeasureIsShown p t ps m =
    MatchOption (row_at p m)
    (rise (groups p) ps m ≡ pos 0)
    (λ r. RowIsShown r (value_of t m) (rise (groups p) ps m))

-- the potentials show the table
pub record ShowsLeast (p : ProblemFacts) (t : TableFacts) (ps : List (Account × ℤ)) : Type 0 where
  pub admissible : IsAdmissible p t
  pub potentials : All (λ a. IsSome (potential_at ps a)) (live_accounts p)
  pub measures : All (MeasureIsShown p t ps) (live_measures p)

-- ---- sets of accounts

abbrev pub IsAccountSet : List Account → Type 0
IsAccountSet set = IsAscending account_key set

abbrev pub has_account : List Account → Account → Bool
has_account [] a = false
has_account (b ∷ set) a = if same_key (account_key b) (account_key a) then true else has_account set a

-- from outside into the set, and out of it
abbrev pub enters : Groups → List Account → Measure → Bool
enters gs set m = has_account set (entered gs m) && not (has_account set (left gs m))

abbrev pub leaves : Groups → List Account → Measure → Bool
leaves gs set m = has_account set (left gs m) && not (has_account set (entered gs m))

-- a row's lower bound, where its measure enters the set
abbrev pub entering_by : Groups → List Account → RowFacts → ℤ
entering_by gs set r = if enters gs set r.measure then r.lower else pos 0

-- a row's upper bound, where its measure leaves the set
abbrev pub leaving_by : Groups → List Account → RowFacts → ℤ
leaving_by gs set r = if leaves gs set r.measure then r.upper else pos 0

-- the lower bounds of the rows whose measure enters the set
abbrev pub entering : ProblemFacts → List Account → ℤ
entering p set = int_sum_by (entering_by (groups p) set) p.rows

-- the upper bounds of the rows whose measure leaves the set
abbrev pub leaving : ProblemFacts → List Account → ℤ
leaving p set = int_sum_by (leaving_by (groups p) set) p.rows

-- no live measure without a row crosses the set's edge, and what has to enter is more than what may leave
pub record Contradicts (p : ProblemFacts) (set : List Account) : Type 0 where
  pub uncrossed : All (λ m. IsNone (row_at p m) → has_account set (left (groups p) m) ≡ has_account set (entered (groups p) m)) (live_measures p)
  pub gap : leaving p set <ℤ entering p set
