-- How often the rows of a problem make each measure live, and how many ends these measures have at each account.
use Rattle.std.specs.Prelude.{◌≡◌, ℕ, ◌+◌, ◌-◌, ◌<◌, ◌^◌, List, [], ◌∷◌, sum_by}
use Rattle.std.specs.List.{flat_map}
use Rattle.std.specs.declared.cmp.Ordering.{Ordering}
use Rattle.sut_classes.specs.Groups.{Groups}
use Rattle.sut_measures.specs.Ends.{left, entered}
use Rattle.sut_measures.specs.declared.accounts.Account.{Account}
use Rattle.sut_measures.specs.declared.measures.Measure.{Measure}
use Rattle.sut_measures.specs.contracts.accounts.AccountOrd.TheImpl as account_ord
use Rattle.sut_measures.specs.contracts.measures.MeasureOrd.TheImpl as measure_ord
use Rattle.sut_tables.specs.RowFacts.{RowFacts}
use Rattle.sut_tables.specs.ProblemFacts.{ProblemFacts}
use Rattle.sut_tables.specs.Problems.{groups, made_live}
use Rattle.sut_tables.specs.Tallies.{count_of, times_in}
use Rattle.sut_tables.specs.declared.live_tallies.LiveTallies.{LiveTallies}

-- the order of measures, and that of accounts
abbrev pub measure_cmp : Measure → Measure → Ordering
measure_cmp = (measure_ord.ghosts).cmp

abbrev pub account_cmp : Account → Account → Ordering
account_cmp = (account_ord.ghosts).cmp

-- the account that a measure leaves, and the one that it enters
abbrev pub ends_of : Groups → Measure → List Account
ends_of gs m = left gs m ∷ entered gs m ∷ []

-- the new tallies count these measures, and their ends, once more than the old ones
pub record CountsMore (gs : Groups) (old new : LiveTallies) (ms : List Measure) : Type 0 where
  pub measures : (q : Measure) → count_of measure_cmp new.measures q ≡ count_of measure_cmp old.measures q + times_in measure_cmp ms q
  pub accounts : (q : Account) → count_of account_cmp new.accounts q ≡ count_of account_cmp old.accounts q + times_in account_cmp (flat_map (ends_of gs) ms) q

-- the new tallies count these measures, and their ends, once less than the old ones
pub record CountsLess (gs : Groups) (old new : LiveTallies) (ms : List Measure) : Type 0 where
  pub measures : (q : Measure) → count_of measure_cmp new.measures q ≡ count_of measure_cmp old.measures q - times_in measure_cmp ms q
  pub accounts : (q : Account) → count_of account_cmp new.accounts q ≡ count_of account_cmp old.accounts q - times_in account_cmp (flat_map (ends_of gs) ms) q

-- each measure and each account may be counted so many times more
pub record HasRoom (n : ℕ) (t : LiveTallies) : Type 0 where
  pub measures : (q : Measure) → count_of measure_cmp t.measures q + n < 2 ^ 32
  pub accounts : (q : Account) → count_of account_cmp t.accounts q + n < 2 ^ 32

-- each measure is counted once for each row that makes it live, and each account once for each end of a measure so counted
pub record IsTallyOf (p : ProblemFacts) (t : LiveTallies) : Type 0 where
  pub measures : (q : Measure) → count_of measure_cmp t.measures q ≡ sum_by (λ (r : RowFacts). times_in measure_cmp (made_live (groups p) r.measure) q) p.rows
  pub accounts : (q : Account)
      → count_of account_cmp t.accounts q
      ≡ sum_by (λ (r : RowFacts). times_in account_cmp (flat_map (ends_of (groups p)) (made_live (groups p) r.measure)) q) p.rows
