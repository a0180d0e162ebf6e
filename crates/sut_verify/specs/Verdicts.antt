-- The reasons against a certificate, in order, and the verdict: the first of them.
use Rattle.std.specs.Prelude.{Bool, ◌&&◌, ◌||◌, not, is_none, int_lt, ℤ, pos, List, [], ◌∷◌, ◌++◌, map, Option, None, Some, if◌then◌else◌}
use Rattle.std.specs.List.{flat_map}
use Rattle.std.specs.Ordering.{int_eq}
use Rattle.sut_measures.specs.declared.measures.Measure.{Measure}
use Rattle.sut_measures.specs.declared.accounts.Account.{Account}
use Rattle.sut_tables.specs.RowFacts.{RowFacts}
use Rattle.sut_tables.specs.ProblemFacts.{ProblemFacts}
use Rattle.sut_tables.specs.TableFacts.{TableFacts}
use Rattle.sut_tables.specs.Values.{value_of}
use Rattle.sut_tables.specs.Breaks.{breaks, first_of}
use Rattle.sut_tables.specs.Problems.{groups, row_at, live_measures, live_accounts}
use Rattle.sut_cert.specs.Certificates.{potential_at, rise, slope_up, slope_down, enters, leaves, entering, leaving}
use Rattle.sut_verify.specs.declared.verdicts.Reason.{Reason}
use Rattle.sut_verify.specs.declared.verdicts.Reason.TheVariants as reason
use Rattle.sut_verify.specs.declared.verdicts.Verdict.{Verdict}
use Rattle.sut_verify.specs.declared.verdicts.Verdict.TheVariants as verdict

-- the reason, where the test passes
abbrev pub where_true : Bool → Reason → List Reason
where_true b r = if b then (r ∷ []) else []

-- below the upper bound one more costs less than the rise
abbrev pub up_reason : Measure → RowFacts → ℤ → ℤ → List Reason
up_reason m r x p = where_true (int_lt x r.upper && int_lt (slope_up r x) p) (reason.Up m (slope_up r x) p)

-- above the lower bound the last one cost more than the rise
abbrev pub down_reason : Measure → RowFacts → ℤ → ℤ → List Reason
down_reason m r x p = where_true (int_lt r.lower x && int_lt p (slope_down r x)) (reason.Down m (slope_down r x) p)

-- of a row with value x: up, then down
abbrev pub row_reasons : Measure → RowFacts → ℤ → ℤ → List Reason
row_reasons m r x p = up_reason m r x p ++ down_reason m r x p

-- a rise, where there is no row
abbrev pub bent_reason : Measure → ℤ → List Reason
bent_reason m p = where_true (not (int_eq p (pos 0))) (reason.Bent m p)

-- of a measure: a rise without a row, or its row's reasons
abbrev pub measure_reasons : Option RowFacts → Measure → ℤ → ℤ → List Reason
measure_reasons None m x p = bent_reason m p
measure_reasons (Some r) m x p = row_reasons m r x p

-- an account without a potential
abbrev pub account_reasons : List (Account × ℤ) → Account → List Reason
account_reasons ps a = where_true (is_none (potential_at ps a)) (reason.NoPotential a)

-- the reasons at a measure, at its value and its rise
abbrev pub reasons_at : ProblemFacts → TableFacts → List (Account × ℤ) → Measure → List Reason
reasons_at p t ps m = measure_reasons (row_at p m) m (value_of t m) (rise (groups p) ps m)

-- breaks, then live accounts without a potential, then the live measures in order
abbrev pub reasons : ProblemFacts → TableFacts → List (Account × ℤ) → List Reason
reasons p t ps =
    map reason.Open (breaks p t)
    ++ flat_map (account_reasons ps) (live_accounts p)
    ++ flat_map (reasons_at p t ps) (live_measures p)

abbrev pub refused_or : Verdict → Option Reason → Verdict
refused_or v None = v
refused_or v (Some r) = verdict.Refused r

abbrev pub verdict_on : ProblemFacts → TableFacts → List (Account × ℤ) → Verdict
verdict_on p t ps = refused_or verdict.Least (first_of (reasons p t ps))

-- a measure without a row that has one end in the set
abbrev pub crossing_at : ProblemFacts → List Account → Measure → List Reason
crossing_at p set m =
    where_true (is_none (row_at p m) && (enters (groups p) set m || leaves (groups p) set m)) (reason.Crosses m)

-- what has to enter the set is no more than what may leave it
abbrev pub no_gap : ℤ → ℤ → List Reason
no_gap enter leave = where_true (not (int_lt leave enter)) (reason.NoGap enter leave)

-- live measures without a row that cross the set's edge, in order, then a gap that isn't there
abbrev pub cut_reasons : ProblemFacts → List Account → List Reason
cut_reasons p set = flat_map (crossing_at p set) (live_measures p) ++ no_gap (entering p set) (leaving p set)

-- the verdict by the two sums
abbrev pub gap_verdict : ℤ → ℤ → Verdict
gap_verdict enter leave = refused_or (verdict.NoTable enter leave) (first_of (no_gap enter leave))

abbrev pub verdict_on_cut : ProblemFacts → List Account → Verdict
verdict_on_cut p set = refused_or (verdict.NoTable (entering p set) (leaving p set)) (first_of (cut_reasons p set))
