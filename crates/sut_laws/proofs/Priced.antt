-- What potentials that show a table say of each row.
use Rattle.std.proofs.Common.{◌≡◌, ℤ, pos, ◌+ℤ◌, ◌-ℤ◌, List, [], ◌∷◌, Option, None, Some, sym, subst, arith}
use Rattle.std.specs.Prelude.{◌≤ℤ◌, ◌<ℤ◌, All, IsNone, MatchOption}
use Rattle.std.proofs.lemmas.Int.{ints}
use Rattle.std.proofs.lemmas.List.Elements.{All-cons, All-nil, All-weaker}
use Rattle.sut_measures.specs.Keys.{measure_key}
use Rattle.sut_measures.specs.declared.accounts.Account.{Account}
use Rattle.sut_measures.specs.declared.measures.Measure.{Measure}
use Rattle.sut_measures.proofs.KeyLemmas.{measure_key-injective}
use Rattle.sut_tables.specs.Costs.{weighted_loss}
use Rattle.sut_tables.specs.ProblemFacts.{ProblemFacts}
use Rattle.sut_tables.specs.Problems.{IsProblem, groups, live_measures, row_at}
use Rattle.sut_tables.specs.RowFacts.{RowFacts}
use Rattle.sut_tables.specs.TableFacts.{TableFacts}
use Rattle.sut_tables.specs.Values.{value_of}
use Rattle.sut_tables.proofs.Conservation.{Sorted-from_ascending}
use Rattle.sut_tables.proofs.Lists.{All-among}
use Rattle.sut_cert.specs.Certificates.{MeasureIsShown, RowIsShown, ShowsLeast, rise, slope_down, slope_up}
use Rattle.sut_cert.proofs.Least.{AllFound, all_found, row_key}
use Rattle.sut_cert.proofs.Rows.{AllLive, rows-are-live}
use Rattle.sut_laws.specs.Slackness.{IsPriced, RisesArePrices}

-- without a target a row's marginal penalties are 0
no-slope_up : (r : RowFacts) (x : ℤ) → r.target ≡ None → slope_up r x ≡ pos 0
no-slope_up r x e = λ d. pos (weighted_loss (e d) r.penalty r.weight (x +ℤ pos 1)) -ℤ pos (weighted_loss (e d) r.penalty r.weight x)

no-slope_down : (r : RowFacts) (x : ℤ) → r.target ≡ None → slope_down r x ≡ pos 0
no-slope_down r x e = λ d. pos (weighted_loss (e d) r.penalty r.weight x) -ℤ pos (weighted_loss (e d) r.penalty r.weight (x -ℤ pos 1))

between : (a b p : ℤ) → a ≡ pos 0 → b ≡ pos 0 → a ≤ℤ p → p ≤ℤ b → p ≡ pos 0
between a b p e f h k = omega (arith, ints)

priced : (r : RowFacts) (x p : ℤ) → RowIsShown r x p → IsPriced r x p
priced r x p s = record {
  last = λ low high. s.down low;
  next = λ low high. s.up high;
  at_lower = λ e wide. s.up (subst (λ z. z <ℤ r.upper) (sym e) wide);
  at_upper = λ e wide. s.down (subst (λ z. r.lower <ℤ z) (sym e) wide);
  free = λ e low high. between (slope_down r x) (slope_up r x) p (no-slope_down r x e) (no-slope_up r x e) (s.down low) (s.up high);
}

module _ (p : ProblemFacts) (t : TableFacts) (ps : List (Account × ℤ)) (ok : IsProblem p) (s : ShowsLeast p t ps) where
  abbrev Priced : RowFacts → Type 0
  Priced r = IsPriced r (value_of t r.measure) (rise (groups p) ps r.measure)

  rows-priced : (rows : List RowFacts) → AllLive (live_measures p) rows → AllFound p.rows rows → All Priced rows
  rows-priced [] a f = All-nil Priced
  rows-priced (r ∷ rows) a f =
      All-cons Priced r rows
      (priced r (value_of t r.measure) (rise (groups p) ps r.measure)
      (subst (λ o. MatchOption o (rise (groups p) ps r.measure ≡ pos 0) (λ q. RowIsShown q (value_of t r.measure) (rise (groups p) ps r.measure))) f.0
      (All-among (MeasureIsShown p t ps) measure_key measure_key-injective r.measure (live_measures p) s.measures a.0)))
      (rows-priced rows a.1 f.1)

  flat : (m : Measure) → MeasureIsShown p t ps m → IsNone (row_at p m) → rise (groups p) ps m ≡ pos 0
  flat m shown = by (row_at p m) shown
    where
      by : (o : Option RowFacts) → MatchOption o (rise (groups p) ps m ≡ pos 0) (λ r. RowIsShown r (value_of t m) (rise (groups p) ps m)) → IsNone o → rise (groups p) ps m ≡ pos 0
      by None h n = h
      by (Some r) h n = cc

pub rises-are-prices : RisesArePrices
rises-are-prices p t ps ok s = (
  rows-priced p t ps ok s p.rows (rows-are-live p) (all_found p.rows (Sorted-from_ascending row_key p.rows ok.in_order)),
  All-weaker (MeasureIsShown p t ps) (λ m. IsNone (row_at p m) → rise (groups p) ps m ≡ pos 0) (flat p t ps ok s) (live_measures p) s.measures,
)
