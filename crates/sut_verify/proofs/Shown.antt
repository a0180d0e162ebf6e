-- No reason is found exactly where potentials show a table, and exactly where a set contradicts.
use Rattle.std.proofs.Common.{◌≡◌, ℤ, pos, List, [], ◌∷◌, ◌++◌, refl, ap, Bool, true, false, ◌&&◌, ◌||◌, not, Option, None, Some, map}
use Rattle.std.specs.Prelude.{IsSome, IsNone, is_none, ◌↔◌, int_lt, MatchOption}
use Rattle.std.specs.List.{flat_map}
use Rattle.std.specs.Ordering.{int_eq}
use Rattle.std.proofs.lemmas.Bool.Decides.{Decides-int_eq}
use Rattle.std.proofs.lemmas.List.Elements.{All-weaker}
use Rattle.sut_measures.specs.Ends.{left, entered}
use Rattle.sut_measures.specs.declared.measures.Measure.{Measure}
use Rattle.sut_measures.specs.declared.accounts.Account.{Account}
use Rattle.sut_tables.specs.RowFacts.{RowFacts}
use Rattle.sut_tables.specs.ProblemFacts.{ProblemFacts}
use Rattle.sut_tables.specs.TableFacts.{TableFacts}
use Rattle.sut_tables.specs.Values.{value_of}
use Rattle.sut_tables.specs.Breaks.{breaks, first_of}
use Rattle.sut_tables.specs.Problems.{IsProblem, IsTableOf, groups, row_at, live_measures, live_accounts}
use Rattle.sut_tables.proofs.Lists.{append-empty, empty-append, flat_map-empty, empty-flat_map}
use Rattle.sut_tables.proofs.Tests.{lt_true, lt_false, lt_is_true, lt_is_false}
use Rattle.sut_tables.proofs.FirstBreak.{admissible-no-breaks, first_break-admissible, none-first}
use Rattle.sut_cert.specs.Certificates.{potential_at, rise, slope_up, slope_down, RowIsShown, MeasureIsShown, ShowsLeast, has_account, enters, leaves, entering, leaving, Contradicts}
use Rattle.sut_verify.specs.declared.verdicts.Reason.{Reason}
use Rattle.sut_verify.specs.declared.verdicts.Reason.TheVariants as reason
use Rattle.sut_verify.specs.declared.verdicts.Verdict.{Verdict}
use Rattle.sut_verify.specs.declared.verdicts.Verdict.TheVariants as verdict
use Rattle.sut_verify.specs.Verdicts.{account_reasons, crossing_at, cut_reasons, measure_reasons, no_gap, reasons, reasons_at, refused_or, row_reasons, verdict_on, verdict_on_cut, where_true}

-- ---- one reason

map-empty : {X Y : Type 0} (f : X → Y) (xs : List X) → map f xs ≡ [] → xs ≡ []
map-empty f [] e = refl
map-empty f (x ∷ xs) e = cc

where-empty : (b : Bool) (r : Reason) → where_true b r ≡ [] → b ≡ false
where-empty true r e = cc
where-empty false r e = refl

empty-where : (b : Bool) (r : Reason) → b ≡ false → where_true b r ≡ []
empty-where b r e = rw e refl

has_some : {X : Type 0} (o : Option X) → is_none o ≡ false → IsSome o
has_some None e = cc
has_some (Some x) e = refl

some_has : {X : Type 0} (o : Option X) → IsSome o → is_none o ≡ false
some_has None e = cc
some_has (Some x) e = refl

none-test : {X : Type 0} (o : Option X) → IsNone o → is_none o ≡ true
none-test None e = refl
none-test (Some x) e = cc

test-none : {X : Type 0} (o : Option X) → is_none o ≡ true → IsNone o
test-none None e = refl
test-none (Some x) e = cc

-- where the first test passes the second doesn't
both-false : (a b : Bool) → (a && b) ≡ false → a ≡ true → b ≡ false
both-false true b e h = e
both-false false b e h = cc

false-both : (a b : Bool) → (a ≡ true → b ≡ false) → (a && b) ≡ false
false-both true b f = f refl
false-both false b f = refl

not-false : (b : Bool) → not b ≡ false → b ≡ true
not-false true e = refl
not-false false e = cc

row-shown : (m : Measure) (r : RowFacts) (x p : ℤ) → row_reasons m r x p ≡ [] → RowIsShown r x p
row-shown m r x p e =
    let both = append-empty (where_true (int_lt x r.upper && int_lt (slope_up r x) p) (reason.Up m (slope_up r x) p)) (where_true (int_lt r.lower x && int_lt p (slope_down r x)) (reason.Down m (slope_down r x) p)) e in
    record {
      up = λ h. lt_false (slope_up r x) p (both-false (int_lt x r.upper) (int_lt (slope_up r x) p) (where-empty (int_lt x r.upper && int_lt (slope_up r x) p) (reason.Up m (slope_up r x) p) both.0) (lt_is_true x r.upper h));
      down = λ h. lt_false p (slope_down r x) (both-false (int_lt r.lower x) (int_lt p (slope_down r x)) (where-empty (int_lt r.lower x && int_lt p (slope_down r x)) (reason.Down m (slope_down r x) p) both.1) (lt_is_true r.lower x h));
    }

shown-row : (m : Measure) (r : RowFacts) (x p : ℤ) → RowIsShown r x p → row_reasons m r x p ≡ []
shown-row m r x p s =
    empty-append (where_true (int_lt x r.upper && int_lt (slope_up r x) p) (reason.Up m (slope_up r x) p)) (where_true (int_lt r.lower x && int_lt p (slope_down r x)) (reason.Down m (slope_down r x) p))
    (empty-where (int_lt x r.upper && int_lt (slope_up r x) p) (reason.Up m (slope_up r x) p) (false-both (int_lt x r.upper) (int_lt (slope_up r x) p) (λ h. lt_is_false (slope_up r x) p (s.up (lt_true x r.upper h)))))
    (empty-where (int_lt r.lower x && int_lt p (slope_down r x)) (reason.Down m (slope_down r x) p) (false-both (int_lt r.lower x) (int_lt p (slope_down r x)) (λ h. lt_is_false p (slope_down r x) (s.down (lt_true r.lower x h)))))

measure-shown : (o : Option RowFacts) (m : Measure) (x p : ℤ) → measure_reasons o m x p ≡ [] → MatchOption o (p ≡ pos 0) (λ r. RowIsShown r x p)
measure-shown None m x p e = (Decides-int_eq p (pos 0)).0 (not-false (int_eq p (pos 0)) (where-empty (not (int_eq p (pos 0))) (reason.Bent m p) e))
measure-shown (Some r) m x p e = row-shown m r x p e

shown-measure : (o : Option RowFacts) (m : Measure) (x p : ℤ) → MatchOption o (p ≡ pos 0) (λ r. RowIsShown r x p) → measure_reasons o m x p ≡ []
shown-measure None m x p e = empty-where (not (int_eq p (pos 0))) (reason.Bent m p) (rw ((Decides-int_eq p (pos 0)).1 e) refl)
shown-measure (Some r) m x p s = shown-row m r x p s

-- ---- potentials

module _ (p : ProblemFacts) (t : TableFacts) (ps : List (Account × ℤ)) where
  pub no-reasons : IsProblem p → IsTableOf p t → reasons p t ps ≡ [] → ShowsLeast p t ps
  no-reasons ok of e =
      let a = append-empty (map reason.Open (breaks p t) ++ flat_map (account_reasons ps) (live_accounts p)) (flat_map (reasons_at p t ps) (live_measures p)) e in
      let b = append-empty (map reason.Open (breaks p t)) (flat_map (account_reasons ps) (live_accounts p)) a.0 in
      record {
        admissible = (first_break-admissible p t ok of).0 (none-first (breaks p t) (map-empty reason.Open (breaks p t) b.0));
        potentials =
            All-weaker (λ a. account_reasons ps a ≡ []) (λ a. IsSome (potential_at ps a)) (λ a e. has_some (potential_at ps a) (where-empty (is_none (potential_at ps a)) (reason.NoPotential a) e))
            (live_accounts p) (flat_map-empty (account_reasons ps) (live_accounts p) b.1);
        measures =
            All-weaker (λ m. reasons_at p t ps m ≡ []) (MeasureIsShown p t ps) (λ m. measure-shown (row_at p m) m (value_of t m) (rise (groups p) ps m))
            (live_measures p) (flat_map-empty (reasons_at p t ps) (live_measures p) a.1);
      }

  pub shown-no-reasons : ShowsLeast p t ps → reasons p t ps ≡ []
  shown-no-reasons s =
      empty-append (map reason.Open (breaks p t) ++ flat_map (account_reasons ps) (live_accounts p)) (flat_map (reasons_at p t ps) (live_measures p))
      (empty-append (map reason.Open (breaks p t)) (flat_map (account_reasons ps) (live_accounts p))
      (ap (map reason.Open) (admissible-no-breaks p t s.admissible))
      (empty-flat_map (account_reasons ps) (live_accounts p)
      (All-weaker (λ a. IsSome (potential_at ps a)) (λ a. account_reasons ps a ≡ []) (λ a h. empty-where (is_none (potential_at ps a)) (reason.NoPotential a) (some_has (potential_at ps a) h)) (live_accounts p) s.potentials)))
      (empty-flat_map (reasons_at p t ps) (live_measures p)
      (All-weaker (MeasureIsShown p t ps) (λ m. reasons_at p t ps m ≡ []) (λ m. shown-measure (row_at p m) m (value_of t m) (rise (groups p) ps m)) (live_measures p) s.measures))

least-empty : (rs : List Reason) → refused_or verdict.Least (first_of rs) ≡ verdict.Least → rs ≡ []
least-empty [] e = refl
least-empty (r ∷ rs) e = cc

-- The verdict is that the table is least exactly where the potentials show it.
pub verdict-shown : (p : ProblemFacts) (t : TableFacts) (ps : List (Account × ℤ)) → IsProblem p → IsTableOf p t
    → (verdict_on p t ps ≡ verdict.Least) ↔ ShowsLeast p t ps
verdict-shown p t ps ok of = (
  (λ e. no-reasons p t ps ok of (least-empty (reasons p t ps) e)),
  (λ s. ap (λ rs. refused_or verdict.Least (first_of rs)) (shown-no-reasons p t ps s)),
)

-- ---- sets of accounts

-- no crossing either way says that both ends are in the set or both aren't
same-sides : (l e : Bool) → ((e && not l) || (l && not e)) ≡ false → l ≡ e
same-sides true true h = refl
same-sides false false h = refl
same-sides true false h = cc
same-sides false true h = cc

sides-same : (l e : Bool) → l ≡ e → ((e && not l) || (l && not e)) ≡ false
sides-same true true h = refl
sides-same false false h = refl
sides-same true false h = cc
sides-same false true h = cc

module _ (p : ProblemFacts) (set : List Account) where
  pub no-cut_reasons : cut_reasons p set ≡ [] → Contradicts p set
  no-cut_reasons e =
      let both = append-empty (flat_map (crossing_at p set) (live_measures p)) (no_gap (entering p set) (leaving p set)) e in
      record {
        uncrossed =
            All-weaker (λ m. crossing_at p set m ≡ []) (λ m. IsNone (row_at p m) → has_account set (left (groups p) m) ≡ has_account set (entered (groups p) m))
            (λ m e h. same-sides (has_account set (left (groups p) m)) (has_account set (entered (groups p) m))
            (both-false (is_none (row_at p m)) (enters (groups p) set m || leaves (groups p) set m) (where-empty (is_none (row_at p m) && (enters (groups p) set m || leaves (groups p) set m)) (reason.Crosses m) e) (none-test (row_at p m) h)))
            (live_measures p) (flat_map-empty (crossing_at p set) (live_measures p) both.0);
        gap = lt_true (leaving p set) (entering p set)
            (not-false (int_lt (leaving p set) (entering p set)) (where-empty (not (int_lt (leaving p set) (entering p set))) (reason.NoGap (entering p set) (leaving p set)) both.1));
      }

  pub contradicts-no-reasons : Contradicts p set → cut_reasons p set ≡ []
  contradicts-no-reasons c =
      empty-append (flat_map (crossing_at p set) (live_measures p)) (no_gap (entering p set) (leaving p set))
      (empty-flat_map (crossing_at p set) (live_measures p)
      (All-weaker (λ m. IsNone (row_at p m) → has_account set (left (groups p) m) ≡ has_account set (entered (groups p) m)) (λ m. crossing_at p set m ≡ [])
      (λ m f. empty-where (is_none (row_at p m) && (enters (groups p) set m || leaves (groups p) set m)) (reason.Crosses m)
      (false-both (is_none (row_at p m)) (enters (groups p) set m || leaves (groups p) set m) (λ h. sides-same (has_account set (left (groups p) m)) (has_account set (entered (groups p) m)) (f (test-none (row_at p m) h)))))
      (live_measures p) c.uncrossed))
      (empty-where (not (int_lt (leaving p set) (entering p set))) (reason.NoGap (entering p set) (leaving p set)) (rw (lt_is_true (leaving p set) (entering p set) c.gap) refl))

no_table-empty : (a b : ℤ) (rs : List Reason) → refused_or (verdict.NoTable a b) (first_of rs) ≡ verdict.NoTable a b → rs ≡ []
no_table-empty a b [] e = refl
no_table-empty a b (r ∷ rs) e = cc

-- The verdict is that there is no table, with the two sums, exactly where the set contradicts.
pub verdict_on_cut-contradicts : (p : ProblemFacts) (set : List Account) → (verdict_on_cut p set ≡ verdict.NoTable (entering p set) (leaving p set)) ↔ Contradicts p set
verdict_on_cut-contradicts p set = (
  (λ e. no-cut_reasons p set (no_table-empty (entering p set) (leaving p set) (cut_reasons p set) e)),
  (λ c. ap (λ rs. refused_or (verdict.NoTable (entering p set) (leaving p set)) (first_of rs)) (contradicts-no-reasons p set c)),
)

-- ---- the sums of an answer

sums-of : (entering leaving enter leave : ℤ) (r : Option Reason) → refused_or (verdict.NoTable entering leaving) r ≡ verdict.NoTable enter leave → (enter ≡ entering) × (leave ≡ leaving)
sums-of entering leaving enter leave None h =
    let same : ◌≡◌ {A = Verdict} (verdict.NoTable entering leaving) (verdict.NoTable enter leave) = h in
    let first : enter ≡ entering = cc in
    let second : leave ≡ leaving = cc in
    (first, second)
sums-of entering leaving enter leave (Some r) h = absurd cc

-- an answer that no table exists holds the two sums of the set
pub same-sums : (p : ProblemFacts) (set : List Account) (enter leave : ℤ) → verdict_on_cut p set ≡ verdict.NoTable enter leave → (enter ≡ entering p set) × (leave ≡ leaving p set)
same-sums p set enter leave h = sums-of (entering p set) (leaving p set) enter leave (first_of (cut_reasons p set)) h
