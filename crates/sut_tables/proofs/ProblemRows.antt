-- The rows of a problem as a map from measures, and as a list.
use Rattle.std.proofs.Common.{BTreeMap, ◌≡◌, ℕ, ◌+◌, ◌-◌, ◌≤◌, ◌⊎◌, inl, inr, List, [], ◌∷◌, map, length, Bool, true, false, Option, Some, None, cond, if◌then◌else◌, refl, sym, ◌∙◌, ap, subst, arith}
use Rattle.std.specs.Prelude.{find, filter, not, IsTrue, IfSome, is_some}
use Rattle.std.specs.Option.{option_copied}
use Rattle.std.specs.Borrow.{Bor}
use Rattle.std.proofs.lemmas.Map.Views.{IfSome-lookup_from_All}
use Rattle.std.specs.List.Sorted.{IsStrictlySortedBy}
use Rattle.std.specs.List.{AllByRecursion}
use Rattle.std.specs.declared.cmp.Ordering.{Ordering}
use Rattle.std.specs.declared.cmp.Ordering.TheVariants.{Less, Equal, Greater}
use Rattle.std.specs.Ordering.{is_eq, is_lt, match_ordering, nat_cmp}
use Rattle.std.specs.Cmp.Lexicographic.{slice_cmp, nat_list_cmp_total}
use Rattle.std.specs.Map.{keys_of, values_of, lookup, remove_entry, set_value}
use Rattle.std.specs.BTreeMap.{insert_entry, is_at}
use Rattle.sut_measures.specs.Keys.{measure_key}
use Rattle.sut_measures.specs.declared.measures.Cell.{Cell}
use Rattle.sut_measures.specs.declared.measures.Total.{Total}
use Rattle.sut_measures.specs.declared.measures.Measure.{Measure}
use Rattle.sut_measures.specs.declared.measures.Measure.TheVariants as measure
use Rattle.sut_measures.proofs.KeyLemmas.{measure_key-injective}
use Rattle.sut_measures.proofs.OrderLemmas.{measure_order}
use Rattle.sut_tables.specs.InOrder.{IsAscending, by_order, put_in_order, same_key}
use Rattle.sut_classes.specs.Groups.{groups_of}
use Rattle.sut_tables.specs.RowFacts.{RowFacts}
use Rattle.sut_tables.specs.LiveTallies.{measure_cmp, CountsLess, CountsMore, IsTallyOf}
use Rattle.sut_tables.specs.declared.live_tallies.LiveTallies.{LiveTallies}
use Rattle.sut_tables.proofs.TallyKeys.{eq-same}
use Rattle.sut_tables.proofs.TallyRows.{problem, sum-added, sum-removed, tally-added, tally-removed, tally-replaced}
use Rattle.std.proofs.lemmas.List.Sums.{length-filter}
use Rattle.sut_tables.specs.Rows.{IsRow}
use Rattle.sut_tables.specs.Problems.{made_live, row_at}
use Rattle.sut_tables.specs.ProblemView.{KeepsRows, problem_of}
use Rattle.sut_tables.specs.ProblemRules.{IsKept}
use Rattle.sut_tables.specs.Changes.{has_room, is_cell, is_of, row_removed, row_replaced, with_row}
use Rattle.sut_tables.specs.declared.problems.Problem.TheInside.{Inside}
use Rattle.sut_measures.specs.Fits.{fits}
use Rattle.sut_tables.proofs.Ordered.{same-eq, same-flip, differ_back}
use Rattle.sut_tables.proofs.Kept.{put, put-measure, count-map, kept-with_row, kept-replaced, kept-removed}

abbrev pub compare : Measure → Measure → Ordering
compare = measure_cmp

abbrev one_if : Bool → ℕ
one_if b = if b then 1 else 0

abbrev pub Named : List (Measure × RowFacts) → Type 0
Named es = keys_of es ≡ map (λ (r : RowFacts). r.measure) (values_of es)

is-at : (m : Measure) (r : RowFacts) → is_at (compare m) r.measure ≡ same_key (measure_key r.measure) (measure_key m)
is-at m r = ap is_eq (measure_order m r.measure) ∙ eq-same (measure_key m) (measure_key r.measure) ∙ same-flip (measure_key m) (measure_key r.measure)

head-is : {A : Type 0} (x y : A) (xs ys : List A) → x ∷ xs ≡ y ∷ ys → x ≡ y
head-is x y xs ys h = cc

tail-is : {A : Type 0} (x y : A) (xs ys : List A) → x ∷ xs ≡ y ∷ ys → xs ≡ ys
tail-is x y xs ys h = cc

-- the row under a measure is the measure's row
pub lookup-row : (m : Measure) (es : List (Measure × RowFacts)) → Named es → lookup (is_at (compare m)) es ≡ find (λ (r : RowFacts). same_key (measure_key r.measure) (measure_key m)) (values_of es)
lookup-row m [] n = refl
lookup-row m ((k, r) ∷ es) n =
    let h = head-is k r.measure (keys_of es) (map (λ (r : RowFacts). r.measure) (values_of es)) n in
    let t = ap (is_at (compare m)) h ∙ is-at m r in
    rw (t, lookup-row m es (tail-is k r.measure (keys_of es) (map (λ (r : RowFacts). r.measure) (values_of es)) n)) refl

-- ---- a row put under its measure

absent-not : (o : Ordering) (q : RowFacts) (rest : Option RowFacts) → cond (is_eq o) (Some q) rest ≡ None → (o ≡ Equal → ⊥) × (rest ≡ None)
absent-not Less q rest h = ((λ e. cc), h)
absent-not Equal q rest h = absurd cc
absent-not Greater q rest h = ((λ e. cc), h)

abbrev under : List (Measure × RowFacts) → RowFacts → List (Measure × RowFacts)
under es r = insert_entry compare es r.measure r

abbrev row_key : RowFacts → List ℕ
row_key r = measure_key r.measure

-- the rows are as with the row put in its place
pub under-rows : (r : RowFacts) (es : List (Measure × RowFacts)) → Named es → lookup (is_at (compare r.measure)) es ≡ None → values_of (under es r) ≡ put_in_order row_key r (values_of es)
under-rows r [] n none = refl
under-rows r ((k, q) ∷ es) n none =
    let h = head-is k q.measure (keys_of es) (map (λ (r : RowFacts). r.measure) (values_of es)) n in
    let t = tail-is k q.measure (keys_of es) (map (λ (r : RowFacts). r.measure) (values_of es)) n in
    let a = absent-not (compare r.measure k) q (lookup (is_at (compare r.measure)) es) none in
    by (under-rows r es t a.1) (compare r.measure k) a.0 ∙ ap (λ o. by_order o (r ∷ q ∷ values_of es) (q ∷ values_of es) (q ∷ put_in_order row_key r (values_of es))) (ap (compare r.measure) h ∙ measure_order r.measure q.measure)
  where
    by : values_of (under es r) ≡ put_in_order row_key r (values_of es) → (o : Ordering) → (o ≡ Equal → ⊥)
        → values_of (match_ordering o ((r.measure, r) ∷ (k, q) ∷ es) ((k, r) ∷ es) ((k, q) ∷ under es r)) ≡ by_order o (r ∷ q ∷ values_of es) (q ∷ values_of es) (q ∷ put_in_order row_key r (values_of es))
    by later Less ne = refl
    by later Equal ne = absurd (ne refl)
    by later Greater ne = ap (λ xs. q ∷ xs) later

pub under-named : (r : RowFacts) (es : List (Measure × RowFacts)) → Named es → lookup (is_at (compare r.measure)) es ≡ None → Named (under es r)
under-named r [] n none = refl
under-named r ((k, q) ∷ es) n none =
    let h = head-is k q.measure (keys_of es) (map (λ (r : RowFacts). r.measure) (values_of es)) n in
    let t = tail-is k q.measure (keys_of es) (map (λ (r : RowFacts). r.measure) (values_of es)) n in
    let a = absent-not (compare r.measure k) q (lookup (is_at (compare r.measure)) es) none in
    by h (under-named r es t a.1) (compare r.measure k) a.0
  where
    by : k ≡ q.measure → Named (under es r) → (o : Ordering) → (o ≡ Equal → ⊥) → Named (match_ordering o ((r.measure, r) ∷ (k, q) ∷ es) ((k, r) ∷ es) ((k, q) ∷ under es r))
    by h later Less ne = ap (λ xs. r.measure ∷ xs) n
    by h later Equal ne = absurd (ne refl)
    by h later Greater ne = rw (h, later) refl

-- one more is counted exactly where the row passes the test
under-counted : (p : RowFacts → Bool) (r : RowFacts) (es : List (Measure × RowFacts)) → IsStrictlySortedBy compare (keys_of es) → lookup (is_at (compare r.measure)) es ≡ None
    → length (filter p (values_of (under es r))) ≡ length (filter p (values_of es)) + one_if (p r)
under-counted p r es sorted none =
    length-filter p (values_of (under es r)) ∙ sum-added (λ x. one_if (p x)) es r sorted none ∙ ap (λ n. n + one_if (p r)) (sym (length-filter p (values_of es)))

-- with the row under its measure, the rows are those with the row in its place
pub rows-added : (p : Inside) (n : BTreeMap Measure RowFacts) (r : RowFacts) → KeepsRows p → n.entries ≡ under p.rows.entries r → lookup (is_at (compare r.measure)) p.rows.entries ≡ None
    → problem p.classes n.entries ≡ with_row (problem_of p) r
rows-added p n r keeps e none = ap (λ rs. record { classes = p.classes; rows = rs }) (ap values_of e ∙ under-rows r p.rows.entries keeps.named none)

-- and what a problem keeps stays
pub row-added : (p : Inside) (n : BTreeMap Measure RowFacts) (r : RowFacts) (a b : ℕ) (l : LiveTallies) → KeepsRows p → n.entries ≡ under p.rows.entries r → IsStrictlySortedBy compare (keys_of p.rows.entries)
    → lookup (is_at (compare r.measure)) p.rows.entries ≡ None → IsTrue (fits p.classes r.measure) → IsRow r → IsTrue (has_room (problem_of p) r.measure)
    → a ≡ p.cells + one_if (is_cell r.measure) → b ≡ p.totals + one_if (not (is_cell r.measure)) → CountsMore (groups_of p.classes) p.live l (made_live (groups_of p.classes) r.measure)
    → KeepsRows (record { classes = p.classes; rows = n; cells = a; totals = b; live = l })
row-added p n r a b l keeps e sorted none fitting row room ea eb more = record {
  named = subst Named (sym e) (under-named r p.rows.entries keeps.named none);
  kept = subst IsKept (sym (rows-added p n r keeps e none)) (kept-with_row (problem_of p) r keeps.kept fitting row room);
  cells = ea ∙ ap (λ m. m + one_if (is_cell r.measure)) keeps.cells ∙ sym (under-counted (λ (r : RowFacts). is_cell r.measure) r p.rows.entries sorted none) ∙ ap (λ es. length (filter (λ (r : RowFacts). is_cell r.measure) (values_of es))) (sym e);
  totals = eb ∙ ap (λ m. m + one_if (not (is_cell r.measure))) keeps.totals ∙ sym (under-counted (λ (r : RowFacts). not (is_cell r.measure)) r p.rows.entries sorted none) ∙ ap (λ es. length (filter (λ (r : RowFacts). not (is_cell r.measure)) (values_of es))) (sym e);
  live = subst (λ es. IsTallyOf (problem p.classes es) l) (sym e) (tally-added p.classes p.rows.entries r p.live l sorted none keeps.live more);
}

pub not-found : (p : Inside) (m : Measure) (o : Option (Bor RowFacts)) → KeepsRows p → option_copied o ≡ row_at (problem_of p) m → is_some o ≡ false → lookup (is_at (compare m)) p.rows.entries ≡ None
not-found p m None keeps e h = lookup-row m p.rows.entries keeps.named ∙ sym e
not-found p m (Some r) keeps e h = absurd cc

-- where no row is added after all
pub none-added : (p : Inside) (n : BTreeMap Measure RowFacts) (l : LiveTallies) → KeepsRows p → n.entries ≡ p.rows.entries → IsTallyOf (problem_of p) l → KeepsRows (record { classes = p.classes; rows = n; cells = p.cells; totals = p.totals; live = l })
none-added p n l keeps e tally = record {
  named = subst Named (sym e) keeps.named;
  kept = subst (λ es. IsKept (problem p.classes es)) (sym e) keeps.kept;
  cells = keeps.cells ∙ ap (λ es. length (filter (λ (r : RowFacts). is_cell r.measure) (values_of es))) (sym e);
  totals = keeps.totals ∙ ap (λ es. length (filter (λ (r : RowFacts). not (is_cell r.measure)) (values_of es))) (sym e);
  live = subst (λ es. IsTallyOf (problem p.classes es) l) (sym e) tally;
}

-- ---- a row taken out

-- measures after one that is this key are not this key
none-further : (m k : Measure) (es : List (Measure × RowFacts)) → is_eq (compare m k) ≡ true → AllByRecursion (λ y. compare k y ≡ Less) (keys_of es) → Named es → filter (λ s. not (is_of m s)) (values_of es) ≡ values_of es
none-further m k [] h a n = refl
none-further m k ((l, q) ∷ es) h a n =
    let g = head-is l q.measure (keys_of es) (map (λ (r : RowFacts). r.measure) (values_of es)) n in
    let t = tail-is l q.measure (keys_of es) (map (λ (r : RowFacts). r.measure) (values_of es)) n in
    let same = same-eq (measure_key m) (measure_key k) (sym (eq-same (measure_key m) (measure_key k)) ∙ ap is_eq (sym (measure_order m k)) ∙ h) in
    let less = sym (measure_order k q.measure) ∙ ap (compare k) (sym g) ∙ a.0 in
    let other = same-flip (measure_key q.measure) (measure_key m) ∙ ap (λ x. same_key x (measure_key q.measure)) same ∙ differ_back (measure_key k) (measure_key q.measure) less in
    rw (other, none-further m k es h a.1 t) refl

-- the rows are those that are not the measure's
pub removed-rows : (m : Measure) (es : List (Measure × RowFacts)) → Named es → IsStrictlySortedBy compare (keys_of es) → values_of (remove_entry (is_at (compare m)) es) ≡ filter (λ s. not (is_of m s)) (values_of es)
unfolding IsStrictlySortedBy
removed-rows m [] n s = refl
removed-rows m ((k, q) ∷ es) n s =
    let h = head-is k q.measure (keys_of es) (map (λ (r : RowFacts). r.measure) (values_of es)) n in
    let t = tail-is k q.measure (keys_of es) (map (λ (r : RowFacts). r.measure) (values_of es)) n in
    by (removed-rows m es t s.1) (is_eq (compare m k)) refl (ap (is_at (compare m)) h ∙ is-at m q)
  where
    by : values_of (remove_entry (is_at (compare m)) es) ≡ filter (λ s. not (is_of m s)) (values_of es) → (b : Bool) → is_eq (compare m k) ≡ b → is_eq (compare m k) ≡ is_of m q
        → values_of (cond (is_eq (compare m k)) es ((k, q) ∷ remove_entry (is_at (compare m)) es)) ≡ filter (λ s. not (is_of m s)) (q ∷ values_of es)
    by later true e f = rw (e, sym f ∙ e) (sym (none-further m k es e s.0 (tail-is k q.measure (keys_of es) (map (λ (r : RowFacts). r.measure) (values_of es)) n)))
    by later false e f = rw (e, sym f ∙ e) (ap (λ xs. q ∷ xs) later)

pub removed-named : (m : Measure) (es : List (Measure × RowFacts)) → Named es → Named (remove_entry (is_at (compare m)) es)
removed-named m [] n = refl
removed-named m ((k, q) ∷ es) n =
    let h = head-is k q.measure (keys_of es) (map (λ (r : RowFacts). r.measure) (values_of es)) n in
    let t = tail-is k q.measure (keys_of es) (map (λ (r : RowFacts). r.measure) (values_of es)) n in
    by h t (removed-named m es t) (is_eq (compare m k))
  where
    by : k ≡ q.measure → Named es → Named (remove_entry (is_at (compare m)) es) → (b : Bool) → Named (cond b es ((k, q) ∷ remove_entry (is_at (compare m)) es))
    by h t later true = t
    by h t later false = rw (h, later) refl

-- one less is counted exactly where the row that is taken out passes the test
removed-counted : (p : RowFacts → Bool) (m : Measure) (q : RowFacts) (es : List (Measure × RowFacts)) → lookup (is_at (compare m)) es ≡ Some q
    → length (filter p (values_of es)) ≡ length (filter p (values_of (remove_entry (is_at (compare m)) es))) + one_if (p q)
removed-counted p m q es found =
    length-filter p (values_of es) ∙ sum-removed (λ x. one_if (p x)) es m q found ∙ ap (λ n. n + one_if (p q)) (sym (length-filter p (values_of (remove_entry (is_at (compare m)) es))))

-- what is found under a measure is its row
pub found-measure : (m : Measure) (q : RowFacts) (es : List (Measure × RowFacts)) → Named es → lookup (is_at (compare m)) es ≡ Some q → measure_key m ≡ measure_key q.measure
found-measure m q [] n found = absurd cc
found-measure m q ((k, r) ∷ es) n found =
    by (found-measure m q es (tail-is k r.measure (keys_of es) (map (λ (r : RowFacts). r.measure) (values_of es)) n)) (is_eq (compare m k)) (ap (is_at (compare m)) (head-is k r.measure (keys_of es) (map (λ (r : RowFacts). r.measure) (values_of es)) n) ∙ is-at m r) found
  where
    same : (x y : RowFacts) → Some x ≡ Some y → x ≡ y
    same x y e = cc

    by : (lookup (is_at (compare m)) es ≡ Some q → measure_key m ≡ measure_key q.measure) → (b : Bool) → b ≡ same_key (measure_key r.measure) (measure_key m) → cond b (Some r) (lookup (is_at (compare m)) es) ≡ Some q → measure_key m ≡ measure_key q.measure
    by later true e f = sym (same-eq (measure_key r.measure) (measure_key m) (sym e)) ∙ ap (λ (x : RowFacts). measure_key x.measure) (same r q f)
    by later false e f = later f

-- the measure of a row that is found fits
pub found-fits : (p : Inside) (m : Measure) (q : RowFacts) → KeepsRows p → lookup (is_at (compare m)) p.rows.entries ≡ Some q → IsTrue (fits p.classes m)
found-fits p m q keeps found =
    subst (λ n. IsTrue (fits p.classes n)) (sym (measure_key-injective m q.measure (found-measure m q p.rows.entries keeps.named found)))
    (subst (λ o. IfSome o (λ (r : RowFacts). IsTrue (fits p.classes r.measure))) found (IfSome-lookup_from_All (λ (r : RowFacts). IsTrue (fits p.classes r.measure)) (is_at (compare m)) p.rows.entries keeps.kept.problem.fitting))

-- without a measure's row, the rows are those that are not the measure's
pub rows-removed : (p : Inside) (n : BTreeMap Measure RowFacts) (m : Measure) → KeepsRows p → n.entries ≡ remove_entry (is_at (compare m)) p.rows.entries → IsStrictlySortedBy compare (keys_of p.rows.entries)
    → problem p.classes n.entries ≡ row_removed (problem_of p) m
rows-removed p n m keeps e sorted = ap (λ rs. record { classes = p.classes; rows = rs }) (ap values_of e ∙ removed-rows m p.rows.entries keeps.named sorted)

-- and what a problem keeps stays
pub row-removed : (p : Inside) (n : BTreeMap Measure RowFacts) (m : Measure) (q : RowFacts) (a b : ℕ) (l : LiveTallies) → KeepsRows p → n.entries ≡ remove_entry (is_at (compare m)) p.rows.entries → IsStrictlySortedBy compare (keys_of p.rows.entries)
    → lookup (is_at (compare m)) p.rows.entries ≡ Some q
    → p.cells ≡ a + one_if (is_cell m) → p.totals ≡ b + one_if (not (is_cell m)) → CountsLess (groups_of p.classes) p.live l (made_live (groups_of p.classes) m)
    → KeepsRows (record { classes = p.classes; rows = n; cells = a; totals = b; live = l })
row-removed p n m q a b l keeps e sorted found ea eb less =
    let is = measure_key-injective m q.measure (found-measure m q p.rows.entries keeps.named found) in
    let cells = removed-counted (λ (r : RowFacts). is_cell r.measure) m q p.rows.entries found in
    let totals = removed-counted (λ (r : RowFacts). not (is_cell r.measure)) m q p.rows.entries found in
    record {
      named = subst Named (sym e) (removed-named m p.rows.entries keeps.named);
      kept = subst IsKept (sym (rows-removed p n m keeps e sorted)) (kept-removed (problem_of p) m keeps.kept);
      cells = subst (λ es. a ≡ length (filter (λ (r : RowFacts). is_cell r.measure) (values_of es))) (sym e) (fewer a _ (one_if (is_cell m)) (sym ea ∙ keeps.cells ∙ cells ∙ ap (λ x. length (filter (λ (r : RowFacts). is_cell r.measure) (values_of (remove_entry (is_at (compare m)) p.rows.entries))) + one_if (is_cell x)) (sym is)));
      totals = subst (λ es. b ≡ length (filter (λ (r : RowFacts). not (is_cell r.measure)) (values_of es))) (sym e) (fewer b _ (one_if (not (is_cell m))) (sym eb ∙ keeps.totals ∙ totals ∙ ap (λ x. length (filter (λ (r : RowFacts). not (is_cell r.measure)) (values_of (remove_entry (is_at (compare m)) p.rows.entries))) + one_if (not (is_cell x))) (sym is)));
      live = subst (λ es. IsTallyOf (problem p.classes es) l) (sym e) (tally-removed p.classes p.rows.entries m q p.live l found is keeps.live less);
    }
  where
    fewer : (x y k : ℕ) → x + k ≡ y + k → x ≡ y
    fewer x y k h = omega (arith, h)

-- there is a row of the measure's sort
pub counted : (p : Inside) (m : Measure) (q : RowFacts) → KeepsRows p → lookup (is_at (compare m)) p.rows.entries ≡ Some q
    → (one_if (is_cell m) ≤ p.cells) × (one_if (not (is_cell m)) ≤ p.totals)
counted p m q keeps found =
    let is = measure_key-injective m q.measure (found-measure m q p.rows.entries keeps.named found) in (
      at-least _ _ _ (keeps.cells ∙ removed-counted (λ (r : RowFacts). is_cell r.measure) m q p.rows.entries found ∙ ap (λ x. length (filter (λ (r : RowFacts). is_cell r.measure) (values_of (remove_entry (is_at (compare m)) p.rows.entries))) + one_if (is_cell x)) (sym is)),
      at-least _ _ _ (keeps.totals ∙ removed-counted (λ (r : RowFacts). not (is_cell r.measure)) m q p.rows.entries found ∙ ap (λ x. length (filter (λ (r : RowFacts). not (is_cell r.measure)) (values_of (remove_entry (is_at (compare m)) p.rows.entries))) + one_if (not (is_cell x))) (sym is)),
    )
  where
    at-least : (x y k : ℕ) → x ≡ y + k → k ≤ x
    at-least x y k h = omega (arith, h)

-- rows that ascend stand under ascending measures
lt-is : (o : Ordering) → is_lt o ≡ true → o ≡ Less
lt-is Less h = refl
lt-is Equal h = absurd cc
lt-is Greater h = absurd cc

next-after : (a b : Measure) → is_lt (slice_cmp nat_cmp (measure_key a) (measure_key b)) ≡ true → compare a b ≡ Less
next-after a b h = measure_order a b ∙ lt-is _ h

after-trans : (a b c : Measure) → compare a b ≡ Less → compare b c ≡ Less → compare a c ≡ Less
after-trans a b c h k = measure_order a c ∙ nat_list_cmp_total.trans (measure_key a) (measure_key b) (measure_key c) (sym (measure_order a b) ∙ h) (sym (measure_order b c) ∙ k)

all-after : (k : Measure) (x : RowFacts) (es : List (Measure × RowFacts)) → (k ≡ x.measure) ⊎ (compare k x.measure ≡ Less) → IsAscending row_key (x ∷ values_of es) → Named es → AllByRecursion (λ y. compare k y ≡ Less) (keys_of es)
all-after k x [] less asc n = tt
all-after k x ((l, q) ∷ es) less asc n =
    let g = head-is l q.measure (keys_of es) (map (λ (r : RowFacts). r.measure) (values_of es)) n in
    let t = tail-is l q.measure (keys_of es) (map (λ (r : RowFacts). r.measure) (values_of es)) n in
    let next = next-after x.measure q.measure asc.0 in
    let step : compare k q.measure ≡ Less = elim less [ inl e ↦ ap (λ m. compare m q.measure) e ∙ next | inr h ↦ after-trans k x.measure q.measure h next ] in
    (ap (compare k) g ∙ step, all-after k q es (inr step) asc.1 t)

pub measures-ascend : (es : List (Measure × RowFacts)) → Named es → IsAscending row_key (values_of es) → IsStrictlySortedBy compare (keys_of es)
unfolding IsStrictlySortedBy
measures-ascend [] n a = tt
measures-ascend ((k, r) ∷ []) n a = (tt, tt)
measures-ascend ((k, r) ∷ (l, q) ∷ es) n a =
    let h = head-is k r.measure (l ∷ keys_of es) (q.measure ∷ map (λ (r : RowFacts). r.measure) (values_of es)) n in
    let t = tail-is k r.measure (l ∷ keys_of es) (q.measure ∷ map (λ (r : RowFacts). r.measure) (values_of es)) n in
    (all-after k r ((l, q) ∷ es) (inl h) a t, measures-ascend ((l, q) ∷ es) t a.1)

-- ---- a row in the place of that of its measure

-- no row after that of a measure is replaced
none-replaced : (r : RowFacts) (k : Measure) (es : List (Measure × RowFacts)) → is_eq (compare r.measure k) ≡ true → AllByRecursion (λ y. compare k y ≡ Less) (keys_of es) → Named es → map (put r) (values_of es) ≡ values_of es
none-replaced r k [] h a n = refl
none-replaced r k ((l, q) ∷ es) h a n =
    let g = head-is l q.measure (keys_of es) (map (λ (r : RowFacts). r.measure) (values_of es)) n in
    let t = tail-is l q.measure (keys_of es) (map (λ (r : RowFacts). r.measure) (values_of es)) n in
    let same = same-eq (row_key r) (measure_key k) (sym (eq-same (row_key r) (measure_key k)) ∙ ap is_eq (sym (measure_order r.measure k)) ∙ h) in
    let less = sym (measure_order k q.measure) ∙ ap (compare k) (sym g) ∙ a.0 in
    let other = same-flip (row_key q) (row_key r) ∙ ap (λ x. same_key x (row_key q)) same ∙ differ_back (measure_key k) (row_key q) less in
    rw (other, none-replaced r k es h a.1 t) refl

-- the rows are those with the row in the place of that of its measure
replaced-rows : (r : RowFacts) (es : List (Measure × RowFacts)) → Named es → IsStrictlySortedBy compare (keys_of es) → values_of (set_value (is_at (compare r.measure)) es r) ≡ map (put r) (values_of es)
unfolding IsStrictlySortedBy
replaced-rows r [] n s = refl
replaced-rows r ((k, q) ∷ es) n s =
    let h = head-is k q.measure (keys_of es) (map (λ (r : RowFacts). r.measure) (values_of es)) n in
    let t = tail-is k q.measure (keys_of es) (map (λ (r : RowFacts). r.measure) (values_of es)) n in
    by (replaced-rows r es t s.1) (is_eq (compare r.measure k)) refl (ap (is_at (compare r.measure)) h ∙ is-at r.measure q)
  where
    by : values_of (set_value (is_at (compare r.measure)) es r) ≡ map (put r) (values_of es) → (b : Bool) → is_eq (compare r.measure k) ≡ b → is_eq (compare r.measure k) ≡ is_of r.measure q
        → values_of (cond (is_eq (compare r.measure k)) ((k, r) ∷ es) ((k, q) ∷ set_value (is_at (compare r.measure)) es r)) ≡ map (put r) (q ∷ values_of es)
    by later true e f = rw (e, sym f ∙ e) (ap (λ xs. r ∷ xs) (sym (none-replaced r k es e s.0 (tail-is k q.measure (keys_of es) (map (λ (r : RowFacts). r.measure) (values_of es)) n))))
    by later false e f = rw (e, sym f ∙ e) (ap (λ xs. q ∷ xs) later)

replaced-named : (r : RowFacts) (es : List (Measure × RowFacts)) → Named es → Named (set_value (is_at (compare r.measure)) es r)
replaced-named r [] n = refl
replaced-named r ((k, q) ∷ es) n =
    let h = head-is k q.measure (keys_of es) (map (λ (r : RowFacts). r.measure) (values_of es)) n in
    let t = tail-is k q.measure (keys_of es) (map (λ (r : RowFacts). r.measure) (values_of es)) n in
    by h t (replaced-named r es t) (is_eq (compare r.measure k)) refl
  where
    by : k ≡ q.measure → Named es → Named (set_value (is_at (compare r.measure)) es r) → (b : Bool) → is_eq (compare r.measure k) ≡ b → Named (cond b ((k, r) ∷ es) ((k, q) ∷ set_value (is_at (compare r.measure)) es r))
    by h t later true e =
        let same = same-eq (row_key r) (measure_key k) (sym (eq-same (row_key r) (measure_key k)) ∙ ap is_eq (sym (measure_order r.measure k)) ∙ e) in
        rw (sym (measure_key-injective r.measure k same), t) refl
    by h t later false e = rw (h, later) refl

pub rows-replaced : (p : Inside) (n : BTreeMap Measure RowFacts) (r : RowFacts) → KeepsRows p → n.entries ≡ set_value (is_at (compare r.measure)) p.rows.entries r → IsStrictlySortedBy compare (keys_of p.rows.entries)
    → problem p.classes n.entries ≡ row_replaced (problem_of p) r
rows-replaced p n r keeps e sorted = ap (λ rs. record { classes = p.classes; rows = rs }) (ap values_of e ∙ replaced-rows r p.rows.entries keeps.named sorted)

-- and what a problem keeps stays
pub row-replaced : (p : Inside) (n : BTreeMap Measure RowFacts) (r q : RowFacts) → KeepsRows p → n.entries ≡ set_value (is_at (compare r.measure)) p.rows.entries r → IsStrictlySortedBy compare (keys_of p.rows.entries)
    → lookup (is_at (compare r.measure)) p.rows.entries ≡ Some q → IsRow r
    → KeepsRows (record { classes = p.classes; rows = n; cells = p.cells; totals = p.totals; live = p.live })
row-replaced p n r q keeps e sorted found row = record {
  named = subst Named (sym e) (replaced-named r p.rows.entries keeps.named);
  kept = subst IsKept (sym (rows-replaced p n r keeps e sorted)) (kept-replaced (problem_of p) r keeps.kept fitting row);
  cells = keeps.cells ∙ same (λ m. is_cell m);
  totals = keeps.totals ∙ same (λ m. not (is_cell m));
  live =
      subst (λ es. IsTallyOf (problem p.classes es) p.live) (sym e)
      (tally-replaced p.classes p.rows.entries r q p.live found (measure_key-injective r.measure q.measure (found-measure r.measure q p.rows.entries keeps.named found)) keeps.live);
}
  where
    fitting : IsTrue (fits p.classes r.measure)
    fitting = found-fits p r.measure q keeps found

    same : (f : Measure → Bool) → length (filter (λ (r : RowFacts). f r.measure) (values_of p.rows.entries)) ≡ length (filter (λ (r : RowFacts). f r.measure) (values_of n.entries))
    same f =
        sym (count-map (λ (r : RowFacts). f r.measure) (put r) (λ s. ap f (put-measure r s)) (values_of p.rows.entries))
        ∙ ap (λ rs. length (filter (λ (r : RowFacts). f r.measure) rs)) (sym (ap values_of e ∙ replaced-rows r p.rows.entries keeps.named sorted))

-- where the measure has no row, nothing is replaced
set-none : (test : Measure → Bool) (r : RowFacts) (es : List (Measure × RowFacts)) → lookup test es ≡ None → set_value test es r ≡ es
set-none test r [] none = refl
set-none test r ((k, q) ∷ es) none = by (set-none test r es) (test k) none
  where
    by : (lookup test es ≡ None → set_value test es r ≡ es) → (b : Bool) → cond b (Some q) (lookup test es) ≡ None → cond b ((k, r) ∷ es) ((k, q) ∷ set_value test es r) ≡ (k, q) ∷ es
    by later true e = absurd cc
    by later false e = ap (λ xs. (k, q) ∷ xs) (later e)

pub rows-missing : (p : Inside) (n : BTreeMap Measure RowFacts) (r : RowFacts) → KeepsRows p → n ≡ p.rows → None ≡ lookup (is_at (compare r.measure)) p.rows.entries → IsStrictlySortedBy compare (keys_of p.rows.entries)
    → problem p.classes n.entries ≡ row_replaced (problem_of p) r
rows-missing p n r keeps e none sorted = rows-replaced p n r keeps (ap (λ m. m.entries) e ∙ sym (set-none (is_at (compare r.measure)) r p.rows.entries (sym none))) sorted

-- how a measure of either sort is counted
pub cell-counts : (m : Measure) (d : Cell) → m ≡ measure.Cell d → (one_if (is_cell m) ≡ 1) × (one_if (not (is_cell m)) ≡ 0)
cell-counts m d e = rw e (refl, refl)

pub total-counts : (m : Measure) (u : Total) → m ≡ measure.Total u → (one_if (is_cell m) ≡ 0) × (one_if (not (is_cell m)) ≡ 1)
total-counts m u e = rw e (refl, refl)

pub one-less : (x k : ℕ) → k ≡ 1 → k ≤ x → x ≡ (x - 1) + k
one-less x k e h = omega (arith, e, h)

pub none-less : (x k : ℕ) → k ≡ 0 → x ≡ x + k
none-less x k e = omega (arith, e)
