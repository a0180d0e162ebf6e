-- The tallies of a problem's rows, through changes of the rows; and what is live, by the tallies.
use Rattle.std.proofs.Common.{◌≡◌, ℕ, ◌+◌, ◌-◌, ◌*◌, ◌^◌, ◌<◌, ◌≤◌, List, [], ◌∷◌, Bool, true, false, ◌||◌, Some, None, refl, sym, ◌∙◌, ap, arith}
use Rattle.std.specs.Prelude.{sum_by, unwrap_or, option_map}
use Rattle.std.specs.List.{flat_map, list_any}
use Rattle.std.specs.List.Sorted.{IsStrictlySortedBy}
use Rattle.std.specs.declared.cmp.Ordering.{Ordering}
use Rattle.std.specs.declared.cmp.Ordering.TheVariants.{Less, Equal, Greater}
use Rattle.std.specs.Ordering.{is_eq, nat_cmp, ordering_reverse}
use Rattle.std.specs.Cmp.{IsTotalOrder}
use Rattle.std.specs.Cmp.Lexicographic.{slice_cmp, nat_list_cmp_total}
use Rattle.std.specs.FinMap.{slice_cmp-IsAntisymmetric, nat_cmp-IsAntisymmetric}
use Rattle.std.specs.BTreeMap.{insert_entry, is_at}
use Rattle.std.specs.Map.{keys_of, values_of, lookup, remove_entry, set_value}
use Rattle.std.proofs.lemmas.List.Sums.{count_by-le-length, sum_by-append, sum_by-cons, sum_by-le}
use Rattle.std.proofs.lemmas.Map.Entries.{sum_by-insert_entry, sum_by-remove_entry, sum_by-set_value}
use Rattle.sut_classes.specs.ClassLists.{ClassLists}
use Rattle.sut_classes.specs.Groups.{Groups, groups_of}
use Rattle.sut_measures.specs.Keys.{account_key, measure_key}
use Rattle.sut_measures.specs.declared.accounts.Account.{Account}
use Rattle.sut_measures.specs.declared.measures.Measure.{Measure}
use Rattle.sut_measures.proofs.KeyLemmas.{account_key-injective, measure_key-injective}
use Rattle.sut_measures.proofs.OrderLemmas.{account_order, measure_order}
use Rattle.sut_tables.specs.InOrder.{by_order, in_order, put_in_order}
use Rattle.sut_tables.specs.RowFacts.{RowFacts}
use Rattle.sut_tables.specs.ProblemFacts.{ProblemFacts}
use Rattle.sut_tables.specs.Problems.{groups, live_accounts, live_measures, made_live}
use Rattle.sut_tables.specs.ProblemRules.{IsKept}
use Rattle.sut_tables.specs.Tallies.{AllCounted, times_in}
use Rattle.sut_tables.specs.LiveTallies.{account_cmp, measure_cmp, ends_of, CountsLess, CountsMore, HasRoom, IsTallyOf}
use Rattle.sut_tables.specs.declared.live_tallies.LiveTallies.{LiveTallies}
use Rattle.sut_tables.proofs.LiveMeasures.{flat_map-among, in_order-among}
use Rattle.sut_tables.proofs.Lists.{All-any}
use Rattle.sut_tables.proofs.LiveCounts.{ends-twice, made-few}
use Rattle.sut_tables.proofs.Ordered.{Sorted-in_order, among}
use Rattle.sut_tables.proofs.SameList.{same-list}
use Rattle.sut_tables.proofs.TallyKeys.{keys-counted}
use Rattle.sut_tables.proofs.Wide.{few-rows}

pub measures-total : IsTotalOrder measure_cmp
measures-total = record {
  antisymm = λ x y. measure_order x y ∙ nat_list_cmp_total.antisymm (measure_key x) (measure_key y) ∙ ap ordering_reverse (sym (measure_order y x));
  trans = λ x y z h k. measure_order x z ∙ nat_list_cmp_total.trans (measure_key x) (measure_key y) (measure_key z) (sym (measure_order x y) ∙ h) (sym (measure_order y z) ∙ k);
  congr = λ x y z h. measure_order x z ∙ nat_list_cmp_total.congr (measure_key x) (measure_key y) (measure_key z) (sym (measure_order x y) ∙ h) ∙ sym (measure_order y z);
}

-- a problem whose rows are the values of a map
abbrev pub problem : ClassLists → List (Measure × RowFacts) → ProblemFacts
problem cs es = record { classes = cs; rows = values_of es }

-- how often a row makes a measure live, and how many ends at an account its measures have
abbrev live_times : Groups → Measure → RowFacts → ℕ
live_times gs q r = times_in measure_cmp (made_live gs r.measure) q

abbrev end_times : Groups → Account → RowFacts → ℕ
end_times gs q r = times_in account_cmp (flat_map (ends_of gs) (made_live gs r.measure)) q

-- ---- changes of the rows

-- a sum over the rows, with one more under its measure
pub sum-added : (f : RowFacts → ℕ) (es : List (Measure × RowFacts)) (r : RowFacts) → IsStrictlySortedBy measure_cmp (keys_of es) → lookup (is_at (measure_cmp r.measure)) es ≡ None
    → sum_by f (values_of (insert_entry measure_cmp es r.measure r)) ≡ sum_by f (values_of es) + f r
sum-added f es r sorted none =
    zero-more _ ∙ ap (λ o. sum_by f (values_of (insert_entry measure_cmp es r.measure r)) + unwrap_or (option_map f o) 0) (sym none)
    ∙ sum_by-insert_entry f measures-total es r.measure r sorted
  where
    zero-more : (a : ℕ) → a ≡ a + 0
    zero-more a = omega arith

-- and with that of a measure taken out
pub sum-removed : (f : RowFacts → ℕ) (es : List (Measure × RowFacts)) (m : Measure) (r : RowFacts) → lookup (is_at (measure_cmp m)) es ≡ Some r
    → sum_by f (values_of es) ≡ sum_by f (values_of (remove_entry (is_at (measure_cmp m)) es)) + f r
sum-removed f es m r found =
    sym (ap (λ o. sum_by f (values_of (remove_entry (is_at (measure_cmp m)) es)) + unwrap_or (option_map f o) 0) (sym found) ∙ sum_by-remove_entry f (is_at (measure_cmp m)) es)

pub tally-added : (cs : ClassLists) (es : List (Measure × RowFacts)) (r : RowFacts) (t u : LiveTallies) → IsStrictlySortedBy measure_cmp (keys_of es) → lookup (is_at (measure_cmp r.measure)) es ≡ None
    → IsTallyOf (problem cs es) t → CountsMore (groups_of cs) t u (made_live (groups_of cs) r.measure) → IsTallyOf (problem cs (insert_entry measure_cmp es r.measure r)) u
tally-added cs es r t u sorted none is more = record {
  measures = λ q. more.measures q ∙ ap (λ n. n + live_times (groups_of cs) q r) (is.measures q) ∙ sym (sum-added (live_times (groups_of cs) q) es r sorted none);
  accounts = λ q. more.accounts q ∙ ap (λ n. n + end_times (groups_of cs) q r) (is.accounts q) ∙ sym (sum-added (end_times (groups_of cs) q) es r sorted none);
}

pub tally-removed : (cs : ClassLists) (es : List (Measure × RowFacts)) (m : Measure) (r : RowFacts) (t u : LiveTallies) → lookup (is_at (measure_cmp m)) es ≡ Some r → m ≡ r.measure
    → IsTallyOf (problem cs es) t → CountsLess (groups_of cs) t u (made_live (groups_of cs) m) → IsTallyOf (problem cs (remove_entry (is_at (measure_cmp m)) es)) u
tally-removed cs es m r t u found e is less = record {
  measures = λ q. less.measures q ∙ ap (λ n. n - times_in measure_cmp (made_live (groups_of cs) m) q) (is.measures q) ∙ removed (λ k. times_in measure_cmp (made_live (groups_of cs) k) q);
  accounts = λ q.
      less.accounts q ∙ ap (λ n. n - times_in account_cmp (flat_map (ends_of (groups_of cs)) (made_live (groups_of cs) m)) q) (is.accounts q)
      ∙ removed (λ k. times_in account_cmp (flat_map (ends_of (groups_of cs)) (made_live (groups_of cs) k)) q);
}
  where
    without : (a b x y : ℕ) → b ≡ a + x → y ≡ x → b - y ≡ a
    without a b x y e f = omega (arith, e, f)

    removed : (f : Measure → ℕ) → sum_by (λ (s : RowFacts). f s.measure) (values_of es) - f m ≡ sum_by (λ (s : RowFacts). f s.measure) (values_of (remove_entry (is_at (measure_cmp m)) es))
    removed f = without _ _ (f r.measure) (f m) (sum-removed (λ (s : RowFacts). f s.measure) es m r found) (ap f e)

pub tally-replaced : (cs : ClassLists) (es : List (Measure × RowFacts)) (r s : RowFacts) (t : LiveTallies) → lookup (is_at (measure_cmp r.measure)) es ≡ Some s → r.measure ≡ s.measure
    → IsTallyOf (problem cs es) t → IsTallyOf (problem cs (set_value (is_at (measure_cmp r.measure)) es r)) t
tally-replaced cs es r s t found e is = record {
  measures = λ q. is.measures q ∙ same (λ k. times_in measure_cmp (made_live (groups_of cs) k) q);
  accounts = λ q. is.accounts q ∙ same (λ k. times_in account_cmp (flat_map (ends_of (groups_of cs)) (made_live (groups_of cs) k)) q);
}
  where
    equal : (a b x y : ℕ) → a + x ≡ b + y → y ≡ x → b ≡ a
    equal a b x y e f = omega (arith, e, f)

    same : (f : Measure → ℕ) → sum_by (λ (s : RowFacts). f s.measure) (values_of es) ≡ sum_by (λ (s : RowFacts). f s.measure) (values_of (set_value (is_at (measure_cmp r.measure)) es r))
    same f = equal _ _ (f s.measure) (f r.measure) (sum_by-set_value (λ (s : RowFacts). f s.measure) (is_at (measure_cmp r.measure)) es s r found) (ap f e)

-- where nothing more is counted
pub tally-same : (gs : Groups) (p : ProblemFacts) (t u : LiveTallies) → IsTallyOf p t → CountsMore gs t u [] → IsTallyOf p u
tally-same gs p t u is more = record { measures = λ q. more.measures q ∙ none _ ∙ is.measures q; accounts = λ q. more.accounts q ∙ none _ ∙ is.accounts q }
  where
    none : (a : ℕ) → a + 0 ≡ a
    none a = omega arith

-- no count comes near 2^32
pub tally-room : (p : ProblemFacts) (t : LiveTallies) → IsKept p → IsTallyOf p t → HasRoom 18 t
tally-room p t kept is = record {
  measures = λ q.
      room _ _ _ (is.measures q)
      (sum_by-le (live_times (groups p) q) 18 p.rows (All-any (λ (r : RowFacts). live_times (groups p) q r ≤ 18) (λ r. few _ _ (count_by-le-length (λ x. is_eq (measure_cmp x q)) (made_live (groups p) r.measure)) (made-few (groups p) r.measure)) p.rows))
      (few-rows p kept.limits);
  accounts = λ q.
      room _ _ _ (is.accounts q)
      (sum_by-le (end_times (groups p) q) 18 p.rows
      (All-any (λ (r : RowFacts). end_times (groups p) q r ≤ 18)
      (λ r. twice _ _ _ (count_by-le-length (λ x. is_eq (account_cmp x q)) (flat_map (ends_of (groups p)) (made_live (groups p) r.measure))) (ends-twice (groups p) (made_live (groups p) r.measure)) (made-few (groups p) r.measure))
      p.rows))
      (few-rows p kept.limits);
}
  where
    few : (a n : ℕ) → a ≤ n → n ≤ 9 → a ≤ 18
    few a n h k = omega (arith, h, k)

    twice : (a n k : ℕ) → a ≤ n → n ≡ 2 * k → k ≤ 9 → a ≤ 18
    twice a n k h e g = omega (arith, h, e, g)

    room : (c s n : ℕ) → c ≡ s → s ≤ n * 18 → n ≤ 147456 → c + 18 < 2 ^ 32
    room c s n e h k = omega (arith, e, h, k)

-- ---- what is live

sum-flat : {X Y : Type 0} (h : Y → ℕ) (f : X → List Y) (xs : List X) → sum_by h (flat_map f xs) ≡ sum_by (λ x. sum_by h (f x)) xs
sum-flat h f [] = refl
sum-flat h f (x ∷ xs) = sum_by-append h (f x) (flat_map f xs) ∙ ap (λ n. sum_by h (f x) + n) (sum-flat h f xs) ∙ sym (sum_by-cons (λ y. sum_by h (f y)) x xs)

sum-alike : {X : Type 0} (f g : X → ℕ) → ((x : X) → f x ≡ g x) → (xs : List X) → sum_by f xs ≡ sum_by g xs
sum-alike f g e [] = refl
sum-alike f g e (x ∷ xs) = sum_by-cons f x xs ∙ ap (λ n. n + sum_by f xs) (e x) ∙ ap (λ n. g x + n) (sum-alike f g e xs) ∙ sym (sum_by-cons g x xs)

pub live-keys : (p : ProblemFacts) (t : LiveTallies) → IsTallyOf p t → IsStrictlySortedBy measure_cmp (keys_of t.measures) → AllCounted t.measures → keys_of t.measures ≡ live_measures p
live-keys p t is sorted all =
    keys-counted measure_cmp measure_key measure_order measure_key-injective t.measures (flat_map (λ (r : RowFacts). made_live (groups p) r.measure) p.rows) sorted all
    (λ q. is.measures q ∙ sym (sum-flat _ (λ (r : RowFacts). made_live (groups p) r.measure) p.rows))

-- whether a test passes at some element isn't changed by putting the elements in order
any-put : {X : Type 0} (key : X → List ℕ) (inj : (x y : X) → key x ≡ key y → x ≡ y) (test : X → Bool) (x : X) (ys : List X) → list_any test (put_in_order key x ys) ≡ (test x || list_any test ys)
any-put key inj test x [] = refl
any-put key inj test x (y ∷ ys) = by (slice_cmp nat_cmp (key x) (key y)) refl (any-put key inj test x ys)
  where
    twice : (b c : Bool) → (b || c) ≡ (b || (b || c))
    twice true c = refl
    twice false c = refl

    swap : (a b c : Bool) → (b || (a || c)) ≡ (a || (b || c))
    swap true true c = refl
    swap true false c = refl
    swap false b c = refl

    by : (o : Ordering) → slice_cmp nat_cmp (key x) (key y) ≡ o → list_any test (put_in_order key x ys) ≡ (test x || list_any test ys)
        → list_any test (by_order o (x ∷ y ∷ ys) (y ∷ ys) (y ∷ put_in_order key x ys)) ≡ (test x || list_any test (y ∷ ys))
    by Less e later = refl
    by Equal e later = rw (inj x y (slice_cmp-IsAntisymmetric nat_cmp-IsAntisymmetric (key x) (key y) e)) (twice (test y) (list_any test ys))
    by Greater e later = rw later (swap (test x) (test y) (list_any test ys))

any-in_order : {X : Type 0} (key : X → List ℕ) (inj : (x y : X) → key x ≡ key y → x ≡ y) (test : X → Bool) (xs : List X) → list_any test (in_order key xs) ≡ list_any test xs
any-in_order key inj test [] = refl
any-in_order key inj test (x ∷ xs) = any-put key inj test x (in_order key xs) ∙ ap (λ b. test x || b) (any-in_order key inj test xs)

-- the ends of the live measures are those of the measures that rows make live
ends-in_order : (gs : Groups) (ms : List Measure) → in_order account_key (flat_map (ends_of gs) ms) ≡ in_order account_key (flat_map (ends_of gs) (in_order measure_key ms))
ends-in_order gs ms =
    same-list account_key account_key-injective (in_order account_key (flat_map (ends_of gs) ms)) (in_order account_key (flat_map (ends_of gs) (in_order measure_key ms)))
    (Sorted-in_order account_key (flat_map (ends_of gs) ms)) (Sorted-in_order account_key (flat_map (ends_of gs) (in_order measure_key ms)))
    (λ a. in_order-among account_key (account_key a) (flat_map (ends_of gs) ms) ∙ flat_map-among account_key (account_key a) (ends_of gs) ms
    ∙ sym (any-in_order measure_key measure_key-injective (λ m. among account_key (account_key a) (ends_of gs m)) ms)
    ∙ sym (flat_map-among account_key (account_key a) (ends_of gs) (in_order measure_key ms)) ∙ sym (in_order-among account_key (account_key a) (flat_map (ends_of gs) (in_order measure_key ms))))

pub account-keys : (p : ProblemFacts) (t : LiveTallies) → IsTallyOf p t → IsStrictlySortedBy account_cmp (keys_of t.accounts) → AllCounted t.accounts → keys_of t.accounts ≡ live_accounts p
account-keys p t is sorted all =
    keys-counted account_cmp account_key account_order account_key-injective t.accounts (flat_map (ends_of (groups p)) (flat_map (λ (r : RowFacts). made_live (groups p) r.measure) p.rows)) sorted all
    (λ q. is.accounts q
    ∙ sym (sum-flat _ (ends_of (groups p)) (flat_map (λ (r : RowFacts). made_live (groups p) r.measure) p.rows)
    ∙ sum-flat (λ m. times_in account_cmp (ends_of (groups p) m) q) (λ (r : RowFacts). made_live (groups p) r.measure) p.rows
    ∙ sum-alike _ _ (λ r. sym (sum-flat _ (ends_of (groups p)) (made_live (groups p) r.measure))) p.rows))
    ∙ ends-in_order (groups p) (flat_map (λ (r : RowFacts). made_live (groups p) r.measure) p.rows)
