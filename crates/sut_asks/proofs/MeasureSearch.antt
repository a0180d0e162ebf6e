-- What a binary search finds among the live measures.
use Rattle.std.proofs.Common.{◌≡◌, ℕ, zero, suc, ◌<◌, List, [], ◌∷◌, length, get_or, true, false, Result, Ok, Err, refl, sym, ◌∙◌, ap, subst, arith, add-one, inl, inr}
use Rattle.std.specs.Prelude.{All, is_ok}
use Rattle.std.specs.List.Sorted.{IsSearchInRange, IsBinarySearchResult, IsNonDecreasingBy}
use Rattle.std.specs.declared.cmp.Ordering.{Ordering}
use Rattle.std.specs.declared.cmp.Ordering.TheVariants.{Less, Equal, Greater}
use Rattle.std.specs.Ordering.{is_lt, ordering_index, ordering_reverse}
use Rattle.std.specs.Cmp.{IsTotalOrder}
use Rattle.std.specs.Cmp.Lexicographic.{nat_list_cmp_total}
use Rattle.std.specs.FinMap.{slice_cmp-IsAntisymmetric, nat_cmp-IsAntisymmetric}
use Rattle.std.proofs.lemmas.Bool.{cases_lt}
use Rattle.std.proofs.lemmas.List.Elements.{All-head, All-tail}
use Rattle.std.proofs.lemmas.List.Sorted.{searchable_from_sorted}
use Rattle.sut_measures.specs.Keys.{measure_key}
use Rattle.sut_measures.specs.declared.measures.Measure.{Measure}
use Rattle.sut_measures.proofs.KeyLemmas.{measure_key-injective}
use Rattle.sut_measures.proofs.OrderLemmas.{measure_order}
use Rattle.sut_tables.specs.InOrder.{IsAscending, same_key}
use Rattle.sut_tables.specs.LiveRule.{is_live}
use Rattle.sut_tables.specs.LiveTallies.{measure_cmp}
use Rattle.sut_tables.specs.ProblemFacts.{ProblemFacts}
use Rattle.sut_tables.specs.Problems.{live_measures}
use Rattle.sut_tables.proofs.Ascending.{live-ascending}
use Rattle.sut_tables.proofs.LiveMeasures.{live-is}
use Rattle.sut_tables.proofs.Ordered.{among, differ_back, or_true, same-flip, same-refl}

compare-total : IsTotalOrder measure_cmp
compare-total = record {
  antisymm = λ x y. measure_order x y ∙ nat_list_cmp_total.antisymm (measure_key x) (measure_key y) ∙ ap ordering_reverse (sym (measure_order y x));
  trans = λ x y z e f. measure_order x z ∙ nat_list_cmp_total.trans (measure_key x) (measure_key y) (measure_key z) (sym (measure_order x y) ∙ e) (sym (measure_order y z) ∙ f);
  congr = λ x y z e. measure_order x z ∙ nat_list_cmp_total.congr (measure_key x) (measure_key y) (measure_key z) (sym (measure_order x y) ∙ e) ∙ sym (measure_order y z);
}

not_back : (m n : Measure) → is_lt (measure_cmp m n) ≡ true → is_lt (measure_cmp n m) ≡ false
not_back m n e = ap is_lt (compare-total.antisymm n m) ∙ by (measure_cmp m n) e
  where
    by : (o : Ordering) → is_lt o ≡ true → is_lt (ordering_reverse o) ≡ false
    by Less h = refl
    by Equal h = cc
    by Greater h = cc

same-from_equal : (m n : Measure) → measure_cmp m n ≡ Equal → m ≡ n
same-from_equal m n e = measure_key-injective m n (slice_cmp-IsAntisymmetric nat_cmp-IsAntisymmetric (measure_key m) (measure_key n) (sym (measure_order m n) ∙ e))

apart-from_less : (m n : Measure) → measure_cmp m n ≡ Less → same_key (measure_key m) (measure_key n) ≡ false
apart-from_less m n e = differ_back (measure_key m) (measure_key n) (sym (measure_order m n) ∙ e)

apart-from_greater : (m n : Measure) → measure_cmp m n ≡ Greater → same_key (measure_key m) (measure_key n) ≡ false
apart-from_greater m n e = same-flip (measure_key m) (measure_key n) ∙ apart-from_less n m (compare-total.antisymm n m ∙ ap ordering_reverse e)

-- ---- measures in order

neighbours : (ms : List Measure) → IsAscending measure_key ms → (k : ℕ) (d : Measure) → suc k < length ms → is_lt (measure_cmp (get_or ms k d) (get_or ms (suc k) d)) ≡ true
neighbours [] asc k d l = absurd (omega arith)
neighbours (m ∷ []) asc k d l = absurd (omega arith)
neighbours (m ∷ n ∷ ms) asc zero d l = ap is_lt (measure_order m n) ∙ asc.0
neighbours (m ∷ n ∷ ms) asc (suc k) d l = neighbours (n ∷ ms) asc.1 k d (omega arith)

searchable : (ms : List Measure) → IsAscending measure_key ms → (m : Measure) → IsNonDecreasingBy (λ n. ordering_index (measure_cmp n m)) ms
searchable ms asc m =
    searchable_from_sorted compare-total (λ (n : Measure). n) ms m
    (λ k d low high. rw add-one (not_back (get_or ms k d) (get_or ms (suc k) d) (neighbours ms asc k d (omega (arith, high)))))

there : (ms : List Measure) (i : ℕ) (m : Measure) → i < length ms → get_or ms i m ≡ m → among measure_key (measure_key m) ms ≡ true
there [] i m l at = absurd (omega arith)
there (n ∷ ms) zero m l at = let here : n ≡ m = at in rw (here, same-refl (measure_key m)) refl
there (n ∷ ms) (suc i) m l at = rw (there ms i m (omega arith) at) (or_true (same_key (measure_key n) (measure_key m)))

-- no measure of the list is this one
abbrev NoneIs : Measure → List Measure → Type 0
NoneIs m ms = All (λ n. same_key (measure_key n) (measure_key m) ≡ false) ms

absent : (ms : List Measure) (m : Measure) → NoneIs m ms → among measure_key (measure_key m) ms ≡ false
absent [] m none = refl
absent (n ∷ ms) m none =
    rw (All-head (λ k. same_key (measure_key k) (measure_key m) ≡ false) n ms none)
    (absent ms m (All-tail (λ k. same_key (measure_key k) (measure_key m) ≡ false) n ms none))

searched : (ms : List Measure) → IsAscending measure_key ms → (m : Measure) (r : Result ℕ ℕ) → IsSearchInRange r (length ms) → IsBinarySearchResult (λ n. measure_cmp n m) ms r
    → is_ok r ≡ among measure_key (measure_key m) ms
searched ms asc m (Ok i) l e = sym (there ms i m l (same-from_equal (get_or ms i m) m (e m)))
searched ms asc m (Err i) l e =
    let parts = e (searchable ms asc m) in
    sym (absent ms m (λ k d h. elim (cases_lt k i) [
      | inl below ↦ apart-from_less (get_or ms k d) m (parts.0 k d (omega arith) below)
      | inr at_least ↦ apart-from_greater (get_or ms k d) m (parts.1 k d at_least h)
    ]))

-- whether a search finds a measure among the live ones is whether it is live
pub live-searched : (p : ProblemFacts) (ms : List Measure) → ms ≡ live_measures p → (m : Measure) (r : Result ℕ ℕ)
    → IsSearchInRange r (length ms) → IsBinarySearchResult (λ n. measure_cmp n m) ms r → is_ok r ≡ is_live p m
live-searched p ms is m r l e =
    let asc : IsAscending measure_key ms = subst (λ (ns : List Measure). IsAscending measure_key ns) (sym is) (live-ascending p) in
    searched ms asc m r l e ∙ ap (among measure_key (measure_key m)) is ∙ live-is p m
