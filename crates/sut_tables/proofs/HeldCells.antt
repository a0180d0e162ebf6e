-- Cells in order, each with its number: where one is found, and its number.
use Rattle.std.proofs.Common.{◌≡◌, ℕ, zero, suc, ℤ, pos, ◌+◌, ◌<◌, ◌≤◌, List, [], ◌∷◌, length, get_or, set, map, Bool, true, false, if◌then◌else◌, Result, Ok, Err, refl, sym, ◌∙◌, ap, subst, arith, add-one, inl, inr}
use Rattle.std.specs.Prelude.{All, MatchResult}
use Rattle.std.specs.List.{HoldsAt}
use Rattle.std.specs.List.Sorted.{IsSearchInRange, IsBinarySearchResult, IsNonDecreasingBy, IsSortedBy}
use Rattle.std.specs.declared.cmp.Ordering.{Ordering}
use Rattle.std.specs.declared.cmp.Ordering.TheVariants.{Less, Equal, Greater}
use Rattle.std.specs.Ordering.{is_lt, nat_cmp, ordering_index, ordering_reverse}
use Rattle.std.specs.Cmp.{IsTotalOrder}
use Rattle.std.specs.Cmp.Lexicographic.{slice_cmp, nat_list_cmp_total}
use Rattle.std.specs.FinMap.{slice_cmp-IsAntisymmetric, nat_cmp-IsAntisymmetric}
use Rattle.std.proofs.lemmas.Bool.{cases_lt}
use Rattle.std.proofs.lemmas.List.Elements.{All-nil, All-cons, All-head, All-tail}
use Rattle.std.proofs.lemmas.List.Sorted.{searchable_from_sorted}
use Rattle.sut_measures.specs.Keys.{cell_key}
use Rattle.sut_measures.specs.Sums.{same_cell}
use Rattle.sut_measures.specs.contracts.measures.CellOrd.TheImpl as cell_ord
use Rattle.sut_measures.specs.declared.measures.Cell.{Cell}
use Rattle.sut_measures.proofs.KeyLemmas.{cell_key-injective}
use Rattle.sut_measures.proofs.OrderLemmas.{cell_order}
use Rattle.sut_tables.specs.declared.tables.Held.{Held}
use Rattle.sut_tables.specs.InOrder.{IsAscending, same_key}
use Rattle.sut_tables.specs.Tables.{holds}
use Rattle.sut_tables.specs.Values.{number_at}
use Rattle.sut_tables.proofs.Ordered.{Sorted, same-refl, same-flip, differ_back}
use Rattle.sut_tables.proofs.Lists.{After-differ}
use Rattle.sut_tables.proofs.Conservation.{Sorted-from_ascending}
use Rattle.sut_tables.proofs.Undo.{numbers_there}

abbrev compare : Cell → Cell → Ordering
compare = (cell_ord.ghosts).cmp

abbrev pub key_of : Held → List ℕ
key_of h = cell_key h.cell

compare-total : IsTotalOrder compare
compare-total = record {
  antisymm = λ x y. cell_order x y ∙ nat_list_cmp_total.antisymm (cell_key x) (cell_key y) ∙ ap ordering_reverse (sym (cell_order y x));
  trans = λ x y z e f. cell_order x z ∙ nat_list_cmp_total.trans (cell_key x) (cell_key y) (cell_key z) (sym (cell_order x y) ∙ e) (sym (cell_order y z) ∙ f);
  congr = λ x y z e. cell_order x z ∙ nat_list_cmp_total.congr (cell_key x) (cell_key y) (cell_key z) (sym (cell_order x y) ∙ e) ∙ sym (cell_order y z);
}

-- ---- a search

in_order-adjacent : (hs : List Held) → IsAscending key_of hs → (k : ℕ) (d : Held) → suc k < length hs → is_lt (compare (get_or hs k d).cell (get_or hs (suc k) d).cell) ≡ true
in_order-adjacent [] a k d l = absurd (omega arith)
in_order-adjacent (h ∷ []) a k d l = absurd (omega arith)
in_order-adjacent (h ∷ g ∷ hs) a zero d l = ap is_lt (cell_order h.cell g.cell) ∙ a.0
in_order-adjacent (h ∷ g ∷ hs) a (suc k) d l = in_order-adjacent (g ∷ hs) a.1 k d (omega arith)

not_back : (c d : Cell) → is_lt (compare c d) ≡ true → is_lt (compare d c) ≡ false
not_back c d e = ap is_lt (compare-total.antisymm d c) ∙ by (compare c d) e
  where
    by : (o : Ordering) → is_lt o ≡ true → is_lt (ordering_reverse o) ≡ false
    by Less h = refl
    by Equal h = cc
    by Greater h = cc

searchable : (hs : List Held) → IsAscending key_of hs → (c : Cell) → IsNonDecreasingBy (λ (h : Held). ordering_index (compare h.cell c)) hs
searchable hs a c = searchable_from_sorted compare-total (λ (h : Held). h.cell) hs c (λ k d low high. rw add-one (not_back (get_or hs k d).cell (get_or hs (suc k) d).cell (in_order-adjacent hs a k d (omega (arith, high)))))

holds-none : (hs : List Held) (c : Cell) → All (λ (h : Held). same_cell h.cell c ≡ false) hs → holds hs c ≡ false
holds-none [] c a = refl
holds-none (h ∷ hs) c a = rw (All-head (λ (h : Held). same_cell h.cell c ≡ false) h hs a) (holds-none hs c (All-tail (λ (h : Held). same_cell h.cell c ≡ false) h hs a))

same-from_equal : (c d : Cell) → compare c d ≡ Equal → c ≡ d
same-from_equal c d e = cell_key-injective c d (slice_cmp-IsAntisymmetric nat_cmp-IsAntisymmetric (cell_key c) (cell_key d) (sym (cell_order c d) ∙ e))

apart-from_less : (c d : Cell) → compare c d ≡ Less → same_cell c d ≡ false
apart-from_less c d e = differ_back (cell_key c) (cell_key d) (sym (cell_order c d) ∙ e)

apart-from_greater : (c d : Cell) → compare c d ≡ Greater → same_cell c d ≡ false
apart-from_greater c d e = same-flip (cell_key c) (cell_key d) ∙ apart-from_less d c (compare-total.antisymm d c ∙ ap ordering_reverse e)

-- what a binary search finds among cells in order
pub searched : (hs : List Held) → IsAscending key_of hs → (c : Cell) (r : Result ℕ ℕ) → IsSearchInRange r (length hs) → IsBinarySearchResult (λ (h : Held). compare h.cell c) hs r
    → MatchResult r (λ i. (i < length hs) × HoldsAt (λ (h : Held). h.cell ≡ c) hs i) (λ i. holds hs c ≡ false)
searched hs a c (Ok i) l e = (l, λ d. same-from_equal (get_or hs i d).cell c (e d))
searched hs a c (Err i) l e =
    let parts = e (searchable hs a c) in
    holds-none hs c (λ k d h. elim (cases_lt k i) [
      | inl below ↦ apart-from_less (get_or hs k d).cell c (parts.0 k d (omega arith) below)
      | inr at_least ↦ apart-from_greater (get_or hs k d).cell c (parts.1 k d at_least h)
    ])

-- ---- the number of a cell that is found, or isn't

pub number-there : (hs : List Held) → IsAscending key_of hs → (c : Cell) (i : ℕ) (h : Held) → i < length hs → get_or hs i h ≡ h → h.cell ≡ c → number_at hs c ≡ h.number
number-there hs a c i h l at is =
    ap (number_at hs) (sym is ∙ ap (λ (g : Held). g.cell) (sym at)) ∙ numbers_there hs (Sorted-from_ascending key_of hs a) i h l ∙ ap (λ (g : Held). g.number) at

pub number-absent : (hs : List Held) (c : Cell) → holds hs c ≡ false → number_at hs c ≡ pos 0
number-absent [] c e = refl
number-absent (h ∷ hs) c e = by (same_cell h.cell c) e (number-absent hs c)
  where
    by : (b : Bool) → (if b then true else holds hs c) ≡ false → (holds hs c ≡ false → number_at hs c ≡ pos 0) → (if b then h.number else number_at hs c) ≡ pos 0
    by true e rest = cc
    by false e rest = rest e

-- ---- a number put

-- a cell with another number
abbrev pub with_number : Held → ℤ → Held
with_number h x = record { cell = h.cell; number = x }

-- the cell takes the number, if it is this one
abbrev pub put_in : Cell → ℤ → Held → Held
put_in c x h = if same_cell h.cell c then with_number h x else h

pub holds-there : (hs : List Held) (i : ℕ) (h : Held) → i < length hs → get_or hs i h ≡ h → (c : Cell) → h.cell ≡ c → holds hs c ≡ true
holds-there [] i h l at c is = absurd (omega arith)
holds-there (g ∷ hs) zero h l at c is = rw (ap (λ (k : Held). k.cell) at ∙ is, same-refl (cell_key c)) refl
holds-there (g ∷ hs) (suc i) h l at c is = rw (holds-there hs i h (omega arith) at c is) (either (same_cell g.cell c))
  where
    either : (b : Bool) → (if b then true else true) ≡ true
    either true = refl
    either false = refl

put-none : (c : Cell) (x : ℤ) (hs : List Held) → All (λ (h : Held). same_cell h.cell c ≡ false) hs → map (put_in c x) hs ≡ hs
put-none c x [] a = refl
put-none c x (h ∷ hs) a = rw (All-head (λ (h : Held). same_cell h.cell c ≡ false) h hs a, put-none c x hs (All-tail (λ (h : Held). same_cell h.cell c ≡ false) h hs a)) refl

none-held : (c : Cell) (hs : List Held) → holds hs c ≡ false → All (λ (h : Held). same_cell h.cell c ≡ false) hs
none-held c [] e = All-nil (λ (h : Held). same_cell h.cell c ≡ false)
none-held c (h ∷ hs) e = by (same_cell h.cell c) refl e (none-held c hs)
  where
    by : (b : Bool) → same_cell h.cell c ≡ b → (if b then true else holds hs c) ≡ false → (holds hs c ≡ false → All (λ (h : Held). same_cell h.cell c ≡ false) hs) → All (λ (h : Held). same_cell h.cell c ≡ false) (h ∷ hs)
    by true s e rest = cc
    by false s e rest = All-cons (λ (h : Held). same_cell h.cell c ≡ false) h hs s (rest e)

-- where the cell isn't held, nothing changes
pub put-absent : (c : Cell) (x : ℤ) (hs : List Held) → holds hs c ≡ false → map (put_in c x) hs ≡ hs
put-absent c x hs e = put-none c x hs (none-held c hs e)

-- one place changes
pub put-set : (x : ℤ) (hs : List Held) → Sorted key_of hs → (i : ℕ) (h : Held) → i < length hs → get_or hs i h ≡ h → map (put_in h.cell x) hs ≡ set hs i (with_number h x)
put-set x [] s i h l at = absurd (omega arith)
put-set x (g ∷ hs) s zero h l at =
    rw (at, same-refl (cell_key h.cell)) (ap (λ gs. with_number h x ∷ gs) (put-none h.cell x hs later))
  where
    later : All (λ (k : Held). same_cell k.cell h.cell ≡ false) hs
    later = λ k d m. same-flip (cell_key (get_or hs k d).cell) (cell_key h.cell) ∙ subst (λ (f : Held). same_key (cell_key f.cell) (cell_key (get_or hs k d).cell) ≡ false) at (After-differ key_of (cell_key g.cell) hs s.0 k d m)
put-set x (g ∷ hs) s (suc i) h l at =
    rw (subst (λ (k : Held). same_key (cell_key g.cell) (cell_key k.cell) ≡ false) at (After-differ key_of (cell_key g.cell) hs s.0 i h (omega arith))) (ap (λ gs. g ∷ gs) (put-set x hs s.1 i h (omega arith) at))

key_of-put : (c : Cell) (x : ℤ) (h : Held) → key_of (put_in c x h) ≡ key_of h
key_of-put c x h = by (same_cell h.cell c)
  where
    by : (b : Bool) → key_of (if b then with_number h x else h) ≡ key_of h
    by true = refl
    by false = refl

-- the cells stay in order
pub put-ascending : (c : Cell) (x : ℤ) (hs : List Held) → IsAscending key_of hs → IsAscending key_of (map (put_in c x) hs)
put-ascending c x [] a = tt
put-ascending c x (h ∷ []) a = tt
put-ascending c x (h ∷ g ∷ hs) a = (rw (key_of-put c x h, key_of-put c x g) a.0, put-ascending c x (g ∷ hs) a.1)
