-- Values of measures, added up over the places of the classes.
use Rattle.std.proofs.Common.{◌≡◌, ℕ, ◌<◌, ◌≤◌, zero, suc, Bool, true, false, ℤ, pos, ◌+ℤ◌, ◌*ℤ◌, List, [], ◌∷◌, map, cond, refl, sym, ap, ◌∙◌, arith, add-one}
use Rattle.std.specs.Prelude.{◌==◌, ◌&&◌, All, filter, nat_lt}
use Rattle.std.proofs.lemmas.Bool.{eqb-true, eqb-false, ltb-true}
use Rattle.std.proofs.lemmas.Int.{ints}
use Rattle.std.proofs.lemmas.List.Elements.{All-head, All-tail}
use Rattle.std.proofs.Math.IntN.{zero-*ℤ}
use Rattle.sut_classes.specs.ClassLists.{ClassLists}
use Rattle.sut_classes.specs.Groups.{Groups}
use Rattle.sut_measures.specs.Fits.{cell_fits}
use Rattle.sut_measures.specs.Sums.{factor}
use Rattle.sut_measures.specs.declared.measures.Cell.{Cell}
use Rattle.sut_measures.specs.declared.measures.Measure.{Measure}
use Rattle.sut_measures.specs.declared.measures.Measure.TheVariants as measure
use Rattle.sut_measures.specs.declared.measures.Total.{Total}
use Rattle.sut_tables.specs.declared.tables.Held.{Held}
use Rattle.sut_tables.specs.ProblemFacts.{ProblemFacts}
use Rattle.sut_tables.specs.TableFacts.{TableFacts}
use Rattle.sut_tables.specs.Problems.{IsProblem, IsTableOf, groups}
use Rattle.sut_tables.specs.Values.{int_sum_by, sum_where, value_of}
use Rattle.sut_tables.proofs.Conservation.{Sorted-table, part, value-parts}
use Rattle.sut_tables.proofs.FirstBreak.{table-fits}
use Rattle.sut_tables.proofs.IntSums.{sum-map, sum-same, sum-swap}
use Rattle.sut_tables.proofs.Nodes.{where_so}
use Rattle.sut_tables.proofs.Paths.{one-*ℤ}
use Rattle.sut_write.specs.Places.{below}
use Rattle.sut_write.proofs.Below.{sum-more}

-- ---- tests

pub and-left : (a b : Bool) → (a && b) ≡ true → a ≡ true
and-left true b e = refl
and-left false b e = e

pub and-right : (a b : Bool) → (a && b) ≡ true → b ≡ true
and-right true b e = e
and-right false b e = cc

pub and-true : (a : Bool) → (a && true) ≡ a
and-true true = refl
and-true false = refl

pub and-false : (a : Bool) → (a && false) ≡ false
and-false true = refl
and-false false = refl

pub and-turned : (a b : Bool) → (a && b) ≡ (b && a)
and-turned true b = sym (and-true b)
and-turned false b = sym (and-false b)

-- ---- one place of those below a bound

pub picked-times : (b : Bool) (x : ℤ) → where_so b (pos 1) *ℤ x ≡ where_so b x
picked-times true x = one-*ℤ x
picked-times false x = zero-*ℤ x

pub nothing-over : {X : Type 0} (x : ℤ) (xs : List X) → int_sum_by (λ y. pos 0 *ℤ x) xs ≡ pos 0
nothing-over x [] = refl
nothing-over x (y ∷ ys) = rw (zero-*ℤ x, nothing-over x ys) refl

above : (m : ℕ) (x : ℤ) (n : ℕ) → n ≤ m → int_sum_by (λ k. where_so (m == k) x) (below n) ≡ pos 0
above m x zero l = refl
above m x (suc n) l =
    ap (λ k. int_sum_by (λ k. where_so (m == k) x) (below k)) (sym (add-one n))
    ∙ sum-more (λ k. where_so (m == k) x) n
    ∙ rw (above m x n (omega (arith, l)), far (m == n) refl) refl
  where
    far : (b : Bool) → (m == n) ≡ b → (m == n) ≡ false
    far true e = absurd (omega (arith, l, eqb-true m n e))
    far false e = e

one-below : (m : ℕ) (x : ℤ) (n : ℕ) → m < n → int_sum_by (λ k. where_so (m == k) x) (below n) ≡ x
one-below m x zero l = absurd (omega (arith, l))
one-below m x (suc n) l =
    ap (λ k. int_sum_by (λ k. where_so (m == k) x) (below k)) (sym (add-one n))
    ∙ sum-more (λ k. where_so (m == k) x) n
    ∙ by (one-below m x n) (m == n) refl
  where
    by : (m < n → int_sum_by (λ k. where_so (m == k) x) (below n) ≡ x) → (b : Bool) → (m == n) ≡ b → int_sum_by (λ k. where_so (m == k) x) (below n) +ℤ where_so (m == n) x ≡ x
    by rest true e = rw (e, above m x n (omega (arith, eqb-true m n e))) (omega (arith, ints))
    by rest false e = rw (e, rest (omega (arith, l, eqb-false m n e))) (omega (arith, ints))

-- a number that is taken at one place of a list of places, where the rest of the test holds
pub picked : (I : Type 0) (make : ℕ → I) (test : I → Bool) (m n : ℕ) (b : Bool) (x : ℤ) → ((k : ℕ) → test (make k) ≡ (b && (m == k))) → nat_lt m n ≡ true
    → int_sum_by (λ i. where_so (test i) (pos 1) *ℤ x) (map make (below n)) ≡ where_so b x
picked I make test m n b x e l =
    sum-map (λ i. where_so (test i) (pos 1) *ℤ x) make (below n)
    ∙ sum-same (λ k. where_so (test (make k)) (pos 1) *ℤ x) (λ k. where_so (b && (m == k)) x) (λ k. ap (λ d. where_so d (pos 1) *ℤ x) (e k) ∙ picked-times (b && (m == k)) x) (below n)
    ∙ by b
  where
    by : (b : Bool) → int_sum_by (λ k. where_so (b && (m == k)) x) (below n) ≡ where_so b x
    by true = one-below m x n (ltb-true m n l)
    by false = none (below n)
      where
        none : (ks : List ℕ) → int_sum_by (λ (k : ℕ). pos 0) ks ≡ pos 0
        none [] = refl
        none (k ∷ ks) = rw (none ks) refl

-- a sum over those that pass a test
pub sum-filter : {I : Type 0} (test : I → Bool) (f : I → ℤ) (is : List I) → int_sum_by f (filter test is) ≡ int_sum_by (λ i. where_so (test i) (f i)) is
sum-filter test f [] = refl
sum-filter test f (i ∷ is) = by (test i) (sum-filter test f is)
  where
    by : (b : Bool) → int_sum_by f (filter test is) ≡ int_sum_by (λ i. where_so (test i) (f i)) is
        → int_sum_by f (cond b (i ∷ filter test is) (filter test is)) ≡ where_so b (f i) +ℤ int_sum_by (λ i. where_so (test i) (f i)) is
    by true e = ap (λ z. f i +ℤ z) e
    by false e = e ∙ omega (arith, ints)

-- ---- a sum over places is a sum over the cells

sum-fitting : (cs : ClassLists) (f g : Held → ℤ) → ((h : Held) → cell_fits cs h.cell ≡ true → f h ≡ g h) → (hs : List Held) → All (λ (h : Held). cell_fits cs h.cell ≡ true) hs → int_sum_by f hs ≡ int_sum_by g hs
sum-fitting cs f g e [] a = refl
sum-fitting cs f g e (h ∷ hs) a =
    rw (e h (All-head (λ (h : Held). cell_fits cs h.cell ≡ true) h hs a), sum-fitting cs f g e hs (All-tail (λ (h : Held). cell_fits cs h.cell ≡ true) h hs a)) refl

-- the cells that the places' measures hold pass the test
abbrev pub Holds : {I : Type 0} → ClassLists → Groups → (I → Measure) → List I → (Cell → Bool) → Type 0
Holds cs gs make is test = (c : Cell) (x : ℤ) → cell_fits cs c ≡ true → int_sum_by (λ i. part gs c (make i) *ℤ x) is ≡ where_so (test c) x

-- a cell counts in the total as in the places' measures together
abbrev pub Counts : {I : Type 0} → ClassLists → Groups → Total → (I → Measure) → List I → Type 0
Counts cs gs u make is = (c : Cell) (x : ℤ) → cell_fits cs c ≡ true → factor gs c u *ℤ x ≡ int_sum_by (λ i. part gs c (make i) *ℤ x) is

module _ (p : ProblemFacts) (t : TableFacts) (ok : IsProblem p) (of : IsTableOf p t) where
  swapped : {I : Type 0} (make : I → Measure) (is : List I) → int_sum_by (λ i. value_of t (make i)) is ≡ int_sum_by (λ (h : Held). int_sum_by (λ i. part (groups p) h.cell (make i) *ℤ h.number) is) t.cells
  swapped make is =
      sum-same (λ i. value_of t (make i)) (λ i. int_sum_by (λ (h : Held). part (groups p) h.cell (make i) *ℤ h.number) t.cells)
      (λ i. value-parts t (Sorted-table p t ok of) (make i) ∙ ap (λ gs. int_sum_by (λ (h : Held). part gs h.cell (make i) *ℤ h.number) t.cells) of.groups) is
      ∙ sum-swap (λ i (h : Held). part (groups p) h.cell (make i) *ℤ h.number) is t.cells

  pub over-cells : {I : Type 0} (make : I → Measure) (is : List I) (test : Cell → Bool) → Holds p.classes (groups p) make is test
      → int_sum_by (λ i. value_of t (make i)) is ≡ sum_where test t.cells
  over-cells make is test holds =
      swapped make is
      ∙ sum-fitting p.classes (λ (h : Held). int_sum_by (λ i. part (groups p) h.cell (make i) *ℤ h.number) is) (λ (h : Held). where_so (test h.cell) h.number) (λ h fit. holds h.cell h.number fit) t.cells (table-fits p t ok of)

  pub total-of_places : {I : Type 0} (u : Total) (make : I → Measure) (is : List I) → Counts p.classes (groups p) u make is
      → value_of t (measure.Total u) ≡ int_sum_by (λ i. value_of t (make i)) is
  total-of_places u make is counts =
      ap (λ gs. int_sum_by (λ (h : Held). factor gs h.cell u *ℤ h.number) t.cells) of.groups
      ∙ sum-fitting p.classes (λ (h : Held). factor (groups p) h.cell u *ℤ h.number) (λ (h : Held). int_sum_by (λ i. part (groups p) h.cell (make i) *ℤ h.number) is) (λ h fit. counts h.cell h.number fit) t.cells (table-fits p t ok of)
      ∙ sym (swapped make is)
