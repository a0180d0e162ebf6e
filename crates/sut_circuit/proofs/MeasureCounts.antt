-- A problem has at most 322,174 live measures: its rows of cells, and as many totals as fit the largest classes.
use Rattle.std.proofs.Common.{◌≡◌, ℕ, suc, ◌+◌, ◌≤◌, List, [], ◌∷◌, ◌++◌, length, map, refl, ap, arith, Bool, true, false, not}
use Rattle.std.specs.Prelude.{All, cond, filter}
use Rattle.std.specs.List.{flat_map}
use Rattle.std.proofs.lemmas.Bool.{and_parts}
use Rattle.std.proofs.lemmas.List.Elements.{All-nil, All-cons, All-head, All-tail}
use Rattle.std.proofs.lemmas.List.Filters.{length-filter_both}
use Rattle.std.specs.declared.cmp.Ordering.{Ordering}
use Rattle.std.specs.declared.cmp.Ordering.TheVariants.{Less, Equal, Greater}
use Rattle.std.specs.Ordering.{nat_cmp}
use Rattle.std.specs.Cmp.Lexicographic.{slice_cmp}
use Rattle.sut_classes.specs.ClassLists.{ClassLists}
use Rattle.sut_classes.specs.Groups.{Groups}
use Rattle.sut_classes.specs.Kept.{IsClasses}
use Rattle.sut_measures.specs.Fits.{fits, total_fits}
use Rattle.sut_measures.specs.Keys.{measure_key, total_key}
use Rattle.sut_measures.specs.Sums.{totals_with}
use Rattle.sut_measures.specs.declared.measures.Measure.{Measure}
use Rattle.sut_measures.specs.declared.measures.Measure.TheVariants as measure
use Rattle.sut_measures.specs.declared.measures.Total.{Total}
use Rattle.sut_measures.specs.declared.measures.Total.TheVariants as total
use Rattle.sut_tables.specs.Changes.{is_cell}
use Rattle.sut_tables.specs.InOrder.{by_order, in_order, put_in_order}
use Rattle.sut_tables.specs.Limits.{IsWithinLimits}
use Rattle.sut_tables.specs.ProblemFacts.{ProblemFacts}
use Rattle.sut_tables.specs.Problems.{IsProblem, groups, live_measures, made_live}
use Rattle.sut_tables.specs.RowFacts.{RowFacts}
use Rattle.sut_tables.proofs.Conservation.{live-sorted}
use Rattle.sut_tables.proofs.LiveFits.{live-fits}
use Rattle.sut_tables.proofs.Ordered.{After, Sorted}
use Rattle.sut_circuit.proofs.FewClasses.{AreFew, classes-few, below, one, two, beside_column}
use Rattle.sut_circuit.proofs.Ranks.{Kind, kind, IsOfKind, few-keys}

-- ---- how many elements of a list pass a test

module _ {X : Type 0} (q : X → Bool) where
  -- one more or none
  count-cons : (x : X) (xs : List X) → length (filter q (x ∷ xs)) ≡ cond (q x) 1 0 + length (filter q xs)
  count-cons x xs = by (q x)
    where
      by : (b : Bool) → length (cond b (x ∷ filter q xs) (filter q xs)) ≡ cond b 1 0 + length (filter q xs)
      by true = omega arith
      by false = omega arith

  count-both : (xs ys : List X) → length (filter q (xs ++ ys)) ≡ length (filter q xs) + length (filter q ys)
  count-both [] ys = omega arith
  count-both (x ∷ xs) ys = omega (arith, count-cons x (xs ++ ys), count-cons x xs, count-both xs ys)

  count-put : (key : X → List ℕ) (x : X) (ys : List X) → length (filter q (put_in_order key x ys)) ≤ cond (q x) 1 0 + length (filter q ys)
  count-put key x [] = omega (arith, count-cons x [])
  count-put key x (y ∷ ys) = by (slice_cmp nat_cmp (key x) (key y)) (count-put key x ys)
    where
      by : (o : Ordering) → length (filter q (put_in_order key x ys)) ≤ cond (q x) 1 0 + length (filter q ys)
          → length (filter q (by_order o (x ∷ y ∷ ys) (y ∷ ys) (y ∷ put_in_order key x ys))) ≤ cond (q x) 1 0 + length (filter q (y ∷ ys))
      by Less later = omega (arith, count-cons x (y ∷ ys))
      by Equal later = omega arith
      by Greater later = omega (arith, count-cons y (put_in_order key x ys), count-cons y ys, later)

  count-in_order : (key : X → List ℕ) (xs : List X) → length (filter q (in_order key xs)) ≤ length (filter q xs)
  count-in_order key [] = omega arith
  count-in_order key (x ∷ xs) = omega (arith, count-put key x (in_order key xs), count-in_order key xs, count-cons x xs)

  After-filter : (key : X → List ℕ) (k : List ℕ) (xs : List X) → After key k xs → After key k (filter q xs)
  After-filter key k [] a = tt
  After-filter key k (x ∷ xs) a = by (q x) (After-filter key k xs a.1)
    where
      by : (b : Bool) → After key k (filter q xs) → After key k (cond b (x ∷ filter q xs) (filter q xs))
      by true h = (a.0, h)
      by false h = h

  Sorted-filter : (key : X → List ℕ) (xs : List X) → Sorted key xs → Sorted key (filter q xs)
  Sorted-filter key [] s = tt
  Sorted-filter key (x ∷ xs) s = by (q x) (Sorted-filter key xs s.1)
    where
      by : (b : Bool) → Sorted key (filter q xs) → Sorted key (cond b (x ∷ filter q xs) (filter q xs))
      by true h = (After-filter key (key x) xs s.0, h)
      by false h = h

-- ---- live cells are those of the rows

no-cells : (us : List Total) → length (filter is_cell (map measure.Total us)) ≡ 0
no-cells [] = refl
no-cells (u ∷ us) = no-cells us

made-cells : (gs : Groups) (m : Measure) → length (filter is_cell (made_live gs m)) ≡ cond (is_cell m) 1 0
made-cells gs (measure.Cell c) = ap suc (no-cells (totals_with gs c))
made-cells gs (measure.Total u) = refl

rows-cells : (gs : Groups) (rows : List RowFacts)
    → length (filter is_cell (flat_map (λ (r : RowFacts). made_live gs r.measure) rows)) ≡ length (filter (λ (r : RowFacts). is_cell r.measure) rows)
rows-cells gs [] = refl
rows-cells gs (r ∷ rows) =
    omega (arith, count-both is_cell (made_live gs r.measure) (flat_map (λ (r : RowFacts). made_live gs r.measure) rows), made-cells gs r.measure, rows-cells gs rows, count-cons (λ (r : RowFacts). is_cell r.measure) r rows)

cells-few : (p : ProblemFacts) → IsWithinLimits p → length (filter is_cell (live_measures p)) ≤ 131072
cells-few p limits =
    omega (arith, count-in_order is_cell measure_key (flat_map (λ (r : RowFacts). made_live (groups p) r.measure) p.rows), rows-cells (groups p) p.rows, limits.cells)

-- ---- live totals fit

-- by the first number of their keys, where the first seven kinds are those of cells
abbrev total_kinds : List Kind
total_kinds =
    kind 0 []
    ∷ kind 0 []
    ∷ kind 0 []
    ∷ kind 0 []
    ∷ kind 0 []
    ∷ kind 0 []
    ∷ kind 0 []
    ∷ kind 147456 (288 ∷ 256 ∷ 1 ∷ [])
    ∷ kind 512 (1 ∷ [])
    ∷ kind 256 (1 ∷ [])
    ∷ kind 256 (1 ∷ [])
    ∷ kind 256 (1 ∷ [])
    ∷ kind 16 (1 ∷ [])
    ∷ kind 32 (1 ∷ [])
    ∷ kind 1 []
    ∷ kind 4 (1 ∷ [])
    ∷ kind 2048 (512 ∷ 1 ∷ [])
    ∷ kind 8 (1 ∷ [])
    ∷ kind 4096 (512 ∷ 1 ∷ [])
    ∷ kind 1 []
    ∷ kind 16384 (256 ∷ 1 ∷ [])
    ∷ kind 64 (1 ∷ [])
    ∷ kind 18432 (288 ∷ 256 ∷ 1 ∷ [])
    ∷ kind 256 (64 ∷ 1 ∷ [])
    ∷ kind 512 (64 ∷ 1 ∷ [])
    ∷ kind 512 (32 ∷ 1 ∷ [])
    ∷ []

module _ (cs : ClassLists) (few : AreFew cs) where
  total-kind : (u : Total) → total_fits cs u ≡ true → IsOfKind total_kinds (total_key u)
  total-kind (total.Purchase i q) h =
      let b = and_parts _ _ h in beside_column cs few 512 i.0 q (below i.0 (length cs.products) 512 b.0 few.products) b.1
  total-kind (total.Supply i) h = one i.0 512 (below i.0 (length cs.products) 512 h few.products)
  total-kind (total.Output j) h = one j.0 256 (below j.0 (length cs.industries) 256 h few.industries)
  total-kind (total.Inputs j) h = one j.0 256 (below j.0 (length cs.industries) 256 h few.industries)
  total-kind (total.ValueAdded j) h = one j.0 256 (below j.0 (length cs.industries) 256 h few.industries)
  total-kind (total.ItemTotal v) h = one v.0 16 (below v.0 (length cs.items) 16 h few.items)
  total-kind (total.FinalTotal f) h = one f.0 32 (below f.0 (length cs.finals) 32 h few.finals)
  total-kind total.ImportTotal h = (tt, omega arith)
  total-kind (total.MarginTotal k) h = one k.0 4 (below k.0 (length cs.margins) 4 h few.margins)
  total-kind (total.MarginProduct k i) h =
      let b = and_parts _ _ h in two 512 4 k.0 i.0 (below k.0 (length cs.margins) 4 b.0 few.margins) (below i.0 (length cs.products) 512 b.1 few.products)
  total-kind (total.TaxTotal t) h = one t.0 8 (below t.0 (length cs.taxes) 8 h few.taxes)
  total-kind (total.TaxProduct t i) h =
      let b = and_parts _ _ h in two 512 8 t.0 i.0 (below t.0 (length cs.taxes) 8 b.0 few.taxes) (below i.0 (length cs.products) 512 b.1 few.products)
  total-kind total.Gdp h = (tt, omega arith)
  total-kind (total.MakeGroup g j) h =
      let b = and_parts _ _ h in two 256 64 g.0 j.0 (below g.0 (length cs.product_groups) 64 b.0 few.product_groups) (below j.0 (length cs.industries) 256 b.1 few.industries)
  total-kind (total.ImportGroup g) h = one g.0 64 (below g.0 (length cs.product_groups) 64 h few.product_groups)
  total-kind (total.PurchaseGroup g q) h =
      let b = and_parts _ _ h in beside_column cs few 64 g.0 q (below g.0 (length cs.product_groups) 64 b.0 few.product_groups) b.1
  total-kind (total.MarginGroup k g) h =
      let b = and_parts _ _ h in two 64 4 k.0 g.0 (below k.0 (length cs.margins) 4 b.0 few.margins) (below g.0 (length cs.product_groups) 64 b.1 few.product_groups)
  total-kind (total.TaxGroup t g) h =
      let b = and_parts _ _ h in two 64 8 t.0 g.0 (below t.0 (length cs.taxes) 8 b.0 few.taxes) (below g.0 (length cs.product_groups) 64 b.1 few.product_groups)
  total-kind (total.ItemGroup v g) h =
      let b = and_parts _ _ h in two 32 16 v.0 g.0 (below v.0 (length cs.items) 16 b.0 few.items) (below g.0 (length cs.industry_groups) 32 b.1 few.industry_groups)

  abbrev HasTotalKind : Measure → Type 0
  HasTotalKind m = IsOfKind total_kinds (measure_key m)

  totals-kinds : (ms : List Measure) → All (λ m. fits cs m ≡ true) ms → All HasTotalKind (filter (λ m. not (is_cell m)) ms)
  totals-kinds [] a = All-nil HasTotalKind
  totals-kinds (measure.Cell c ∷ ms) a = totals-kinds ms (All-tail (λ m. fits cs m ≡ true) (measure.Cell c) ms a)
  totals-kinds (measure.Total u ∷ ms) a =
      All-cons HasTotalKind (measure.Total u) (filter (λ m. not (is_cell m)) ms) (total-kind u (All-head (λ m. fits cs m ≡ true) (measure.Total u) ms a))
      (totals-kinds ms (All-tail (λ m. fits cs m ≡ true) (measure.Total u) ms a))

totals-few : (p : ProblemFacts) → IsProblem p → IsClasses p.classes → length (filter (λ m. not (is_cell m)) (live_measures p)) ≤ 191102
totals-few p ok k =
    few-keys measure_key total_kinds (filter (λ m. not (is_cell m)) (live_measures p)) (Sorted-filter (λ m. not (is_cell m)) measure_key (live_measures p) (live-sorted p))
    (totals-kinds p.classes (classes-few p.classes k) (live_measures p) (live-fits p ok (record { products = k.products; industries = k.industries })))

pub measures-few : (p : ProblemFacts) → IsProblem p → IsWithinLimits p → IsClasses p.classes → length (live_measures p) ≤ 322174
measures-few p ok limits k =
    omega (arith, length-filter_both is_cell (λ m. not (is_cell m)) (λ m. refl) (live_measures p), cells-few p limits, totals-few p ok k)
