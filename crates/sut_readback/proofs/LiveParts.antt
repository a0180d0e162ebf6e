-- The live measures are the cells that have a row, and then totals.
use Rattle.std.proofs.Common.{◌≡◌, ◌<◌, ◌≤◌, ◌++◌, ◌∷◌, ◌∙◌, ◌||◌, ℕ, List, [], Bool, true, false, nat_lt, map, refl, sym, ap, arith}
use Rattle.std.specs.Prelude.{slice_index}
use Rattle.std.specs.List.{cons_option, filter_map, list_any}
use Rattle.std.specs.declared.cmp.Ordering.{Ordering}
use Rattle.std.specs.declared.cmp.Ordering.TheVariants.{Less, Equal, Greater}
use Rattle.std.specs.Ordering.{is_le, nat_cmp, ordering_then}
use Rattle.std.specs.Cmp.Lexicographic.{slice_cmp}
use Rattle.std.proofs.lemmas.Bool.{lt-ltb, ltb-true}
use Rattle.std.proofs.lemmas.Map.Keys.{le_from_is_le}
use Rattle.sut_classes.specs.Groups.{Groups}
use Rattle.sut_measures.specs.Keys.{cell_key, measure_key, total_key}
use Rattle.sut_measures.specs.declared.measures.Cell.{Cell}
use Rattle.sut_measures.specs.declared.measures.Cell.TheVariants as cell
use Rattle.sut_measures.specs.declared.measures.Total.{Total}
use Rattle.sut_measures.specs.declared.measures.Total.TheVariants as total
use Rattle.sut_measures.specs.declared.measures.Measure.{Measure}
use Rattle.sut_measures.specs.declared.measures.Measure.TheVariants as measure
use Rattle.sut_measures.proofs.KeyLemmas.{cell_key-injective}
use Rattle.sut_tables.specs.InOrder.{same_key}
use Rattle.sut_tables.specs.LiveRule.{is_part_of}
use Rattle.sut_tables.specs.ProblemFacts.{ProblemFacts}
use Rattle.sut_tables.specs.Problems.{IsProblem, cell_of, cell_rows, groups, live_measures}
use Rattle.sut_tables.specs.RowFacts.{RowFacts}
use Rattle.sut_tables.proofs.Conservation.{Sorted-cells, Sorted-from_ascending, live-sorted, total-cell}
use Rattle.sut_tables.proofs.LiveMeasures.{live-is}
use Rattle.sut_tables.proofs.Ordered.{After, Sorted, among}
use Rattle.sut_tables.proofs.SameList.{same-list}
use Rattle.sut_readback.specs.ReadingView.{total_in}

-- ---- no cell is after a total

cell-kind : (c : Cell) → nat_lt (slice_index (cell_key c) 0) 7 ≡ true
cell-kind (cell.Make i j) = refl
cell-kind (cell.Import i) = refl
cell-kind (cell.Basic i q) = refl
cell-kind (cell.Margin k i q) = refl
cell-kind (cell.Tax t i q) = refl
cell-kind (cell.Service i k) = refl
cell-kind (cell.Added v j) = refl

total-kind : (u : Total) → nat_lt (slice_index (total_key u) 0) 7 ≡ false
total-kind (total.Purchase i q) = refl
total-kind (total.Supply i) = refl
total-kind (total.Output j) = refl
total-kind (total.Inputs j) = refl
total-kind (total.ValueAdded j) = refl
total-kind (total.ItemTotal v) = refl
total-kind (total.FinalTotal f) = refl
total-kind total.ImportTotal = refl
total-kind (total.MarginTotal k) = refl
total-kind (total.MarginProduct k i) = refl
total-kind (total.TaxTotal t) = refl
total-kind (total.TaxProduct t i) = refl
total-kind total.Gdp = refl
total-kind (total.MakeGroup g j) = refl
total-kind (total.ImportGroup g) = refl
total-kind (total.PurchaseGroup g q) = refl
total-kind (total.MarginGroup k g) = refl
total-kind (total.TaxGroup t g) = refl
total-kind (total.ItemGroup v h) = refl

-- a key that is before one of a low kind is of a low kind
low-before : (k l : List ℕ) → slice_cmp nat_cmp k l ≡ Less → nat_lt (slice_index l 0) 7 ≡ true → nat_lt (slice_index k 0) 7 ≡ true
low-before [] l e low = refl
low-before (x ∷ xs) [] e low = cc
low-before (x ∷ xs) (y ∷ ys) e low = by (nat_cmp x y) refl e
  where
    small : is_le (nat_cmp x y) ≡ true → nat_lt x 7 ≡ true
    small h =
        let below : x ≤ y = le_from_is_le x y h in
        let low : y < 7 = ltb-true y 7 low in
        lt-ltb x 7 (omega arith)

    by : (o : Ordering) → nat_cmp x y ≡ o → ordering_then o (slice_cmp nat_cmp xs ys) ≡ Less → nat_lt x 7 ≡ true
    by Less is e = small (ap is_le is)
    by Equal is e = small (ap is_le is)
    by Greater is e = cc

no-cell-after : (u : Total) (c : Cell) → slice_cmp nat_cmp (total_key u) (cell_key c) ≡ Less → ⊥
no-cell-after u c less =
    let clash : true ≡ false = sym (low-before (total_key u) (cell_key c) less (cell-kind c)) ∙ total-kind u in cc

pub no-cells : (u : Total) (ms : List Measure) → After measure_key (total_key u) ms → filter_map cell_of ms ≡ []
no-cells u [] a = refl
no-cells u (measure.Cell c ∷ ms) a = absurd (no-cell-after u c a.0)
no-cells u (measure.Total w ∷ ms) a = no-cells u ms a.1

-- measures in order are their cells, and then their totals
parts : (ms : List Measure) → Sorted measure_key ms → map measure.Cell (filter_map cell_of ms) ++ map measure.Total (filter_map total_in ms) ≡ ms
parts [] s = refl
parts (measure.Cell c ∷ ms) s = ap (λ ns. measure.Cell c ∷ ns) (parts ms s.1)
parts (measure.Total u ∷ ms) s =
    let none : filter_map cell_of ms ≡ [] = no-cells u ms s.0 in
    let rest : map measure.Total (filter_map total_in ms) ≡ ms = rw none at (parts ms s.1) in
    ap (λ cs. map measure.Cell cs ++ (measure.Total u ∷ map measure.Total (filter_map total_in ms))) none ∙ ap (λ ns. measure.Total u ∷ ns) rest

-- ---- the live cells are those that have a row

after-cells : (k : List ℕ) (ms : List Measure) → After measure_key k ms → After cell_key k (filter_map cell_of ms)
after-cells k [] a = tt
after-cells k (measure.Cell c ∷ ms) a = (a.0, after-cells k ms a.1)
after-cells k (measure.Total u ∷ ms) a = after-cells k ms a.1

cells-sorted : (ms : List Measure) → Sorted measure_key ms → Sorted cell_key (filter_map cell_of ms)
cells-sorted [] s = tt
cells-sorted (measure.Cell c ∷ ms) s = (after-cells (cell_key c) ms s.0, cells-sorted ms s.1)
cells-sorted (measure.Total u ∷ ms) s = cells-sorted ms s.1

among-cells : (c : Cell) (ms : List Measure) → among cell_key (cell_key c) (filter_map cell_of ms) ≡ among measure_key (cell_key c) ms
among-cells c [] = refl
among-cells c (measure.Cell d ∷ ms) = ap (λ b. same_key (cell_key d) (cell_key c) || b) (among-cells c ms)
among-cells c (measure.Total u ∷ ms) = rw (total-cell u c) (among-cells c ms)

among-rows : (gs : Groups) (c : Cell) (rows : List RowFacts)
    → list_any (λ (r : RowFacts). same_key (measure_key r.measure) (cell_key c) || is_part_of gs r.measure (measure.Cell c)) rows
    ≡ among cell_key (cell_key c) (filter_map (λ (r : RowFacts). cell_of r.measure) rows)
among-rows gs c [] = refl
among-rows gs c (r ∷ rows) = by r.measure (among-rows gs c rows)
  where
    either : (b x y : Bool) → x ≡ y → ((b || false) || x) ≡ (b || y)
    either true x y e = refl
    either false x y e = e

    by : (m : Measure)
        → list_any (λ (r : RowFacts). same_key (measure_key r.measure) (cell_key c) || is_part_of gs r.measure (measure.Cell c)) rows ≡ among cell_key (cell_key c) (filter_map (λ (r : RowFacts). cell_of r.measure) rows)
        → ((same_key (measure_key m) (cell_key c) || is_part_of gs m (measure.Cell c)) || list_any (λ (r : RowFacts). same_key (measure_key r.measure) (cell_key c) || is_part_of gs r.measure (measure.Cell c)) rows)
        ≡ among cell_key (cell_key c) (cons_option (cell_of m) (filter_map (λ (r : RowFacts). cell_of r.measure) rows))
    by (measure.Cell d) rest = either (same_key (cell_key d) (cell_key c)) _ _ rest
    by (measure.Total u) rest = rw (total-cell u c) rest

pub cells-live : (p : ProblemFacts) → IsProblem p → filter_map cell_of (live_measures p) ≡ cell_rows p
cells-live p ok =
    same-list cell_key cell_key-injective (filter_map cell_of (live_measures p)) (cell_rows p) (cells-sorted (live_measures p) (live-sorted p))
    (Sorted-cells p.rows (Sorted-from_ascending (λ (r : RowFacts). measure_key r.measure) p.rows ok.in_order))
    (λ c. among-cells c (live_measures p) ∙ live-is p (measure.Cell c) ∙ among-rows (groups p) c p.rows)

-- The live measures are the cells that have a row, and then totals.
pub live-parts : (p : ProblemFacts) → IsProblem p → live_measures p ≡ map measure.Cell (cell_rows p) ++ map measure.Total (filter_map total_in (live_measures p))
live-parts p ok =
    sym (parts (live_measures p) (live-sorted p))
    ∙ ap (λ cs. map measure.Cell cs ++ map measure.Total (filter_map total_in (live_measures p))) (cells-live p ok)
