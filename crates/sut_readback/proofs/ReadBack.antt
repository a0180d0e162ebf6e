-- The text of a table of a problem reads back as that table.
use Rattle.std.proofs.Common.{◌≡◌, ◌<◌, ◌^◌, ◌+◌, ◌++◌, ◌∷◌, ◌∙◌, ℕ, ℤ, List, [], true, if◌then◌else◌, Some, None, Ok, map, refl, sym, ap, append_assoc, subst}
use Rattle.std.specs.Prelude.{All, neg_ℤ}
use Rattle.std.specs.List.{filter_map}
use Rattle.std.proofs.lemmas.Bool.Decides.{Decides-int_eq}
use Rattle.std.proofs.lemmas.List.{append-nil}
use Rattle.std.proofs.lemmas.List.Elements.{All-head, All-tail}
use Rattle.std.proofs.lemmas.Slice.Eq.{bytes_eq-Decides}
use lib.Signed.{mag}
use Rattle.sut_text.proofs.Spelling.{whole-spelled}
use Rattle.sut_records.specs.FirstFault.{read_lines}
use Rattle.sut_records.proofs.FirstFaultLemmas.{line-judged, lines-ended}
use Rattle.sut_records.proofs.PlainText.{printed-file}
use Rattle.sut_classes.specs.Kept.{IsClasses}
use Rattle.sut_measures.specs.Fits.{fits}
use Rattle.sut_measures.specs.Keys.{measure_key}
use Rattle.sut_measures.specs.declared.measures.Total.{Total}
use Rattle.sut_measures.specs.declared.measures.Measure.{Measure}
use Rattle.sut_measures.specs.declared.measures.Measure.TheVariants as measure
use Rattle.sut_measures.proofs.RoundTrip.{measure_of-name}
use Rattle.sut_tables.specs.ProblemFacts.{ProblemFacts}
use Rattle.sut_tables.specs.ProblemRules.{IsKept}
use Rattle.sut_tables.specs.Problems.{IsTableOf, live_measures}
use Rattle.sut_tables.specs.Rows.{InRange, limit}
use Rattle.sut_tables.specs.TableFacts.{TableFacts}
use Rattle.sut_tables.specs.Values.{number_at, total_value, value_of}
use Rattle.sut_tables.specs.declared.tables.Held.{Held}
use Rattle.sut_tables.proofs.Conservation.{Sorted-table}
use Rattle.sut_tables.proofs.LiveFits.{live-fits}
use Rattle.sut_tables.proofs.Ordered.{same-refl}
use Rattle.sut_tables.proofs.Tests.{lt_is_false}
use Rattle.sut_tables.proofs.Undo.{numbers_there}
use Rattle.sut_readback.specs.BalancedText.{balanced_header, balanced_line, balanced_lines, balanced_text, target_text}
use Rattle.sut_readback.specs.BalancedFile.{TableSoFar, balanced_in, balanced_of, is_cell_number, name_in, next_named, number_in, table_line, with_value}
use Rattle.sut_readback.specs.ReadingView.{measure_at, total_in}
use Rattle.sut_readback.proofs.ClassLemmas.{distinct-codes, groups-there}
use Rattle.sut_readback.proofs.FileLemmas.{table-whole, under-header}
use Rattle.sut_readback.proofs.LineLemmas.{given-value, line-good, value-good}
use Rattle.sut_readback.proofs.LiveParts.{live-parts}
use Rattle.sut_readback.proofs.Bounds.{value-small}
use Rattle.sut_readback.proofs.PlainLines.{header-plain, lines-plain, no-mark}

pub cell-number : (x : ℤ) → InRange x → is_cell_number x ≡ true
cell-number x r = rw (lt_is_false x (neg_ℤ limit) r.low, lt_is_false limit x r.high) refl

held-measures : (hs : List Held) → map measure.Cell (map (λ (h : Held). h.cell) hs) ≡ map measure_at hs
held-measures [] = refl
held-measures (h ∷ hs) = ap (λ ms. measure_at h ∷ ms) (held-measures hs)

-- the live measures are the table's cells, and then totals
pub table-first : (p : ProblemFacts) (t : TableFacts) → IsKept p → IsTableOf p t → live_measures p ≡ map measure_at t.cells ++ map measure.Total (filter_map total_in (live_measures p))
table-first p t kept of =
    live-parts p kept.problem
    ∙ ap (λ ms. ms ++ map measure.Total (filter_map total_in (live_measures p))) (ap (map measure.Cell) (sym of.cells) ∙ held-measures t.cells)

module _ (p : ProblemFacts) (t : TableFacts) (classes : IsClasses p.classes) (small : (m : Measure) → mag (value_of t m) < 2 ^ 127) where
  -- these cells are read, and these measures are to come
  abbrev state : List Held → List Measure → TableSoFar
  state done ms = record { table = record t { cells = done }; coming = ms }

  abbrev Fitting : List Measure → Type 0
  Fitting ms = All (λ m. fits p.classes m ≡ true) ms

  line-back : (n : ℕ) (done : List Held) (m : Measure) (ms : List Measure) (after : TableSoFar) → fits p.classes m ≡ true
      → with_value (state done (m ∷ ms)) m (value_of t m) ≡ Ok after
      → table_line p n (state done (m ∷ ms)) (balanced_line p t m) ≡ Ok after
  line-back n done m ms after fit given =
      let named : next_named (Some m) (name_in p.classes (balanced_line p t m)) ≡ Some m =
      ap (next_named (Some m)) (measure_of-name p.classes (distinct-codes p.classes classes) m fit) ∙ ap (λ b. if b then Some m else None) (same-refl (measure_key m)) in
      line-good p n (state done (m ∷ ms)) after (balanced_line p t m)
      (given-value p (state done (m ∷ ms)) (balanced_line p t m) (m, value_of t m) (Ok after)
      (value-good p (Some m) (balanced_line p t m) m (value_of t m) refl named ((bytes_eq-Decides (target_text p m) (target_text p m)).1 refl) (ap number_in (whole-spelled (value_of t m) (small m))))
      given)

  cell-given : (done : List Held) (h : Held) (ms : List Measure) (x : ℤ) → x ≡ h.number → InRange h.number → with_value (state done (measure_at h ∷ ms)) (measure_at h) x ≡ Ok (state (done ++ h ∷ []) ms)
  cell-given done h ms x is range = rw (is, cell-number h.number range) refl

  total-given : (u : Total) (ms : List Measure) → with_value (state t.cells (measure.Total u ∷ ms)) (measure.Total u) (total_value t u) ≡ Ok (state t.cells ms)
  total-given u ms = rw ((Decides-int_eq (total_value t u) (total_value t u)).1 refl) refl

  read-totals : (us : List Total) → Fitting (map measure.Total us) → (n : ℕ)
      → read_lines (table_line p) n (state t.cells (map measure.Total us)) (map (balanced_line p t) (map measure.Total us)) ≡ Ok (state t.cells [])
  read-totals [] fit n = lines-ended (table_line p) n (state t.cells []) [] refl
  read-totals (u ∷ us) fit n =
      line-judged (table_line p) n (state t.cells (map measure.Total (u ∷ us))) (map (balanced_line p t) (map measure.Total (u ∷ us))) (balanced_line p t (measure.Total u)) (map (balanced_line p t) (map measure.Total us)) (Ok (state t.cells (map measure.Total us))) refl
      (line-back n t.cells (measure.Total u) (map measure.Total us) (state t.cells (map measure.Total us)) (All-head (λ m. fits p.classes m ≡ true) (measure.Total u) (map measure.Total us) fit) (total-given u (map measure.Total us)))
      ∙ read-totals us (All-tail (λ m. fits p.classes m ≡ true) (measure.Total u) (map measure.Total us) fit) (n + 1)

  read-cells : (us : List Total) (left done : List Held) → done ++ left ≡ t.cells → Fitting (map measure_at left ++ map measure.Total us)
      → All (λ (h : Held). InRange h.number) left → All (λ (h : Held). number_at t.cells h.cell ≡ h.number) left → (n : ℕ)
      → read_lines (table_line p) n (state done (map measure_at left ++ map measure.Total us)) (map (balanced_line p t) (map measure_at left ++ map measure.Total us)) ≡ Ok (state t.cells [])
  read-cells us [] done parts fit ranges there n =
      let same : done ≡ t.cells = sym (append-nil done) ∙ parts in
      ap (λ hs. read_lines (table_line p) n (state hs (map measure.Total us)) (map (balanced_line p t) (map measure.Total us))) same ∙ read-totals us fit n
  read-cells us (h ∷ left) done parts fit ranges there n =
      let ms = map measure_at left ++ map measure.Total us in
      line-judged (table_line p) n (state done (measure_at h ∷ ms)) (map (balanced_line p t) (measure_at h ∷ ms)) (balanced_line p t (measure_at h)) (map (balanced_line p t) ms) (Ok (state (done ++ h ∷ []) ms)) refl
      (line-back n done (measure_at h) ms (state (done ++ h ∷ []) ms) (All-head (λ m. fits p.classes m ≡ true) (measure_at h) ms fit)
      (cell-given done h ms (number_at t.cells h.cell) (All-head (λ (h : Held). number_at t.cells h.cell ≡ h.number) h left there) (All-head (λ (h : Held). InRange h.number) h left ranges)))
      ∙ read-cells us left (done ++ h ∷ []) (append_assoc done (h ∷ []) left ∙ parts) (All-tail (λ m. fits p.classes m ≡ true) (measure_at h) ms fit)
      (All-tail (λ (h : Held). InRange h.number) h left ranges) (All-tail (λ (h : Held). number_at t.cells h.cell ≡ h.number) h left there) (n + 1)

  table-back : IsKept p → IsTableOf p t → All (λ (h : Held). InRange h.number) t.cells → balanced_in p (balanced_header ∷ balanced_lines p t) ≡ Ok t
  table-back kept of ranges =
      let us = filter_map total_in (live_measures p) in
      let live = table-first p t kept of in
      let fit = subst Fitting live (live-fits p kept.problem (groups-there p.classes classes)) in
      let there = numbers_there t.cells (Sorted-table p t kept.problem of) in
      under-header p (balanced_header ∷ balanced_lines p t) balanced_header (balanced_lines p t) refl refl
      ∙ table-whole p (balanced_lines p t) (state t.cells [])
      ((λ i. read_lines (table_line p) 2 (record { table = record { groups = (sym of.groups) i; cells = [] }; coming = live i }) (map (balanced_line p t) (live i)))
      ∙ read-cells us t.cells [] refl fit ranges there 2)
      refl

-- The text of a table of a problem, with numbers of cells in -10^12 to 10^12, reads back as that table.
pub printed-table : (p : ProblemFacts) (t : TableFacts) → IsClasses p.classes → IsKept p → IsTableOf p t → All (λ (h : Held). InRange h.number) t.cells → balanced_of p (balanced_text p t) ≡ Ok t
unfolding balanced_text
printed-table p t classes kept of ranges =
    ap (balanced_in p) (printed-file balanced_header (balanced_lines p t) header-plain (lines-plain p t classes kept of ranges) (no-mark (balanced_lines p t)))
    ∙ table-back p t classes (value-small p t kept of ranges) kept of ranges
