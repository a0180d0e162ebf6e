-- A table has one list of records: those of its text.
use Rattle.std.proofs.Common.{◌≡◌, ◌+◌, ◌≤◌, ◌++◌, ◌∷◌, ◌∙◌, ℕ, ℤ, List, [], true, Ok, Some, length, get_or, drop, map, refl, sym, ap, subst, arith, append_assoc, length-append}
use Rattle.std.specs.List.{filter_map}
use Rattle.std.specs.Str.{bytes_eq}
use Rattle.std.proofs.lemmas.Bool.Decides.{Decides-int_eq}
use Rattle.std.proofs.lemmas.List.{append-nil}
use Rattle.std.proofs.lemmas.Slice.Eq.{bytes_eq-Decides}
use Rattle.sut_text.specs.Text.{whole_text}
use Rattle.sut_records.specs.RecordList.{Fields, field, same_fields}
use Rattle.sut_records.specs.FirstFault.{read_lines}
use Rattle.sut_classes.proofs.PlainLines.{both}
use Rattle.sut_measures.specs.Keys.{cell_key, measure_key}
use Rattle.sut_measures.specs.declared.measures.Cell.{Cell}
use Rattle.sut_measures.specs.declared.measures.Total.{Total}
use Rattle.sut_measures.specs.declared.measures.Measure.{Measure}
use Rattle.sut_measures.specs.declared.measures.Measure.TheVariants as measure
use Rattle.sut_measures.proofs.RoundTrip.{name-measure_of}
use Rattle.sut_tables.specs.Breaks.{first_of}
use Rattle.sut_tables.specs.ProblemFacts.{ProblemFacts}
use Rattle.sut_tables.specs.Problems.{IsProblem, cell_of, cell_rows}
use Rattle.sut_tables.specs.TableFacts.{TableFacts}
use Rattle.sut_tables.specs.Values.{number_at, total_value, value_of}
use Rattle.sut_tables.specs.declared.tables.Held.{Held}
use Rattle.sut_tables.proofs.Conservation.{Sorted-table, live-sorted}
use Rattle.sut_tables.proofs.Ordered.{Sorted}
use Rattle.sut_tables.proofs.Undo.{numbers_there}
use Rattle.sut_readback.specs.BalancedText.{balanced_header, balanced_line, balanced_lines, target_text}
use Rattle.sut_readback.specs.BalancedFile.{TableSoFar, balanced_in, name_in, nothing_read, table_line, with_cell, with_value}
use Rattle.sut_readback.proofs.Belongs.{IsPart, cell-taken, first-then, header-read, nothing-part, part-kept, table-read, table_in-belongs, total-taken}
use Rattle.sut_readback.proofs.LineParts.{IsTaken, and_then-ok, line-taken}
use Rattle.sut_readback.proofs.LiveParts.{no-cells}

-- ---- a line

six-fields : (line : Fields) → length line ≡ 6 → line ≡ field line 0 ∷ field line 1 ∷ field line 2 ∷ field line 3 ∷ field line 4 ∷ field line 5 ∷ []
six-fields [] h = absurd (omega (arith, h))
six-fields (a ∷ []) h = absurd (omega (arith, h))
six-fields (a ∷ b ∷ []) h = absurd (omega (arith, h))
six-fields (a ∷ b ∷ c ∷ []) h = absurd (omega (arith, h))
six-fields (a ∷ b ∷ c ∷ d ∷ []) h = absurd (omega (arith, h))
six-fields (a ∷ b ∷ c ∷ d ∷ e ∷ []) h = absurd (omega (arith, h))
six-fields (a ∷ b ∷ c ∷ d ∷ e ∷ f ∷ []) h = refl
six-fields (a ∷ b ∷ c ∷ d ∷ e ∷ f ∷ g ∷ rest) h = absurd (omega (arith, h))

line-is : (p : ProblemFacts) (t : TableFacts) (line : Fields) (m : Measure) (x : ℤ) → length line ≡ 6 → name_in p.classes line ≡ Ok m → field line 4 ≡ target_text p m → field line 5 ≡ whole_text x
    → x ≡ value_of t m → line ≡ balanced_line p t m
line-is p t line m x wide named target value is =
    let printed : field line 5 ≡ whole_text (value_of t m) = value ∙ ap (λ z. whole_text z) is in
    six-fields line wide
    ∙ (λ i. field line 0 ∷ field line 1 ∷ field line 2 ∷ field line 3 ∷ target i ∷ printed i ∷ [])
    ∙ sym (ap (λ ns. ns ++ target_text p m ∷ whole_text (value_of t m) ∷ []) (name-measure_of p.classes (field line 0) (field line 1) (field line 2) (field line 3) m named))

same-record : (xs ys : Fields) → same_fields xs ys ≡ true → xs ≡ ys
same-record [] [] e = refl
same-record [] (y ∷ ys) e = cc
same-record (x ∷ xs) [] e = cc
same-record (x ∷ xs) (y ∷ ys) e =
    let parts = both (bytes_eq x y) (same_fields xs ys) e in
    let first : x ≡ y = (bytes_eq-Decides x y).0 parts.0 in
    let rest : xs ≡ ys = same-record xs ys parts.1 in
    (λ i. first i ∷ rest i)

-- ---- the cells of the table

abbrev cells_in : List Held → List Cell
cells_in hs = map (λ (h : Held). h.cell) hs

held-at : (hs : List Held) (h : Held) (more : List Held) → get_or ((hs ++ h ∷ []) ++ more) (length hs) h ≡ h
held-at [] h more = refl
held-at (g ∷ hs) h more = held-at hs h more

held-within : (hs : List Held) (h : Held) (more : List Held) → length hs + 1 ≤ length ((hs ++ h ∷ []) ++ more)
held-within hs h more = omega (arith, length-append (hs ++ h ∷ []) more, length-append hs (h ∷ []))

-- a cell that was read has its number
number-read : (all hs : List Held) (h : Held) (more : List Held) → Sorted (λ (g : Held). cell_key g.cell) all → all ≡ (hs ++ h ∷ []) ++ more → h.number ≡ number_at all h.cell
number-read all hs h more sorted is =
    let within : length hs + 1 ≤ length all = subst (λ gs. length hs + 1 ≤ length gs) (sym is) (held-within hs h more) in
    let there = numbers_there all sorted (length hs) h (omega arith) in
    let at : get_or all (length hs) h ≡ h = ap (λ gs. get_or gs (length hs) h) is ∙ held-at hs h more in
    sym (subst (λ (g : Held). number_at all g.cell ≡ g.number) at there)

none-more : (hs more : List Held) → cells_in (hs ++ more) ≡ cells_in hs → more ≡ []
none-more [] [] e = refl
none-more [] (m ∷ more) e = cc
none-more (h ∷ hs) more e = let rest : cells_in (hs ++ more) ≡ cells_in hs = cc in none-more hs more rest

sorted-rest : (ms : List Measure) → Sorted measure_key ms → Sorted measure_key (drop 1 ms)
sorted-rest [] s = tt
sorted-rest (m ∷ ms) s = s.1

-- no cell comes after a total
total-last : (ms : List Measure) (u : Total) → Sorted measure_key ms → first_of ms ≡ Some (measure.Total u) → filter_map cell_of ms ≡ []
total-last [] u s e = refl
total-last (m ∷ ms) u s e =
    let is : m ≡ measure.Total u = cc in
    subst (λ n. filter_map cell_of (n ∷ ms) ≡ []) (sym is) (no-cells u ms ((subst (λ n. Sorted measure_key (n ∷ ms)) is s).0))

-- ---- the lines

-- what the lines that are left give: more cells, and the lines are those of the table
record IsRest (p : ProblemFacts) (before : TableSoFar) (t : TableFacts) (lines : List Fields) : Type 0 where
  more : List Held
  cells : t.cells ≡ before.table.cells ++ more
  groups : t.groups ≡ before.table.groups
  printed : lines ≡ map (balanced_line p t) before.coming

module _ (p : ProblemFacts) (t : TableFacts) (sorted : Sorted (λ (h : Held). cell_key h.cell) t.cells) (whole : cells_in t.cells ≡ cell_rows p) where
  ended : (before : TableSoFar) → before ≡ record { table = t; coming = [] } → IsRest p before t []
  ended before same = record {
    more = [];
    cells = ap (λ (s : TableSoFar). s.table.cells) (sym same) ∙ sym (append-nil before.table.cells);
    groups = ap (λ (s : TableSoFar). s.table.groups) (sym same);
    printed = sym (ap (λ (s : TableSoFar). map (balanced_line p t) s.coming) same);
  }

  cell-more : (before : TableSoFar) (line : Fields) (lines : List Fields) (c : Cell) (x : ℤ) → first_of before.coming ≡ Some (measure.Cell c) → (x ≡ value_of t (measure.Cell c) → line ≡ balanced_line p t (measure.Cell c))
      → IsRest p (with_cell before c x) t lines → IsRest p before t (line ∷ lines)
  cell-more before line lines c x first here rest =
      let h : Held = record { cell = c; number = x } in
      let this : line ≡ balanced_line p t (measure.Cell c) = here (number-read t.cells before.table.cells h rest.more sorted rest.cells) in
      let later : lines ≡ map (balanced_line p t) (drop 1 before.coming) = rest.printed in
      record {
        more = h ∷ rest.more;
        cells = rest.cells ∙ append_assoc before.table.cells (h ∷ []) rest.more;
        groups = rest.groups;
        printed = (λ i. this i ∷ later i) ∙ sym (ap (map (balanced_line p t)) (first-then before.coming (measure.Cell c) first));
      }

  total-more : (before : TableSoFar) (line : Fields) (lines : List Fields) (u : Total) (x : ℤ) → first_of before.coming ≡ Some (measure.Total u) → Sorted measure_key before.coming → IsPart p before
      → x ≡ total_value before.table u → (x ≡ value_of t (measure.Total u) → line ≡ balanced_line p t (measure.Total u))
      → IsRest p (record before { coming = drop 1 before.coming }) t lines → IsRest p before t (line ∷ lines)
  total-more before line lines u x first order part is here rest =
      let none : filter_map cell_of before.coming ≡ [] = total-last before.coming u order first in
      let all : cells_in before.table.cells ≡ cell_rows p = sym (append-nil (cells_in before.table.cells)) ∙ sym (ap (λ cs. cells_in before.table.cells ++ cs) none) ∙ part.cells in
      let empty : rest.more ≡ [] = none-more before.table.cells rest.more (ap cells_in (sym rest.cells) ∙ whole ∙ sym all) in
      let cells : t.cells ≡ before.table.cells = rest.cells ∙ ap (λ hs. before.table.cells ++ hs) empty ∙ append-nil before.table.cells in
      let same : t ≡ before.table = (λ i. record { groups = rest.groups i; cells = cells i }) in
      let this : line ≡ balanced_line p t (measure.Total u) = here (is ∙ ap (λ (w : TableFacts). total_value w u) (sym same)) in
      let later : lines ≡ map (balanced_line p t) (drop 1 before.coming) = rest.printed in
      record {
        more = rest.more;
        cells = rest.cells;
        groups = rest.groups;
        printed = (λ i. this i ∷ later i) ∙ sym (ap (map (balanced_line p t)) (first-then before.coming (measure.Total u) first));
      }

  rest-read : (lines : List Fields) (n : ℕ) (before : TableSoFar) → IsPart p before → Sorted measure_key before.coming
      → read_lines (table_line p) n before lines ≡ Ok (record { table = t; coming = [] }) → IsRest p before t lines
  unfolding read_lines
  rest-read [] n before part order e = ended before cc
  rest-read (line ∷ lines) n before part order e = by taken.measure taken.next taken.given (line-is p t line taken.measure taken.number taken.wide taken.named taken.target taken.value) (rest-read lines (n + 1))
    where
      after : TableSoFar
      after = (and_then-ok (table_line p n before line) (λ mid. read_lines (table_line p) (n + 1) mid lines) (record { table = t; coming = [] }) e).0

      judged : table_line p n before line ≡ Ok after
      judged = (and_then-ok (table_line p n before line) (λ mid. read_lines (table_line p) (n + 1) mid lines) (record { table = t; coming = [] }) e).1

      left : read_lines (table_line p) (n + 1) after lines ≡ Ok (record { table = t; coming = [] })
      left = (and_then-ok (table_line p n before line) (λ mid. read_lines (table_line p) (n + 1) mid lines) (record { table = t; coming = [] }) e).2

      taken : IsTaken p before after line
      taken = line-taken p n before after line judged

      part_after : IsPart p after
      part_after = part-kept p n before after line judged part

      by : (m : Measure) → first_of before.coming ≡ Some m → with_value before m taken.number ≡ Ok after → (taken.number ≡ value_of t m → line ≡ balanced_line p t m)
          → ((mid : TableSoFar) → IsPart p mid → Sorted measure_key mid.coming → read_lines (table_line p) (n + 1) mid lines ≡ Ok (record { table = t; coming = [] }) → IsRest p mid t lines)
          → IsRest p before t (line ∷ lines)
      by (measure.Cell c) first given here later =
          let is : with_cell before c taken.number ≡ after = (cell-taken before after c taken.number given).1 in
          cell-more before line lines c taken.number first here
          (later (with_cell before c taken.number) (subst (IsPart p) (sym is) part_after) (sorted-rest before.coming order)
          (subst (λ s. read_lines (table_line p) (n + 1) s lines ≡ Ok (record { table = t; coming = [] })) (sym is) left))
      by (measure.Total u) first given here later =
          let step = total-taken before after u taken.number given in
          total-more before line lines u taken.number first order part ((Decides-int_eq taken.number (total_value before.table u)).0 step.0) here
          (later (record before { coming = drop 1 before.coming }) (subst (IsPart p) (sym step.1) part_after) (sorted-rest before.coming order)
          (subst (λ s. read_lines (table_line p) (n + 1) s lines ≡ Ok (record { table = t; coming = [] })) (sym step.1) left))

-- Records that give a table are those of its text.
pub one-list : (p : ProblemFacts) → IsProblem p → (records : List Fields) (t : TableFacts) → balanced_in p records ≡ Ok t → records ≡ balanced_header ∷ balanced_lines p t
one-list p ok records t e =
    let read = header-read p records t e in
    let of = table_in-belongs p ok read.1 t read.4 in
    let lines : read.1 ≡ balanced_lines p t = (rest-read p t (Sorted-table p t ok of) (of.cells) read.1 2 (nothing_read p) (nothing-part p ok) (live-sorted p) (table-read p read.1 t read.4).all).printed in
    let header : read.0 ≡ balanced_header = same-record read.0 balanced_header read.3 in
    read.2 ∙ (λ i. header i ∷ lines i)
