-- The table that a file gives is one of the problem.
use Rattle.std.proofs.Common.{◌≡◌, ◌≢◌, ◌+◌, ◌++◌, ◌∷◌, ◌∙◌, ℕ, ℤ, List, [], true, Some, Result, Ok, Err, length, drop, map, refl, sym, ap, subst, append_assoc}
use Rattle.std.specs.Prelude.{◌==◌, IfErr, IfOk}
use Rattle.std.specs.List.{filter_map}
use Rattle.std.specs.Ordering.{int_eq}
use Rattle.std.proofs.lemmas.Bool.{eqb-true}
use Rattle.std.proofs.lemmas.List.{append-nil, map-append}
use Rattle.sut_records.specs.RecordList.{Fields, same_fields}
use Rattle.sut_records.specs.FirstFault.{read_lines}
use Rattle.sut_measures.specs.declared.measures.Cell.{Cell}
use Rattle.sut_measures.specs.declared.measures.Measure.{Measure}
use Rattle.sut_measures.specs.declared.measures.Measure.TheVariants as measure
use Rattle.sut_measures.specs.declared.measures.Total.{Total}
use Rattle.sut_tables.specs.declared.tables.Held.{Held}
use Rattle.sut_tables.specs.Breaks.{first_of}
use Rattle.sut_tables.specs.ProblemFacts.{ProblemFacts}
use Rattle.sut_tables.specs.Problems.{IsProblem, IsTableOf, cell_of, cell_rows, groups}
use Rattle.sut_tables.specs.TableFacts.{TableFacts}
use Rattle.sut_tables.specs.Values.{total_value}
use Rattle.sut_readback.specs.BalancedText.{balanced_header}
use Rattle.sut_readback.specs.BalancedFile.{TableSoFar, balanced_in, is_cell_number, nothing_read, table_in, table_line, whole_table, with_cell, with_value, wrong_header}
use Rattle.sut_readback.specs.declared.faults.BalancedCause.TheVariants as fault
use Rattle.sut_readback.specs.declared.faults.BalancedFault.{BalancedFault}
use Rattle.sut_readback.proofs.LineParts.{IsTaken, and_then-ok, line-taken, only_if-ok}
use Rattle.sut_readback.proofs.LiveParts.{cells-live}

-- what each line keeps, all lines keep
pub lines-keep : {S F : Type 0} (judge : ℕ → S → Fields → Result S F) (P : S → Type 0) → ((n : ℕ) (before after : S) (line : Fields) → judge n before line ≡ Ok after → P before → P after)
    → (lines : List Fields) (n : ℕ) (before after : S) → read_lines judge n before lines ≡ Ok after → P before → P after
unfolding read_lines
lines-keep judge P keeps [] n before after e h = let same : before ≡ after = cc in subst P same h
lines-keep judge P keeps (line ∷ lines) n before after e h =
    let step = and_then-ok (judge n before line) (λ mid. read_lines judge (n + 1) mid lines) after e in
    lines-keep judge P keeps lines (n + 1) step.0 after step.2 (keeps n before step.0 line step.1 h)

-- the first element, and those after it
pub first-then : {X : Type 0} (xs : List X) (x : X) → first_of xs ≡ Some x → xs ≡ x ∷ drop 1 xs
first-then [] x e = cc
first-then (y ∷ xs) x e = cc

-- what a line does to the table and to the measures that come
pub cell-taken : (before after : TableSoFar) (c : Cell) (x : ℤ) → with_value before (measure.Cell c) x ≡ Ok after → (is_cell_number x ≡ true) × (with_cell before c x ≡ after)
cell-taken before after c x e =
    let both = only_if-ok (is_cell_number x) fault.OutOfRange (Ok (with_cell before c x)) after e in
    (both.0, cc both.1)

pub total-taken : (before after : TableSoFar) (u : Total) (x : ℤ) → with_value before (measure.Total u) x ≡ Ok after
    → (int_eq x (total_value before.table u) ≡ true) × (record before { coming = drop 1 before.coming } ≡ after)
total-taken before after u x e =
    let both = only_if-ok (int_eq x (total_value before.table u)) (fault.WrongTotal x (total_value before.table u)) (Ok (record before { coming = drop 1 before.coming })) after e in
    (both.0, cc both.1)

-- the cells that are read and those that come are the problem's, and so are the groups
pub record IsPart (p : ProblemFacts) (s : TableSoFar) : Type 0 where
  pub cells : map (λ (h : Held). h.cell) s.table.cells ++ filter_map cell_of s.coming ≡ cell_rows p
  pub groups : s.table.groups ≡ groups p

one-more : (hs : List Held) (ms : List Measure) (c : Cell) (x : ℤ) (cs : List Cell) → first_of ms ≡ Some (measure.Cell c)
    → map (λ (h : Held). h.cell) hs ++ filter_map cell_of ms ≡ cs
    → map (λ (h : Held). h.cell) (hs ++ record { cell = c; number = x } ∷ []) ++ filter_map cell_of (drop 1 ms) ≡ cs
one-more hs ms c x cs first e =
    ap (λ ds. ds ++ filter_map cell_of (drop 1 ms)) (map-append (λ (h : Held). h.cell) hs (record { cell = c; number = x } ∷ []))
    ∙ append_assoc (map (λ (h : Held). h.cell) hs) (c ∷ []) (filter_map cell_of (drop 1 ms))
    ∙ sym (ap (λ ns. map (λ (h : Held). h.cell) hs ++ filter_map cell_of ns) (first-then ms (measure.Cell c) first))
    ∙ e

no-more : (hs : List Held) (ms : List Measure) (u : Total) (cs : List Cell) → first_of ms ≡ Some (measure.Total u)
    → map (λ (h : Held). h.cell) hs ++ filter_map cell_of ms ≡ cs
    → map (λ (h : Held). h.cell) hs ++ filter_map cell_of (drop 1 ms) ≡ cs
no-more hs ms u cs first e = sym (ap (λ ns. map (λ (h : Held). h.cell) hs ++ filter_map cell_of ns) (first-then ms (measure.Total u) first)) ∙ e

pub part-kept : (p : ProblemFacts) (n : ℕ) (before after : TableSoFar) (line : Fields) → table_line p n before line ≡ Ok after → IsPart p before → IsPart p after
part-kept p n before after line e part = by taken.measure taken.next taken.given
  where
    taken : IsTaken p before after line
    taken = line-taken p n before after line e

    by : (m : Measure) → first_of before.coming ≡ Some m → with_value before m taken.number ≡ Ok after → IsPart p after
    by (measure.Cell c) next given = subst (IsPart p) (cell-taken before after c taken.number given).1
        (record { cells = one-more before.table.cells before.coming c taken.number (cell_rows p) next part.cells; groups = part.groups })
    by (measure.Total u) next given = subst (IsPart p) (total-taken before after u taken.number given).1
        (record { cells = no-more before.table.cells before.coming u (cell_rows p) next part.cells; groups = part.groups })

pub nothing-part : (p : ProblemFacts) → IsProblem p → IsPart p (nothing_read p)
nothing-part p ok = record { cells = cells-live p ok; groups = refl }

-- ---- a whole file

empty : (ms : List Measure) → (length ms == 0) ≡ true → ms ≡ []
empty [] e = refl
empty (m ∷ ms) e = let zero_length : length (m ∷ ms) ≡ 0 = eqb-true (length (m ∷ ms)) 0 e in cc

-- the lines of a file that gives a table, read to the end
pub record IsRead (p : ProblemFacts) (lines : List Fields) (t : TableFacts) : Type 0 where
  pub all : read_lines (table_line p) 2 (nothing_read p) lines ≡ Ok (record { table = t; coming = [] })

pub table-read : (p : ProblemFacts) (lines : List Fields) (t : TableFacts) → table_in p lines ≡ Ok t → IsRead p lines t
unfolding table_in
table-read p lines t e =
    let read = and_then-ok (read_lines (table_line p) 2 (nothing_read p) lines) (whole_table (length lines + 2)) t e in
    let whole = only_if-ok (length read.0.coming == 0) (record { line = length lines + 2; cause = fault.Short }) (Ok read.0.table) t read.2 in
    record { all = read.1 ∙ ap (λ s. Ok s) (ended read.0 t (empty read.0.coming whole.0) whole.1) }
  where
    ended : (s : TableSoFar) (t : TableFacts) → s.coming ≡ [] → ◌≡◌ {A = Result TableFacts BalancedFault} (Ok s.table) (Ok t) → s ≡ record { table = t; coming = [] }
    ended s t none same = let is : s.table ≡ t = cc same in (λ i. record { table = is i; coming = none i })

pub table_in-belongs : (p : ProblemFacts) → IsProblem p → (lines : List Fields) (t : TableFacts) → table_in p lines ≡ Ok t → IsTableOf p t
table_in-belongs p ok lines t e =
    let part = lines-keep (table_line p) (IsPart p) (part-kept p) lines 2 (nothing_read p) (record { table = t; coming = [] }) (table-read p lines t e).all (nothing-part p ok) in
    record { cells = sym (append-nil (map (λ (h : Held). h.cell) t.cells)) ∙ part.cells; groups = part.groups }

-- the header and the lines of a file that gives a table
pub header-read : (p : ProblemFacts) (records : List Fields) (t : TableFacts) → balanced_in p records ≡ Ok t
    → (header : Fields) × (lines : List Fields) × (records ≡ header ∷ lines) × (same_fields header balanced_header ≡ true) × (table_in p lines ≡ Ok t)
unfolding balanced_in
header-read p [] t e = absurd cc
header-read p (header ∷ lines) t e =
    let under = only_if-ok (same_fields header balanced_header) wrong_header (table_in p lines) t e in
    (header, lines, refl, under.0, under.1)

pub balanced_in-belongs : (p : ProblemFacts) → IsProblem p → (records : List Fields) (t : TableFacts) → balanced_in p records ≡ Ok t → IsTableOf p t
balanced_in-belongs p ok records t e = let read = header-read p records t e in table_in-belongs p ok read.1 t read.4

-- the same of a reading that may want memory
pub read-belongs : (p : ProblemFacts) → IsProblem p → (lines : List Fields) (r : Result TableFacts BalancedFault)
    → (IfErr r (λ e. e.cause ≢ fault.NoMemory) → r ≡ table_in p lines) → IfOk r (λ t. IsTableOf p t)
read-belongs p ok lines (Ok t) read = table_in-belongs p ok lines t (sym (read tt))
read-belongs p ok lines (Err f) read = tt
