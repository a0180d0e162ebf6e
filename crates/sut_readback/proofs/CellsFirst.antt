-- Measures of which the cells come first: which one is next, and what is read with it.
use Rattle.std.proofs.Common.{◌≡◌, ◌<◌, ◌≤◌, ◌+◌, ◌++◌, ◌∷◌, ◌∙◌, ℕ, zero, suc, ℤ, List, [], Bool, true, false, if◌then◌else◌, Some, length, get_or, drop, take, map, refl, sym, ap, subst, arith, add-one}
use Rattle.std.specs.Prelude.{slice_get}
use Rattle.std.specs.List.{filter_map}
use Rattle.std.proofs.lemmas.List.{take_all}
use Rattle.sut_measures.specs.Keys.{cell_key}
use Rattle.sut_measures.specs.Sums.{same_cell}
use Rattle.sut_measures.specs.declared.measures.Cell.{Cell}
use Rattle.sut_measures.specs.declared.measures.Total.{Total}
use Rattle.sut_measures.specs.declared.measures.Measure.{Measure}
use Rattle.sut_measures.specs.declared.measures.Measure.TheVariants as measure
use Rattle.sut_tables.specs.declared.tables.Held.{Held}
use Rattle.sut_tables.specs.Breaks.{first_of}
use Rattle.sut_tables.specs.InOrder.{IsAscending, same_key}
use Rattle.sut_tables.specs.TableFacts.{TableFacts}
use Rattle.sut_tables.specs.Tables.{put_number}
use Rattle.sut_tables.proofs.Conservation.{Sorted-from_ascending}
use Rattle.sut_tables.proofs.HeldCells.{put_in, with_number}
use Rattle.sut_tables.proofs.Lists.{After-differ}
use Rattle.sut_tables.proofs.Ordered.{Sorted, same-refl}
use Rattle.sut_readback.specs.BalancedFile.{with_cell}
use Rattle.sut_readback.specs.ReadingView.{HasCellsFirst, measure_at, reading_of, total_in}
use Rattle.sut_readback.specs.declared.reading.Reading.TheInside.{Inside}
use Rattle.sut_readback.proofs.ListSteps.{drop-more, get-first}

no-cell : (us : List Total) (k : ℕ) (c : Cell) → slice_get (map measure.Total us) k ≡ Some (measure.Cell c) → ⊥
no-cell [] k c e = cc
no-cell (u ∷ us) zero c e = cc
no-cell (u ∷ us) (suc k) c e = no-cell us k c e

-- a cell at a place is that of the table at this place
pub next-cell : (hs : List Held) (us : List Total) (k : ℕ) (c : Cell) → slice_get (map measure_at hs ++ map measure.Total us) k ≡ Some (measure.Cell c)
    → (k < length hs) × ((d : Held) → (get_or hs k d).cell ≡ c)
next-cell [] us k c e = absurd (no-cell us k c e)
next-cell (h ∷ hs) us zero c e = (omega arith, λ d. cc e)
next-cell (h ∷ hs) us (suc k) c e = let later = next-cell hs us k c e in (omega (arith, later.0), later.1)

-- at a total, and at the end, all cells are past
pub next-total : (hs : List Held) (us : List Total) (k : ℕ) (u : Total) → slice_get (map measure_at hs ++ map measure.Total us) k ≡ Some (measure.Total u) → length hs ≤ k
next-total [] us k u e = omega arith
next-total (h ∷ hs) us zero u e = cc
next-total (h ∷ hs) us (suc k) u e = let later = next-total hs us k u e in omega (arith, later)

pub next-none : (hs : List Held) (us : List Total) (k : ℕ) → drop k (map measure_at hs ++ map measure.Total us) ≡ [] → length hs ≤ k
next-none [] us k e = omega arith
next-none (h ∷ hs) us zero e = cc
next-none (h ∷ hs) us (suc k) e = let later = next-none hs us k e in omega (arith, later)

-- a number that is put changes no cell
pub cells-kept : (c : Cell) (x : ℤ) (hs : List Held) → map measure_at (map (put_in c x) hs) ≡ map measure_at hs
cells-kept c x [] = refl
cells-kept c x (h ∷ hs) =
    ap (λ m. m ∷ map measure_at (map (put_in c x) hs)) (kept (same_cell h.cell c)) ∙ ap (λ ms. measure_at h ∷ ms) (cells-kept c x hs)
  where
    kept : (b : Bool) → measure_at (if b then with_number h x else h) ≡ measure_at h
    kept true = refl
    kept false = refl

-- the cells up to this one, once its number is put
pub taken-more : (c : Cell) (x : ℤ) (hs : List Held) → Sorted (λ (h : Held). cell_key h.cell) hs → (k : ℕ) → k < length hs → ((d : Held) → (get_or hs k d).cell ≡ c)
    → take (suc k) (map (put_in c x) hs) ≡ take k hs ++ record { cell = c; number = x } ∷ []
taken-more c x [] s k l at = absurd (omega arith)
taken-more c x (h ∷ hs) s zero l at = rw (at h, same-refl (cell_key c)) refl
taken-more c x (h ∷ hs) s (suc k) l at =
    let apart : same_cell h.cell c ≡ false = subst (λ d. same_key (cell_key h.cell) (cell_key d) ≡ false) (at h) (After-differ (λ (g : Held). cell_key g.cell) (cell_key h.cell) hs s.0 k h (omega arith)) in
    rw apart (ap (λ gs. h ∷ gs) (taken-more c x hs s.1 k (omega arith) at))

-- ---- what a reading stands for

pub first-kept : (ms live : List Measure) (t : TableFacts) → ms ≡ live → live ≡ map measure_at t.cells ++ map measure.Total (filter_map total_in live) → ms ≡ map measure_at t.cells ++ map measure.Total (filter_map total_in ms)
first-kept ms live t same first = subst (λ ns. ns ≡ map measure_at t.cells ++ map measure.Total (filter_map total_in ns)) (sym same) first

module _ (r : Inside) where
  pub total-next : (u : Total) → HasCellsFirst r → first_of (drop r.lines r.measures.items) ≡ Some (measure.Total u) → length r.table.cells ≤ r.lines
  total-next u first next =
      next-total r.table.cells (filter_map total_in r.measures.items) r.lines u
      (subst (λ ms. slice_get ms r.lines ≡ Some (measure.Total u)) first (get-first r.measures.items r.lines ∙ next))

  pub cell-next : (c : Cell) → HasCellsFirst r → first_of (drop r.lines r.measures.items) ≡ Some (measure.Cell c) → (r.lines < length r.table.cells) × ((d : Held) → (get_or r.table.cells r.lines d).cell ≡ c)
  cell-next c first next =
      next-cell r.table.cells (filter_map total_in r.measures.items) r.lines c
      (subst (λ ms. slice_get ms r.lines ≡ Some (measure.Cell c)) first (get-first r.measures.items r.lines ∙ next))

  -- the view after a total
  pub passed : length r.table.cells ≤ r.lines → reading_of (record r { lines = r.lines + 1 }) ≡ record (reading_of r) { coming = drop 1 (drop r.lines r.measures.items) }
  passed past =
      let all : take (r.lines + 1) r.table.cells ≡ take r.lines r.table.cells = take_all (r.lines + 1) r.table.cells (omega arith) ∙ sym (take_all r.lines r.table.cells past) in
      (λ i. record { table = record r.table { cells = all i }; coming = drop-more r.measures.items r.lines i })

  pub all-taken : length r.table.cells ≤ r.lines → r.table ≡ (reading_of r).table
  all-taken past = ap (λ hs. record r.table { cells = hs }) (sym (take_all r.lines r.table.cells past))

  -- the view at the end
  pub all-read : HasCellsFirst r → drop r.lines r.measures.items ≡ [] → r.table ≡ (reading_of r).table
  all-read first none =
      all-taken (next-none r.table.cells (filter_map total_in r.measures.items) r.lines (subst (λ ms. drop r.lines ms ≡ []) first none))

  pub put-keeps : (t : TableFacts) (c : Cell) (x : ℤ) → t ≡ put_number r.table c x → HasCellsFirst r → r.measures.items ≡ map measure_at t.cells ++ map measure.Total (filter_map total_in r.measures.items)
  put-keeps t c x put first =
      first ∙ ap (λ ms. ms ++ map measure.Total (filter_map total_in r.measures.items)) (sym (cells-kept c x r.table.cells) ∙ sym (ap (λ (t : TableFacts). map measure_at t.cells) put))

  -- the view after a cell
  pub put-read : (t : TableFacts) (c : Cell) (x : ℤ) → t ≡ put_number r.table c x → (hs : List Held) → hs ≡ r.table.cells → IsAscending (λ (h : Held). cell_key h.cell) hs
      → (r.lines < length r.table.cells) × ((d : Held) → (get_or r.table.cells r.lines d).cell ≡ c)
      → reading_of (record r { table = t; lines = r.lines + 1 }) ≡ with_cell (reading_of r) c x
  put-read t c x put hs same ascending here =
      let sorted : Sorted (λ (h : Held). cell_key h.cell) r.table.cells = subst (Sorted (λ (h : Held). cell_key h.cell)) same (Sorted-from_ascending (λ (h : Held). cell_key h.cell) hs ascending) in
      let taken : take (r.lines + 1) (map (put_in c x) r.table.cells) ≡ take r.lines r.table.cells ++ record { cell = c; number = x } ∷ [] =
      ap (λ n. take n (map (put_in c x) r.table.cells)) (add-one r.lines) ∙ taken-more c x r.table.cells sorted r.lines here.0 here.1 in
      ap (λ (t : TableFacts). reading_of (record r { table = t; lines = r.lines + 1 })) put
      ∙ (λ i. record { table = record r.table { cells = taken i }; coming = drop-more r.measures.items r.lines i })
