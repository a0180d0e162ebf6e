-- The values of an admissible table are less far from 0 than 2^60.
use Rattle.std.proofs.Common.{not, ◌≡◌, ℕ, suc, ℤ, pos, negsuc, ◌+ℤ◌, ◌*ℤ◌, neg_ℤ, List, [], ◌∷◌, refl, sym, ◌∙◌, ap, subst, arith, Bool, true, false, map, inl, inr}
use Rattle.std.specs.Prelude.{◌+◌, if◌then◌else◌, All, ◌*◌, ◌^◌, ◌≤◌, ◌≤ℤ◌, ◌<ℤ◌, length, filter, ◌⊎◌, cond}
use Rattle.std.specs.List.{filter_map, cons_option}
use Rattle.std.proofs.lemmas.Int.{ints}
use Rattle.std.proofs.lemmas.List.Elements.{All-nil, All-cons, All-head, All-tail, All-weaker}
use Rattle.std.proofs.Math.IntN.{zero-*ℤ}
use Rattle.sut_classes.specs.Groups.{Groups}
use Rattle.sut_measures.specs.Sums.{factor, stands_in, sign_in, same_cell}
use Rattle.sut_measures.specs.declared.measures.Cell.{Cell}
use Rattle.sut_measures.specs.declared.measures.Cell.TheVariants as cell
use Rattle.sut_measures.specs.declared.measures.Total.{Total}
use Rattle.sut_measures.specs.declared.measures.Total.TheVariants as total
use Rattle.sut_measures.specs.declared.measures.Measure.{Measure}
use Rattle.sut_measures.specs.declared.measures.Measure.TheVariants as measure
use Rattle.sut_tables.specs.declared.tables.Held.{Held}
use Rattle.sut_tables.specs.RowFacts.{RowFacts}
use Rattle.sut_tables.specs.Rows.{InRange, IsRow}
use Rattle.sut_tables.specs.ProblemFacts.{ProblemFacts}
use Rattle.sut_tables.specs.TableFacts.{TableFacts}
use Rattle.sut_tables.specs.Values.{int_sum_by, number_at, value_of}
use Rattle.sut_tables.specs.Problems.{IsProblem, IsTableOf, cell_of, cell_rows}
use Rattle.sut_tables.specs.Costs.{IsWithin, IsAdmissible}
use Rattle.sut_tables.specs.Changes.{is_cell}
use Rattle.sut_tables.specs.Limits.{IsWithinLimits}
use Rattle.sut_tables.proofs.Paths.{one-*ℤ, minus_one-*ℤ}
use Rattle.sut_tables.proofs.Conservation.{Sorted-table}
use Rattle.sut_tables.proofs.FirstBreak.{All-unmap}
use Rattle.sut_tables.proofs.Undo.{numbers_there}

-- ---- sums of numbers in range

-- at most this many times the limit away from 0
abbrev pub Within : ℕ → ℤ → Type 0
Within n z = (neg_ℤ (pos (n * 1000000000000)) ≤ℤ z) × (z ≤ℤ pos (n * 1000000000000))

within-more : (n : ℕ) (a z : ℤ) → InRange a → Within n z → Within (suc n) (a +ℤ z)
within-more n a z r w = (low r.low w.0, high r.high w.1)
  where
    low : neg_ℤ (pos 1000000000000) ≤ℤ a → neg_ℤ (pos (n * 1000000000000)) ≤ℤ z → neg_ℤ (pos (suc n * 1000000000000)) ≤ℤ (a +ℤ z)
    low g h = omega (arith, ints)

    high : a ≤ℤ pos 1000000000000 → z ≤ℤ pos (n * 1000000000000) → (a +ℤ z) ≤ℤ pos (suc n * 1000000000000)
    high g h = omega (arith, ints)

pub sum-within : {X : Type 0} (f : X → ℤ) (xs : List X) → All (λ x. InRange (f x)) xs → Within (length xs) (int_sum_by f xs)
sum-within f [] a = (omega (arith, ints), omega (arith, ints))
sum-within f (x ∷ xs) a =
    within-more (length xs) (f x) (int_sum_by f xs) (All-head (λ x. InRange (f x)) x xs a) (sum-within f xs (All-tail (λ x. InRange (f x)) x xs a))

pub zero-in_range : InRange (pos 0)
zero-in_range = record { low = omega (arith, ints); high = omega (arith, ints) }

pub minus-in_range : (x : ℤ) → InRange x → InRange (neg_ℤ x)
minus-in_range x r = record { low = low r.high; high = high r.low }
  where
    low : x ≤ℤ pos 1000000000000 → neg_ℤ (pos 1000000000000) ≤ℤ neg_ℤ x
    low h = omega (arith, ints)

    high : neg_ℤ (pos 1000000000000) ≤ℤ x → neg_ℤ x ≤ℤ pos 1000000000000
    high h = omega (arith, ints)

-- ---- a cell's part of a total

pub sign-either : (c : Cell) (u : Total) → (sign_in c u ≡ pos 1) ⊎ (sign_in c u ≡ negsuc 0)
sign-either (cell.Import i) total.Gdp = inr refl
sign-either c u = inl refl

pub part-in_range : (gs : Groups) (c : Cell) (u : Total) (x : ℤ) → InRange x → InRange (factor gs c u *ℤ x)
part-in_range gs c u x r = by (stands_in gs c u) (sign_in c u) (sign-either c u)
  where
    by : (b : Bool) (s : ℤ) → (s ≡ pos 1) ⊎ (s ≡ negsuc 0) → InRange ((if b then s else pos 0) *ℤ x)
    by false s h = subst InRange (sym (zero-*ℤ x)) zero-in_range
    by true s (inl e) = subst InRange (sym (ap (λ s. s *ℤ x) e ∙ one-*ℤ x)) r
    by true s (inr e) = subst InRange (sym (ap (λ s. s *ℤ x) e ∙ minus_one-*ℤ x)) (minus-in_range x r)

-- ---- the numbers of an admissible table

-- what all measures of rows have, the cells that have a row have
pub All-cells : (P : Measure → Type 0) (rows : List RowFacts) → All (λ (r : RowFacts). P r.measure) rows → All (λ c. P (measure.Cell c)) (filter_map (λ (r : RowFacts). cell_of r.measure) rows)
All-cells P [] a = All-nil (λ c. P (measure.Cell c))
All-cells P (r ∷ rows) a = by r.measure (All-head (λ (r : RowFacts). P r.measure) r rows a) (All-cells P rows (All-tail (λ (r : RowFacts). P r.measure) r rows a))
  where
    by : (m : Measure) → P m → All (λ c. P (measure.Cell c)) (filter_map (λ (r : RowFacts). cell_of r.measure) rows)
        → All (λ c. P (measure.Cell c)) (cons_option (cell_of m) (filter_map (λ (r : RowFacts). cell_of r.measure) rows))
    by (measure.Cell c) h rest = All-cons (λ c. P (measure.Cell c)) c (filter_map (λ (r : RowFacts). cell_of r.measure) rows) h rest
    by (measure.Total u) h rest = rest

pub within-in_range : (t : TableFacts) (r : RowFacts) → IsRow r → IsWithin t r → InRange (value_of t r.measure)
within-in_range t r row w = record { low = low r.lower (value_of t r.measure) row.lower.low w.above; high = high r.upper (value_of t r.measure) row.upper.high w.below }
  where
    low : (l v : ℤ) → neg_ℤ (pos 1000000000000) ≤ℤ l → l ≤ℤ v → neg_ℤ (pos 1000000000000) ≤ℤ v
    low l v g h = omega (arith, ints)

    high : (l v : ℤ) → l ≤ℤ pos 1000000000000 → v ≤ℤ l → v ≤ℤ pos 1000000000000
    high l v g h = omega (arith, ints)

pub numbers-in_range : (p : ProblemFacts) (t : TableFacts) → IsProblem p → IsAdmissible p t → All (λ (h : Held). InRange h.number) t.cells
numbers-in_range p t ok adm =
    let by_rows : All (λ (r : RowFacts). InRange (value_of t r.measure)) p.rows = λ k d h. within-in_range t _ (ok.in_range k d h) (adm.bounds k d h) in
    let by_cells : All (λ c. InRange (number_at t.cells c)) (cell_rows p) = All-cells (λ m. InRange (value_of t m)) p.rows by_rows in
    let by_held : All (λ (h : Held). InRange (number_at t.cells h.cell)) t.cells =
    All-unmap (λ c. InRange (number_at t.cells c)) (λ (h : Held). h.cell) t.cells (subst (All (λ c. InRange (number_at t.cells c))) (sym adm.of_problem.cells) by_cells) in
    let there = numbers_there t.cells (Sorted-table p t ok adm.of_problem) in
    λ k d h. subst InRange (there k d h) (by_held k d h)

number-in_range : (hs : List Held) (c : Cell) → All (λ (h : Held). InRange h.number) hs → InRange (number_at hs c)
number-in_range [] c a = zero-in_range
number-in_range (h ∷ hs) c a = by (same_cell h.cell c) (All-head (λ (h : Held). InRange h.number) h hs a) (number-in_range hs c (All-tail (λ (h : Held). InRange h.number) h hs a))
  where
    by : (b : Bool) → InRange h.number → InRange (number_at hs c) → InRange (if b then h.number else number_at hs c)
    by true r s = r
    by false r s = s

-- ---- how many cells there are

length-cells : (rows : List RowFacts) → length (filter_map (λ (r : RowFacts). cell_of r.measure) rows) ≡ length (filter (λ (r : RowFacts). is_cell r.measure) rows)
length-cells [] = refl
length-cells (r ∷ rows) = by r.measure (length-cells rows)
  where
    by : (m : Measure) → length (filter_map (λ (r : RowFacts). cell_of r.measure) rows) ≡ length (filter (λ (r : RowFacts). is_cell r.measure) rows)
        → length (cons_option (cell_of m) (filter_map (λ (r : RowFacts). cell_of r.measure) rows)) ≡ length (cond (is_cell m) (r ∷ filter (λ (r : RowFacts). is_cell r.measure) rows) (filter (λ (r : RowFacts). is_cell r.measure) rows))
    by (measure.Cell c) e = ap (λ n. suc n) e
    by (measure.Total u) e = e

length-held : (hs : List Held) → length (map (λ (h : Held). h.cell) hs) ≡ length hs
length-held [] = refl
length-held (h ∷ hs) = ap (λ n. suc n) (length-held hs)

few_cells : (p : ProblemFacts) (t : TableFacts) → IsTableOf p t → IsWithinLimits p → length t.cells ≤ 131072
few_cells p t of limits = subst (λ n. n ≤ 131072) (sym (length-cells p.rows) ∙ sym (ap length of.cells) ∙ length-held t.cells) limits.cells

pub value-within : (p : ProblemFacts) (t : TableFacts) → IsProblem p → IsWithinLimits p → IsAdmissible p t → (m : Measure) → Within 131072 (value_of t m)
value-within p t ok limits adm (measure.Cell c) = (low r.low, high r.high)
  where
    r : InRange (number_at t.cells c)
    r = number-in_range t.cells c (numbers-in_range p t ok adm)

    low : neg_ℤ (pos 1000000000000) ≤ℤ number_at t.cells c → neg_ℤ (pos (131072 * 1000000000000)) ≤ℤ number_at t.cells c
    low h = omega (arith, ints)

    high : number_at t.cells c ≤ℤ pos 1000000000000 → number_at t.cells c ≤ℤ pos (131072 * 1000000000000)
    high h = omega (arith, ints)
value-within p t ok limits adm (measure.Total u) =
    wider (length t.cells) (value_of t (measure.Total u)) (few_cells p t adm.of_problem limits)
    (sum-within (λ (h : Held). factor t.groups h.cell u *ℤ h.number) t.cells (All-weaker (λ (h : Held). InRange h.number) (λ (h : Held). InRange (factor t.groups h.cell u *ℤ h.number)) (λ h. part-in_range t.groups h.cell u h.number) t.cells (numbers-in_range p t ok adm)))
  where
    wider : (n : ℕ) (z : ℤ) → n ≤ 131072 → Within n z → Within 131072 z
    wider n z l w = (low w.0, high w.1)
      where
        low : neg_ℤ (pos (n * 1000000000000)) ≤ℤ z → neg_ℤ (pos (131072 * 1000000000000)) ≤ℤ z
        low h = omega (arith, ints)

        high : z ≤ℤ pos (n * 1000000000000) → z ≤ℤ pos (131072 * 1000000000000)
        high h = omega (arith, ints)

-- The value of every measure over an admissible table is less far from 0 than 2^60.
pub value-over : (p : ProblemFacts) (t : TableFacts) → IsProblem p → IsWithinLimits p → IsAdmissible p t → (m : Measure) → neg_ℤ (pos (2 ^ 60)) <ℤ value_of t m
value-over p t ok limits adm m = by (value_of t m) (value-within p t ok limits adm m).0
  where
    by : (z : ℤ) → neg_ℤ (pos (131072 * 1000000000000)) ≤ℤ z → neg_ℤ (pos (2 ^ 60)) <ℤ z
    by z h = omega (arith, ints)

pub value-under : (p : ProblemFacts) (t : TableFacts) → IsProblem p → IsWithinLimits p → IsAdmissible p t → (m : Measure) → value_of t m <ℤ pos (2 ^ 60)
value-under p t ok limits adm m = by (value_of t m) (value-within p t ok limits adm m).1
  where
    by : (z : ℤ) → z ≤ℤ pos (131072 * 1000000000000) → z <ℤ pos (2 ^ 60)
    by z h = omega (arith, ints)

-- ---- how many rows there are

length-rows : (rows : List RowFacts) → length rows ≡ length (filter (λ (r : RowFacts). is_cell r.measure) rows) + length (filter (λ (r : RowFacts). not (is_cell r.measure)) rows)
length-rows [] = refl
length-rows (r ∷ rows) = by r.measure (length-rows rows)
  where
    by : (m : Measure) → length rows ≡ length (filter (λ (r : RowFacts). is_cell r.measure) rows) + length (filter (λ (r : RowFacts). not (is_cell r.measure)) rows)
        → suc (length rows) ≡ length (cond (is_cell m) (r ∷ filter (λ (r : RowFacts). is_cell r.measure) rows) (filter (λ (r : RowFacts). is_cell r.measure) rows)) + length (cond (not (is_cell m)) (r ∷ filter (λ (r : RowFacts). not (is_cell r.measure)) rows) (filter (λ (r : RowFacts). not (is_cell r.measure)) rows))
    by (measure.Cell c) e = one_left (length rows) (length (filter (λ (r : RowFacts). is_cell r.measure) rows)) (length (filter (λ (r : RowFacts). not (is_cell r.measure)) rows)) e
      where
        one_left : (a b c : ℕ) → a ≡ b + c → suc a ≡ suc b + c
        one_left a b c e = omega arith
    by (measure.Total u) e = one_right (length rows) (length (filter (λ (r : RowFacts). is_cell r.measure) rows)) (length (filter (λ (r : RowFacts). not (is_cell r.measure)) rows)) e
      where
        one_right : (a b c : ℕ) → a ≡ b + c → suc a ≡ b + suc c
        one_right a b c e = omega arith

pub few-rows : (p : ProblemFacts) → IsWithinLimits p → length p.rows ≤ 147456
few-rows p limits = by (length p.rows) _ _ (length-rows p.rows) limits.cells limits.totals
  where
    by : (n a b : ℕ) → n ≡ a + b → a ≤ 131072 → b ≤ 16384 → n ≤ 147456
    by n a b e h k = omega arith
