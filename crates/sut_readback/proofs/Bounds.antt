-- How far from 0 a value over a table of a problem may lie.
use Rattle.std.proofs.Common.{◌≡◌, ◌<◌, ◌≤◌, ◌*◌, ◌^◌, ◌∷◌, ◌∙◌, ℕ, suc, ℤ, pos, negsuc, List, [], Bool, true, false, if◌then◌else◌, Option, Some, None, length, map, refl, sym, ap, arith}
use Rattle.std.specs.Prelude.{All, ◌≤ℤ◌, ◌*ℤ◌, neg_ℤ}
use Rattle.std.specs.List.{cons_option, filter_map}
use Rattle.std.proofs.lemmas.Int.{ints}
use Rattle.std.proofs.lemmas.List.Elements.{All-head, All-tail, All-weaker}
use lib.Signed.{mag}
use Rattle.sut_measures.specs.Sums.{factor, same_cell}
use Rattle.sut_measures.specs.declared.measures.Cell.{Cell}
use Rattle.sut_measures.specs.declared.measures.Measure.{Measure}
use Rattle.sut_measures.specs.declared.measures.Measure.TheVariants as measure
use Rattle.sut_tables.specs.CellSums.{IsUpTo}
use Rattle.sut_tables.specs.ProblemFacts.{ProblemFacts}
use Rattle.sut_tables.specs.ProblemRules.{IsKept}
use Rattle.sut_tables.specs.Problems.{IsTableOf, cell_of}
use Rattle.sut_tables.specs.RowFacts.{RowFacts}
use Rattle.sut_tables.specs.Rows.{InRange}
use Rattle.sut_tables.specs.TableFacts.{TableFacts}
use Rattle.sut_tables.specs.Values.{number_at, sum_where, value_of}
use Rattle.sut_tables.specs.declared.tables.Held.{Held}
use Rattle.sut_tables.proofs.Wide.{Within, few-rows, part-in_range, sum-within, zero-in_range}

pub range-small : (x : ℤ) → InRange x → mag x < 2 ^ 127
range-small (pos n) r = omega (arith, ints, r.high)
range-small (negsuc n) r = omega (arith, ints, r.low)

number-range : (hs : List Held) (c : Cell) → All (λ (h : Held). InRange h.number) hs → InRange (number_at hs c)
number-range [] c a = zero-in_range
number-range (h ∷ hs) c a = by (same_cell h.cell c) (All-head (λ (h : Held). InRange h.number) h hs a) (number-range hs c (All-tail (λ (h : Held). InRange h.number) h hs a))
  where
    by : (b : Bool) → InRange h.number → InRange (number_at hs c) → InRange (if b then h.number else number_at hs c)
    by true r s = r
    by false r s = s

pub cells-few : (rows : List RowFacts) → length (filter_map (λ (r : RowFacts). cell_of r.measure) rows) ≤ length rows
cells-few [] = omega arith
cells-few (r ∷ rows) = by (cell_of r.measure) (cells-few rows)
  where
    by : (o : Option Cell) → length (filter_map (λ (r : RowFacts). cell_of r.measure) rows) ≤ length rows → length (cons_option o (filter_map (λ (r : RowFacts). cell_of r.measure) rows)) ≤ length (r ∷ rows)
    by None l = omega (arith, l)
    by (Some c) l = omega (arith, l)

held-length : (hs : List Held) → length (map (λ (h : Held). h.cell) hs) ≡ length hs
held-length [] = refl
held-length (h ∷ hs) = ap suc (held-length hs)

pub held-few : (p : ProblemFacts) (t : TableFacts) → IsKept p → IsTableOf p t → length t.cells ≤ 147456
held-few p t kept of =
    let few = cells-few p.rows in
    let many = few-rows p kept.limits in
    let same = sym (held-length t.cells) ∙ ap length of.cells in
    omega (arith, few, many, same)

range-up_to : (x : ℤ) → InRange x → IsUpTo (2 ^ 58) x
range-up_to x r = record { low = low r.low; high = high r.high }
  where
    low : neg_ℤ (pos 1000000000000) ≤ℤ x → neg_ℤ (pos (2 ^ 58)) ≤ℤ x
    low h = omega (arith, ints)

    high : x ≤ℤ pos 1000000000000 → x ≤ℤ pos (2 ^ 58)
    high h = omega (arith, ints)

within-up_to : (n : ℕ) (x : ℤ) → n ≤ 147456 → Within n x → IsUpTo (2 ^ 58) x
within-up_to n x few w = record { low = low w.0; high = high w.1 }
  where
    low : neg_ℤ (pos (n * 1000000000000)) ≤ℤ x → neg_ℤ (pos (2 ^ 58)) ≤ℤ x
    low h = omega (arith, ints)

    high : x ≤ℤ pos (n * 1000000000000) → x ≤ℤ pos (2 ^ 58)
    high h = omega (arith, ints)

-- A value over a table of a problem, with numbers of cells in -10^12 to 10^12, lies within 2^58 of 0.
pub value-up_to : (p : ProblemFacts) (t : TableFacts) → IsKept p → IsTableOf p t → All (λ (h : Held). InRange h.number) t.cells → (m : Measure) → IsUpTo (2 ^ 58) (value_of t m)
value-up_to p t kept of ranges (measure.Cell c) = range-up_to (number_at t.cells c) (number-range t.cells c ranges)
value-up_to p t kept of ranges (measure.Total u) =
    within-up_to (length t.cells) (value_of t (measure.Total u)) (held-few p t kept of)
    (sum-within (λ (h : Held). factor t.groups h.cell u *ℤ h.number) t.cells
    (All-weaker (λ (h : Held). InRange h.number) (λ (h : Held). InRange (factor t.groups h.cell u *ℤ h.number)) (λ h. part-in_range t.groups h.cell u h.number) t.cells ranges))

-- so does the sum of the cells that pass a test
pub where-up_to : (p : ProblemFacts) (t : TableFacts) → IsKept p → IsTableOf p t → All (λ (h : Held). InRange h.number) t.cells → (test : Cell → Bool) → IsUpTo (2 ^ 58) (sum_where test t.cells)
where-up_to p t kept of ranges test =
    within-up_to (length t.cells) (sum_where test t.cells) (held-few p t kept of)
    (sum-within (λ (h : Held). if test h.cell then h.number else pos 0) t.cells
    (All-weaker (λ (h : Held). InRange h.number) (λ (h : Held). InRange (if test h.cell then h.number else pos 0)) (λ h. either (test h.cell) h.number) t.cells ranges))
  where
    either : (b : Bool) (x : ℤ) → InRange x → InRange (if b then x else pos 0)
    either true x r = r
    either false x r = zero-in_range

up_to-small : (x : ℤ) → IsUpTo (2 ^ 58) x → mag x < 2 ^ 127
up_to-small (pos n) r = omega (arith, ints, r.high)
up_to-small (negsuc n) r = omega (arith, ints, r.low)

pub value-small : (p : ProblemFacts) (t : TableFacts) → IsKept p → IsTableOf p t → All (λ (h : Held). InRange h.number) t.cells → (m : Measure) → mag (value_of t m) < 2 ^ 127
value-small p t kept of ranges m = up_to-small (value_of t m) (value-up_to p t kept of ranges m)
