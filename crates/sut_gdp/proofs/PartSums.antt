-- The sums that GDP is made of, cell by cell.
use Rattle.std.proofs.Common.{◌≡◌, ℕ, ℤ, pos, ◌+ℤ◌, neg_ℤ, ◌≤ℤ◌, ◌+◌, ◌*◌, ◌<◌, ◌≤◌, ◌^◌, List, [], ◌∷◌, take, length, get_or, Bool, true, false, if◌then◌else◌, All, refl, sym, ◌∙◌, ap, subst, arith, to_z, of_z}
use mir.Syntax.{w64, w128}
use Rattle.std.proofs.lemmas.Int.{ints}
use Rattle.std.specs.Prelude.{slice_get}
use Rattle.std.proofs.Math.IntN.{+ℤ_idr}
use Rattle.std.proofs.lemmas.List.{length-take, take_all}
use Rattle.std.proofs.lemmas.List.Elements.{All-take, All-weaker}
use Rattle.std.proofs.lemmas.Option.{slice_get-get_or}
use Rattle.sut_classes.specs.declared.ids.Column.{Column}
use Rattle.sut_classes.specs.declared.ids.Column.TheVariants as column
use Rattle.sut_measures.specs.declared.measures.Cell.{Cell}
use Rattle.sut_measures.specs.declared.measures.Cell.TheVariants as cell
use Rattle.sut_tables.specs.CellSums.{IsUpTo}
use Rattle.sut_tables.specs.Gdp.{is_added, is_import, is_make, is_tax}
use Rattle.sut_tables.specs.Rows.{InRange}
use Rattle.sut_tables.specs.Values.{sum_where}
use Rattle.sut_tables.specs.declared.tables.Held.{Held}
use Rattle.sut_tables.proofs.Nodes.{where_so}
use Rattle.sut_tables.proofs.SumChanges.{sum-take_more}
use Rattle.sut_tables.proofs.Wide.{Within, sum-within, zero-in_range}
use Rattle.sut_gdp.specs.declared.parts.Parts.{Parts}
use Rattle.sut_gdp.specs.Parts.{AreUpTo, bought_with, is_final_use, is_input, parts_of, parts_with}

pub bought-taxes : (p : Parts) (q : Column) (x : ℤ) → (bought_with p q x).taxes ≡ p.taxes
bought-taxes p (column.Industry j) x = refl
bought-taxes p (column.Final f) x = refl

-- each sum with a cell's number where the cell counts, and else as it was
parts-with : (p : Parts) (c : Cell) (x : ℤ)
    → ◌≡◌ {A = Parts} (record {
      outputs = p.outputs +ℤ where_so (is_make c) x;
      imports = p.imports +ℤ where_so (is_import c) x;
      inputs = p.inputs +ℤ where_so (is_input c) x;
      final_uses = p.final_uses +ℤ where_so (is_final_use c) x;
      taxes = p.taxes +ℤ where_so (is_tax c) x;
      added = p.added +ℤ where_so (is_added c) x;
    }) (parts_with p c x)
parts-with p (cell.Make i j) x = simp +ℤ_idr
parts-with p (cell.Import i) x = simp +ℤ_idr
parts-with p (cell.Basic i (column.Industry j)) x = simp +ℤ_idr
parts-with p (cell.Basic i (column.Final f)) x = simp +ℤ_idr
parts-with p (cell.Margin k i (column.Industry j)) x = simp +ℤ_idr
parts-with p (cell.Margin k i (column.Final f)) x = simp +ℤ_idr
parts-with p (cell.Tax t i (column.Industry j)) x = simp +ℤ_idr
parts-with p (cell.Tax t i (column.Final f)) x = simp +ℤ_idr
parts-with p (cell.Service i k) x = simp +ℤ_idr
parts-with p (cell.Added v j) x = simp +ℤ_idr

-- one more cell
pub parts-more : (hs : List Held) (i : ℕ) (d : Held) → i < length hs → parts_of (take (i + 1) hs) ≡ parts_with (parts_of (take i hs)) (get_or hs i d).cell (get_or hs i d).number
parts-more hs i d l =
    let h = get_or hs i d in
    let at = slice_get-get_or hs i d l in
    rw (
      sum-take_more (λ (h : Held). where_so (is_make h.cell) h.number) hs i h at,
      sum-take_more (λ (h : Held). where_so (is_import h.cell) h.number) hs i h at,
      sum-take_more (λ (h : Held). where_so (is_input h.cell) h.number) hs i h at,
      sum-take_more (λ (h : Held). where_so (is_final_use h.cell) h.number) hs i h at,
      sum-take_more (λ (h : Held). where_so (is_tax h.cell) h.number) hs i h at,
      sum-take_more (λ (h : Held). where_so (is_added h.cell) h.number) hs i h at,
    ) (parts-with (parts_of (take i hs)) h.cell h.number)

-- ---- how large the sums are

sum-small : (p : Cell → Bool) (hs : List Held) → All (λ (h : Held). InRange h.number) hs → length hs < 2 ^ 64 → IsUpTo (2 ^ 125) (sum_where p hs)
sum-small p hs r l =
    small (length hs) (sum_where p hs) l
    (sum-within (λ (h : Held). where_so (p h.cell) h.number) hs (All-weaker (λ (h : Held). InRange h.number) (λ (h : Held). InRange (where_so (p h.cell) h.number)) (λ h. either (p h.cell) h.number) hs r))
  where
    either : (b : Bool) (x : ℤ) → InRange x → InRange (where_so b x)
    either true x h = h
    either false x h = zero-in_range

    small : (n : ℕ) (z : ℤ) → n < 2 ^ 64 → Within n z → IsUpTo (2 ^ 125) z
    small n z h w = record { low = low w.0; high = high w.1 }
      where
        low : neg_ℤ (pos (n * 1000000000000)) ≤ℤ z → neg_ℤ (pos (2 ^ 125)) ≤ℤ z
        low g = omega (arith, ints)

        high : z ≤ℤ pos (n * 1000000000000) → z ≤ℤ pos (2 ^ 125)
        high g = omega (arith, ints)

pub parts-small : (hs : List Held) → All (λ (h : Held). InRange h.number) hs → length hs < 2 ^ 64 → AreUpTo (2 ^ 125) (parts_of hs)
parts-small hs r l = record {
  outputs = sum-small is_make hs r l;
  imports = sum-small is_import hs r l;
  inputs = sum-small is_input hs r l;
  final_uses = sum-small is_final_use hs r l;
  taxes = sum-small is_tax hs r l;
  added = sum-small is_added hs r l;
}

pub parts-small_before : (hs : List Held) (i : ℕ) → All (λ (h : Held). InRange h.number) hs → length hs < 2 ^ 64 → AreUpTo (2 ^ 125) (parts_of (take i hs))
parts-small_before hs i r l = parts-small (take i hs) (All-take (λ (h : Held). InRange h.number) i hs r) (few (length (take i hs)) (length hs) (fewer hs i) l)
  where
    fewer : (hs : List Held) (i : ℕ) → length (take i hs) ≤ length hs
    fewer hs i = omega (arith, length-take {A = Held})

    few : (m n : ℕ) → m ≤ n → n < 2 ^ 64 → m < 2 ^ 64
    few m n a b = omega arith

-- ---- a step of the loop

pub wide-is : (n f : ℤ) → InRange n → f ≡ to_z w64 (of_z w64 n) → to_z w128 (of_z w128 f) ≡ n
wide-is n f r e = by r.low r.high
  where
    by : neg_ℤ (pos 1000000000000) ≤ℤ n → n ≤ℤ pos 1000000000000 → to_z w128 (of_z w128 f) ≡ n
    by l h = omega (arith, ints, e)

pub parts-step : (hs : List Held) (i : ℕ) (d : Held) → i < length hs → (p new : Parts) (c : Cell) (x : ℤ) → c ≡ (get_or hs i d).cell → x ≡ (get_or hs i d).number
    → p ≡ parts_of (take i hs) → new ≡ parts_with p c x → new ≡ parts_of (take (i + 1) hs)
parts-step hs i d l p new c x cell number before after = after ∙ rw (cell, number, before) (sym (parts-more hs i d l))
