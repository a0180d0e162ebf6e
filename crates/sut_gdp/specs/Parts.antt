-- The sums that GDP is made of.
use Rattle.std.specs.Prelude.{ℕ, ℤ, ◌+ℤ◌, Bool, true, List}
use Rattle.sut_classes.specs.declared.ids.Column.{Column}
use Rattle.sut_measures.specs.Sums.{is_bought, is_any_final}
use Rattle.sut_classes.specs.declared.ids.Column.TheVariants as column
use Rattle.sut_measures.specs.declared.measures.Cell.{Cell}
use Rattle.sut_measures.specs.declared.measures.Cell.TheVariants as cell
use Rattle.sut_tables.specs.CellSums.{IsUpTo}
use Rattle.sut_tables.specs.Gdp.{is_added, is_any_industry, is_import, is_make, is_tax}
use Rattle.sut_tables.specs.Values.{sum_where}
use Rattle.sut_tables.specs.declared.tables.Held.{Held}
use Rattle.sut_gdp.specs.declared.parts.Parts.{Parts}

abbrev pub is_input : Cell → Bool
is_input = is_bought (λ i. true) is_any_industry

abbrev pub is_final_use : Cell → Bool
is_final_use = is_bought (λ i. true) is_any_final

-- the sums over cells
abbrev pub parts_of : List Held → Parts
parts_of hs = record {
  outputs = sum_where is_make hs;
  imports = sum_where is_import hs;
  inputs = sum_where is_input hs;
  final_uses = sum_where is_final_use hs;
  taxes = sum_where is_tax hs;
  added = sum_where is_added hs;
}

-- a part of a purchase, added to those of industries or of final uses
abbrev pub bought_with : Parts → Column → ℤ → Parts
bought_with p (column.Industry j) x = record p { inputs = p.inputs +ℤ x }
bought_with p (column.Final f) x = record p { final_uses = p.final_uses +ℤ x }

-- the number of a cell, added to the sums in which it counts
abbrev pub parts_with : Parts → Cell → ℤ → Parts
parts_with p (cell.Make i j) x = record p { outputs = p.outputs +ℤ x }
parts_with p (cell.Import i) x = record p { imports = p.imports +ℤ x }
parts_with p (cell.Basic i q) x = bought_with p q x
parts_with p (cell.Margin k i q) x = bought_with p q x
parts_with p (cell.Tax t i q) x = record (bought_with p q x) { taxes = p.taxes +ℤ x }
parts_with p (cell.Service i k) x = p
parts_with p (cell.Added v j) x = record p { added = p.added +ℤ x }

-- each sum is at most this far from 0
pub record AreUpTo (n : ℕ) (p : Parts) : Type 0 where
  pub outputs : IsUpTo n p.outputs
  pub imports : IsUpTo n p.imports
  pub inputs : IsUpTo n p.inputs
  pub final_uses : IsUpTo n p.final_uses
  pub taxes : IsUpTo n p.taxes
  pub added : IsUpTo n p.added
