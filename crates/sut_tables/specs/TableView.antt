-- The table that the fields of `Table` stand for.
use Rattle.std.specs.Prelude.{◌≡◌, ℤ, false, All, MatchOption}
use Rattle.std.specs.BTreeMap.{BTreeMap}
use Rattle.sut_measures.specs.Keys.{cell_key}
use Rattle.sut_tables.specs.declared.tables.Held.{Held}
use Rattle.sut_tables.specs.declared.tables.Table.TheInside.{Inside}
use Rattle.sut_tables.specs.declared.sums.CellSum.{CellSum}
use Rattle.sut_tables.specs.InOrder.{IsAscending}
use Rattle.sut_tables.specs.Rows.{InRange}
use Rattle.sut_tables.specs.TableFacts.{TableFacts}
use Rattle.sut_tables.specs.CellSums.{counts_in, kept_for, sum_at}

abbrev pub facts_of : Inside → TableFacts
facts_of t = record {
  groups = record { of_product = t.product_groups.items; of_industry = t.industry_groups.items };
  cells = t.cells.items;
}

-- the number that is kept for a sum is that sum, and none is kept only where no held cell counts in it
abbrev pub IsSumOf : TableFacts → CellSum → BTreeMap CellSum ℤ → Type 0
IsSumOf t s m = MatchOption (kept_for m s) (All (λ (h : Held). counts_in t.groups h.cell s ≡ false) t.cells) (λ x. x ≡ sum_at t s)

-- the cells are in order, each number is in range, and the sums are kept
pub record KeepsSums (t : Inside) : Type 0 where
  pub in_order : IsAscending (λ (h : Held). cell_key h.cell) t.cells.items
  pub in_range : All (λ (h : Held). InRange h.number) t.cells.items
  pub sums : (s : CellSum) → IsSumOf (facts_of t) s t.sums
