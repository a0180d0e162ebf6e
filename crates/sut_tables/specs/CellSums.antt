-- Sums over the cells of a table: of each total, of each product's uses with its services, and of each margin kind's services.
use Rattle.std.specs.Prelude.{◌≡◌, All, MatchOption, ℕ, Bool, false, ◌==◌, if◌then◌else◌, ℤ, pos, neg_ℤ, ◌*ℤ◌, ◌≤ℤ◌, Option, List, [], ◌∷◌, map}
use Rattle.std.specs.Map.{lookup}
use Rattle.std.specs.BTreeMap.{BTreeMap}
use Rattle.sut_classes.specs.Groups.{Groups}
use Rattle.sut_classes.specs.declared.ids.ProductGroupId.{ProductGroupId}
use Rattle.sut_classes.specs.declared.ids.IndustryGroupId.{IndustryGroupId}
use Rattle.sut_measures.specs.Sums.{cell_product_group, cell_industry_group, same_total, sign_in, stands_in, totals_by}
use Rattle.sut_measures.specs.declared.measures.Cell.{Cell}
use Rattle.sut_measures.specs.declared.measures.Cell.TheVariants as cell
use Rattle.sut_tables.specs.declared.tables.Held.{Held}
use Rattle.sut_tables.specs.TableFacts.{TableFacts}
use Rattle.sut_tables.specs.Values.{int_sum_by, total_value}
use Rattle.sut_tables.specs.Identities.{is_service_of, is_used_or_serving, services_of, used_and_serving}
use Rattle.sut_tables.specs.declared.sums.CellSum.{CellSum}
use Rattle.sut_tables.specs.declared.sums.CellSum.TheVariants as sum

-- the sum over a table's cells
abbrev pub sum_at : TableFacts → CellSum → ℤ
sum_at t (sum.Total u) = total_value t u
sum_at t (sum.Uses i) = used_and_serving t i
sum_at t (sum.Services k) = services_of t k

-- the cell counts in the sum
abbrev pub counts_in : Groups → Cell → CellSum → Bool
counts_in gs c (sum.Total u) = stands_in gs c u
counts_in gs c (sum.Uses i) = is_used_or_serving i c
counts_in gs c (sum.Services k) = is_service_of k c

-- the factor of a cell that counts: -1 for imports in GDP, and else 1
abbrev pub sign_at : Cell → CellSum → ℤ
sign_at c (sum.Total u) = sign_in c u
sign_at c _ = pos 1

abbrev pub same_sum : CellSum → CellSum → Bool
same_sum (sum.Total u) (sum.Total w) = same_total u w
same_sum (sum.Uses i) (sum.Uses j) = i.0 == j.0
same_sum (sum.Services k) (sum.Services l) = k.0 == l.0
same_sum _ _ = false

-- the sums in which a cell counts, with its product's group and its industry's
abbrev pub sums_by : Option ProductGroupId → Option IndustryGroupId → Cell → List CellSum
sums_by product_group industry_group (cell.Basic i q) =
    sum.Uses i ∷ map sum.Total (totals_by product_group industry_group (cell.Basic i q))
sums_by product_group industry_group (cell.Service i k) = sum.Uses i ∷ sum.Services k ∷ []
sums_by product_group industry_group c = map sum.Total (totals_by product_group industry_group c)

abbrev pub sums_with : Groups → Cell → List CellSum
sums_with gs c = sums_by (cell_product_group gs c) (cell_industry_group gs c) c

-- what sums that are this one add up to, where each adds a change of the cell's number with the cell's sign
abbrev pub added_to : CellSum → Cell → ℤ → List CellSum → ℤ
added_to q c change = int_sum_by (λ w. if same_sum w q then sign_at c w *ℤ change else pos 0)

-- ---- numbers kept for sums

-- the number that is kept for a sum, if there is one
abbrev pub kept_for : BTreeMap CellSum ℤ → CellSum → Option ℤ
kept_for m s = lookup (same_sum s) m.entries

-- at most this far from 0
pub record IsUpTo (n : ℕ) (x : ℤ) : Type 0 where
  pub low : neg_ℤ (pos n) ≤ℤ x
  pub high : x ≤ℤ pos n

-- 0 is kept for the sum, and nothing is kept only where none of the cells counts in it
abbrev pub IsZeroFor : Groups → List Held → CellSum → BTreeMap CellSum ℤ → Type 0
IsZeroFor gs hs s m = MatchOption (kept_for m s) (All (λ (h : Held). counts_in gs h.cell s ≡ false) hs) (λ x. x ≡ pos 0)
