-- The sides of the identities are sums that a table keeps.
use Rattle.std.proofs.Common.{◌≡◌, ℕ, ℤ, pos, ◌+ℤ◌, ◌*ℤ◌, Bool, true, false, if◌then◌else◌, refl, sym, ◌∙◌, ap, arith}
use Rattle.std.proofs.lemmas.Int.{ints}
use Rattle.std.specs.Prelude.{◌==◌}
use Rattle.std.proofs.Math.IntN.{zero-*ℤ}
use Rattle.sut_classes.specs.Groups.{Groups}
use Rattle.sut_classes.specs.declared.ids.ProductId.{ProductId}
use Rattle.sut_classes.specs.declared.ids.IndustryId.{IndustryId}
use Rattle.sut_classes.specs.declared.ids.MarginId.{MarginId}
use Rattle.sut_classes.specs.declared.ids.Column.TheVariants as column
use Rattle.sut_measures.specs.Sums.{factor}
use Rattle.sut_measures.specs.declared.measures.Cell.{Cell}
use Rattle.sut_measures.specs.declared.measures.Cell.TheVariants as cell
use Rattle.sut_measures.specs.declared.measures.Total.{Total}
use Rattle.sut_measures.specs.declared.measures.Total.TheVariants as total
use Rattle.sut_tables.specs.declared.tables.Held.{Held}
use Rattle.sut_tables.specs.TableFacts.{TableFacts}
use Rattle.sut_tables.specs.Values.{int_sum_by, total_value}
use Rattle.sut_tables.specs.Identities.{is_made_or_imported, is_made_by, is_input_or_added, is_margin_of, made_and_imported, made_by, inputs_and_added, margins_of}
use Rattle.sut_tables.proofs.IntSums.{sum-add, sum-same}
use Rattle.sut_tables.proofs.Nodes.{where_so}
use Rattle.sut_tables.proofs.Paths.{one-*ℤ}

picked : (b : Bool) (x : ℤ) → (if b then pos 1 else pos 0) *ℤ x ≡ where_so b x
picked true x = one-*ℤ x
picked false x = zero-*ℤ x

supply_part : (gs : Groups) (i : ProductId) (x : ℤ) (c : Cell) → factor gs c (total.Supply i) *ℤ x ≡ where_so (is_made_or_imported i c) x
supply_part gs i x (cell.Make n j) = picked (n.0 == i.0) x
supply_part gs i x (cell.Import n) = picked (n.0 == i.0) x
supply_part gs i x (cell.Basic n q) = zero-*ℤ x
supply_part gs i x (cell.Margin k n q) = zero-*ℤ x
supply_part gs i x (cell.Tax k n q) = zero-*ℤ x
supply_part gs i x (cell.Service n k) = zero-*ℤ x
supply_part gs i x (cell.Added v j) = zero-*ℤ x

pub supply-made : (t : TableFacts) (i : ProductId) → total_value t (total.Supply i) ≡ made_and_imported t i
supply-made t i = sum-same (λ (h : Held). factor t.groups h.cell (total.Supply i) *ℤ h.number) (λ h. where_so (is_made_or_imported i h.cell) h.number) (λ h. supply_part t.groups i h.number h.cell) t.cells

output_part : (gs : Groups) (j : IndustryId) (x : ℤ) (c : Cell) → factor gs c (total.Output j) *ℤ x ≡ where_so (is_made_by j c) x
output_part gs j x (cell.Make n m) = picked (m.0 == j.0) x
output_part gs j x (cell.Import n) = zero-*ℤ x
output_part gs j x (cell.Basic n q) = zero-*ℤ x
output_part gs j x (cell.Margin k n q) = zero-*ℤ x
output_part gs j x (cell.Tax k n q) = zero-*ℤ x
output_part gs j x (cell.Service n k) = zero-*ℤ x
output_part gs j x (cell.Added v m) = zero-*ℤ x

pub output-made : (t : TableFacts) (j : IndustryId) → total_value t (total.Output j) ≡ made_by t j
output-made t j = sum-same (λ (h : Held). factor t.groups h.cell (total.Output j) *ℤ h.number) (λ h. where_so (is_made_by j h.cell) h.number) (λ h. output_part t.groups j h.number h.cell) t.cells

left_only : (x : ℤ) (b : Bool) → (if b then pos 1 else pos 0) *ℤ x +ℤ pos 0 *ℤ x ≡ where_so b x
left_only x b = rw (picked b x, zero-*ℤ x) (by (where_so b x))
  where
    by : (z : ℤ) → z +ℤ pos 0 ≡ z
    by z = omega (arith, ints)

right_only : (x : ℤ) (b : Bool) → pos 0 *ℤ x +ℤ (if b then pos 1 else pos 0) *ℤ x ≡ where_so b x
right_only x b = rw (picked b x, zero-*ℤ x) (by (where_so b x))
  where
    by : (z : ℤ) → pos 0 +ℤ z ≡ z
    by z = omega (arith, ints)

input_part : (gs : Groups) (j : IndustryId) (x : ℤ) (c : Cell) → factor gs c (total.Inputs j) *ℤ x +ℤ factor gs c (total.ValueAdded j) *ℤ x ≡ where_so (is_input_or_added j c) x
input_part gs j x (cell.Make n m) = left_only x false
input_part gs j x (cell.Import n) = left_only x false
input_part gs j x (cell.Basic n (column.Industry m)) = left_only x (m.0 == j.0)
input_part gs j x (cell.Basic n (column.Final f)) = left_only x false
input_part gs j x (cell.Margin k n (column.Industry m)) = left_only x (m.0 == j.0)
input_part gs j x (cell.Margin k n (column.Final f)) = left_only x false
input_part gs j x (cell.Tax k n (column.Industry m)) = left_only x (m.0 == j.0)
input_part gs j x (cell.Tax k n (column.Final f)) = left_only x false
input_part gs j x (cell.Service n k) = left_only x false
input_part gs j x (cell.Added v m) = right_only x (m.0 == j.0)

pub inputs-added : (t : TableFacts) (j : IndustryId) → total_value t (total.Inputs j) +ℤ total_value t (total.ValueAdded j) ≡ inputs_and_added t j
inputs-added t j =
    sym (sum-add (λ (h : Held). factor t.groups h.cell (total.Inputs j) *ℤ h.number) (λ (h : Held). factor t.groups h.cell (total.ValueAdded j) *ℤ h.number) t.cells)
    ∙ sum-same (λ (h : Held). factor t.groups h.cell (total.Inputs j) *ℤ h.number +ℤ factor t.groups h.cell (total.ValueAdded j) *ℤ h.number) (λ h. where_so (is_input_or_added j h.cell) h.number) (λ h. input_part t.groups j h.number h.cell) t.cells

margin_part : (gs : Groups) (k : MarginId) (x : ℤ) (c : Cell) → factor gs c (total.MarginTotal k) *ℤ x ≡ where_so (is_margin_of k c) x
margin_part gs k x (cell.Make n m) = zero-*ℤ x
margin_part gs k x (cell.Import n) = zero-*ℤ x
margin_part gs k x (cell.Basic n q) = zero-*ℤ x
margin_part gs k x (cell.Margin l n q) = picked (l.0 == k.0) x
margin_part gs k x (cell.Tax l n q) = zero-*ℤ x
margin_part gs k x (cell.Service n l) = zero-*ℤ x
margin_part gs k x (cell.Added v m) = zero-*ℤ x

pub margins-total : (t : TableFacts) (k : MarginId) → total_value t (total.MarginTotal k) ≡ margins_of t k
margins-total t k = sum-same (λ (h : Held). factor t.groups h.cell (total.MarginTotal k) *ℤ h.number) (λ h. where_so (is_margin_of k h.cell) h.number) (λ h. margin_part t.groups k h.number h.cell) t.cells
