-- From basic to purchasers' prices, over the cells of a table.
use Rattle.std.proofs.Common.{◌≡◌, Bool, false, ℤ, pos, ◌+ℤ◌, ◌*ℤ◌, length, refl, sym, ap, ◌∙◌, arith}
use Rattle.std.specs.Prelude.{◌==◌, ◌&&◌}
use Rattle.std.proofs.lemmas.Int.{ints}
use Rattle.std.proofs.Math.IntN.{zero-*ℤ}
use Rattle.sut_classes.specs.ClassLists.{ClassLists}
use Rattle.sut_classes.specs.Groups.{Groups}
use Rattle.sut_classes.specs.declared.ids.Column.{Column}
use Rattle.sut_classes.specs.declared.ids.Column.TheVariants as column
use Rattle.sut_classes.specs.declared.ids.MarginId.{MarginId}
use Rattle.sut_classes.specs.declared.ids.ProductId.{ProductId}
use Rattle.sut_classes.specs.declared.ids.TaxId.{TaxId}
use Rattle.sut_classes.specs.Columns.{column_key}
use Rattle.sut_measures.specs.Sums.{factor, same_cell, same_column}
use Rattle.sut_measures.specs.declared.measures.Cell.{Cell}
use Rattle.sut_measures.specs.declared.measures.Cell.TheVariants as cell
use Rattle.sut_measures.specs.declared.measures.Measure.TheVariants as measure
use Rattle.sut_measures.specs.declared.measures.Total.TheVariants as total
use Rattle.sut_tables.specs.InOrder.{same_key}
use Rattle.sut_tables.specs.declared.tables.Held.{Held}
use Rattle.sut_tables.specs.ProblemFacts.{ProblemFacts}
use Rattle.sut_tables.specs.TableFacts.{TableFacts}
use Rattle.sut_tables.specs.Problems.{IsProblem, IsTableOf, groups}
use Rattle.sut_tables.specs.Values.{int_sum_by}
use Rattle.sut_tables.proofs.Conservation.{Sorted-table, value-parts}
use Rattle.sut_tables.proofs.IntSums.{sum-add, sum-same}
use Rattle.sut_tables.proofs.Nodes.{where_so}
use Rattle.sut_write.specs.Numbers.{cell_value, total_of}
use Rattle.sut_write.specs.Places.{margins, products, taxes}
use Rattle.sut_laws.proofs.PlaceSums.{Counts, Holds, and-left, and-right, and-true, and-turned, nothing-over, over-cells, picked, picked-times, total-of_places}

column-same : (r q : Column) → same_column r q ≡ same_key (column_key r) (column_key q)
column-same (column.Industry j) (column.Industry k) = sym (and-true (j.0 == k.0))
column-same (column.Final f) (column.Final g) = sym (and-true (f.0 == g.0))
column-same (column.Industry j) (column.Final g) = refl
column-same (column.Final f) (column.Industry k) = refl

abbrev is_margin_at : ProductId → Column → Cell → Bool
is_margin_at i q (cell.Margin l n r) = (n.0 == i.0) && same_key (column_key r) (column_key q)
is_margin_at i q _ = false

abbrev is_tax_at : ProductId → Column → Cell → Bool
is_tax_at i q (cell.Tax u n r) = (n.0 == i.0) && same_key (column_key r) (column_key q)
is_tax_at i q _ = false

margins-at : (cs : ClassLists) (gs : Groups) (i : ProductId) (q : Column) → Holds cs gs (λ k. measure.Cell (cell.Margin k i q)) (margins cs) (is_margin_at i q)
margins-at cs gs i q (cell.Margin l n r) x fit =
    picked MarginId (λ k. record { 0 = k }) (λ k. (l.0 == k.0) && ((n.0 == i.0) && same_key (column_key r) (column_key q))) l.0 (length cs.margins) ((n.0 == i.0) && same_key (column_key r) (column_key q)) x
    (λ k. and-turned (l.0 == k) ((n.0 == i.0) && same_key (column_key r) (column_key q))) (and-left _ _ (and-left _ _ fit))
margins-at cs gs i q c x fit = nothing-over x (margins cs)

taxes-at : (cs : ClassLists) (gs : Groups) (i : ProductId) (q : Column) → Holds cs gs (λ x. measure.Cell (cell.Tax x i q)) (taxes cs) (is_tax_at i q)
taxes-at cs gs i q (cell.Tax u n r) x fit =
    picked TaxId (λ k. record { 0 = k }) (λ w. (u.0 == w.0) && ((n.0 == i.0) && same_key (column_key r) (column_key q))) u.0 (length cs.taxes) ((n.0 == i.0) && same_key (column_key r) (column_key q)) x
    (λ k. and-turned (u.0 == k) ((n.0 == i.0) && same_key (column_key r) (column_key q))) (and-left _ _ (and-left _ _ fit))
taxes-at cs gs i q c x fit = nothing-over x (taxes cs)

-- a part of a purchase is its basic value, a margin or a tax
bought-part : (gs : Groups) (i : ProductId) (q : Column) (x : ℤ) (c : Cell)
    → factor gs c (total.Purchase i q) *ℤ x ≡ (where_so (same_cell c (cell.Basic i q)) (pos 1) *ℤ x +ℤ where_so (is_margin_at i q c) x) +ℤ where_so (is_tax_at i q c) x
bought-part gs i q x (cell.Basic n r) =
    ap (λ b. where_so ((n.0 == i.0) && b) (pos 1) *ℤ x) (column-same r q) ∙ last (where_so ((n.0 == i.0) && same_key (column_key r) (column_key q)) (pos 1) *ℤ x)
  where
    last : (z : ℤ) → z ≡ (z +ℤ pos 0) +ℤ pos 0
    last z = omega (arith, ints)
bought-part gs i q x (cell.Margin l n r) =
    ap (λ b. where_so ((n.0 == i.0) && b) (pos 1) *ℤ x) (column-same r q)
    ∙ picked-times ((n.0 == i.0) && same_key (column_key r) (column_key q)) x
    ∙ middle (where_so ((n.0 == i.0) && same_key (column_key r) (column_key q)) x) (pos 0 *ℤ x) (zero-*ℤ x)
  where
    middle : (z o : ℤ) → o ≡ pos 0 → z ≡ (o +ℤ z) +ℤ pos 0
    middle z o e = omega (arith, ints)
bought-part gs i q x (cell.Tax u n r) =
    ap (λ b. where_so ((n.0 == i.0) && b) (pos 1) *ℤ x) (column-same r q)
    ∙ picked-times ((n.0 == i.0) && same_key (column_key r) (column_key q)) x
    ∙ end (where_so ((n.0 == i.0) && same_key (column_key r) (column_key q)) x) (pos 0 *ℤ x) (zero-*ℤ x)
  where
    end : (z o : ℤ) → o ≡ pos 0 → z ≡ (o +ℤ pos 0) +ℤ z
    end z o e = omega (arith, ints)
bought-part gs i q x c = nothing (pos 0 *ℤ x) (zero-*ℤ x)
  where
    nothing : (o : ℤ) → o ≡ pos 0 → o ≡ (o +ℤ pos 0) +ℤ pos 0
    nothing o e = omega (arith, ints)

tax-counts : (cs : ClassLists) (gs : Groups) (w : TaxId) → Counts cs gs (total.TaxTotal w) (λ i. measure.Total (total.TaxProduct w i)) (products cs)
tax-counts cs gs w (cell.Tax u n r) x fit =
    picked-times (u.0 == w.0) x
    ∙ sym (picked ProductId (λ k. record { 0 = k }) (λ i. (u.0 == w.0) && (n.0 == i.0)) n.0 (length cs.products) (u.0 == w.0) x (λ k. refl) (and-right _ _ (and-left _ _ fit)))
tax-counts cs gs w c x fit = zero-*ℤ x ∙ sym (nothing-over x (products cs))

margin-counts : (cs : ClassLists) (gs : Groups) (k : MarginId) → Counts cs gs (total.MarginTotal k) (λ i. measure.Total (total.MarginProduct k i)) (products cs)
margin-counts cs gs k (cell.Margin l n r) x fit =
    picked-times (l.0 == k.0) x
    ∙ sym (picked ProductId (λ k. record { 0 = k }) (λ i. (l.0 == k.0) && (n.0 == i.0)) n.0 (length cs.products) (l.0 == k.0) x (λ k. refl) (and-right _ _ (and-left _ _ fit)))
margin-counts cs gs k c x fit = zero-*ℤ x ∙ sym (nothing-over x (products cs))

module _ (p : ProblemFacts) (t : TableFacts) (ok : IsProblem p) (of : IsTableOf p t) where
  pub purchase-is : (i : ProductId) (q : Column)
      → total_of t (total.Purchase i q)
      ≡ (cell_value t (cell.Basic i q) +ℤ int_sum_by (λ k. cell_value t (cell.Margin k i q)) (margins p.classes)) +ℤ int_sum_by (λ x. cell_value t (cell.Tax x i q)) (taxes p.classes)
  purchase-is i q =
      let basic : Held → ℤ = λ h. where_so (same_cell h.cell (cell.Basic i q)) (pos 1) *ℤ h.number in
      let margin : Held → ℤ = λ h. where_so (is_margin_at i q h.cell) h.number in
      let tax : Held → ℤ = λ h. where_so (is_tax_at i q h.cell) h.number in
      sum-same (λ (h : Held). factor t.groups h.cell (total.Purchase i q) *ℤ h.number) (λ h. (basic h +ℤ margin h) +ℤ tax h) (λ h. bought-part t.groups i q h.number h.cell) t.cells
      ∙ sum-add (λ h. basic h +ℤ margin h) tax t.cells
      ∙ ap (λ z. z +ℤ int_sum_by tax t.cells) (sum-add basic margin t.cells)
      ∙ (λ d. (sym (value-parts t (Sorted-table p t ok of) (measure.Cell (cell.Basic i q))) d
      +ℤ sym (over-cells p t ok of (λ k. measure.Cell (cell.Margin k i q)) (margins p.classes) (is_margin_at i q) (margins-at p.classes (groups p) i q)) d)
      +ℤ sym (over-cells p t ok of (λ x. measure.Cell (cell.Tax x i q)) (taxes p.classes) (is_tax_at i q) (taxes-at p.classes (groups p) i q)) d)

  pub tax-total : (w : TaxId) → total_of t (total.TaxTotal w) ≡ int_sum_by (λ i. total_of t (total.TaxProduct w i)) (products p.classes)
  tax-total w = total-of_places p t ok of (total.TaxTotal w) (λ i. measure.Total (total.TaxProduct w i)) (products p.classes) (tax-counts p.classes (groups p) w)

  pub margin-total : (k : MarginId) → total_of t (total.MarginTotal k) ≡ int_sum_by (λ i. total_of t (total.MarginProduct k i)) (products p.classes)
  margin-total k = total-of_places p t ok of (total.MarginTotal k) (λ i. measure.Total (total.MarginProduct k i)) (products p.classes) (margin-counts p.classes (groups p) k)
