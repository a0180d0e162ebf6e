-- GDP by the printed numbers: outputs, inputs, taxes, items, final uses and imports, added up.
use Rattle.std.proofs.Common.{◌≡◌, true, ℤ, ◌+ℤ◌, ◌-ℤ◌, ◌*ℤ◌, length, refl, sym}
use Rattle.std.specs.Prelude.{◌==◌}
use Rattle.std.proofs.Math.IntN.{zero-*ℤ}
use Rattle.sut_classes.specs.ClassLists.{ClassLists}
use Rattle.sut_classes.specs.Groups.{Groups}
use Rattle.sut_classes.specs.declared.ids.Column.TheVariants as column
use Rattle.sut_classes.specs.declared.ids.FinalId.{FinalId}
use Rattle.sut_classes.specs.declared.ids.IndustryId.{IndustryId}
use Rattle.sut_classes.specs.declared.ids.ItemId.{ItemId}
use Rattle.sut_classes.specs.declared.ids.TaxId.{TaxId}
use Rattle.sut_measures.specs.Sums.{factor, is_any_final, is_bought}
use Rattle.sut_measures.specs.declared.measures.Cell.{Cell}
use Rattle.sut_measures.specs.declared.measures.Cell.TheVariants as cell
use Rattle.sut_measures.specs.declared.measures.Measure.TheVariants as measure
use Rattle.sut_measures.specs.declared.measures.Total.TheVariants as total
use Rattle.sut_tables.specs.declared.tables.Held.{Held}
use Rattle.sut_tables.specs.Gdp.{expenditure, income, is_added, is_any_industry, is_import, is_make, is_tax, production}
use Rattle.sut_tables.specs.ProblemFacts.{ProblemFacts}
use Rattle.sut_tables.specs.TableFacts.{TableFacts}
use Rattle.sut_tables.specs.Problems.{IsProblem, IsTableOf, groups}
use Rattle.sut_tables.specs.Values.{int_sum_by, sum_where}
use Rattle.sut_tables.proofs.IntSums.{sum-same}
use Rattle.sut_tables.proofs.Nodes.{where_so}
use Rattle.sut_tables.proofs.Paths.{one-*ℤ}
use Rattle.sut_write.specs.Numbers.{all_inputs, all_outputs, all_taxes, total_of}
use Rattle.sut_write.specs.Places.{finals, industries, items, taxes}
use Rattle.sut_laws.proofs.PlaceSums.{Holds, and-left, and-right, nothing-over, over-cells, picked}

outputs : (cs : ClassLists) (gs : Groups) → Holds cs gs (λ j. measure.Total (total.Output j)) (industries cs) is_make
outputs cs gs (cell.Make n m) x fit = picked IndustryId (λ k. record { 0 = k }) (λ j. m.0 == j.0) m.0 (length cs.industries) true x (λ k. refl) (and-right _ _ fit)
outputs cs gs c x fit = nothing-over x (industries cs)

inputs : (cs : ClassLists) (gs : Groups) → Holds cs gs (λ j. measure.Total (total.Inputs j)) (industries cs) (is_bought (λ i. true) is_any_industry)
inputs cs gs (cell.Basic n (column.Industry m)) x fit = picked IndustryId (λ k. record { 0 = k }) (λ j. m.0 == j.0) m.0 (length cs.industries) true x (λ k. refl) (and-right _ _ fit)
inputs cs gs (cell.Margin l n (column.Industry m)) x fit = picked IndustryId (λ k. record { 0 = k }) (λ j. m.0 == j.0) m.0 (length cs.industries) true x (λ k. refl) (and-right _ _ fit)
inputs cs gs (cell.Tax u n (column.Industry m)) x fit = picked IndustryId (λ k. record { 0 = k }) (λ j. m.0 == j.0) m.0 (length cs.industries) true x (λ k. refl) (and-right _ _ fit)
inputs cs gs c x fit = nothing-over x (industries cs)

taxed : (cs : ClassLists) (gs : Groups) → Holds cs gs (λ x. measure.Total (total.TaxTotal x)) (taxes cs) is_tax
taxed cs gs (cell.Tax u n r) x fit = picked TaxId (λ k. record { 0 = k }) (λ w. u.0 == w.0) u.0 (length cs.taxes) true x (λ k. refl) (and-left _ _ (and-left _ _ fit))
taxed cs gs c x fit = nothing-over x (taxes cs)

added : (cs : ClassLists) (gs : Groups) → Holds cs gs (λ v. measure.Total (total.ItemTotal v)) (items cs) is_added
added cs gs (cell.Added w j) x fit = picked ItemId (λ k. record { 0 = k }) (λ v. w.0 == v.0) w.0 (length cs.items) true x (λ k. refl) (and-left _ _ fit)
added cs gs c x fit = nothing-over x (items cs)

final_uses : (cs : ClassLists) (gs : Groups) → Holds cs gs (λ f. measure.Total (total.FinalTotal f)) (finals cs) (is_bought (λ i. true) is_any_final)
final_uses cs gs (cell.Basic n (column.Final g)) x fit = picked FinalId (λ k. record { 0 = k }) (λ f. g.0 == f.0) g.0 (length cs.finals) true x (λ k. refl) (and-right _ _ fit)
final_uses cs gs (cell.Margin l n (column.Final g)) x fit = picked FinalId (λ k. record { 0 = k }) (λ f. g.0 == f.0) g.0 (length cs.finals) true x (λ k. refl) (and-right _ _ fit)
final_uses cs gs (cell.Tax u n (column.Final g)) x fit = picked FinalId (λ k. record { 0 = k }) (λ f. g.0 == f.0) g.0 (length cs.finals) true x (λ k. refl) (and-right _ _ fit)
final_uses cs gs c x fit = nothing-over x (finals cs)

import-part : (gs : Groups) (x : ℤ) (c : Cell) → factor gs c total.ImportTotal *ℤ x ≡ where_so (is_import c) x
import-part gs x (cell.Import i) = one-*ℤ x
import-part gs x c = zero-*ℤ x

module _ (p : ProblemFacts) (t : TableFacts) (ok : IsProblem p) (of : IsTableOf p t) where
  pub outputs-are : all_outputs p.classes t ≡ sum_where is_make t.cells
  outputs-are = over-cells p t ok of (λ j. measure.Total (total.Output j)) (industries p.classes) is_make (outputs p.classes (groups p))

  pub inputs-are : all_inputs p.classes t ≡ sum_where (is_bought (λ i. true) is_any_industry) t.cells
  inputs-are = over-cells p t ok of (λ j. measure.Total (total.Inputs j)) (industries p.classes) (is_bought (λ i. true) is_any_industry) (inputs p.classes (groups p))

  pub taxes-are : all_taxes p.classes t ≡ sum_where is_tax t.cells
  taxes-are = over-cells p t ok of (λ x. measure.Total (total.TaxTotal x)) (taxes p.classes) is_tax (taxed p.classes (groups p))

  items-are : int_sum_by (λ v. total_of t (total.ItemTotal v)) (items p.classes) ≡ sum_where is_added t.cells
  items-are = over-cells p t ok of (λ v. measure.Total (total.ItemTotal v)) (items p.classes) is_added (added p.classes (groups p))

  finals-are : int_sum_by (λ f. total_of t (total.FinalTotal f)) (finals p.classes) ≡ sum_where (is_bought (λ i. true) is_any_final) t.cells
  finals-are = over-cells p t ok of (λ f. measure.Total (total.FinalTotal f)) (finals p.classes) (is_bought (λ i. true) is_any_final) (final_uses p.classes (groups p))

  imports-are : total_of t total.ImportTotal ≡ sum_where is_import t.cells
  imports-are = sum-same (λ (h : Held). factor t.groups h.cell total.ImportTotal *ℤ h.number) (λ (h : Held). where_so (is_import h.cell) h.number) (λ h. import-part t.groups h.number h.cell) t.cells

  pub production-is : production t ≡ (all_outputs p.classes t -ℤ all_inputs p.classes t) +ℤ all_taxes p.classes t
  production-is = sym (λ d. (outputs-are d -ℤ inputs-are d) +ℤ taxes-are d)

  pub income-is : income t ≡ int_sum_by (λ v. total_of t (total.ItemTotal v)) (items p.classes) +ℤ all_taxes p.classes t
  income-is = sym (λ d. items-are d +ℤ taxes-are d)

  pub expenditure-is : expenditure t ≡ int_sum_by (λ f. total_of t (total.FinalTotal f)) (finals p.classes) -ℤ total_of t total.ImportTotal
  expenditure-is = sym (λ d. finals-are d -ℤ imports-are d)
