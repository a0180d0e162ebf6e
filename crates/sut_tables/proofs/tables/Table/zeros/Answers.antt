use Rattle.std.proofs.Common.{◌≡◌, ◌<◌, ◌∙◌, ap, sym, subst, rules, arith, length, All, map, refl}
use Rattle.sut_classes.specs.Groups.{groups_of}
use Rattle.sut_measures.specs.Keys.{cell_key, measure_key}
use Rattle.sut_tables.specs.declared.tables.Held.{Held}
use Rattle.sut_tables.specs.InOrder.{IsAscending}
use Rattle.sut_tables.specs.Problems.{cell_rows}
use Rattle.sut_tables.specs.RowFacts.{RowFacts}
use Rattle.sut_tables.specs.Rows.{InRange}
use Rattle.sut_tables.specs.TableView.{facts_of}
use Rattle.sut_tables.proofs.Ascending.{ascending-from_sorted}
use Rattle.sut_tables.proofs.Conservation.{Sorted-cells, Sorted-from_ascending}
use Rattle.sut_tables.proofs.HeldCells.{key_of}
use Rattle.sut_tables.proofs.ZeroTables.{cells-zeros, zeros-ascending, zeros-in_range, zeros-sums}
use Rattle.sut_tables.proofs.tables.Table.zeros.Goals as goal

pub invariant_of-result : goal.invariant_of-result
invariant_of-result c =
    let p = c.args.p.now in
    let sorted = Sorted-cells p.rows (Sorted-from_ascending (λ (r : RowFacts). measure_key r.measure) p.rows c.kept.ensures.problem.in_order) in
    record {
      in_order = subst (IsAscending key_of) (sym c.in_ok-cells.ensures) (zeros-ascending (cell_rows p) (ascending-from_sorted cell_key (cell_rows p) sorted));
      in_range = subst (All (λ (h : Held). InRange h.number)) (sym c.in_ok-cells.ensures) (zeros-in_range (cell_rows p));
      sums = λ s. zeros-sums (facts_of (record { cells = c.in_ok-cells.cells; product_groups = c.in_ok-product_groups.product_groups; industry_groups = c.in_ok-industry_groups.industry_groups; sums = c.in_ok-sums.sums })) (cell_rows p) c.in_ok-cells.ensures s c.in_ok-sums.sums (rw (c.deref.ensures.value, c.deref-2.ensures.value, c.deref-3.ensures.value) at (c.in_ok-sums.ensures s));
    }

pub returns-clause-belongs : goal.returns-clause-belongs
returns-clause-belongs c = record {
  cells = ap (map (λ (h : Held). h.cell)) c.in_ok-cells.ensures ∙ cells-zeros (cell_rows c.args.p.now);
  groups = rw (c.in_ok-product_groups.ensures, c.in_ok-industry_groups.ensures, c.classes.ensures, c.classes-2.ensures) refl;
}
