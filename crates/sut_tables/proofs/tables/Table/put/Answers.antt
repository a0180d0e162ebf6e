use Rattle.std.proofs.Common.{rules, ◌≡◌, ◌<◌, length, ◌∙◌, ap, sym, subst, arith, ℤ, ◌^◌, ◌-ℤ◌, to_z, of_z, get_or, set}
use mir.Syntax.{w64, w128}
use mir.Val.{SFits}
use Rattle.std.proofs.lemmas.Int.{ints, to_z-of_z}
use Rattle.std.proofs.lemmas.List.Elements.{All-set}
use Rattle.std.proofs.lemmas.List.{get_or_read}
use Rattle.sut_tables.specs.declared.tables.Held.{Held}
use Rattle.sut_tables.specs.InOrder.{IsAscending}
use Rattle.sut_tables.specs.Rows.{InRange}
use Rattle.sut_tables.specs.TableFacts.{TableFacts}
use Rattle.sut_tables.specs.TableView.{facts_of}
use Rattle.sut_tables.specs.CellSums.{kept_for}
use Rattle.sut_tables.specs.Tables.{holds, put_number}
use Rattle.sut_tables.proofs.Conservation.{Sorted-from_ascending}
use Rattle.sut_tables.proofs.HeldCells.{key_of, holds-there, put-absent, put-ascending, put-set}
use Rattle.sut_tables.proofs.SumsKept.{change-is, change-small, changed-by, kept-set, kept-small}
use Rattle.sut_tables.proofs.tables.Table.put.Goals as goal

pub returns-in_default-clause-after : goal.returns-in_default-clause-after
returns-in_default-clause-after c =
    sym c.self.view_is
    ∙ ap (λ hs. record (facts_of c.self.inside) { cells = hs }) (sym (put-absent c.args.c c.args.x c.self.inside.cells.items (rw c.deref.ensures.value at c.in_default.ensures.absent)))
    ∙ ap (λ t. put_number t c.args.c c.args.x) c.self.view_is

pub change_sums-requires-clause-numbers : goal.change_sums-requires-clause-numbers
change_sums-requires-clause-numbers c = λ q.
    kept-small (facts_of c.self.inside) c.self.invariant.in_range (subst (λ xs. length xs < 2 ^ 64) c.deref.ensures.value c.deref.type_inv.0) q c.self.inside.sums (c.self.invariant.sums q)

pub change_sums-requires-clause-change : goal.change_sums-requires-clause-change
change_sums-requires-clause-change c =
    let held = rw c.deref.ensures.value at c.in-Some.ensures.held in
    let old : InRange c.index.result.now.number = subst (λ (h : Held). InRange h.number) (sym c.index.ensures) (c.self.invariant.in_range c.in-Some.place c.index.result.now held.0) in
    change-small c.args.x c.index.result.now.number _ c.requires old (change-is c.from.result c.from-2.result c.args.x c.index.result.now.number c.requires old (omega (arith, ints, c.from.ensures)) (omega (arith, ints, c.from-2.ensures)))

pub invariant_of-self : goal.invariant_of-self
invariant_of-self c =
    let held = rw c.deref.ensures.value at c.in-Some.ensures.held in
    let hs = c.self.inside.cells.items in
    let i = c.in-Some.place in
    let h = c.index_mut.result.now in
    let at = sym c.index_mut.ensures.value in
    let is : h.cell ≡ c.args.c = ap (λ (g : Held). g.cell) c.index_mut.ensures.value ∙ held.1 h in
    let fits : SFits w64 c.args.x = c.ranges.x in
    let x = to_z w64 (of_z w64 c.args.x) in
    let read : c.index.result.now ≡ h = get_or_read hs i c.index.result.now held.0 c.index.ensures h ∙ at in
    let old : InRange h.number = subst (λ (g : Held). InRange g.number) at (c.self.invariant.in_range i h held.0) in
    record {
      in_order = subst (IsAscending key_of) (put-set x hs (Sorted-from_ascending key_of hs c.self.invariant.in_order) i h held.0 at) (put-ascending h.cell x hs c.self.invariant.in_order);
      in_range = All-set (λ (g : Held). InRange g.number) hs i (record { cell = h.cell; number = x }) (subst InRange (sym (to_z-of_z w64 c.args.x fits)) c.requires) c.self.invariant.in_range;
      sums = λ s.
          let d = to_z w128 (of_z w128 (to_z w128 (of_z w128 c.from.result) -ℤ to_z w128 (of_z w128 c.from-2.result))) in
          let is_d : d ≡ x -ℤ h.number =
          change-is c.from.result c.from-2.result c.args.x h.number c.requires old (omega (arith, ints, c.from.ensures)) (omega (arith, ints, c.from-2.ensures, ap (λ (g : Held). g.number) read))
          ∙ ap (λ z. z -ℤ h.number) (sym (to_z-of_z w64 c.args.x fits)) in
          kept-set (facts_of c.self.inside) i h x d held.0 at is_d s c.self.inside.sums c.change_sums.new.sums (c.self.invariant.sums s)
          (changed-by (facts_of c.self.inside).groups c.args.c h d c.product_group_of-product_group.result c.industry_group_of-industry_group.result (rw c.deref-2.ensures.value at c.product_group_of-product_group.ensures) (rw c.deref-3.ensures.value at c.industry_group_of-industry_group.ensures) is s (kept_for c.self.inside.sums s) (kept_for c.change_sums.new.sums s) (c.change_sums.ensures s));
    }

pub returns-clause-answer : goal.returns-clause-answer
returns-clause-answer c =
    let held = rw c.deref.ensures.value at c.in-Some.ensures.held in
    let h = c.index_mut.result.now in
    sym (holds-there c.self.inside.cells.items c.in-Some.place h held.0 (sym c.index_mut.ensures.value) c.args.c (ap (λ (g : Held). g.cell) c.index_mut.ensures.value ∙ held.1 h))
    ∙ ap (λ (t : TableFacts). holds t.cells c.args.c) c.self.view_is

pub returns-clause-after : goal.returns-clause-after
returns-clause-after c =
    let held = rw c.deref.ensures.value at c.in-Some.ensures.held in
    let hs = c.self.inside.cells.items in
    let h = c.index_mut.result.now in
    let fits : SFits w64 c.args.x = c.ranges.x in
    let is : h.cell ≡ c.args.c = ap (λ (g : Held). g.cell) c.index_mut.ensures.value ∙ held.1 h in
    let x = to_z w64 (of_z w64 c.args.x) in
    ap (λ gs. record (facts_of c.self.inside) { cells = gs }) (sym (put-set x hs (Sorted-from_ascending key_of hs c.self.invariant.in_order) c.in-Some.place h held.0 (sym c.index_mut.ensures.value)))
    ∙ ap (λ k. put_number (facts_of c.self.inside) k x) is
    ∙ ap (λ z. put_number (facts_of c.self.inside) c.args.c z) (to_z-of_z w64 c.args.x fits)
    ∙ ap (λ t. put_number t c.args.c c.args.x) c.self.view_is
