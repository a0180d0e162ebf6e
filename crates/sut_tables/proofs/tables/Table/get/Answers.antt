use Rattle.std.proofs.Common.{◌∙◌, sym, ap, arith, ◌≡◌, ◌<◌, length, get_or}
use Rattle.std.proofs.lemmas.Int.{ints}
use Rattle.sut_tables.specs.declared.tables.Held.{Held}
use Rattle.sut_tables.specs.TableFacts.{TableFacts}
use Rattle.sut_tables.specs.Values.{number_at}
use Rattle.sut_tables.proofs.HeldCells.{number-there, number-absent}
use Rattle.sut_tables.proofs.tables.Table.get.Goals as goal

pub returns-in-Some : goal.returns-in-Some
returns-in-Some c =
    let held = rw c.deref.ensures.value at c.in-Some.ensures.held in
    let found = c.index.result.now in
    let number = number-there c.self.inside.cells.items c.self.invariant.in_order c.args.c c.in-Some.place found held.0 (sym c.index.ensures) (ap (λ (h : Held). h.cell) c.index.ensures ∙ held.1 found) in
    omega (arith, ints, sym number ∙ ap (λ (t : TableFacts). number_at t.cells c.args.c) c.self.view_is)

pub returns-in-None : goal.returns-in-None
returns-in-None c =
    sym (number-absent c.self.inside.cells.items c.args.c (rw c.deref.ensures.value at c.in-None.ensures.absent)) ∙ ap (λ (t : TableFacts). number_at t.cells c.args.c) c.self.view_is
