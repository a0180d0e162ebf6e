use Rattle.std.proofs.Common.{◌≡◌, ◌∙◌, Some, length, refl, subst, to_z-of_z}
use Rattle.std.proofs.lemmas.Option.{slice_get_read}
use Rattle.std.specs.Prelude.{slice_get}
use Rattle.sut_measures.specs.Keys.{cell_key}
use Rattle.sut_tables.specs.InOrder.{IsAscending}
use Rattle.sut_tables.specs.Rows.{InRange}
use Rattle.sut_tables.specs.declared.tables.Held.{Held}
use Rattle.sut_circuit.proofs.Flowed.{put-stands}
use Rattle.sut_circuit.proofs.Places.{All-at}
use Rattle.sut_circuit.proofs.table_flows.stands_at.Goals as goal

pub has-requires : goal.has-requires
has-requires c =
    let (_, same, _, inside, _) = c.in-Some.ensures.lookup in
    let there = slice_get_read c.cells.result.now (length c.cells.result.now) c.args.at c.in-Some.held.now refl inside.0 same in
    All-at (λ (h : Held). InRange h.number) c.cells.result.now c.args.at c.in-Some.held.now c.cells.ensures.in_range there

pub returns-in-Some : goal.returns-in-Some
returns-in-Some c = λ is.
    let (_, same, _, inside, _) = c.in-Some.ensures.lookup in
    let there = slice_get_read c.cells.result.now (length c.cells.result.now) c.args.at c.in-Some.held.now refl inside.0 same in
    let held = subst (λ hs. slice_get hs c.args.at ≡ Some c.in-Some.held.now) c.cells.ensures.all there in
    let order = subst (IsAscending (λ (h : Held). cell_key h.cell)) c.cells.ensures.all c.cells.ensures.in_order in
    let (cell, number) = c.has.ensures is in
    put-stands c.args.table.now c.args.at c.in-Some.held.now order held c.args.cell c.args.x cell (number ∙ to_z-of_z c.ranges.x)
