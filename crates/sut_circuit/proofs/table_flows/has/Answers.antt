use Rattle.std.proofs.Common.{◌≡◌, sym, ◌∙◌, ap, arith}
use Rattle.std.proofs.lemmas.Int.{ints}
use Rattle.std.specs.Ordering.{is_eq}
use Rattle.sut_measures.specs.Keys.{cell_key}
use Rattle.sut_measures.proofs.KeyLemmas.{cell_key-injective}
use Rattle.sut_measures.proofs.OrderLemmas.{cell_order}
use Rattle.sut_tables.proofs.Ordered.{same-eq}
use Rattle.sut_tables.proofs.TallyKeys.{eq-same}
use Rattle.sut_circuit.proofs.table_flows.has.Goals as goal

pub returns-then-held-x : goal.returns-then-held-x
returns-then-held-x c = λ same.
    let held = c.args.held.now in
    let key : cell_key held.cell ≡ cell_key c.args.cell =
    same-eq (cell_key held.cell) (cell_key c.args.cell) (sym (eq-same (cell_key held.cell) (cell_key c.args.cell)) ∙ ap is_eq (sym (c.cmp.ensures ∙ cell_order held.cell c.args.cell)) ∙ sym c.is_eq.ensures ∙ same) in
    (cell_key-injective held.cell c.args.cell key, omega (arith, ints, c.if-held-x.true, c.requires.low, c.requires.high, c.ranges.x))
