use Rattle.std.proofs.Common.{◌≡◌, ◌^◌, ◌∙◌, true, pos, neg_ℤ, ap, arith, sym, subst}
use Rattle.flow_residual.specs.Rooms.{IsRoomFor}
use Rattle.sut_measures.specs.declared.measures.Measure.TheVariants as measure
use Rattle.sut_tables.specs.Changes.{row_removed}
use Rattle.sut_circuit.specs.IsCircuit.{IsCircuit}
use Rattle.sut_circuit.proofs.LiveStays.{total-live}
use Rattle.sut_session.proofs.ArcChanges.{room-stays}
use Rattle.sut_session.proofs.Steps.{live-place, part-before}
use Rattle.sut_session.proofs.following.dropped.Goals as goal

pub free_total-requires : goal.free_total-requires
free_total-requires c =
    let there : c.has_part.result ≡ true = grind (arith, c.if-not-has_part.false) in
    let q = c.requires.before.0 in
    (q, c.requires.before.1.circuit, part-before q c.args.p.now c.args.m c.in-Total.t c.requires.before.2 (sym c.has_part.ensures ∙ there))

pub returns : goal.returns
returns c =
    let q = c.requires.before.0 in
    let is = c.requires.before.1 in
    let there : c.has_part.result ≡ true = grind (arith, c.if-not-has_part.false) in
    let part = part-before q c.args.p.now c.args.m c.in-Total.t c.requires.before.2 (sym c.has_part.ensures ∙ there) in
    let place = live-place q c.args.n.circuit is.circuit (measure.Total c.in-Total.t) (total-live q c.in-Total.t part) in
    let nodes = room-stays c.args.n.circuit c.free_total.new.self place.0 (neg_ℤ (pos (2 ^ 60))) (pos (2 ^ 60)) (c.free_total.ensures.arc place.0 place.1) in
    record {
      circuit = subst (λ p. IsCircuit p c.free_total.new.self) (sym (c.requires.before.2 ∙ ap (row_removed q) c.in-Total.is)) (c.free_total.ensures.circuit q is.circuit part);
      room = subst (λ k. IsRoomFor k c.args.n.room) (sym nodes) is.room;
    }
