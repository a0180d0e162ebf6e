use Rattle.std.proofs.Common.{sym, subst}
use Rattle.flow_residual.specs.Rooms.{IsRoomFor}
use Rattle.sut_session.proofs.ArcChanges.{flows-stay, room-stays, same-numbers}
use Rattle.sut_session.proofs.Steps.{live-place, row-live}
use Rattle.sut_session.proofs.following.put.Goals as goal

pub returns-clause-network : goal.returns-clause-network
returns-clause-network c = λ q is live.
    let row = c.args.row.now in
    let place = live-place q c.args.n.now.circuit is.circuit row.measure live in
    let nodes = room-stays c.args.n.now.circuit c.put_row.new.self place.0 row.lower row.upper (c.put_row.ensures.arc place.0 place.1) in
    record {
      circuit = c.put_row.ensures.circuit q is.circuit live;
      room = subst (λ k. IsRoomFor k c.args.n.now.room) (sym nodes) is.room;
    }

pub returns-clause-kept : goal.returns-clause-kept
returns-clause-kept c = λ q is bounds.
    let row = c.args.row.now in
    let old = c.args.n.now in
    let place = live-place q old.circuit is.circuit row.measure (row-live q row.measure bounds.old bounds.was) in
    same-numbers old (record { circuit = c.put_row.new.self; room = old.room })
    (flows-stay q old.circuit c.put_row.new.self row place.0 is.circuit bounds c.graph.ensures.kept.bounded c.graph.ensures.kept.counted place.1 (c.put_row.ensures.arc place.0 place.1))
    c.put_row.ensures.potentials
