use Rattle.std.proofs.Common.{◌≡◌, ap, arith, length}
use Rattle.sut_review.specs.Seats.{stands_with}
use Rattle.sut_review.proofs.SeatLists.{first-passing, none-passing}
use Rattle.sut_review.proofs.panel.Panel.standing.Goals as goal

pub returns-then-is_standing : goal.returns-then-is_standing
returns-then-is_standing g c =
    first-passing (stands_with c.args.label.now) _ c.deref-seat-items.result.now c.args.self.now.seats.items c.loop-place.place c.seat-item.result c.is_standing.result
    c.deref-seat-items.ensures.value (omega (arith, c.loop-place-test.true)) c.seat-item.is c.is_standing.ensures c.if-is_standing.true c.loop-place.invariant

pub returns : goal.returns
returns g c =
    let same : length c.deref-seat-items.result.now ≡ length c.args.self.now.seats.items = ap length c.deref-seat-items.ensures.value in
    none-passing (stands_with c.args.label.now) _ c.args.self.now.seats.items (λ k d l. c.loop-place.invariant k d (omega (arith, l, same, c.loop-place-test.false)))
