use Rattle.std.proofs.Common.{◌<◌, arith, length, sym}
use Rattle.sut_review.proofs.SeatLists.{dismissed-past, dismissed-set, stands-past, stands-there}
use Rattle.sut_review.proofs.panel.Panel.dismiss.Goals as goal

pub returns-then-index-len-clause-answer : goal.returns-then-index-len-clause-answer
returns-then-index-len-clause-answer g c =
    let size = c.args.self.now.seats.ok.0 in
    sym (stands-past _ c.args.index _ (omega (arith, size, c.len.ensures)))

pub returns-then-index-len-clause-seats : goal.returns-then-index-len-clause-seats
returns-then-index-len-clause-seats g c =
    let size = c.args.self.now.seats.ok.0 in
    sym (dismissed-past _ c.args.index _ (omega (arith, size, c.len.ensures)))

pub returns-clause-answer : goal.returns-clause-answer
returns-clause-answer g c =
    let size = c.args.self.now.seats.ok.0 in
    let there : c.args.index < length c.args.self.now.seats.items = omega (arith, size, c.len.ensures) in
    stands-there _ c.args.self.now.seats.items c.args.index c.index_mut-seat.result.now c.leave.result there c.index_mut-seat.ensures.value c.leave.ensures.stood

pub returns-clause-seats : goal.returns-clause-seats
returns-clause-seats g c =
    let size = c.args.self.now.seats.ok.0 in
    let there : c.args.index < length c.args.self.now.seats.items = omega (arith, size, c.len.ensures) in
    dismissed-set _ c.args.self.now.seats.items c.args.index c.leave.new.seat c.index_mut-seat.result.now there c.index_mut-seat.ensures.value c.leave.ensures.left
