use Rattle.std.proofs.Common.{◌≡◌, ◌∷◌, rules}
use Rattle.sut_review.proofs.SeatLists.{rest-all, seated}
use Rattle.sut_review.proofs.panel.Panel.new.Goals as goal

pub loop-object-preserved : goal.loop-object-preserved
loop-object-preserved g c =
    let left = c.loop-object.object-iterator.rest.items in
    let rest = c.next.new.self.rest.items in
    let first : left ≡ c.in-Some.object ∷ rest = search rules in
    let seat = c.in_ok-seat_for.field-0 in
    let pushed = c.in_ok-push.ensures.items in
    let is_zero = λ (b : _). (goal.Reviewer-dyn g (b.vtable, b.value)).marked b.value ≡ 0 in
    record {
      seats = seated _ _ c.loop-object.seats.items c.push.new.self.items seat left rest c.in-Some.object _ first c.in_ok-seat_for.ensures c.loop-object.invariant.seats pushed;
      zero = rest-all is_zero left rest c.in-Some.object first c.loop-object.invariant.zero;
    }
