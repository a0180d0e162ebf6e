use Rattle.std.proofs.Common.{◌≡◌, ◌++◌, All, map}
use Rattle.sut_review.specs.Seats.{new_seat, seat_of, seats_of}
use Rattle.sut_review.proofs.panel.Panel.new.Given as goal

-- the seats so far, and those that the reviewers that are left get
abbrev pub invariant-loop-object : goal.invariant-loop-object
invariant-loop-object g l =
    let rule = λ (b : _). (goal.Reviewer-dyn g (b.vtable, b.value)).rule b.value in
    let marked = λ (b : _). (goal.Reviewer-dyn g (b.vtable, b.value)).marked b.value in
    let name = λ (b : _). (goal.Reviewer-dyn g (b.vtable, b.value)).name b.value in
    let facts = λ (seat : _). seat_of rule marked 0 seat.label.items seat.seen seat.tally seat.object in
    record {
      seats : seats_of l.seats.items facts ++ map (λ b. new_seat (name b) (rule b)) l.object-iterator.rest.items ≡ map (λ b. new_seat (name b) (rule b)) l.fn.list.items;
      zero : All (λ b. marked b ≡ 0) l.object-iterator.rest.items;
    }
