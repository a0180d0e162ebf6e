use Rattle.std.proofs.Common.{◌≡◌, ◌++◌, map, take}
use Rattle.std.specs.List.{flat_map}
use Rattle.sut_text.specs.Text.{line_text}
use Rattle.sut_review.specs.ReviewText.{seat_line}
use Rattle.sut_review.specs.Seats.{seat_of, seats_of}
use Rattle.sut_review.proofs.seats.put_seats.Given as goal

abbrev pub invariant-loop-seat : goal.invariant-loop-seat
invariant-loop-seat g l =
    let facts = λ (seat : _). seat_of (λ b. (goal.Reviewer-dyn g (b.vtable, b.value)).rule b.value) (λ b. (goal.Reviewer-dyn g (b.vtable, b.value)).marked b.value) l.shown seat.label.items seat.seen seat.tally seat.object in
    l.out.items ≡ l.fn.out.items ++ flat_map line_text (map seat_line (seats_of (take l.seat-index l.seats) facts))
