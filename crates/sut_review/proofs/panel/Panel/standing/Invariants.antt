use Rattle.std.proofs.Common.{◌≡◌, ◌<◌, ℕ, false, slice_index_or}
use Rattle.sut_review.specs.Seats.{seat_of, stands_with}
use Rattle.sut_review.proofs.panel.Panel.standing.Given as goal

abbrev pub invariant-loop-place : goal.invariant-loop-place
invariant-loop-place g l =
    let facts = λ (seat : _). seat_of (λ b. (goal.Reviewer-dyn g (b.vtable, b.value)).rule b.value) (λ b. (goal.Reviewer-dyn g (b.vtable, b.value)).marked b.value) l.self.shown seat.label.items seat.seen seat.tally seat.object in
    (k : ℕ) (d : _) → k < l.place → stands_with l.label (facts (slice_index_or l.self.seats.items k d)) ≡ false
