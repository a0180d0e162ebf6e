use Rattle.std.proofs.Common.{◌≡◌, ◌≤◌, ◌<◌, ◌+◌, ℕ, vec_len, slice_index_or}
use Rattle.sut_review.specs.Seats.{seat_of, seat_shown}
use Rattle.sut_review.proofs.seats.show_all.Given as goal

-- the seats so far have seen the table, and the others are as they were
abbrev pub invariant-loop-i : goal.invariant-loop-i
invariant-loop-i g l =
    let facts = λ (shown : ℕ) (seat : _). seat_of (λ b. (goal.Reviewer-dyn g (b.vtable, b.value)).rule b.value) (λ b. (goal.Reviewer-dyn g (b.vtable, b.value)).marked b.value) shown seat.label.items seat.seen seat.tally seat.object in
    record {
      places : vec_len l.seats ≡ vec_len l.initial.seats;
      shown : (shown k : ℕ) (d : _) → k < l.i → facts (shown + 1) (slice_index_or l.seats.items k d) ≡ seat_shown l.p l.t (facts shown (slice_index_or l.initial.seats.items k d));
      rest : (k : ℕ) (d : _) → l.i ≤ k → slice_index_or l.seats.items k d ≡ slice_index_or l.initial.seats.items k d;
    }
