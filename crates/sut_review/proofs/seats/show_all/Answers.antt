use Rattle.std.proofs.Common.{◌≡◌, ◌∙◌, ◌+◌, ◌<◌, ◌≤◌, ℕ, arith, length}
use Rattle.sut_review.specs.Seats.{seat_of, seat_shown}
use Rattle.sut_review.proofs.SeatLists.{after-set, each-seat, like, one-more}
use Rattle.sut_review.proofs.seats.show_all.Goals as goal

pub loop-i-preserved : goal.loop-i-preserved
loop-i-preserved g c =
    let i = c.loop-i.i in
    let old = c.args.seats.now.items in
    let now = c.loop-i.seats.items in
    let there : i < length now = omega (arith, c.loop-i.seats.ok.0, c.args.seats.now.ok.0, c.loop-i.invariant.places, c.len-i-end.ensures, c.loop-i-test.true) in
    let itself : i ≤ i = omega arith in
    let later : (k : ℕ) → i + 1 ≤ k → i < k = λ k m. omega (arith, m) in
    let too : (k : ℕ) → i + 1 ≤ k → i ≤ k = λ k m. omega (arith, m) in
    let facts = λ (shown : ℕ). like c.show.new.seat (λ seat. seat_of (λ b. (goal.Reviewer-dyn g (b.vtable, b.value)).rule b.value) (λ b. (goal.Reviewer-dyn g (b.vtable, b.value)).marked b.value) shown seat.label.items seat.seen seat.tally seat.object) in
    record {
      places = c.loop-i.invariant.places;
      shown = λ shown. one-more (facts (shown + 1)) (facts shown) (seat_shown c.args.p.now c.args.t.now) old now i c.index_mut.result.now c.show.new.seat there c.index_mut.ensures.value (λ d. c.loop-i.invariant.rest i d itself) (c.show.ensures shown) (c.loop-i.invariant.shown shown);
      rest = λ k d m. after-set now i c.show.new.seat k d (later k m) ∙ c.loop-i.invariant.rest k d (too k m);
    }

pub returns-clause-seats : goal.returns-clause-seats
returns-clause-seats g c = λ shown.
    let was = c.args.seats.now.ok.0 in
    let is = c.loop-i.seats.ok.0 in
    let places : length c.loop-i.seats.items ≡ length c.args.seats.now.items = omega (arith, was, is, c.loop-i.invariant.places) in
    each-seat _ _ (seat_shown c.args.p.now c.args.t.now) c.args.seats.now.items c.loop-i.seats.items places
    (λ k d l. c.loop-i.invariant.shown shown k d (omega (arith, l, was, c.len-i-end.ensures, c.loop-i-test.false)))
