use Rattle.std.proofs.Common.{◌∙◌, sym}
use Rattle.sut_review.specs.Seats.{seat_of, seats_of}
use Rattle.sut_review.proofs.Histories.{dismissed-first, standing-stands}
use Rattle.sut_editing.proofs.Labels.{found-label, none-label}
use Rattle.sut_editing.proofs.reviewing.dismiss_first.Goals as goal

pub returns-in-Some-clause-found : goal.returns-in-Some-clause-found
returns-in-Some-clause-found g c =
    let at = sym c.standing.ensures ∙ c.in-Some.is in
    c.dismiss.ensures.answer ∙ standing-stands c.args.label.now (seats_of c.args.panel.now.seats.items (λ seat. seat_of (λ b. (g.dyn-1.0.entry b.vtable).1.rule b.value) (λ b. (g.dyn-1.0.entry b.vtable).1.marked b.value) c.args.panel.now.shown seat.label.items seat.seen seat.tally seat.object)) c.in-Some.place at ∙ sym (found-label c.args.label.now (seats_of c.args.panel.now.seats.items (λ seat. seat_of (λ b. (g.dyn-1.0.entry b.vtable).1.rule b.value) (λ b. (g.dyn-1.0.entry b.vtable).1.marked b.value) c.args.panel.now.shown seat.label.items seat.seen seat.tally seat.object)) c.in-Some.place at)

pub returns-in-Some-clause-seats : goal.returns-in-Some-clause-seats
returns-in-Some-clause-seats g c e =
    c.dismiss.ensures.seats ∙ dismissed-first c.args.label.now (seats_of c.args.panel.now.seats.items (λ seat. seat_of (λ b. (g.dyn-1.0.entry b.vtable).1.rule b.value) (λ b. (g.dyn-1.0.entry b.vtable).1.marked b.value) c.args.panel.now.shown seat.label.items seat.seen seat.tally seat.object)) c.in-Some.place (sym c.standing.ensures ∙ c.in-Some.is)

pub returns-in-None-clause-found : goal.returns-in-None-clause-found
returns-in-None-clause-found g c = sym (none-label c.args.label.now (seats_of c.args.panel.now.seats.items (λ seat. seat_of (λ b. (g.dyn-1.0.entry b.vtable).1.rule b.value) (λ b. (g.dyn-1.0.entry b.vtable).1.marked b.value) c.args.panel.now.shown seat.label.items seat.seen seat.tally seat.object)) (sym c.standing.ensures ∙ c.in-None.is))
