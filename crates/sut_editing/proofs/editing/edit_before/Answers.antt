use Rattle.std.proofs.Common.{[], refl}
use Rattle.sut_review.specs.Seats.{seat_of, seats_of}
use Rattle.sut_editing.specs.Reached.{kept_in}
use Rattle.sut_editing.specs.Moments.{stage_at_first, standing_labels}
use Rattle.sut_editing.proofs.Finishing.{all-refused, begun, edited-rows, still-some}
use Rattle.sut_editing.proofs.editing.edit_before.Goals as goal

pub review_of-requires : goal.review_of-requires
review_of-requires g c = still-some (seats_of c.args.panel.now.seats.items (λ seat. seat_of (λ b. (g.dyn-1.0.entry b.vtable).1.rule b.value) (λ b. (g.dyn-1.0.entry b.vtable).1.marked b.value) c.args.panel.now.shown seat.label.items seat.seen seat.tally seat.object)) _ (kept_in c.take_all.new.session (seats_of c.take_all.new.panel.seats.items (λ seat. seat_of (λ b. (g.dyn-1.0.entry b.vtable).1.rule b.value) (λ b. (g.dyn-1.0.entry b.vtable).1.marked b.value) c.take_all.new.panel.shown seat.label.items seat.seen seat.tally seat.object)) c.take_all.new.log) c.args.reviewed c.requires.reviewed (c.in-Ok-take_all.ensures.taken (seats_of c.args.panel.now.seats.items (λ seat. seat_of (λ b. (g.dyn-1.0.entry b.vtable).1.rule b.value) (λ b. (g.dyn-1.0.entry b.vtable).1.marked b.value) c.args.panel.now.shown seat.label.items seat.seen seat.tally seat.object)) (stage_at_first (standing_labels (seats_of c.args.panel.now.seats.items (λ seat. seat_of (λ b. (g.dyn-1.0.entry b.vtable).1.rule b.value) (λ b. (g.dyn-1.0.entry b.vtable).1.marked b.value) c.args.panel.now.shown seat.label.items seat.seen seat.tally seat.object))) c.args.session.now.problem) [] (begun (seats_of c.args.panel.now.seats.items (λ seat. seat_of (λ b. (g.dyn-1.0.entry b.vtable).1.rule b.value) (λ b. (g.dyn-1.0.entry b.vtable).1.marked b.value) c.args.panel.now.shown seat.label.items seat.seen seat.tally seat.object)) c.args.session.now.problem (kept_in c.args.session.now (seats_of c.args.panel.now.seats.items (λ seat. seat_of (λ b. (g.dyn-1.0.entry b.vtable).1.rule b.value) (λ b. (g.dyn-1.0.entry b.vtable).1.marked b.value) c.args.panel.now.shown seat.label.items seat.seen seat.tally seat.object)) c.in-Ok.log) refl refl c.in-Ok.ensures.trail c.in-Ok.ensures.lines c.in-Ok.ensures.rebalances c.in-Ok.ensures.marked))

pub returns-in-Err-take_all-clause-refused : goal.returns-in-Err-take_all-clause-refused
returns-in-Err-take_all-clause-refused g c =
    all-refused (seats_of c.args.panel.now.seats.items (λ seat. seat_of (λ b. (g.dyn-1.0.entry b.vtable).1.rule b.value) (λ b. (g.dyn-1.0.entry b.vtable).1.marked b.value) c.args.panel.now.shown seat.label.items seat.seen seat.tally seat.object)) c.args.session.now.problem c.args.lines.now (kept_in c.args.session.now (seats_of c.args.panel.now.seats.items (λ seat. seat_of (λ b. (g.dyn-1.0.entry b.vtable).1.rule b.value) (λ b. (g.dyn-1.0.entry b.vtable).1.marked b.value) c.args.panel.now.shown seat.label.items seat.seen seat.tally seat.object)) c.in-Ok.log) c.in-Err-take_all.fault (begun (seats_of c.args.panel.now.seats.items (λ seat. seat_of (λ b. (g.dyn-1.0.entry b.vtable).1.rule b.value) (λ b. (g.dyn-1.0.entry b.vtable).1.marked b.value) c.args.panel.now.shown seat.label.items seat.seen seat.tally seat.object)) c.args.session.now.problem (kept_in c.args.session.now (seats_of c.args.panel.now.seats.items (λ seat. seat_of (λ b. (g.dyn-1.0.entry b.vtable).1.rule b.value) (λ b. (g.dyn-1.0.entry b.vtable).1.marked b.value) c.args.panel.now.shown seat.label.items seat.seen seat.tally seat.object)) c.in-Ok.log) refl refl c.in-Ok.ensures.trail c.in-Ok.ensures.lines c.in-Ok.ensures.rebalances c.in-Ok.ensures.marked) c.in-Err-take_all.ensures.refused

pub returns-in-Ok-review_of-clause-edited : goal.returns-in-Ok-review_of-clause-edited
returns-in-Ok-review_of-clause-edited g c =
    edited-rows (seats_of c.args.panel.now.seats.items (λ seat. seat_of (λ b. (g.dyn-1.0.entry b.vtable).1.rule b.value) (λ b. (g.dyn-1.0.entry b.vtable).1.marked b.value) c.args.panel.now.shown seat.label.items seat.seen seat.tally seat.object)) c.args.session.now.problem c.args.lines.now (kept_in c.take_all.new.session (seats_of c.take_all.new.panel.seats.items (λ seat. seat_of (λ b. (g.dyn-1.0.entry b.vtable).1.rule b.value) (λ b. (g.dyn-1.0.entry b.vtable).1.marked b.value) c.take_all.new.panel.shown seat.label.items seat.seen seat.tally seat.object)) c.take_all.new.log) _ c.in-Ok-take_all.ensures.marked c.in-Ok-review_of.ensures (c.in-Ok-take_all.ensures.taken (seats_of c.args.panel.now.seats.items (λ seat. seat_of (λ b. (g.dyn-1.0.entry b.vtable).1.rule b.value) (λ b. (g.dyn-1.0.entry b.vtable).1.marked b.value) c.args.panel.now.shown seat.label.items seat.seen seat.tally seat.object)) (stage_at_first (standing_labels (seats_of c.args.panel.now.seats.items (λ seat. seat_of (λ b. (g.dyn-1.0.entry b.vtable).1.rule b.value) (λ b. (g.dyn-1.0.entry b.vtable).1.marked b.value) c.args.panel.now.shown seat.label.items seat.seen seat.tally seat.object))) c.args.session.now.problem) [] (begun (seats_of c.args.panel.now.seats.items (λ seat. seat_of (λ b. (g.dyn-1.0.entry b.vtable).1.rule b.value) (λ b. (g.dyn-1.0.entry b.vtable).1.marked b.value) c.args.panel.now.shown seat.label.items seat.seen seat.tally seat.object)) c.args.session.now.problem (kept_in c.args.session.now (seats_of c.args.panel.now.seats.items (λ seat. seat_of (λ b. (g.dyn-1.0.entry b.vtable).1.rule b.value) (λ b. (g.dyn-1.0.entry b.vtable).1.marked b.value) c.args.panel.now.shown seat.label.items seat.seen seat.tally seat.object)) c.in-Ok.log) refl refl c.in-Ok.ensures.trail c.in-Ok.ensures.lines c.in-Ok.ensures.rebalances c.in-Ok.ensures.marked))
