use Rattle.std.proofs.Common.{◌∙◌, List, ap, refl, sym}
use Rattle.sut_edits.specs.declared.edits.Edit.TheVariants as edit
use Rattle.sut_review.specs.Seats.{seat_of, seats_of}
use Rattle.sut_editing.specs.Reached.{kept_in}
use Rattle.sut_editing.proofs.Answering.{if-err, on-both, on-ok}
use Rattle.sut_editing.proofs.Reaching.{line-balanced, line-dismissed, line-edited, line-not-dismissed, line-not-edited}
use Rattle.sut_editing.proofs.Rows.{grades-kept}
use Rattle.sut_editing.proofs.taking.take_line.Goals as goal

pub returns-in-Ok-clause-taken : goal.returns-in-Ok-clause-taken
returns-in-Ok-clause-taken g c =
    line-balanced c.args.line.now (kept_in c.args.session.now (seats_of c.args.panel.now.seats.items (λ seat. seat_of (λ b. (g.dyn-1.0.entry b.vtable).1.rule b.value) (λ b. (g.dyn-1.0.entry b.vtable).1.marked b.value) c.args.panel.now.shown seat.label.items seat.seen seat.tally seat.object)) c.args.log.now) (kept_in c.rebalance.new.session (seats_of c.rebalance.new.panel.seats.items (λ seat. seat_of (λ b. (g.dyn-1.0.entry b.vtable).1.rule b.value) (λ b. (g.dyn-1.0.entry b.vtable).1.marked b.value) c.rebalance.new.panel.shown seat.label.items seat.seen seat.tally seat.object)) c.rebalance.new.log) c.in-Balance.is c.in-Ok.ensures.balanced

pub returns-in-Dismiss-clause-taken : goal.returns-in-Dismiss-clause-taken
returns-in-Dismiss-clause-taken g c =
    on-both c.dismiss_one.result (λ found seats. line-dismissed c.args.line.now c.bytes.result.now (kept_in c.args.session.now (seats_of c.args.panel.now.seats.items (λ seat. seat_of (λ b. (g.dyn-1.0.entry b.vtable).1.rule b.value) (λ b. (g.dyn-1.0.entry b.vtable).1.marked b.value) c.args.panel.now.shown seat.label.items seat.seen seat.tally seat.object)) c.args.log.now) (kept_in c.args.session.now (seats_of c.dismiss_one.new.panel.seats.items (λ seat. seat_of (λ b. (g.dyn-1.0.entry b.vtable).1.rule b.value) (λ b. (g.dyn-1.0.entry b.vtable).1.marked b.value) c.dismiss_one.new.panel.shown seat.label.items seat.seen seat.tally seat.object)) c.dismiss_one.new.log) (c.in-Dismiss.is ∙ ap edit.Dismiss (sym c.bytes.ensures)) found refl
    seats c.dismiss_one.ensures.trail c.dismiss_one.ensures.lines c.dismiss_one.ensures.rebalances c.dismiss_one.ensures.marked) c.dismiss_one.ensures.found c.dismiss_one.ensures.seats

pub returns-in-Dismiss-clause-refused : goal.returns-in-Dismiss-clause-refused
returns-in-Dismiss-clause-refused g c =
    if-err c.dismiss_one.result (λ fault x. line-not-dismissed c.args.line.now c.bytes.result.now (kept_in c.args.session.now (seats_of c.args.panel.now.seats.items (λ seat. seat_of (λ b. (g.dyn-1.0.entry b.vtable).1.rule b.value) (λ b. (g.dyn-1.0.entry b.vtable).1.marked b.value) c.args.panel.now.shown seat.label.items seat.seen seat.tally seat.object)) c.args.log.now) fault (c.in-Dismiss.is ∙ ap edit.Dismiss (sym c.bytes.ensures)) x) c.dismiss_one.ensures.none

pub returns-in-Set-clause-taken : goal.returns-in-Set-clause-taken
returns-in-Set-clause-taken g c =
    on-both c.edit_one_row.result (λ is kept. line-edited c.args.line.now (kept_in c.args.session.now (seats_of c.args.panel.now.seats.items (λ seat. seat_of (λ b. (g.dyn-1.0.entry b.vtable).1.rule b.value) (λ b. (g.dyn-1.0.entry b.vtable).1.marked b.value) c.args.panel.now.shown seat.label.items seat.seen seat.tally seat.object)) c.args.log.now) (kept_in c.edit_one_row.new.session (seats_of c.args.panel.now.seats.items (λ seat. seat_of (λ b. (g.dyn-1.0.entry b.vtable).1.rule b.value) (λ b. (g.dyn-1.0.entry b.vtable).1.marked b.value) c.args.panel.now.shown seat.label.items seat.seen seat.tally seat.object)) c.edit_one_row.new.log) c.edit_one_row.ensures.rows is kept refl
    c.edit_one_row.ensures.trail c.edit_one_row.ensures.lines c.edit_one_row.ensures.rebalances c.edit_one_row.ensures.marked) c.edit_one_row.ensures.edited c.edit_one_row.ensures.kept

pub returns-in-Set-clause-refused : goal.returns-in-Set-clause-refused
returns-in-Set-clause-refused g c =
    if-err c.edit_one_row.result (λ fault x. line-not-edited c.args.line.now (kept_in c.args.session.now (seats_of c.args.panel.now.seats.items (λ seat. seat_of (λ b. (g.dyn-1.0.entry b.vtable).1.rule b.value) (λ b. (g.dyn-1.0.entry b.vtable).1.marked b.value) c.args.panel.now.shown seat.label.items seat.seen seat.tally seat.object)) c.args.log.now) fault c.edit_one_row.ensures.rows x) c.edit_one_row.ensures.refused

pub returns-in-Set-clause-graded : goal.returns-in-Set-clause-graded
returns-in-Set-clause-graded g c =
    on-ok c.edit_one_row.result (λ is s graded all. grades-kept s c.args.session.now.problem c.edit_one_row.new.session.problem c.args.line.now.edit graded all is) c.edit_one_row.ensures.edited
