use Rattle.std.proofs.Common.{All, subst, sym}
use Rattle.std.specs.Prelude.{option_map}
use Rattle.sut_source.specs.SourceText.{HasGrade}
use Rattle.sut_tables.specs.ProblemFacts.{ProblemFacts}
use Rattle.sut_cert.specs.declared.answers.Answer.{Answer}
use Rattle.sut_review.specs.Seats.{seat_of, seats_of}
use Rattle.sut_editing.specs.EditedRows.{IsEdited}
use Rattle.sut_editing.proofs.Answering.{is-there, some-there}
use Rattle.sut_editing.proofs.editing.edit_opened.Goals as goal

pub closed-requires : goal.closed-requires
closed-requires g c = is-there (λ (a : Answer). IsEdited (seats_of c.args.panel.seats.items (λ seat. seat_of (λ b. (g.dyn-1.0.entry b.vtable).1.rule b.value) (λ b. (g.dyn-1.0.entry b.vtable).1.marked b.value) c.args.panel.shown seat.label.items seat.seen seat.tally seat.object)) c.args.session.problem c.args.lines.now c.edit_before.new.session.problem a c.in-Ok.written.log.trail.items c.in-Ok.written.log.lines.items (option_map (λ v. v.items) c.in-Ok.written.review)) c.edit_before.new.session.answer c.in-Ok.ensures.edited

pub returns-in-Ok-clause-edited : goal.returns-in-Ok-clause-edited
returns-in-Ok-clause-edited g c =
    rw (c.closed.ensures.problem, c.closed.ensures.trail, c.closed.ensures.lines, c.closed.ensures.review)
    (some-there (λ (a : Answer). IsEdited (seats_of c.args.panel.seats.items (λ seat. seat_of (λ b. (g.dyn-1.0.entry b.vtable).1.rule b.value) (λ b. (g.dyn-1.0.entry b.vtable).1.marked b.value) c.args.panel.shown seat.label.items seat.seen seat.tally seat.object)) c.args.session.problem c.args.lines.now c.edit_before.new.session.problem a c.in-Ok.written.log.trail.items c.in-Ok.written.log.lines.items (option_map (λ v. v.items) c.in-Ok.written.review)) c.edit_before.new.session.answer c.closed.result.answer c.closed.ensures.answer c.in-Ok.ensures.edited)

pub returns-in-Ok-clause-graded : goal.returns-in-Ok-clause-graded
returns-in-Ok-clause-graded g c s graded rows =
    subst (λ (p : ProblemFacts). All (HasGrade s) p.rows) (sym c.closed.ensures.problem) (c.in-Ok.ensures.graded s graded rows)
