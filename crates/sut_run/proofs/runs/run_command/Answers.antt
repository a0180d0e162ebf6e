use Rattle.std.proofs.Common.{map, subst}
use Rattle.sut_outside.proofs.NoneFailed.{both_stay}
use Rattle.sut_review.specs.Seats.{new_seat}
use Rattle.sut_run.specs.declared.writing.Output.{Output}
use Rattle.sut_run.specs.Ends.{AreLines, IsDone}
use Rattle.sut_run.specs.Outputs.{texts_in}
use Rattle.sut_run.specs.Ready.{IsRefusal}
use Rattle.sut_run.specs.Steps.{StopsDelivery}
use Rattle.sut_run.proofs.Commanded.{names-written, promised-told, ready-done, ready-lines, ready-told, stopped-told}
use Rattle.sut_run.proofs.Delivered.{done-answers, done-reads, done-writes, failed-answers, failed-reads, failed-writes, refusal-not-done, refusal-told, refusal-writes, stopped-not-done}
use Rattle.sut_run.proofs.Lists.{names_in}
use Rattle.sut_run.proofs.Printed.{done-prints, refusal-prints, stopped-prints}
use Rattle.sut_run.proofs.runs.run_command.Goals as goal

-- ---- the input is refused

pub returns-in-Err-clause-input : goal.returns-in-Err-clause-input
returns-in-Err-clause-input g c =
    c.in-Err.ensures.refused.answers

pub returns-in-Err-clause-stands : goal.returns-in-Err-clause-stands
returns-in-Err-clause-stands g c =
    refusal-told (map (λ b. new_seat ((g.dyn-1.0.entry b.vtable).1.name b.value) ((g.dyn-1.0.entry b.vtable).1.rule b.value)) c.args.reviewers.items) c.args.command c.in-Err.refused c.in-Err.ensures.refused.refusal (g.K.Sink.sent c.args.out.now) _ _ c.in-Err.ensures.kept

pub returns-in-Err-clause-read_fault : goal.returns-in-Err-clause-read_fault
returns-in-Err-clause-read_fault g c =
    c.in-Err.ensures.refused.cause

pub returns-in-Err-clause-write_fault : goal.returns-in-Err-clause-write_fault
returns-in-Err-clause-write_fault g c =
    refusal-writes c.in-Err.refused c.in-Err.ensures.refused.refusal _

pub returns-in-Err-clause-sink_fault : goal.returns-in-Err-clause-sink_fault
returns-in-Err-clause-sink_fault g c e =
    absurd (subst IsRefusal e c.in-Err.ensures.refused.refusal)

pub returns-in-Err-clause-printed : goal.returns-in-Err-clause-printed
returns-in-Err-clause-printed g c =
    refusal-prints (AreLines (map (λ b. new_seat ((g.dyn-1.0.entry b.vtable).1.name b.value) ((g.dyn-1.0.entry b.vtable).1.rule b.value)) c.args.reviewers.items) c.args.command (g.F.Shelf.files c.args.shelf.now)) c.in-Err.refused c.in-Err.ensures.refused.refusal (g.K.Sink.sent c.args.out.now)

pub returns-in-Err-clause-ends : goal.returns-in-Err-clause-ends
returns-in-Err-clause-ends g c done =
    absurd (refusal-not-done c.in-Err.refused c.in-Err.ensures.refused.refusal done)

pub returns-in-Err-clause-promised : goal.returns-in-Err-clause-promised
returns-in-Err-clause-promised g c done =
    absurd (refusal-not-done c.in-Err.refused c.in-Err.ensures.refused.refusal done)

pub returns-in-Err-clause-used : goal.returns-in-Err-clause-used
returns-in-Err-clause-used g c e =
    subst IsRefusal e c.in-Err.ensures.refused.refusal

-- ---- all is delivered

pub returns-in-Ok-deliver-clause-input : goal.returns-in-Ok-deliver-clause-input
returns-in-Ok-deliver-clause-input g c =
    done-answers (map (λ b. new_seat ((g.dyn-1.0.entry b.vtable).1.name b.value) ((g.dyn-1.0.entry b.vtable).1.rule b.value)) c.args.reviewers.items) c.args.command c.in-Ok.ensures.ready.input c.in-Ok.prepared.done (ready-done (map (λ b. new_seat ((g.dyn-1.0.entry b.vtable).1.name b.value) ((g.dyn-1.0.entry b.vtable).1.rule b.value)) c.args.reviewers.items) c.args.command (g.F.Shelf.files c.args.shelf.now) c.in-Ok.prepared.done (texts_in c.in-Ok.prepared.made.outputs.items) c.in-Ok.prepared.made.lines.items c.in-Ok.ensures.ready) (g.F.Shelf.files c.args.shelf.now) c.in-Ok.ensures.ready.given

pub returns-in-Ok-deliver-clause-stands : goal.returns-in-Ok-deliver-clause-stands
returns-in-Ok-deliver-clause-stands g c =
    ready-told (map (λ b. new_seat ((g.dyn-1.0.entry b.vtable).1.name b.value) ((g.dyn-1.0.entry b.vtable).1.rule b.value)) c.args.reviewers.items) c.args.command (g.F.Shelf.files c.args.shelf.now) c.in-Ok.prepared.done (texts_in c.in-Ok.prepared.made.outputs.items) c.in-Ok.prepared.made.lines.items c.in-Ok.ensures.ready (g.F.Shelf.files c.prepare_command.new.shelf) (g.F.Shelf.files c.deliver.new.shelf) (g.K.Sink.sent c.args.out.now) (g.K.Sink.sent c.deliver.new.out) c.in-Ok.ensures.kept c.in-Ok-deliver.ensures.stands

pub returns-in-Ok-deliver-clause-read_fault : goal.returns-in-Ok-deliver-clause-read_fault
returns-in-Ok-deliver-clause-read_fault g c =
    done-reads c.in-Ok.prepared.done (ready-done (map (λ b. new_seat ((g.dyn-1.0.entry b.vtable).1.name b.value) ((g.dyn-1.0.entry b.vtable).1.rule b.value)) c.args.reviewers.items) c.args.command (g.F.Shelf.files c.args.shelf.now) c.in-Ok.prepared.done (texts_in c.in-Ok.prepared.made.outputs.items) c.in-Ok.prepared.made.lines.items c.in-Ok.ensures.ready) _

pub returns-in-Ok-deliver-clause-write_fault : goal.returns-in-Ok-deliver-clause-write_fault
returns-in-Ok-deliver-clause-write_fault g c =
    done-writes c.in-Ok.prepared.done (ready-done (map (λ b. new_seat ((g.dyn-1.0.entry b.vtable).1.name b.value) ((g.dyn-1.0.entry b.vtable).1.rule b.value)) c.args.reviewers.items) c.args.command (g.F.Shelf.files c.args.shelf.now) c.in-Ok.prepared.done (texts_in c.in-Ok.prepared.made.outputs.items) c.in-Ok.prepared.made.lines.items c.in-Ok.ensures.ready) _

pub returns-in-Ok-deliver-clause-sink_fault : goal.returns-in-Ok-deliver-clause-sink_fault
returns-in-Ok-deliver-clause-sink_fault g c e =
    absurd (subst IsDone e (ready-done (map (λ b. new_seat ((g.dyn-1.0.entry b.vtable).1.name b.value) ((g.dyn-1.0.entry b.vtable).1.rule b.value)) c.args.reviewers.items) c.args.command (g.F.Shelf.files c.args.shelf.now) c.in-Ok.prepared.done (texts_in c.in-Ok.prepared.made.outputs.items) c.in-Ok.prepared.made.lines.items c.in-Ok.ensures.ready))

pub returns-in-Ok-deliver-clause-shelf_stays : goal.returns-in-Ok-deliver-clause-shelf_stays
returns-in-Ok-deliver-clause-shelf_stays g c other =
    both_stay (c.in-Ok.ensures.stays (λ h. h)) (c.in-Ok-deliver.ensures.stays (λ h. h))

pub returns-in-Ok-deliver-clause-printed : goal.returns-in-Ok-deliver-clause-printed
returns-in-Ok-deliver-clause-printed g c =
    done-prints (AreLines (map (λ b. new_seat ((g.dyn-1.0.entry b.vtable).1.name b.value) ((g.dyn-1.0.entry b.vtable).1.rule b.value)) c.args.reviewers.items) c.args.command (g.F.Shelf.files c.args.shelf.now)) c.in-Ok.prepared.done (ready-done (map (λ b. new_seat ((g.dyn-1.0.entry b.vtable).1.name b.value) ((g.dyn-1.0.entry b.vtable).1.rule b.value)) c.args.reviewers.items) c.args.command (g.F.Shelf.files c.args.shelf.now) c.in-Ok.prepared.done (texts_in c.in-Ok.prepared.made.outputs.items) c.in-Ok.prepared.made.lines.items c.in-Ok.ensures.ready) c.in-Ok.prepared.made.lines.items (ready-lines (map (λ b. new_seat ((g.dyn-1.0.entry b.vtable).1.name b.value) ((g.dyn-1.0.entry b.vtable).1.rule b.value)) c.args.reviewers.items) c.args.command (g.F.Shelf.files c.args.shelf.now) c.in-Ok.prepared.done (texts_in c.in-Ok.prepared.made.outputs.items) c.in-Ok.prepared.made.lines.items c.in-Ok.ensures.ready) _ _ c.in-Ok-deliver.ensures.sent

pub returns-in-Ok-deliver-clause-ends : goal.returns-in-Ok-deliver-clause-ends
returns-in-Ok-deliver-clause-ends g c done =
    c.in-Ok.ensures.ready.ends

pub returns-in-Ok-deliver-clause-promised : goal.returns-in-Ok-deliver-clause-promised
returns-in-Ok-deliver-clause-promised g c done =
    promised-told (map (λ b. new_seat ((g.dyn-1.0.entry b.vtable).1.name b.value) ((g.dyn-1.0.entry b.vtable).1.rule b.value)) c.args.reviewers.items) c.args.command (g.F.Shelf.files c.args.shelf.now) c.in-Ok.prepared.done (texts_in c.in-Ok.prepared.made.outputs.items) c.in-Ok.prepared.made.lines.items c.in-Ok.ensures.ready (g.F.Shelf.files c.prepare_command.new.shelf) (g.F.Shelf.files c.deliver.new.shelf) (g.K.Sink.sent c.args.out.now) (g.K.Sink.sent c.deliver.new.out) c.in-Ok.ensures.kept c.in-Ok-deliver.ensures.stands

pub returns-in-Ok-deliver-clause-used : goal.returns-in-Ok-deliver-clause-used
returns-in-Ok-deliver-clause-used g c e =
    subst IsDone e (ready-done (map (λ b. new_seat ((g.dyn-1.0.entry b.vtable).1.name b.value) ((g.dyn-1.0.entry b.vtable).1.rule b.value)) c.args.reviewers.items) c.args.command (g.F.Shelf.files c.args.shelf.now) c.in-Ok.prepared.done (texts_in c.in-Ok.prepared.made.outputs.items) c.in-Ok.prepared.made.lines.items c.in-Ok.ensures.ready)

-- ---- the delivery stops

pub returns-clause-input : goal.returns-clause-input
returns-clause-input g c =
    failed-answers (map (λ b. new_seat ((g.dyn-1.0.entry b.vtable).1.name b.value) ((g.dyn-1.0.entry b.vtable).1.rule b.value)) c.args.reviewers.items) c.args.command c.in-Ok.ensures.ready.input (map (λ (output : Output). output.name) c.in-Ok.prepared.made.outputs.items) c.in-Err-deliver.stopped c.in-Err-deliver.ensures.stops (g.F.Shelf.files c.args.shelf.now) c.in-Ok.ensures.ready.given

pub returns-clause-stands : goal.returns-clause-stands
returns-clause-stands g c =
    stopped-told (map (λ b. new_seat ((g.dyn-1.0.entry b.vtable).1.name b.value) ((g.dyn-1.0.entry b.vtable).1.rule b.value)) c.args.reviewers.items) c.args.command (g.F.Shelf.files c.args.shelf.now) c.in-Ok.prepared.done (texts_in c.in-Ok.prepared.made.outputs.items) c.in-Ok.prepared.made.lines.items c.in-Ok.ensures.ready (g.F.Shelf.files c.prepare_command.new.shelf) (g.F.Shelf.files c.deliver.new.shelf) (g.K.Sink.sent c.args.out.now) (g.K.Sink.sent c.deliver.new.out) c.in-Ok.ensures.kept (map (λ (output : Output). output.name) c.in-Ok.prepared.made.outputs.items) c.in-Err-deliver.stopped c.in-Err-deliver.ensures.stops c.in-Err-deliver.ensures.stands

pub returns-clause-read_fault : goal.returns-clause-read_fault
returns-clause-read_fault g c =
    failed-reads (map (λ (output : Output). output.name) c.in-Ok.prepared.made.outputs.items) c.in-Err-deliver.stopped c.in-Err-deliver.ensures.stops _

pub returns-clause-write_fault : goal.returns-clause-write_fault
returns-clause-write_fault g c =
    failed-writes c.args.command (map (λ (output : Output). output.name) c.in-Ok.prepared.made.outputs.items) (names-written (map (λ b. new_seat ((g.dyn-1.0.entry b.vtable).1.name b.value) ((g.dyn-1.0.entry b.vtable).1.rule b.value)) c.args.reviewers.items) c.args.command (g.F.Shelf.files c.args.shelf.now) c.in-Ok.prepared.done (texts_in c.in-Ok.prepared.made.outputs.items) c.in-Ok.prepared.made.lines.items c.in-Ok.ensures.ready (map (λ (output : Output). output.name) c.in-Ok.prepared.made.outputs.items) (names_in c.in-Ok.prepared.made.outputs.items)) c.in-Err-deliver.stopped c.in-Err-deliver.ensures.stops _ _ _ _ c.in-Ok.ensures.later c.in-Err-deliver.ensures.cause

pub returns-clause-shelf_stays : goal.returns-clause-shelf_stays
returns-clause-shelf_stays g c other =
    both_stay (c.in-Ok.ensures.stays (λ h. h)) (c.in-Err-deliver.ensures.stays other)

pub returns-clause-printed : goal.returns-clause-printed
returns-clause-printed g c =
    stopped-prints (AreLines (map (λ b. new_seat ((g.dyn-1.0.entry b.vtable).1.name b.value) ((g.dyn-1.0.entry b.vtable).1.rule b.value)) c.args.reviewers.items) c.args.command (g.F.Shelf.files c.args.shelf.now)) c.in-Ok.prepared.done c.in-Ok.prepared.made.lines.items (ready-lines (map (λ b. new_seat ((g.dyn-1.0.entry b.vtable).1.name b.value) ((g.dyn-1.0.entry b.vtable).1.rule b.value)) c.args.reviewers.items) c.args.command (g.F.Shelf.files c.args.shelf.now) c.in-Ok.prepared.done (texts_in c.in-Ok.prepared.made.outputs.items) c.in-Ok.prepared.made.lines.items c.in-Ok.ensures.ready) (map (λ (output : Output). output.name) c.in-Ok.prepared.made.outputs.items) c.in-Err-deliver.stopped c.in-Err-deliver.ensures.stops _ _ c.in-Err-deliver.ensures.sent

pub returns-clause-ends : goal.returns-clause-ends
returns-clause-ends g c done =
    absurd (stopped-not-done (map (λ (output : Output). output.name) c.in-Ok.prepared.made.outputs.items) c.in-Err-deliver.stopped c.in-Err-deliver.ensures.stops done)

pub returns-clause-promised : goal.returns-clause-promised
returns-clause-promised g c done =
    absurd (stopped-not-done (map (λ (output : Output). output.name) c.in-Ok.prepared.made.outputs.items) c.in-Err-deliver.stopped c.in-Err-deliver.ensures.stops done)

pub returns-clause-used : goal.returns-clause-used
returns-clause-used g c e =
    subst (StopsDelivery (map (λ (output : Output). output.name) c.in-Ok.prepared.made.outputs.items)) e c.in-Err-deliver.ensures.stops
