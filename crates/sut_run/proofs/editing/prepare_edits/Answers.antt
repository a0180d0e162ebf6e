use Rattle.std.proofs.Common.{map, sym, subst}
use Rattle.sut_review.specs.Seats.{new_seat}
use Rattle.sut_run.specs.declared.commands.Command.TheVariants.{Edit}
use Rattle.sut_run.specs.Outputs.{texts_in}
use Rattle.sut_run.specs.Ready.{IsRefused}
use Rattle.sut_run.proofs.EditDelivered.{edits-refused, stopped-refused}
use Rattle.sut_run.proofs.EditHeadlined.{edits-ready}
use Rattle.sut_run.specs.Steps.{IsShelfFault}
use Rattle.sut_run.proofs.Printed.{edits-failed}
use Rattle.sut_run.proofs.editing.prepare_edits.Goals as goal

pub returns-in-Err-clause-refused : goal.returns-in-Err-clause-refused
returns-in-Err-clause-refused g c =
    subst (IsRefused (map (λ b. new_seat ((g.dyn-1.0.entry b.vtable).1.name b.value) ((g.dyn-1.0.entry b.vtable).1.rule b.value)) c.args.reviewers.items) Edit (g.F.Shelf.files c.args.shelf.now) _ _ _) (sym c.edits_refused.ensures) (edits-refused (map (λ b. new_seat ((g.dyn-1.0.entry b.vtable).1.name b.value) ((g.dyn-1.0.entry b.vtable).1.rule b.value)) c.args.reviewers.items) (g.F.Shelf.files c.args.shelf.now) c.in-Err.fault _ _ _ c.in-Err.ensures.err c.in-Err.ensures.cause)

pub returns-in-Ok-prepare_given-clause-ready : goal.returns-in-Ok-prepare_given-clause-ready
returns-in-Ok-prepare_given-clause-ready g c =
    edits-ready (map (λ b. new_seat ((g.dyn-1.0.entry b.vtable).1.name b.value) ((g.dyn-1.0.entry b.vtable).1.rule b.value)) c.args.reviewers.items) c.in-Ok.given.input.settings c.in-Ok.given.input.problem c.in-Ok.given.edits.items c.in-Ok-prepare_given.prepared.done (texts_in c.in-Ok-prepare_given.prepared.made.outputs.items) c.in-Ok-prepare_given.prepared.made.lines.items c.in-Ok-prepare_given.ensures.prepared (g.F.Shelf.files c.args.shelf.now) c.in-Ok.ensures.ok

pub returns-in-Err-prepare_given-clause-refused : goal.returns-in-Err-prepare_given-clause-refused
returns-in-Err-prepare_given-clause-refused g c =
    subst (IsRefused (map (λ b. new_seat ((g.dyn-1.0.entry b.vtable).1.name b.value) ((g.dyn-1.0.entry b.vtable).1.rule b.value)) c.args.reviewers.items) Edit (g.F.Shelf.files c.args.shelf.now) _ _ _) (sym c.edit_stopped.ensures) (stopped-refused (map (λ b. new_seat ((g.dyn-1.0.entry b.vtable).1.name b.value) ((g.dyn-1.0.entry b.vtable).1.rule b.value)) c.args.reviewers.items) c.in-Ok.given.input.settings c.in-Ok.given.input.problem c.in-Ok.given.edits.items (g.F.Shelf.files c.args.shelf.now) c.in-Err-prepare_given.fault _ _ _ c.in-Ok.ensures.ok c.in-Err-prepare_given.ensures.refused)

pub returns-in-Err-clause-stays : goal.returns-in-Err-clause-stays
returns-in-Err-clause-stays g c other =
    c.in-Err.ensures.stays (λ is. other (subst IsShelfFault (sym c.edits_refused.ensures) (edits-failed c.in-Err.fault is)))
