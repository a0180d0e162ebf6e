use Rattle.std.proofs.Common.{All, map}
use Rattle.std.proofs.lemmas.List.Elements.{All-weaker}
use Rattle.sut_edits.specs.EditRules.{FitsClasses, IsEditOf, IsGraded}
use Rattle.sut_edits.specs.declared.edits.EditLine.{EditLine}
use Rattle.sut_review.specs.Seats.{new_seat}
use Rattle.sut_run.proofs.EditDelivered.{edits-prepared}
use Rattle.sut_editing.proofs.Finishing.{right-last}
use Rattle.sut_run.proofs.editing.prepare_edit.Goals as goal

pub edit_rows-requires-clause-fits : goal.edit_rows-requires-clause-fits
edit_rows-requires-clause-fits g c =
    All-weaker (λ (l : EditLine). IsEditOf c.args.s.now c.args.p.classes l.edit) (λ (l : EditLine). FitsClasses c.args.p.classes l.edit) (λ l is. is.fitting) c.args.edits.now c.requires.good.each

pub prepare_edited-requires-clause-graded : goal.prepare_edited-requires-clause-graded
prepare_edited-requires-clause-graded g c =
    c.in-Ok.ensures.graded c.args.s.now (All-weaker (λ (l : EditLine). IsEditOf c.args.s.now c.args.p.classes l.edit) (λ (l : EditLine). IsGraded c.args.s.now l.edit) (λ l is. is.graded) c.args.edits.now c.requires.good.each) c.requires.graded

pub prepare_edited-requires-clause-right : goal.prepare_edited-requires-clause-right
prepare_edited-requires-clause-right g c =
    let x = c.in-Ok.ensures.edited in (right-last x.moments.list x.events c.in-Ok.edited.problem c.in-Ok.edited.answer x.happened x.ends).right

pub returns-in-Ok-prepare_edited-clause-prepared : goal.returns-in-Ok-prepare_edited-clause-prepared
returns-in-Ok-prepare_edited-clause-prepared g c =
    edits-prepared (map (λ b. new_seat ((g.dyn-1.0.entry b.vtable).1.name b.value) ((g.dyn-1.0.entry b.vtable).1.rule b.value)) c.args.reviewers.items) c.args.s.now c.args.p c.in-Ok.edited.problem c.args.edits.now c.in-Ok.edited.answer c.in-Ok.edited.trail.items c.in-Ok.edited.lines.items c.in-Ok.edited.review _ _ _
    c.in-Ok.ensures.edited c.in-Ok-prepare_edited.ensures.done c.in-Ok-prepare_edited.ensures.texts c.in-Ok-prepare_edited.ensures.lines c.in-Ok-prepare_edited.ensures.reads_back c.in-Ok-prepare_edited.ensures.spells
