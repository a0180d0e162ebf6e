use Rattle.std.proofs.Common.{◌≡◌, List, Err, All, map, subst, sym}
use Rattle.std.specs.Prelude.{IfErr, IfOk, option_map}
use Rattle.sut_settings.specs.SettingsFacts.{SettingsFacts}
use Rattle.sut_source.specs.SourceText.{HasGrade}
use Rattle.sut_tables.specs.ProblemFacts.{ProblemFacts}
use Rattle.sut_edits.specs.EditRules.{FitsClasses, IsGraded}
use Rattle.sut_edits.specs.declared.edits.EditLine.{EditLine}
use Rattle.sut_edits.specs.declared.faults.EditsFault.{EditsFault}
use Rattle.sut_review.specs.Seats.{new_seat}
use Rattle.sut_editing.specs.Moments.{IfRefused, moments_of, standing_labels}
use Rattle.sut_editing.specs.EditedRows.{IsEdited}
use Rattle.sut_editing.specs.declared.editing.Edited.{Edited}
use Rattle.sut_editing.specs.declared.faults.EditingFault.{EditingFault}
use Rattle.sut_editing.proofs.editing.edit_rows.Goals as goal

pub edit_session-requires-clause-fits : goal.edit_session-requires-clause-fits
edit_session-requires-clause-fits g c =
    subst (λ (p : ProblemFacts). All (λ (l : EditLine). FitsClasses p.classes l.edit) c.args.lines.now) (sym c.in-Ok.ensures.problem) c.requires.fits

pub returns-in-Ok-clause-edited : goal.returns-in-Ok-clause-edited
returns-in-Ok-clause-edited g c =
    subst (λ (p : ProblemFacts). IfOk c.edit_session.result (λ (e : Edited). IsEdited (map (λ b. new_seat ((g.dyn-1.0.entry b.vtable).1.name b.value) ((g.dyn-1.0.entry b.vtable).1.rule b.value)) c.args.reviewers.items) p c.args.lines.now e.problem e.answer e.trail.items e.lines.items (option_map (λ v. v.items) e.review))) c.in-Ok.ensures.problem c.edit_session.ensures.edited

pub returns-in-Ok-clause-refused : goal.returns-in-Ok-clause-refused
returns-in-Ok-clause-refused g c =
    subst (λ (p : ProblemFacts). IfErr c.edit_session.result (λ (fault : EditingFault). IfRefused fault (λ (f : EditsFault). moments_of (standing_labels (map (λ b. new_seat ((g.dyn-1.0.entry b.vtable).1.name b.value) ((g.dyn-1.0.entry b.vtable).1.rule b.value)) c.args.reviewers.items)) p c.args.lines.now ≡ Err f))) c.in-Ok.ensures.problem c.edit_session.ensures.refused

pub returns-in-Ok-clause-graded : goal.returns-in-Ok-clause-graded
returns-in-Ok-clause-graded g c =
    subst (λ (p : ProblemFacts). IfOk c.edit_session.result (λ (e : Edited). (s : SettingsFacts) → All (λ (l : EditLine). IsGraded s l.edit) c.args.lines.now → All (HasGrade s) p.rows → All (HasGrade s) e.problem.rows)) c.in-Ok.ensures.problem c.edit_session.ensures.graded
