use Rattle.std.proofs.Common.{◌≡◌, ◌∙◌, List, Err, arith, length, map, ap, subst, sym, vec_len}
use Rattle.std.specs.Prelude.{IfErr, IfOk, option_map}
use Rattle.sut_edits.specs.declared.faults.EditsFault.{EditsFault}
use Rattle.sut_review.specs.Seats.{SeatFacts, new_seat}
use Rattle.sut_editing.specs.Moments.{IfRefused, moments_of, standing_labels}
use Rattle.sut_editing.specs.EditedRows.{IsEdited, are_some}
use Rattle.sut_editing.specs.declared.editing.Edited.{Edited}
use Rattle.sut_editing.specs.declared.faults.EditingFault.{EditingFault}
use Rattle.sut_editing.proofs.Finishing.{some-list}
use Rattle.sut_editing.proofs.editing.edit_session.Goals as goal

pub edit_opened-requires-clause-reviewed : goal.edit_opened-requires-clause-reviewed
edit_opened-requires-clause-reviewed g c =
    let size = c.args.reviewers.ok.0 in
    let len : vec_len c.args.reviewers ≡ length c.args.reviewers.items = omega (arith, size) in
    some-list (λ b. new_seat ((g.dyn-1.0.entry b.vtable).1.name b.value) ((g.dyn-1.0.entry b.vtable).1.rule b.value)) c.args.reviewers.items (vec_len c.args.reviewers) c.is_empty-reviewed.result c.is_empty-reviewed.ensures len ∙ ap are_some (sym c.in-Ok.ensures.seats)

pub returns-in-Ok-clause-edited : goal.returns-in-Ok-clause-edited
returns-in-Ok-clause-edited g c =
    subst (λ (seats : List SeatFacts). IfOk c.edit_opened.result (λ (e : Edited). IsEdited seats c.args.session.problem c.args.lines.now e.problem e.answer e.trail.items e.lines.items (option_map (λ v. v.items) e.review))) c.in-Ok.ensures.seats c.edit_opened.ensures.edited

pub returns-in-Ok-clause-refused : goal.returns-in-Ok-clause-refused
returns-in-Ok-clause-refused g c =
    subst (λ (seats : List SeatFacts). IfErr c.edit_opened.result (λ (fault : EditingFault). IfRefused fault (λ (f : EditsFault). moments_of (standing_labels seats) c.args.session.problem c.args.lines.now ≡ Err f))) c.in-Ok.ensures.seats c.edit_opened.ensures.refused
