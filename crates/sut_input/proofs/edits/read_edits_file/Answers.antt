use Rattle.std.proofs.Common.{◌∙◌, ◌∷◌, [], ap, subst, sym}
use Rattle.std.specs.Prelude.{IfSome}
use Rattle.sut_outside.specs.declared.names.FileName.TheVariants.{EditsCsv}
use Rattle.sut_outside.specs.Files.{Files}
use Rattle.sut_edits.specs.EditsFile.{edits_of}
use Rattle.sut_input.specs.declared.edits.EditInputFault.{EditInputFault}
use Rattle.sut_input.specs.EditInputs.{FailsIn, RefusesEdits, edits_in}
use Rattle.sut_input.proofs.EditSteps.{edits-no-read, edits-not-read, edits-read, edits-refused, fails-by}
use Rattle.sut_input.proofs.edits.read_edits_file.Goals as goal

pub returns-in-Err-clause-err : goal.returns-in-Err-clause-err
returns-in-Err-clause-err g c = edits-not-read c.args.settings.now c.args.classes.now (g.F.Shelf.files c.args.shelf.now) c.in-Err.fault c.in-Err.ensures.err

pub returns-in-Err-clause-cause : goal.returns-in-Err-clause-cause
returns-in-Err-clause-cause g c = fails-by EditsCsv _ _ _ c.in-Err.fault c.in-Err.ensures.cause

pub returns-in-Ok-read_edits-clause-ok : goal.returns-in-Ok-read_edits-clause-ok
returns-in-Ok-read_edits-clause-ok g c =
    edits-read c.args.settings.now c.args.classes.now (g.F.Shelf.files c.args.shelf.now) c.in-Ok.bytes.items c.in-Ok-read_edits.edits.items c.in-Ok.ensures.ok (sym (c.in-Ok-read_edits.ensures.value tt) ∙ ap (edits_of c.args.settings.now c.args.classes.now) c.deref.ensures.value)

pub returns-clause-err : goal.returns-clause-err
returns-clause-err g c =
    let P : EditInputFault → Type 0 = λ f. IfSome (g.F.Shelf.files c.args.shelf.now) (λ (files : Files). RefusesEdits (edits_in c.args.settings.now c.args.classes.now) files f) in
    subst P (sym c.edits_fault.ensures)
    (edits-refused c.args.settings.now c.args.classes.now (g.F.Shelf.files c.args.shelf.now) c.in-Ok.bytes.items c.in-Err-read_edits.fault c.in-Ok.ensures.ok (λ lack. sym (c.in-Err-read_edits.ensures.value lack) ∙ ap (edits_of c.args.settings.now c.args.classes.now) c.deref.ensures.value))

pub returns-clause-cause : goal.returns-clause-cause
returns-clause-cause g c =
    let P : EditInputFault → Type 0 = λ f. FailsIn (EditsCsv ∷ []) (g.F.Shelf.faults c.args.shelf.now) (g.F.Shelf.faults c.read_file.new.shelf) (g.F.Shelf.last_failed c.read_file.new.shelf) f in
    subst P (sym c.edits_fault.ensures) (edits-no-read _ c.in-Err-read_edits.fault)
