use Rattle.std.proofs.Common.{◌≡◌, None, Ok, IfSome, subst}
use Rattle.sut_classes.specs.ClassLists.{ClassLists}
use Rattle.sut_outside.specs.Files.{Files}
use Rattle.sut_outside.proofs.NoneFailed.{both_stay}
use Rattle.sut_input.specs.EditInputs.{RefusesEdits, edits_in}
use Rattle.sut_input.proofs.StepLemmas.{kept-twice, told-back}
use Rattle.sut_input.proofs.EditSteps.{edits-given, edits-not-given, fails-first, fails-last, only-edits, problem-not-given}
use Rattle.sut_input.proofs.edits.read_edit_input.Goals as goal

pub returns-in-Err-clause-err : goal.returns-in-Err-clause-err
returns-in-Err-clause-err g c = problem-not-given (g.F.Shelf.files c.args.shelf.now) c.in-Err.fault c.in-Err.ensures.err

pub returns-in-Err-clause-cause : goal.returns-in-Err-clause-cause
returns-in-Err-clause-cause g c = fails-first _ _ _ c.in-Err.fault c.in-Err.ensures.cause

pub returns-in-Ok-read_edits_file-clause-kept : goal.returns-in-Ok-read_edits_file-clause-kept
returns-in-Ok-read_edits_file-clause-kept g c = kept-twice _ _ _ c.read_problem.ensures.kept c.read_edits_file.ensures.kept

pub returns-in-Ok-read_edits_file-clause-ok : goal.returns-in-Ok-read_edits_file-clause-ok
returns-in-Ok-read_edits_file-clause-ok g c =
    let Given : ClassLists → Type 0 = λ cs. IfSome (g.F.Shelf.files c.args.shelf.now) (λ (files : Files). edits_in c.in-Ok.input.settings cs None files ≡ Ok c.in-Ok-read_edits_file.edits.items) in
    edits-given (g.F.Shelf.files c.args.shelf.now) c.in-Ok.input.settings c.in-Ok.input.problem c.in-Ok-read_edits_file.edits.items c.in-Ok.ensures.ok
    (subst Given c.classes.ensures (told-back (λ (files : Files). edits_in c.in-Ok.input.settings c.classes.result.now None files ≡ Ok c.in-Ok-read_edits_file.edits.items) _ _ c.read_problem.ensures.kept c.in-Ok-read_edits_file.ensures.ok))

pub returns-in-Err-read_edits_file-clause-kept : goal.returns-in-Err-read_edits_file-clause-kept
returns-in-Err-read_edits_file-clause-kept g c = kept-twice _ _ _ c.read_problem.ensures.kept c.read_edits_file.ensures.kept

pub returns-in-Err-read_edits_file-clause-err : goal.returns-in-Err-read_edits_file-clause-err
returns-in-Err-read_edits_file-clause-err g c =
    let Refused : ClassLists → Type 0 = λ cs. IfSome (g.F.Shelf.files c.args.shelf.now) (λ (files : Files). RefusesEdits (edits_in c.in-Ok.input.settings cs) files c.in-Err-read_edits_file.fault) in
    edits-not-given (g.F.Shelf.files c.args.shelf.now) c.in-Ok.input.settings c.in-Ok.input.problem c.in-Err-read_edits_file.fault (only-edits _ _ _ c.in-Err-read_edits_file.fault c.in-Err-read_edits_file.ensures.cause) c.in-Ok.ensures.ok
    (subst Refused c.classes.ensures (told-back (λ (files : Files). RefusesEdits (edits_in c.in-Ok.input.settings c.classes.result.now) files c.in-Err-read_edits_file.fault) _ _ c.read_problem.ensures.kept c.in-Err-read_edits_file.ensures.err))

pub returns-in-Err-read_edits_file-clause-cause : goal.returns-in-Err-read_edits_file-clause-cause
returns-in-Err-read_edits_file-clause-cause g c =
    fails-last (g.F.Shelf.faults c.args.shelf.now) (g.F.Shelf.faults c.read_problem.new.shelf) (g.F.Shelf.faults c.read_edits_file.new.shelf)
    (g.F.Shelf.last_failed c.read_edits_file.new.shelf) c.in-Err-read_edits_file.fault c.read_problem.ensures.later c.in-Err-read_edits_file.ensures.cause

pub returns-in-Ok-read_edits_file-clause-stays : goal.returns-in-Ok-read_edits_file-clause-stays
returns-in-Ok-read_edits_file-clause-stays g c other =
    both_stay (c.in-Ok.ensures.stays (λ h. h)) (c.in-Ok-read_edits_file.ensures.stays other)

pub returns-in-Err-read_edits_file-clause-stays : goal.returns-in-Err-read_edits_file-clause-stays
returns-in-Err-read_edits_file-clause-stays g c other =
    both_stay (c.in-Ok.ensures.stays (λ h. h)) (c.in-Err-read_edits_file.ensures.stays other)
