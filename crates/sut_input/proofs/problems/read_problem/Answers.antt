use Rattle.std.proofs.Common.{◌≤◌, arith}
use Rattle.sut_outside.specs.declared.names.FileName.TheVariants.{SettingsToml, ClassesCsv}
use Rattle.sut_outside.specs.Files.{Files}
use Rattle.sut_outside.proofs.NoneFailed.{both_stay}
use Rattle.sut_input.specs.Reads.{GivesOk, Refuses}
use Rattle.sut_input.specs.Inputs.{classes_in, problem_names, source_in}
use Rattle.sut_input.proofs.StepLemmas.{classes-refused-told, fails-later, first-of, kept-twice, only-name, problem-told, second-of, settings-refused-told, source-refused-told, third-of, told-back}
use Rattle.sut_input.proofs.problems.read_problem.Goals as goal

pub returns-in-Err-clause-err : goal.returns-in-Err-clause-err
returns-in-Err-clause-err g c = settings-refused-told c.args.source (g.F.Shelf.files c.args.shelf.now) c.in-Err.fault c.in-Err.ensures.err

pub returns-in-Err-clause-cause : goal.returns-in-Err-clause-cause
returns-in-Err-clause-cause g c =
    fails-later (problem_names c.args.source) SettingsToml (first-of c.args.source) (g.F.Shelf.faults c.args.shelf.now) (g.F.Shelf.faults c.args.shelf.now) (g.F.Shelf.faults c.read_settings_file.new.shelf)
    (g.F.Shelf.last_failed c.read_settings_file.new.shelf) c.in-Err.fault (omega arith) c.in-Err.ensures.cause

pub returns-in-Err-read_classes_file-clause-kept : goal.returns-in-Err-read_classes_file-clause-kept
returns-in-Err-read_classes_file-clause-kept g c = kept-twice _ _ _ c.read_settings_file.ensures.kept c.read_classes_file.ensures.kept

pub returns-in-Err-read_classes_file-clause-err : goal.returns-in-Err-read_classes_file-clause-err
returns-in-Err-read_classes_file-clause-err g c =
    classes-refused-told c.args.source (g.F.Shelf.files c.args.shelf.now) c.in-Ok.settings c.in-Err-read_classes_file.fault c.in-Ok.ensures.ok
    (only-name ClassesCsv _ _ _ c.in-Err-read_classes_file.fault c.in-Err-read_classes_file.ensures.cause)
    (told-back (λ (files : Files). Refuses classes_in files c.in-Err-read_classes_file.fault) _ _ c.read_settings_file.ensures.kept c.in-Err-read_classes_file.ensures.err)

pub returns-in-Err-read_classes_file-clause-cause :
    goal.returns-in-Err-read_classes_file-clause-cause
returns-in-Err-read_classes_file-clause-cause g c =
    fails-later (problem_names c.args.source) ClassesCsv (second-of c.args.source) (g.F.Shelf.faults c.args.shelf.now) (g.F.Shelf.faults c.read_settings_file.new.shelf) (g.F.Shelf.faults c.read_classes_file.new.shelf)
    (g.F.Shelf.last_failed c.read_classes_file.new.shelf) c.in-Err-read_classes_file.fault c.read_settings_file.ensures.later c.in-Err-read_classes_file.ensures.cause

pub returns-in-Ok-read_source_file-clause-kept : goal.returns-in-Ok-read_source_file-clause-kept
returns-in-Ok-read_source_file-clause-kept g c =
    kept-twice _ _ _ (kept-twice _ _ _ c.read_settings_file.ensures.kept c.read_classes_file.ensures.kept) c.read_source_file.ensures.kept

pub returns-in-Ok-read_source_file-clause-ok : goal.returns-in-Ok-read_source_file-clause-ok
returns-in-Ok-read_source_file-clause-ok g c =
    let kept = kept-twice _ _ _ c.read_settings_file.ensures.kept c.read_classes_file.ensures.kept in
    problem-told c.args.source (g.F.Shelf.files c.args.shelf.now) c.in-Ok.settings c.in-Ok-read_classes_file.classes c.in-Ok-read_source_file.problem c.in-Ok.ensures.ok
    (told-back (λ (files : Files). GivesOk classes_in files c.in-Ok-read_classes_file.classes) _ _ c.read_settings_file.ensures.kept c.in-Ok-read_classes_file.ensures.ok)
    (told-back (λ (files : Files). GivesOk (source_in c.args.source c.in-Ok.settings c.in-Ok-read_classes_file.classes) files c.in-Ok-read_source_file.problem) _ _ kept c.in-Ok-read_source_file.ensures.ok)

pub returns-in-Err-read_source_file-clause-kept : goal.returns-in-Err-read_source_file-clause-kept
returns-in-Err-read_source_file-clause-kept g c =
    kept-twice _ _ _ (kept-twice _ _ _ c.read_settings_file.ensures.kept c.read_classes_file.ensures.kept) c.read_source_file.ensures.kept

pub returns-in-Err-read_source_file-clause-err : goal.returns-in-Err-read_source_file-clause-err
returns-in-Err-read_source_file-clause-err g c =
    let kept = kept-twice _ _ _ c.read_settings_file.ensures.kept c.read_classes_file.ensures.kept in
    source-refused-told c.args.source c.requires (g.F.Shelf.files c.args.shelf.now) c.in-Ok.settings c.in-Ok-read_classes_file.classes c.in-Err-read_source_file.fault c.in-Ok.ensures.ok
    (told-back (λ (files : Files). GivesOk classes_in files c.in-Ok-read_classes_file.classes) _ _ c.read_settings_file.ensures.kept c.in-Ok-read_classes_file.ensures.ok)
    (only-name c.args.source _ _ _ c.in-Err-read_source_file.fault c.in-Err-read_source_file.ensures.cause)
    (told-back (λ (files : Files). Refuses (source_in c.args.source c.in-Ok.settings c.in-Ok-read_classes_file.classes) files c.in-Err-read_source_file.fault) _ _ kept c.in-Err-read_source_file.ensures.err)

pub returns-in-Err-read_source_file-clause-cause :
    goal.returns-in-Err-read_source_file-clause-cause
returns-in-Err-read_source_file-clause-cause g c =
    let later : g.F.Shelf.faults c.args.shelf.now ≤ g.F.Shelf.faults c.read_classes_file.new.shelf = omega (arith, c.read_settings_file.ensures.later, c.read_classes_file.ensures.later) in
    fails-later (problem_names c.args.source) c.args.source (third-of c.args.source) (g.F.Shelf.faults c.args.shelf.now) (g.F.Shelf.faults c.read_classes_file.new.shelf) (g.F.Shelf.faults c.read_source_file.new.shelf)
    (g.F.Shelf.last_failed c.read_source_file.new.shelf) c.in-Err-read_source_file.fault later c.in-Err-read_source_file.ensures.cause

pub returns-in-Err-read_classes_file-clause-stays :
    goal.returns-in-Err-read_classes_file-clause-stays
returns-in-Err-read_classes_file-clause-stays g c other =
    both_stay (c.in-Ok.ensures.stays (λ h. h)) (c.in-Err-read_classes_file.ensures.stays other)

pub returns-in-Ok-read_source_file-clause-stays : goal.returns-in-Ok-read_source_file-clause-stays
returns-in-Ok-read_source_file-clause-stays g c other =
    both_stay (both_stay (c.in-Ok.ensures.stays (λ h. h)) (c.in-Ok-read_classes_file.ensures.stays (λ h. h))) (c.in-Ok-read_source_file.ensures.stays other)

pub returns-in-Err-read_source_file-clause-stays :
    goal.returns-in-Err-read_source_file-clause-stays
returns-in-Err-read_source_file-clause-stays g c other =
    both_stay (both_stay (c.in-Ok.ensures.stays (λ h. h)) (c.in-Ok-read_classes_file.ensures.stays (λ h. h))) (c.in-Err-read_source_file.ensures.stays other)
