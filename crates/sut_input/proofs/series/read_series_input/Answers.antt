use Rattle.std.proofs.Common.{◌≡◌, ◌≤◌, ◌∷◌, ◌++◌, [], List, None, Ok, arith, take}
use Rattle.sut_outside.specs.declared.names.FileName.{FileName}
use Rattle.sut_outside.specs.declared.names.FileName.TheVariants.{SettingsToml, ClassesCsv, DismissCsv}
use Rattle.sut_outside.specs.Files.{Files}
use Rattle.sut_input.specs.Following.{RefusesAs}
use Rattle.sut_input.specs.SeriesInputs.{class_years_in, dismissals_in, series_names, series_part, year_names}
use Rattle.sut_input.proofs.StepLemmas.{kept-twice, told-back}
use Rattle.sut_input.proofs.FollowingSteps.{fails-later, only-names}
use Rattle.sut_input.proofs.YearNames.{front-name, back-name, tail-name}
use Rattle.sut_input.proofs.SeriesSteps.{class-years-refused, dismissals-refused-last, series-given, settings-refused}
use Rattle.sut_input.proofs.series.read_series_input.Goals as goal

pub returns-in-Err-clause-err : goal.returns-in-Err-clause-err
returns-in-Err-clause-err g c = settings-refused c.args.years (g.F.Shelf.files c.args.shelf.now) c.in-Err.fault c.in-Err.ensures.err

pub returns-in-Err-read_class_years-clause-err : goal.returns-in-Err-read_class_years-clause-err
returns-in-Err-read_class_years-clause-err g c =
    class-years-refused c.args.years (g.F.Shelf.files c.args.shelf.now) c.in-Ok.settings c.in-Err-read_class_years.fault
    (only-names series_part (ClassesCsv ∷ take c.args.years year_names) _ _ _ c.in-Err-read_class_years.fault c.in-Err-read_class_years.ensures.cause) c.in-Ok.ensures.ok
    (told-back (λ (files : Files). RefusesAs series_part (class_years_in c.args.years c.in-Ok.settings) files c.in-Err-read_class_years.fault) _ _ c.read_settings_file.ensures.kept c.in-Err-read_class_years.ensures.err)

pub returns-in-Err-read_class_years-clause-cause :
    goal.returns-in-Err-read_class_years-clause-cause
returns-in-Err-read_class_years-clause-cause g c =
    let names : List FileName = ClassesCsv ∷ take c.args.years year_names in
    fails-later series_part names (series_names c.args.years) (λ n h. tail-name SettingsToml (names ++ DismissCsv ∷ []) n (front-name names (DismissCsv ∷ []) n h))
    (g.F.Shelf.faults c.args.shelf.now) (g.F.Shelf.faults c.read_settings_file.new.shelf) (g.F.Shelf.faults c.read_class_years.new.shelf) (g.F.Shelf.last_failed c.read_class_years.new.shelf) c.in-Err-read_class_years.fault
    c.read_settings_file.ensures.later c.in-Err-read_class_years.ensures.cause

pub returns-in-Ok-read_dismissals_file-clause-ok :
    goal.returns-in-Ok-read_dismissals_file-clause-ok
returns-in-Ok-read_dismissals_file-clause-ok g c =
    let kept = kept-twice _ _ _ c.read_settings_file.ensures.kept c.read_class_years.ensures.kept in
    series-given c.args.years (g.F.Shelf.files c.args.shelf.now) c.in-Ok.settings c.in-Ok-read_class_years.problems.items c.in-Ok-read_dismissals_file.dismissals.items c.in-Ok.ensures.ok
    (told-back (λ (files : Files). class_years_in c.args.years c.in-Ok.settings None files ≡ Ok c.in-Ok-read_class_years.problems.items) _ _ c.read_settings_file.ensures.kept c.in-Ok-read_class_years.ensures.ok)
    (told-back (λ (files : Files). dismissals_in c.args.years None files ≡ Ok c.in-Ok-read_dismissals_file.dismissals.items) _ _ kept c.in-Ok-read_dismissals_file.ensures.ok)

pub returns-in-Err-read_dismissals_file-clause-err :
    goal.returns-in-Err-read_dismissals_file-clause-err
returns-in-Err-read_dismissals_file-clause-err g c =
    let kept = kept-twice _ _ _ c.read_settings_file.ensures.kept c.read_class_years.ensures.kept in
    dismissals-refused-last c.args.years (g.F.Shelf.files c.args.shelf.now) c.in-Ok.settings c.in-Ok-read_class_years.problems.items c.in-Err-read_dismissals_file.fault
    (only-names series_part (DismissCsv ∷ []) _ _ _ c.in-Err-read_dismissals_file.fault c.in-Err-read_dismissals_file.ensures.cause) c.in-Ok.ensures.ok
    (told-back (λ (files : Files). class_years_in c.args.years c.in-Ok.settings None files ≡ Ok c.in-Ok-read_class_years.problems.items) _ _ c.read_settings_file.ensures.kept c.in-Ok-read_class_years.ensures.ok)
    (told-back (λ (files : Files). RefusesAs series_part (dismissals_in c.args.years) files c.in-Err-read_dismissals_file.fault) _ _ kept c.in-Err-read_dismissals_file.ensures.err)

pub returns-in-Err-read_dismissals_file-clause-cause :
    goal.returns-in-Err-read_dismissals_file-clause-cause
returns-in-Err-read_dismissals_file-clause-cause g c =
    let names : List FileName = SettingsToml ∷ ClassesCsv ∷ take c.args.years year_names in
    let later : g.F.Shelf.faults c.args.shelf.now ≤ g.F.Shelf.faults c.read_class_years.new.shelf = omega (arith, c.read_settings_file.ensures.later, c.read_class_years.ensures.later) in
    fails-later series_part (DismissCsv ∷ []) (series_names c.args.years) (back-name names (DismissCsv ∷ []))
    (g.F.Shelf.faults c.args.shelf.now) (g.F.Shelf.faults c.read_class_years.new.shelf) (g.F.Shelf.faults c.read_dismissals_file.new.shelf) (g.F.Shelf.last_failed c.read_dismissals_file.new.shelf) c.in-Err-read_dismissals_file.fault
    later c.in-Err-read_dismissals_file.ensures.cause
