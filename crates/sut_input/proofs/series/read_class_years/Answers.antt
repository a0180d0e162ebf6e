use Rattle.std.proofs.Common.{◌≡◌, ◌∷◌, None, Ok, take}
use Rattle.sut_outside.specs.declared.names.FileName.TheVariants.{ClassesCsv}
use Rattle.sut_outside.specs.Files.{Files}
use Rattle.sut_input.specs.Following.{RefusesAs}
use Rattle.sut_input.specs.SeriesInputs.{series_part, year_names, years_in}
use Rattle.sut_input.proofs.StepLemmas.{told-back}
use Rattle.sut_input.proofs.FollowingSteps.{fails-later, only-names}
use Rattle.sut_input.proofs.YearNames.{tail-name}
use Rattle.sut_input.proofs.SeriesSteps.{class-years-given, classes-refused, years-refused}
use Rattle.sut_input.proofs.series.read_class_years.Goals as goal

pub returns-in-Err-clause-err : goal.returns-in-Err-clause-err
returns-in-Err-clause-err g c = classes-refused c.args.years c.args.settings.now (g.F.Shelf.files c.args.shelf.now) c.in-Err.fault c.in-Err.ensures.err

pub returns-in-Ok-read_years-clause-ok : goal.returns-in-Ok-read_years-clause-ok
returns-in-Ok-read_years-clause-ok g c =
    class-years-given c.args.years c.args.settings.now (g.F.Shelf.files c.args.shelf.now) c.in-Ok.classes c.in-Ok-read_years.problems.items c.in-Ok.ensures.ok
    (told-back (λ (files : Files). years_in (take c.args.years year_names) 1 c.args.settings.now c.in-Ok.classes None files ≡ Ok c.in-Ok-read_years.problems.items) _ _ c.read_classes_file.ensures.kept c.in-Ok-read_years.ensures.ok)

pub returns-in-Err-read_years-clause-err : goal.returns-in-Err-read_years-clause-err
returns-in-Err-read_years-clause-err g c =
    years-refused c.args.years c.args.settings.now (g.F.Shelf.files c.args.shelf.now) c.in-Ok.classes c.in-Err-read_years.fault
    (only-names series_part (take c.args.years year_names) _ _ _ c.in-Err-read_years.fault c.in-Err-read_years.ensures.cause) c.in-Ok.ensures.ok
    (told-back (λ (files : Files). RefusesAs series_part (years_in (take c.args.years year_names) 1 c.args.settings.now c.in-Ok.classes) files c.in-Err-read_years.fault) _ _ c.read_classes_file.ensures.kept c.in-Err-read_years.ensures.err)

pub returns-in-Err-read_years-clause-cause : goal.returns-in-Err-read_years-clause-cause
returns-in-Err-read_years-clause-cause g c =
    fails-later series_part (take c.args.years year_names) (ClassesCsv ∷ take c.args.years year_names) (tail-name ClassesCsv (take c.args.years year_names))
    (g.F.Shelf.faults c.args.shelf.now) (g.F.Shelf.faults c.read_classes_file.new.shelf) (g.F.Shelf.faults c.read_years.new.shelf) (g.F.Shelf.last_failed c.read_years.new.shelf) c.in-Err-read_years.fault
    c.read_classes_file.ensures.later c.in-Err-read_years.ensures.cause
