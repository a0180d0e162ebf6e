use Rattle.std.proofs.Common.{◌∙◌, ap, subst, sym}
use Rattle.std.specs.Prelude.{IfSome}
use Rattle.sut_outside.specs.Files.{Files}
use Rattle.sut_dismissals.specs.DismissFile.{dismissals_of}
use Rattle.sut_input.specs.declared.series.SeriesInputFault.{SeriesInputFault}
use Rattle.sut_input.specs.Following.{RefusesAs}
use Rattle.sut_input.specs.SeriesInputs.{dismissals_in, series_part}
use Rattle.sut_input.proofs.SeriesSteps.{dismissals-given, dismissals-not-read, dismissals-refused}
use Rattle.sut_input.proofs.series.read_dismissals_file.Goals as goal

pub returns-in-Err-clause-err : goal.returns-in-Err-clause-err
returns-in-Err-clause-err g c = dismissals-not-read c.args.years (g.F.Shelf.files c.args.shelf.now) c.in-Err.fault c.in-Err.ensures.err

pub returns-in-Ok-read_dismiss-clause-ok : goal.returns-in-Ok-read_dismiss-clause-ok
returns-in-Ok-read_dismiss-clause-ok g c =
    dismissals-given c.args.years (g.F.Shelf.files c.args.shelf.now) c.in-Ok.bytes.items c.in-Ok-read_dismiss.lines.items c.in-Ok.ensures.ok (sym (c.in-Ok-read_dismiss.ensures.value tt) ∙ ap (dismissals_of c.args.years) c.deref.ensures.value)

pub returns-clause-err : goal.returns-clause-err
returns-clause-err g c =
    let P : SeriesInputFault → Type 0 = λ f. IfSome (g.F.Shelf.files c.args.shelf.now) (λ (files : Files). RefusesAs series_part (dismissals_in c.args.years) files f) in
    subst P (sym c.dismiss_fault.ensures)
    (dismissals-refused c.args.years (g.F.Shelf.files c.args.shelf.now) c.in-Ok.bytes.items c.in-Err-read_dismiss.fault c.in-Ok.ensures.ok (λ lack. sym (c.in-Err-read_dismiss.ensures.value lack) ∙ ap (dismissals_of c.args.years) c.deref.ensures.value))
