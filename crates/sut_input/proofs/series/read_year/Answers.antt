use Rattle.std.proofs.Common.{◌∙◌, subst, sym}
use Rattle.std.specs.Prelude.{IfSome}
use Rattle.sut_outside.specs.Files.{Files}
use Rattle.sut_input.specs.declared.series.SeriesInputFault.{SeriesInputFault}
use Rattle.sut_input.specs.Following.{RefusesAs}
use Rattle.sut_input.specs.SeriesInputs.{series_part, year_in}
use Rattle.sut_input.proofs.SeriesSteps.{same-source, source-classes, year-given, year-not-read, year-refused}
use Rattle.sut_input.proofs.series.read_year.Goals as goal

pub returns-in-Err-clause-err : goal.returns-in-Err-clause-err
returns-in-Err-clause-err g c = year-not-read c.args.name c.args.year c.args.settings.now c.args.classes.now (g.F.Shelf.files c.args.shelf.now) c.in-Err.fault c.in-Err.ensures.err

pub returns-in-Ok-read_source-clause-ok : goal.returns-in-Ok-read_source-clause-ok
returns-in-Ok-read_source-clause-ok g c =
    year-given c.args.name c.args.year c.args.settings.now c.args.classes.now (g.F.Shelf.files c.args.shelf.now) c.in-Ok.bytes.items c.in-Ok-read_source.problem c.in-Ok.ensures.ok
    (same-source c.args.settings.now c.in-Ok-copy.own c.args.classes.now c.deref.result.now c.in-Ok.bytes.items _ (c.in-Ok-read_source.ensures.value tt) c.in-Ok-copy.ensures c.deref.ensures.value)

pub returns-in-Ok-read_source-clause-classes : goal.returns-in-Ok-read_source-clause-classes
returns-in-Ok-read_source-clause-classes g c =
    source-classes c.args.settings.now c.in-Ok-copy.own c.deref.result.now c.in-Ok-read_source.problem (c.in-Ok-read_source.ensures.value tt) ∙ c.in-Ok-copy.ensures

pub returns-clause-err : goal.returns-clause-err
returns-clause-err g c =
    let P : SeriesInputFault → Type 0 = λ f. IfSome (g.F.Shelf.files c.args.shelf.now) (λ (files : Files). RefusesAs series_part (year_in c.args.name c.args.year c.args.settings.now c.args.classes.now) files f) in
    subst P (sym c.year_fault.ensures)
    (year-refused c.args.name c.args.year c.args.settings.now c.args.classes.now (g.F.Shelf.files c.args.shelf.now) c.in-Ok.bytes.items c.in-Err-read_source.fault c.in-Ok.ensures.ok
    (λ lack. same-source c.args.settings.now c.in-Ok-copy.own c.args.classes.now c.deref.result.now c.in-Ok.bytes.items _ (c.in-Err-read_source.ensures.value lack) c.in-Ok-copy.ensures c.deref.ensures.value))
