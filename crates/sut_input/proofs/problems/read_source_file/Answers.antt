use Rattle.std.proofs.Common.{◌∙◌, ap, subst, sym}
use Rattle.std.specs.Prelude.{IfSome}
use Rattle.sut_outside.specs.Files.{Files}
use Rattle.sut_source.specs.SourceFile.{source_of}
use Rattle.sut_input.specs.declared.faults.InputFault.{InputFault}
use Rattle.sut_input.specs.declared.faults.InputFault.TheVariants.{BadSource}
use Rattle.sut_input.specs.Reads.{Refuses}
use Rattle.sut_input.specs.Inputs.{source_in}
use Rattle.sut_input.proofs.ReadLemmas.{not-read-if, source-refused-if, was-read-if}
use Rattle.sut_input.proofs.problems.read_source_file.Goals as goal

pub returns-in-Err-clause-err : goal.returns-in-Err-clause-err
returns-in-Err-clause-err g c = not-read-if c.args.name (source_of c.args.settings.now c.args.classes) BadSource (g.F.Shelf.files c.args.shelf.now) c.in-Err.fault c.in-Err.ensures.err

pub returns-in-Ok-read_source-clause-ok : goal.returns-in-Ok-read_source-clause-ok
returns-in-Ok-read_source-clause-ok g c =
    was-read-if c.args.name (source_of c.args.settings.now c.args.classes) BadSource (g.F.Shelf.files c.args.shelf.now) c.in-Ok.bytes.items c.in-Ok-read_source.problem c.in-Ok.ensures.ok (c.in-Ok-read_source.ensures.value tt ∙ ap (source_of c.args.settings.now c.args.classes) c.deref.ensures.value)

pub returns-clause-err : goal.returns-clause-err
returns-clause-err g c =
    let P : InputFault → Type 0 = λ f. IfSome (g.F.Shelf.files c.args.shelf.now) (λ (files : Files). Refuses (source_in c.args.name c.args.settings.now c.args.classes) files f) in
    subst P (sym c.source_fault.ensures)
    (source-refused-if c.args.name (source_of c.args.settings.now c.args.classes) (g.F.Shelf.files c.args.shelf.now) c.in-Ok.bytes.items c.in-Err-read_source.fault c.in-Ok.ensures.ok (λ lack. c.in-Err-read_source.ensures.value lack ∙ ap (source_of c.args.settings.now c.args.classes) c.deref.ensures.value))
