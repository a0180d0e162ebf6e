use Rattle.std.proofs.Common.{◌∙◌, ◌∷◌, [], ap, refl, subst, sym}
use Rattle.std.specs.Prelude.{IfSome}
use Rattle.sut_outside.specs.declared.names.FileName.TheVariants.{BalancedCsv}
use Rattle.sut_outside.specs.Files.{Files}
use Rattle.sut_readback.specs.BalancedFile.{balanced_of}
use Rattle.sut_input.specs.declared.tables.TableInputFault.{TableInputFault}
use Rattle.sut_input.specs.declared.tables.TableInputFault.TheVariants.{Input}
use Rattle.sut_input.specs.Following.{FailsIn, RefusesAs}
use Rattle.sut_input.specs.TableInputs.{table_file_in, table_part}
use Rattle.sut_input.proofs.FollowingSteps.{fails-by}
use Rattle.sut_input.proofs.TableSteps.{file-given, file-not-read, file-refused, table-no-read}
use Rattle.sut_input.proofs.tables.read_table_file.Goals as goal

pub returns-in-Err-clause-err : goal.returns-in-Err-clause-err
returns-in-Err-clause-err g c = file-not-read c.args.p.now (g.F.Shelf.files c.args.shelf.now) c.in-Err.fault c.in-Err.ensures.err

pub returns-in-Err-clause-cause : goal.returns-in-Err-clause-cause
returns-in-Err-clause-cause g c = fails-by table_part Input (λ e. refl) BalancedCsv _ _ _ c.in-Err.fault c.in-Err.ensures.cause

pub returns-in-Ok-read_balanced-clause-ok : goal.returns-in-Ok-read_balanced-clause-ok
returns-in-Ok-read_balanced-clause-ok g c =
    file-given c.args.p.now (g.F.Shelf.files c.args.shelf.now) c.in-Ok.bytes.items c.in-Ok-read_balanced.table c.in-Ok.ensures.ok (c.in-Ok-read_balanced.ensures.read tt ∙ ap (balanced_of c.args.p.now) c.deref.ensures.value)

pub returns-clause-err : goal.returns-clause-err
returns-clause-err g c =
    let P : TableInputFault → Type 0 = λ f. IfSome (g.F.Shelf.files c.args.shelf.now) (λ (files : Files). RefusesAs table_part (table_file_in c.args.p.now) files f) in
    subst P (sym c.table_fault.ensures)
    (file-refused c.args.p.now (g.F.Shelf.files c.args.shelf.now) c.in-Ok.bytes.items c.in-Err-read_balanced.fault c.in-Ok.ensures.ok (λ lack. c.in-Err-read_balanced.ensures.read lack ∙ ap (balanced_of c.args.p.now) c.deref.ensures.value))

pub returns-clause-cause : goal.returns-clause-cause
returns-clause-cause g c =
    let P : TableInputFault → Type 0 = λ f. FailsIn table_part (BalancedCsv ∷ []) (g.F.Shelf.faults c.args.shelf.now) (g.F.Shelf.faults c.read_file.new.shelf) (g.F.Shelf.last_failed c.read_file.new.shelf) f in
    subst P (sym c.table_fault.ensures) (table-no-read _ c.in-Err-read_balanced.fault)
