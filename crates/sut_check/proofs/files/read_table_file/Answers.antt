use Rattle.std.proofs.Common.{◌∙◌, ◌∷◌, [], ap, subst, sym}
use Rattle.std.specs.Prelude.{IfSome}
use Rattle.sut_outside.specs.declared.names.FileName.TheVariants.{BalancedCsv}
use Rattle.sut_outside.specs.Files.{Files}
use Rattle.sut_readback.specs.BalancedFile.{balanced_of}
use Rattle.sut_check.specs.declared.faults.CheckFault.{CheckFault}
use Rattle.sut_check.specs.Claims.{FailsIn, Refuses, table_in}
use Rattle.sut_check.proofs.CheckSteps.{fails-by}
use Rattle.sut_check.proofs.ReadAnswers.{table-no-read, table-not-read, table-read, table-refused}
use Rattle.sut_check.proofs.files.read_table_file.Goals as goal

pub returns-in-Err-clause-err : goal.returns-in-Err-clause-err
returns-in-Err-clause-err g c = table-not-read c.args.p.now (g.F.Shelf.files c.args.shelf.now) c.in-Err.fault c.in-Err.ensures.err

pub returns-in-Err-clause-cause : goal.returns-in-Err-clause-cause
returns-in-Err-clause-cause g c = fails-by BalancedCsv _ _ _ c.in-Err.fault c.in-Err.ensures.cause

pub returns-in-Ok-read_balanced-clause-ok : goal.returns-in-Ok-read_balanced-clause-ok
returns-in-Ok-read_balanced-clause-ok g c =
    table-read c.args.p.now (g.F.Shelf.files c.args.shelf.now) c.in-Ok.bytes.items c.in-Ok-read_balanced.table c.in-Ok.ensures.ok (c.in-Ok-read_balanced.ensures.read tt ∙ ap (balanced_of c.args.p.now) c.deref.ensures.value)

pub returns-clause-err : goal.returns-clause-err
returns-clause-err g c =
    let P : CheckFault → Type 0 = λ f. IfSome (g.F.Shelf.files c.args.shelf.now) (λ (files : Files). Refuses (table_in c.args.p.now) files f) in
    subst P (sym c.table_fault.ensures)
    (table-refused c.args.p.now (g.F.Shelf.files c.args.shelf.now) c.in-Ok.bytes.items c.in-Err-read_balanced.fault c.in-Ok.ensures.ok (λ lack. c.in-Err-read_balanced.ensures.read lack ∙ ap (balanced_of c.args.p.now) c.deref.ensures.value))

pub returns-clause-cause : goal.returns-clause-cause
returns-clause-cause g c =
    let P : CheckFault → Type 0 = λ f. FailsIn (BalancedCsv ∷ []) (g.F.Shelf.faults c.args.shelf.now) (g.F.Shelf.faults c.read_file.new.shelf) (g.F.Shelf.last_failed c.read_file.new.shelf) f in
    subst P (sym c.table_fault.ensures) (table-no-read _ c.in-Err-read_balanced.fault)
