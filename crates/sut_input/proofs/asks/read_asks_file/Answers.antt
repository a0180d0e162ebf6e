use Rattle.std.proofs.Common.{◌∙◌, ◌∷◌, [], ap, refl, subst, sym}
use Rattle.std.specs.Prelude.{IfSome}
use Rattle.sut_outside.specs.declared.names.FileName.TheVariants.{AsksCsv}
use Rattle.sut_outside.specs.Files.{Files}
use Rattle.sut_asks.specs.AsksFile.{asks_of}
use Rattle.sut_input.specs.declared.asks.AskInputFault.{AskInputFault}
use Rattle.sut_input.specs.declared.asks.AskInputFault.TheVariants.{Input}
use Rattle.sut_input.specs.Following.{FailsIn, RefusesAs}
use Rattle.sut_input.specs.AskInputs.{ask_part, asks_in}
use Rattle.sut_input.proofs.FollowingSteps.{fails-by}
use Rattle.sut_input.proofs.AskSteps.{ask-no-read, asks-given, asks-not-read, asks-refused}
use Rattle.sut_input.proofs.asks.read_asks_file.Goals as goal

pub returns-in-Err-clause-err : goal.returns-in-Err-clause-err
returns-in-Err-clause-err g c = asks-not-read c.args.p.now (g.F.Shelf.files c.args.shelf.now) c.in-Err.fault c.in-Err.ensures.err

pub returns-in-Err-clause-cause : goal.returns-in-Err-clause-cause
returns-in-Err-clause-cause g c = fails-by ask_part Input (λ e. refl) AsksCsv _ _ _ c.in-Err.fault c.in-Err.ensures.cause

pub returns-in-Ok-read_asks-clause-ok : goal.returns-in-Ok-read_asks-clause-ok
returns-in-Ok-read_asks-clause-ok g c =
    asks-given c.args.p.now (g.F.Shelf.files c.args.shelf.now) c.in-Ok.bytes.items c.in-Ok-read_asks.asks.items c.in-Ok.ensures.ok (c.in-Ok-read_asks.ensures.read tt ∙ ap (asks_of c.args.p.now) c.deref.ensures.value)

pub returns-clause-err : goal.returns-clause-err
returns-clause-err g c =
    let P : AskInputFault → Type 0 = λ f. IfSome (g.F.Shelf.files c.args.shelf.now) (λ (files : Files). RefusesAs ask_part (asks_in c.args.p.now) files f) in
    subst P (sym c.ask_fault.ensures)
    (asks-refused c.args.p.now (g.F.Shelf.files c.args.shelf.now) c.in-Ok.bytes.items c.in-Err-read_asks.fault c.in-Ok.ensures.ok (λ lack. c.in-Err-read_asks.ensures.read lack ∙ ap (asks_of c.args.p.now) c.deref.ensures.value))

pub returns-clause-cause : goal.returns-clause-cause
returns-clause-cause g c =
    let P : AskInputFault → Type 0 = λ f. FailsIn ask_part (AsksCsv ∷ []) (g.F.Shelf.faults c.args.shelf.now) (g.F.Shelf.faults c.read_file.new.shelf) (g.F.Shelf.last_failed c.read_file.new.shelf) f in
    subst P (sym c.ask_fault.ensures) (ask-no-read _ c.in-Err-read_asks.fault)
