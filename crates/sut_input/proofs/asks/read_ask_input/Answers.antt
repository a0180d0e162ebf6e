use Rattle.std.proofs.Common.{◌≡◌, ◌∷◌, [], None, Ok, arith, refl}
use Rattle.sut_outside.specs.declared.names.FileName.TheVariants.{SourceCsv, AsksCsv}
use Rattle.sut_outside.specs.Files.{Files}
use Rattle.sut_outside.proofs.NoneFailed.{both_stay}
use Rattle.sut_input.specs.declared.asks.AskInputFault.TheVariants.{Input}
use Rattle.sut_input.specs.Inputs.{problem_names}
use Rattle.sut_input.specs.Following.{RefusesAs}
use Rattle.sut_input.specs.AskInputs.{ask_names, ask_part, asks_in}
use Rattle.sut_input.proofs.StepLemmas.{kept-twice, told-back}
use Rattle.sut_input.proofs.FollowingSteps.{fails-among, fails-later, first-names, last-name, only-names}
use Rattle.sut_input.proofs.AskSteps.{after-given, after-refused, problem-refused}
use Rattle.sut_input.proofs.asks.read_ask_input.Goals as goal

pub returns-in-Err-clause-err : goal.returns-in-Err-clause-err
returns-in-Err-clause-err g c = problem-refused (g.F.Shelf.files c.args.shelf.now) c.in-Err.fault c.in-Err.ensures.err

pub returns-in-Err-clause-cause : goal.returns-in-Err-clause-cause
returns-in-Err-clause-cause g c =
    let before = g.F.Shelf.faults c.args.shelf.now in
    fails-later ask_part (problem_names SourceCsv) ask_names (first-names AsksCsv) before before (g.F.Shelf.faults c.read_problem.new.shelf) (g.F.Shelf.last_failed c.read_problem.new.shelf) (Input c.in-Err.fault) (omega arith)
    (fails-among ask_part Input (λ e. refl) (problem_names SourceCsv) _ _ _ c.in-Err.fault c.in-Err.ensures.cause)

pub returns-in-Ok-read_asks_file-clause-kept : goal.returns-in-Ok-read_asks_file-clause-kept
returns-in-Ok-read_asks_file-clause-kept g c = kept-twice _ _ _ c.read_problem.ensures.kept c.read_asks_file.ensures.kept

pub returns-in-Ok-read_asks_file-clause-ok : goal.returns-in-Ok-read_asks_file-clause-ok
returns-in-Ok-read_asks_file-clause-ok g c =
    after-given (g.F.Shelf.files c.args.shelf.now) c.in-Ok.input.settings c.in-Ok.input.problem c.in-Ok-read_asks_file.asks.items c.in-Ok.ensures.ok
    (told-back (λ (files : Files). asks_in c.in-Ok.input.problem None files ≡ Ok c.in-Ok-read_asks_file.asks.items) _ _ c.read_problem.ensures.kept c.in-Ok-read_asks_file.ensures.ok)

pub returns-in-Err-read_asks_file-clause-kept : goal.returns-in-Err-read_asks_file-clause-kept
returns-in-Err-read_asks_file-clause-kept g c = kept-twice _ _ _ c.read_problem.ensures.kept c.read_asks_file.ensures.kept

pub returns-in-Err-read_asks_file-clause-err : goal.returns-in-Err-read_asks_file-clause-err
returns-in-Err-read_asks_file-clause-err g c =
    after-refused (g.F.Shelf.files c.args.shelf.now) c.in-Ok.input.settings c.in-Ok.input.problem c.in-Err-read_asks_file.fault (only-names ask_part (AsksCsv ∷ []) _ _ _ c.in-Err-read_asks_file.fault c.in-Err-read_asks_file.ensures.cause) c.in-Ok.ensures.ok
    (told-back (λ (files : Files). RefusesAs ask_part (asks_in c.in-Ok.input.problem) files c.in-Err-read_asks_file.fault) _ _ c.read_problem.ensures.kept c.in-Err-read_asks_file.ensures.err)

pub returns-in-Err-read_asks_file-clause-cause : goal.returns-in-Err-read_asks_file-clause-cause
returns-in-Err-read_asks_file-clause-cause g c =
    fails-later ask_part (AsksCsv ∷ []) ask_names (last-name AsksCsv) (g.F.Shelf.faults c.args.shelf.now) (g.F.Shelf.faults c.read_problem.new.shelf) (g.F.Shelf.faults c.read_asks_file.new.shelf)
    (g.F.Shelf.last_failed c.read_asks_file.new.shelf) c.in-Err-read_asks_file.fault c.read_problem.ensures.later c.in-Err-read_asks_file.ensures.cause

pub returns-in-Ok-read_asks_file-clause-stays : goal.returns-in-Ok-read_asks_file-clause-stays
returns-in-Ok-read_asks_file-clause-stays g c other =
    both_stay (c.in-Ok.ensures.stays (λ h. h)) (c.in-Ok-read_asks_file.ensures.stays other)

pub returns-in-Err-read_asks_file-clause-stays : goal.returns-in-Err-read_asks_file-clause-stays
returns-in-Err-read_asks_file-clause-stays g c other =
    both_stay (c.in-Ok.ensures.stays (λ h. h)) (c.in-Err-read_asks_file.ensures.stays other)
