use Rattle.std.proofs.Common.{◌≡◌, ◌∷◌, [], None, Ok, arith, refl}
use Rattle.sut_outside.specs.declared.names.FileName.TheVariants.{SourceCsv, BalancedCsv}
use Rattle.sut_outside.specs.Files.{Files}
use Rattle.sut_outside.proofs.NoneFailed.{both_stay}
use Rattle.sut_input.specs.declared.tables.TableInputFault.TheVariants.{Input}
use Rattle.sut_input.specs.Inputs.{problem_names}
use Rattle.sut_input.specs.Following.{RefusesAs}
use Rattle.sut_input.specs.TableInputs.{table_names, table_part, table_in}
use Rattle.sut_input.proofs.StepLemmas.{kept-twice, told-back}
use Rattle.sut_input.proofs.FollowingSteps.{fails-among, fails-later, first-names, last-name, only-names}
use Rattle.sut_input.proofs.TableSteps.{after-given, after-refused, problem-refused}
use Rattle.sut_input.proofs.tables.read_table_input.Goals as goal

pub returns-in-Err-clause-err : goal.returns-in-Err-clause-err
returns-in-Err-clause-err g c = problem-refused (g.F.Shelf.files c.args.shelf.now) c.in-Err.fault c.in-Err.ensures.err

pub returns-in-Err-clause-cause : goal.returns-in-Err-clause-cause
returns-in-Err-clause-cause g c =
    let before = g.F.Shelf.faults c.args.shelf.now in
    fails-later table_part (problem_names SourceCsv) table_names (first-names BalancedCsv) before before (g.F.Shelf.faults c.read_problem.new.shelf) (g.F.Shelf.last_failed c.read_problem.new.shelf) (Input c.in-Err.fault) (omega arith)
    (fails-among table_part Input (λ e. refl) (problem_names SourceCsv) _ _ _ c.in-Err.fault c.in-Err.ensures.cause)

pub returns-in-Ok-read_table-clause-kept : goal.returns-in-Ok-read_table-clause-kept
returns-in-Ok-read_table-clause-kept g c = kept-twice _ _ _ c.read_problem.ensures.kept c.read_table.ensures.kept

pub returns-in-Ok-read_table-clause-ok : goal.returns-in-Ok-read_table-clause-ok
returns-in-Ok-read_table-clause-ok g c =
    after-given (g.F.Shelf.files c.args.shelf.now) c.in-Ok.input.settings c.in-Ok.input.problem c.in-Ok-read_table.table c.in-Ok.ensures.ok
    (told-back (λ (files : Files). table_in c.in-Ok.input.problem None files ≡ Ok c.in-Ok-read_table.table) _ _ c.read_problem.ensures.kept c.in-Ok-read_table.ensures.ok)

pub returns-in-Err-read_table-clause-kept : goal.returns-in-Err-read_table-clause-kept
returns-in-Err-read_table-clause-kept g c = kept-twice _ _ _ c.read_problem.ensures.kept c.read_table.ensures.kept

pub returns-in-Err-read_table-clause-err : goal.returns-in-Err-read_table-clause-err
returns-in-Err-read_table-clause-err g c =
    after-refused (g.F.Shelf.files c.args.shelf.now) c.in-Ok.input.settings c.in-Ok.input.problem c.in-Err-read_table.fault (only-names table_part (BalancedCsv ∷ []) _ _ _ c.in-Err-read_table.fault c.in-Err-read_table.ensures.cause) c.in-Ok.ensures.ok
    (told-back (λ (files : Files). RefusesAs table_part (table_in c.in-Ok.input.problem) files c.in-Err-read_table.fault) _ _ c.read_problem.ensures.kept c.in-Err-read_table.ensures.err)

pub returns-in-Err-read_table-clause-cause : goal.returns-in-Err-read_table-clause-cause
returns-in-Err-read_table-clause-cause g c =
    fails-later table_part (BalancedCsv ∷ []) table_names (last-name BalancedCsv) (g.F.Shelf.faults c.args.shelf.now) (g.F.Shelf.faults c.read_problem.new.shelf) (g.F.Shelf.faults c.read_table.new.shelf)
    (g.F.Shelf.last_failed c.read_table.new.shelf) c.in-Err-read_table.fault c.read_problem.ensures.later c.in-Err-read_table.ensures.cause

pub returns-in-Ok-read_table-clause-stays : goal.returns-in-Ok-read_table-clause-stays
returns-in-Ok-read_table-clause-stays g c other =
    both_stay (c.in-Ok.ensures.stays (λ h. h)) (c.in-Ok-read_table.ensures.stays other)

pub returns-in-Err-read_table-clause-stays : goal.returns-in-Err-read_table-clause-stays
returns-in-Err-read_table-clause-stays g c other =
    both_stay (c.in-Ok.ensures.stays (λ h. h)) (c.in-Err-read_table.ensures.stays other)
