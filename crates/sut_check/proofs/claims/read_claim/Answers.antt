use Rattle.std.proofs.Common.{◌≡◌, None, Ok}
use Rattle.sut_outside.specs.Files.{Files}
use Rattle.sut_outside.proofs.NoneFailed.{both_stay}
use Rattle.sut_input.proofs.StepLemmas.{kept-twice, told-back}
use Rattle.sut_check.specs.CheckWords.{answer_names, checked_names}
use Rattle.sut_check.specs.Claims.{Refuses, answer_in}
use Rattle.sut_check.proofs.CheckSteps.{fails-later}
use Rattle.sut_check.proofs.ReadClaims.{claim-given, claim-not-given, claim-refused, fails-first, last-names, only-names, source-apart}
use Rattle.sut_check.proofs.claims.read_claim.Goals as goal

pub read_problem-requires : goal.read_problem-requires
read_problem-requires g c = source-apart c.args.source c.requires

pub returns-in-Err-clause-err : goal.returns-in-Err-clause-err
returns-in-Err-clause-err g c = claim-not-given c.args.source (g.F.Shelf.files c.args.shelf.now) c.in-Err.fault c.in-Err.ensures.err

pub returns-in-Err-clause-cause : goal.returns-in-Err-clause-cause
returns-in-Err-clause-cause g c = fails-first c.args.source _ _ _ c.in-Err.fault c.in-Err.ensures.cause

pub returns-in-Ok-read_answer-clause-kept : goal.returns-in-Ok-read_answer-clause-kept
returns-in-Ok-read_answer-clause-kept g c = kept-twice _ _ _ c.read_problem.ensures.kept c.read_answer.ensures.kept

pub returns-in-Ok-read_answer-clause-ok : goal.returns-in-Ok-read_answer-clause-ok
returns-in-Ok-read_answer-clause-ok g c =
    claim-given c.args.source (g.F.Shelf.files c.args.shelf.now) c.in-Ok.input.settings c.in-Ok.input.problem c.in-Ok-read_answer.answer c.in-Ok.ensures.ok
    (told-back (λ (files : Files). answer_in c.in-Ok.input.problem None files ≡ Ok c.in-Ok-read_answer.answer) _ _ c.read_problem.ensures.kept c.in-Ok-read_answer.ensures.ok)

pub returns-in-Err-read_answer-clause-kept : goal.returns-in-Err-read_answer-clause-kept
returns-in-Err-read_answer-clause-kept g c = kept-twice _ _ _ c.read_problem.ensures.kept c.read_answer.ensures.kept

pub returns-in-Err-read_answer-clause-err : goal.returns-in-Err-read_answer-clause-err
returns-in-Err-read_answer-clause-err g c =
    claim-refused c.args.source c.requires (g.F.Shelf.files c.args.shelf.now) c.in-Ok.input.settings c.in-Ok.input.problem c.in-Err-read_answer.fault (only-names answer_names _ _ _ c.in-Err-read_answer.fault c.in-Err-read_answer.ensures.cause) c.in-Ok.ensures.ok
    (told-back (λ (files : Files). Refuses (answer_in c.in-Ok.input.problem) files c.in-Err-read_answer.fault) _ _ c.read_problem.ensures.kept c.in-Err-read_answer.ensures.err)

pub returns-in-Err-read_answer-clause-cause : goal.returns-in-Err-read_answer-clause-cause
returns-in-Err-read_answer-clause-cause g c =
    fails-later answer_names (checked_names c.args.source) (last-names c.args.source) (g.F.Shelf.faults c.args.shelf.now) (g.F.Shelf.faults c.read_problem.new.shelf) (g.F.Shelf.faults c.read_answer.new.shelf)
    (g.F.Shelf.last_failed c.read_answer.new.shelf) c.in-Err-read_answer.fault c.read_problem.ensures.later c.in-Err-read_answer.ensures.cause

pub returns-in-Ok-read_answer-clause-stays : goal.returns-in-Ok-read_answer-clause-stays
returns-in-Ok-read_answer-clause-stays g c other =
    both_stay (c.in-Ok.ensures.stays (λ h. h)) (c.in-Ok-read_answer.ensures.stays other)

pub returns-in-Err-read_answer-clause-stays : goal.returns-in-Err-read_answer-clause-stays
returns-in-Err-read_answer-clause-stays g c other =
    both_stay (c.in-Ok.ensures.stays (λ h. h)) (c.in-Err-read_answer.ensures.stays other)
