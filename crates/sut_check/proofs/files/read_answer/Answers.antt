use Rattle.std.proofs.Common.{◌≡◌, ◌∷◌, [], None, Ok, IfSome, arith}
use Rattle.sut_outside.specs.declared.names.FileName.TheVariants.{BalancedCsv, CertificateCsv}
use Rattle.sut_outside.specs.Files.{Files}
use Rattle.sut_outside.proofs.NoneFailed.{both_stay}
use Rattle.sut_input.proofs.StepLemmas.{kept-twice, told-back}
use Rattle.sut_cert.specs.declared.answers.Answer.{Answer}
use Rattle.sut_check.specs.declared.faults.CheckFault.{CheckFault}
use Rattle.sut_check.specs.CheckWords.{answer_names}
use Rattle.sut_check.specs.Claims.{FailsIn, Refuses, answer_by, answer_in}
use Rattle.sut_check.proofs.CheckSteps.{err-as, fails-later, ok-as}
use Rattle.sut_check.proofs.ReadAnswers.{answer-given, answer-refused, answer-refused-next, certificate-named, table-named}
use Rattle.sut_check.proofs.ReadClaims.{only-names}
use Rattle.sut_check.proofs.files.read_answer.Goals as goal

pub returns-in-Ok-clause-kept : goal.returns-in-Ok-clause-kept
returns-in-Ok-clause-kept g c = kept-twice _ _ _ c.read_certificate_file.ensures.kept c.by_certificate.ensures.kept

pub returns-in-Ok-clause-ok : goal.returns-in-Ok-clause-ok
returns-in-Ok-clause-ok g c =
    let held = g.F.Shelf.files c.args.shelf.now in
    let next = g.F.Shelf.files c.read_certificate_file.new.shelf in
    ok-as c.by_certificate.result (λ (a : Answer). IfSome next (λ (files : Files). answer_by c.args.p.now c.in-Ok.certificate None files ≡ Ok a)) (λ (a : Answer). IfSome held (λ (files : Files). answer_in c.args.p.now None files ≡ Ok a))
    (λ a h. answer-given c.args.p.now held c.in-Ok.certificate a c.in-Ok.ensures.ok (told-back (λ (files : Files). answer_by c.args.p.now c.in-Ok.certificate None files ≡ Ok a) _ _ c.read_certificate_file.ensures.kept h))
    c.by_certificate.ensures.ok

pub returns-in-Ok-clause-err : goal.returns-in-Ok-clause-err
returns-in-Ok-clause-err g c =
    let held = g.F.Shelf.files c.args.shelf.now in
    let next = g.F.Shelf.files c.read_certificate_file.new.shelf in
    err-as c.by_certificate.result (λ (f : CheckFault). IfSome next (λ (files : Files). Refuses (answer_by c.args.p.now c.in-Ok.certificate) files f))
    (FailsIn (BalancedCsv ∷ []) (g.F.Shelf.faults c.read_certificate_file.new.shelf) (g.F.Shelf.faults c.by_certificate.new.shelf) (g.F.Shelf.last_failed c.by_certificate.new.shelf))
    (λ (f : CheckFault). IfSome held (λ (files : Files). Refuses (answer_in c.args.p.now) files f))
    (λ f h cause. answer-refused-next c.args.p.now held c.in-Ok.certificate f (only-names (BalancedCsv ∷ []) _ _ _ f cause) c.in-Ok.ensures.ok
    (told-back (λ (files : Files). Refuses (answer_by c.args.p.now c.in-Ok.certificate) files f) _ _ c.read_certificate_file.ensures.kept h))
    c.by_certificate.ensures.err c.by_certificate.ensures.cause

pub returns-in-Ok-clause-cause : goal.returns-in-Ok-clause-cause
returns-in-Ok-clause-cause g c =
    err-as c.by_certificate.result (FailsIn (BalancedCsv ∷ []) (g.F.Shelf.faults c.read_certificate_file.new.shelf) (g.F.Shelf.faults c.by_certificate.new.shelf) (g.F.Shelf.last_failed c.by_certificate.new.shelf))
    (FailsIn (BalancedCsv ∷ []) (g.F.Shelf.faults c.read_certificate_file.new.shelf) (g.F.Shelf.faults c.by_certificate.new.shelf) (g.F.Shelf.last_failed c.by_certificate.new.shelf))
    (FailsIn answer_names (g.F.Shelf.faults c.args.shelf.now) (g.F.Shelf.faults c.by_certificate.new.shelf) (g.F.Shelf.last_failed c.by_certificate.new.shelf))
    (λ f cause same. fails-later (BalancedCsv ∷ []) answer_names table-named _ _ _ _ f c.read_certificate_file.ensures.later cause)
    c.by_certificate.ensures.cause c.by_certificate.ensures.cause

pub returns-in-Ok-clause-stays : goal.returns-in-Ok-clause-stays
returns-in-Ok-clause-stays g c other = both_stay (c.in-Ok.ensures.stays (λ h. h)) (c.by_certificate.ensures.stays other)

pub returns-in-Err-clause-err : goal.returns-in-Err-clause-err
returns-in-Err-clause-err g c = answer-refused c.args.p.now (g.F.Shelf.files c.args.shelf.now) c.in-Err.fault c.in-Err.ensures.err

pub returns-in-Err-clause-cause : goal.returns-in-Err-clause-cause
returns-in-Err-clause-cause g c =
    fails-later (CertificateCsv ∷ []) answer_names certificate-named (g.F.Shelf.faults c.args.shelf.now) (g.F.Shelf.faults c.args.shelf.now) (g.F.Shelf.faults c.read_certificate_file.new.shelf)
    (g.F.Shelf.last_failed c.read_certificate_file.new.shelf) c.in-Err.fault (omega arith) c.in-Err.ensures.cause
