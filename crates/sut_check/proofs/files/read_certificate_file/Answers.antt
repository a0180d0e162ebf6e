use Rattle.std.proofs.Common.{◌∙◌, ◌∷◌, [], ap, subst, sym}
use Rattle.std.specs.Prelude.{IfSome}
use Rattle.sut_outside.specs.declared.names.FileName.TheVariants.{CertificateCsv}
use Rattle.sut_outside.specs.Files.{Files}
use Rattle.sut_cert.specs.CertificateFile.{certificate_of}
use Rattle.sut_check.specs.declared.faults.CheckFault.{CheckFault}
use Rattle.sut_check.specs.Claims.{FailsIn, Refuses, certificate_in}
use Rattle.sut_check.proofs.CheckSteps.{fails-by}
use Rattle.sut_check.proofs.ReadAnswers.{certificate-no-read, certificate-not-read, certificate-read, certificate-refused}
use Rattle.sut_check.proofs.files.read_certificate_file.Goals as goal

pub returns-in-Err-clause-err : goal.returns-in-Err-clause-err
returns-in-Err-clause-err g c = certificate-not-read c.args.p.now (g.F.Shelf.files c.args.shelf.now) c.in-Err.fault c.in-Err.ensures.err

pub returns-in-Err-clause-cause : goal.returns-in-Err-clause-cause
returns-in-Err-clause-cause g c = fails-by CertificateCsv _ _ _ c.in-Err.fault c.in-Err.ensures.cause

pub returns-in-Ok-read_certificate-clause-ok : goal.returns-in-Ok-read_certificate-clause-ok
returns-in-Ok-read_certificate-clause-ok g c =
    certificate-read c.args.p.now (g.F.Shelf.files c.args.shelf.now) c.in-Ok.bytes.items c.in-Ok-read_certificate.certificate c.in-Ok.ensures.ok (c.in-Ok-read_certificate.ensures.value tt ∙ ap (certificate_of c.args.p.now) c.deref.ensures.value)

pub returns-clause-err : goal.returns-clause-err
returns-clause-err g c =
    let P : CheckFault → Type 0 = λ f. IfSome (g.F.Shelf.files c.args.shelf.now) (λ (files : Files). Refuses (certificate_in c.args.p.now) files f) in
    subst P (sym c.certificate_fault.ensures)
    (certificate-refused c.args.p.now (g.F.Shelf.files c.args.shelf.now) c.in-Ok.bytes.items c.in-Err-read_certificate.fault c.in-Ok.ensures.ok (λ lack. c.in-Err-read_certificate.ensures.value lack ∙ ap (certificate_of c.args.p.now) c.deref.ensures.value))

pub returns-clause-cause : goal.returns-clause-cause
returns-clause-cause g c =
    let P : CheckFault → Type 0 = λ f. FailsIn (CertificateCsv ∷ []) (g.F.Shelf.faults c.args.shelf.now) (g.F.Shelf.faults c.read_file.new.shelf) (g.F.Shelf.last_failed c.read_file.new.shelf) f in
    subst P (sym c.certificate_fault.ensures) (certificate-no-read _ c.in-Err-read_certificate.fault)
