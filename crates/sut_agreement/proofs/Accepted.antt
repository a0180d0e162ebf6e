-- The claim that a run's files spell, and the verdict on it.
use Rattle.std.proofs.Common.{◌≡◌, ◌≤◌, ◌∙◌, ◌⊎◌, ℕ, ℤ, List, Option, Some, None, Result, Ok, Err, ap, sym, refl, subst, length}
use Rattle.std.specs.Prelude.{IfOk, IsOkAnd, IsSomeAnd, if◌then◌else◌, nat_le}
use Rattle.std.proofs.lemmas.Bool.{le-leb}
use Rattle.sut_text.specs.Text.{printed_text}
use Rattle.sut_outside.specs.declared.names.FileName.{FileName}
use Rattle.sut_outside.specs.declared.names.FileName.TheVariants.{BalancedCsv, CertificateCsv}
use Rattle.sut_outside.specs.declared.shelf.TheConstants.{FILE_LIMIT}
use Rattle.sut_outside.specs.Entry.{bytes_or}
use Rattle.sut_outside.specs.Files.{Files}
use Rattle.sut_records.specs.FirstFault.{and_then, fault_as}
use Rattle.sut_settings.specs.SettingsFacts.{SettingsFacts}
use Rattle.sut_measures.specs.declared.accounts.Account.{Account}
use Rattle.sut_tables.specs.ProblemFacts.{ProblemFacts}
use Rattle.sut_tables.specs.TableFacts.{TableFacts}
use Rattle.sut_tables.specs.Breaks.{first_of}
use Rattle.sut_cert.specs.Certificates.{Contradicts, ShowsLeast, entering, leaving}
use Rattle.sut_cert.specs.CertificateFile.{certificate_of}
use Rattle.sut_cert.specs.declared.answers.Answer.{Answer}
use Rattle.sut_cert.specs.declared.answers.Answer.TheVariants as answer
use Rattle.sut_cert.specs.declared.certificates.Certificate.{Certificate}
use Rattle.sut_cert.specs.declared.certificates.Certificate.TheVariants as certificate
use Rattle.sut_readback.specs.BalancedFile.{balanced_of}
use Rattle.sut_input.specs.Inputs.{problem_in}
use Rattle.sut_input.specs.declared.faults.InputFault.{InputFault}
use Rattle.sut_input.specs.declared.faults.InputFault.TheVariants as input
use Rattle.sut_verify.specs.Verdicts.{refused_or}
use Rattle.sut_verify.specs.declared.verdicts.Verdict.{Verdict}
use Rattle.sut_verify.specs.declared.verdicts.Verdict.TheVariants as verdict
use Rattle.sut_verify.proofs.Shown.{shown-no-reasons, verdict_on_cut-contradicts}
use Rattle.sut_run.specs.Headlines.{Spells}
use Rattle.sut_check.specs.Claims.{answer_by, answer_in, certificate_in, claim_in, table_in}
use Rattle.sut_check.specs.Claims as claims
use Rattle.sut_check.specs.Findings.{check_text, least_words, no_table_words, verdict_of}
use Rattle.sut_check.specs.Statuses.{status_for}
use Rattle.sut_check.specs.CheckEnds.{AreLines}
use Rattle.sut_check.specs.declared.faults.CheckFault.{CheckFault}
use Rattle.sut_check.specs.declared.faults.CheckFault.TheVariants.{Input, BadCertificate, BadTable}
use Rattle.sut_check.specs.declared.statuses.CheckStatus.{CheckStatus}
use Rattle.sut_check.specs.declared.statuses.CheckStatus.TheVariants as status
use Rattle.sut_check.proofs.ReadClaims.{claim-given}
use Rattle.sut_agreement.specs.Agreement.{Accepts, MayEnd}

-- ---- what the files spell

-- a text that is there and is short enough is read
there : {A F : Type 0} (missing too_long : InputFault) (held : Option (List ℕ)) (read : List ℕ → Result A F) (bad : F → CheckFault) (value : A)
    → IsSomeAnd held (λ bytes. (length bytes ≤ FILE_LIMIT) × (read bytes ≡ Ok value))
    → and_then (fault_as Input (bytes_or missing too_long held)) (λ bytes. fault_as bad (read bytes)) ≡ Ok value
there missing too_long None read bad value h = absurd h
there missing too_long (Some bytes) read bad value h =
    ap (λ b. and_then (fault_as Input (if b then Ok bytes else Err too_long)) (λ text. fault_as bad (read text))) (le-leb (length bytes) FILE_LIMIT h.0) ∙ ap (fault_as bad) h.1

certificate-there : (p : ProblemFacts) (files : Files) (c : Certificate) → Spells files CertificateCsv (certificate_of p) c → certificate_in p None files ≡ Ok c
unfolding certificate_in
certificate-there p files c h = there (input.Missing CertificateCsv) (input.TooLong CertificateCsv) (files CertificateCsv) (certificate_of p) BadCertificate c h

table-there : (p : ProblemFacts) (files : Files) (t : TableFacts) → Spells files BalancedCsv (balanced_of p) t → table_in p None files ≡ Ok t
unfolding table_in
table-there p files t h = there (input.Missing BalancedCsv) (input.TooLong BalancedCsv) (files BalancedCsv) (balanced_of p) BadTable t h

answer-there : (p : ProblemFacts) (files : Files) (c : Certificate) (a : Answer) → certificate_in p None files ≡ Ok c → answer_by p c None files ≡ Ok a → answer_in p None files ≡ Ok a
unfolding answer_in
answer-there p files c a e h = ap (λ r. and_then r (λ c. answer_by p c None files)) e ∙ h

-- ---- the verdict

least-verdict : (p : ProblemFacts) (t : TableFacts) (ps : List (Account × ℤ)) → ShowsLeast p t ps → verdict_of p (answer.Balanced t ps) ≡ verdict.Least
unfolding verdict_of
least-verdict p t ps shown = ap (λ rs. refused_or verdict.Least (first_of rs)) (shown-no-reasons p t ps shown)

cut-verdict : (p : ProblemFacts) (set : List Account) → Contradicts p set → verdict_of p (answer.Infeasible set) ≡ verdict.NoTable (entering p set) (leaving p set)
unfolding verdict_of
cut-verdict p set h = (verdict_on_cut-contradicts p set).1 h

least-text : (p : ProblemFacts) (t : TableFacts) (ps : List (Account × ℤ)) → check_text p (answer.Balanced t ps) ≡ printed_text (least_words p t)
unfolding check_text
least-text p t ps = refl

cut-text : (p : ProblemFacts) (set : List Account) → check_text p (answer.Infeasible set) ≡ printed_text (no_table_words (entering p set) (leaving p set))
unfolding check_text
cut-text p set = refl

-- ---- a claim that is read, with its verdict, is accepted

accepted : (source : FileName) (files : Files) (p : ProblemFacts) (a : Answer) (v : Verdict) (lines : List (List (List ℕ)))
    → claim_in source None files ≡ Ok (p, a) → verdict_of p a ≡ v → check_text p a ≡ printed_text lines → Accepts source files (status_for v) lines
accepted source files p a v lines claim is text = record {
  ends = λ s h. subst (λ w. (s ≡ status.NoMemory) ⊎ (s ≡ status_for w)) is (subst (λ r. IfOk r (λ claim. (s ≡ status.NoMemory) ⊎ (s ≡ status_for (verdict_of claim.0 claim.1)))) claim h);
  prints = λ t h. subst (λ r. IsOkAnd r (λ claim. t ≡ check_text claim.0 claim.1)) claim h ∙ text;
}

pub least-accepted : (source : FileName) (files : Files) (s : SettingsFacts) (p : ProblemFacts) (t : TableFacts) (ps : List (Account × ℤ)) → problem_in source None files ≡ Ok (s, p)
    → Spells files BalancedCsv (balanced_of p) t → Spells files CertificateCsv (certificate_of p) (certificate.Potentials ps) → ShowsLeast p t ps → Accepts source files status.Least (least_words p t)
least-accepted source files s p t ps given table shown_by shown =
    accepted source files p (answer.Balanced t ps) verdict.Least (least_words p t)
    (claim-given source (Some files) s p (answer.Balanced t ps) given
    (answer-there p files (certificate.Potentials ps) (answer.Balanced t ps) (certificate-there p files (certificate.Potentials ps) shown_by) (ap (λ r. and_then r (λ x. Ok (answer.Balanced x ps))) (table-there p files t table))))
    (least-verdict p t ps shown) (least-text p t ps)

pub cut-accepted : (source : FileName) (files : Files) (s : SettingsFacts) (p : ProblemFacts) (set : List Account) → problem_in source None files ≡ Ok (s, p)
    → Spells files CertificateCsv (certificate_of p) (certificate.Cut set) → Contradicts p set → Accepts source files status.NoTable (no_table_words (entering p set) (leaving p set))
cut-accepted source files s p set given spelled contradicts =
    accepted source files p (answer.Infeasible set) (verdict.NoTable (entering p set) (leaving p set)) (no_table_words (entering p set) (leaving p set))
    (claim-given source (Some files) s p (answer.Infeasible set) given
    (answer-there p files (certificate.Cut set) (answer.Infeasible set) (certificate-there p files (certificate.Cut set) spelled) refl))
    (cut-verdict p set contradicts) (cut-text p set)
