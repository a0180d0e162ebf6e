-- The files of an answer, read.
use Rattle.std.proofs.Common.{◌≡◌, ◌≢◌, ◌∙◌, ℕ, ℤ, zero, suc, List, [], ◌∷◌, Option, Some, None, Ok, Err, Contains, IfSome, ap, refl, subst, arith}
use Rattle.sut_outside.specs.declared.names.FileName.{FileName}
use Rattle.sut_outside.specs.declared.names.FileName.TheVariants.{BalancedCsv, CertificateCsv}
use Rattle.sut_outside.specs.Files.{Files}
use Rattle.sut_records.specs.FirstFault.{and_then}
use Rattle.sut_tables.specs.ProblemFacts.{ProblemFacts}
use Rattle.sut_tables.specs.TableFacts.{TableFacts}
use Rattle.sut_measures.specs.declared.accounts.Account.{Account}
use Rattle.sut_cert.specs.CertificateFile.{certificate_of}
use Rattle.sut_cert.specs.declared.answers.Answer.{Answer}
use Rattle.sut_cert.specs.declared.answers.Answer.TheVariants as answer
use Rattle.sut_cert.specs.declared.certificates.Certificate.{Certificate}
use Rattle.sut_cert.specs.declared.certificates.Certificate.TheVariants as certificate
use Rattle.sut_cert.specs.declared.faults.CertCause.{CertCause}
use Rattle.sut_cert.specs.declared.faults.CertCause.TheVariants as cert
use Rattle.sut_cert.specs.declared.faults.CertFault.{CertFault}
use Rattle.sut_readback.specs.BalancedFile.{balanced_of}
use Rattle.sut_readback.specs.declared.faults.BalancedCause.{BalancedCause}
use Rattle.sut_readback.specs.declared.faults.BalancedCause.TheVariants as table
use Rattle.sut_readback.specs.declared.faults.BalancedFault.{BalancedFault}
use Rattle.sut_input.specs.declared.faults.InputFault.{InputFault}
use Rattle.sut_input.specs.declared.faults.InputFault.TheVariants as input
use Rattle.sut_input.specs.Reads.{GivesOk}
use Rattle.sut_input.specs.Reads as reads
use Rattle.sut_input.specs.Inputs.{read_bytes}
use Rattle.sut_check.specs.declared.faults.CheckFault.{CheckFault}
use Rattle.sut_check.specs.declared.faults.CheckFault.TheVariants.{Input, BadCertificate, BadTable}
use Rattle.sut_check.specs.Statuses.{certificate_fault, certificate_unless_no_memory, table_fault, table_unless_no_memory}
use Rattle.sut_check.specs.CheckWords.{answer_names}
use Rattle.sut_check.specs.Claims.{IfReadFailed, Refuses, answer_by, answer_in, certificate_in, table_in}
use Rattle.sut_check.proofs.CheckSteps.{first-refused, given-still, if-both, if-told, next-refused, not-read, was-read}

-- ---- the certificate

certificate-cause : (P : CheckFault → Type 0) (cause : CertCause) (e : CertFault) → P (Input input.NoMemory) → (cause ≢ cert.NoMemory → P (BadCertificate e)) → P (certificate_unless_no_memory cause e)
certificate-cause P cert.NoMemory e none some = none
certificate-cause P cert.Csv e none some = some (λ x. cc)
certificate-cause P cert.Header e none some = some (λ x. cc)
certificate-cause P (cert.BadName f) e none some = some (λ x. cc)
certificate-cause P cert.WrongAccount e none some = some (λ x. cc)
certificate-cause P cert.NotNumber e none some = some (λ x. cc)
certificate-cause P cert.OutOfRange e none some = some (λ x. cc)
certificate-cause P cert.Short e none some = some (λ x. cc)

module _ (p : ProblemFacts) where
  certificate-absent : (files : Files) (fault : InputFault) → reads.Refuses (λ failed held. read_bytes failed held CertificateCsv) files fault → Refuses (certificate_in p) files (Input fault)
  unfolding certificate_in
  certificate-absent files fault h = not-read CertificateCsv (certificate_of p) BadCertificate files fault h

  certificate-there : (files : Files) (bytes : List ℕ) (c : Certificate) → Ok c ≡ certificate_of p bytes → GivesOk (λ failed held. read_bytes failed held CertificateCsv) files bytes → certificate_in p None files ≡ Ok c
  unfolding certificate_in
  certificate-there files bytes c e h = was-read CertificateCsv (certificate_of p) BadCertificate files bytes (Ok c) h e

  certificate-bad : (files : Files) (bytes : List ℕ) (e : CertFault) → Err e ≡ certificate_of p bytes → GivesOk (λ failed held. read_bytes failed held CertificateCsv) files bytes → certificate_in p None files ≡ Err (BadCertificate e)
  unfolding certificate_in
  certificate-bad files bytes e r h = was-read CertificateCsv (certificate_of p) BadCertificate files bytes (Err e) h r

  pub certificate-not-read : (held : Option Files) (fault : InputFault) → IfSome held (λ files. reads.Refuses (λ failed told. read_bytes failed told CertificateCsv) files fault) → IfSome held (λ files. Refuses (certificate_in p) files (Input fault))
  certificate-not-read None fault h = tt
  certificate-not-read (Some files) fault h = certificate-absent files fault h

  pub certificate-read : (held : Option Files) (bytes : List ℕ) (c : Certificate) → IfSome held (λ files. GivesOk (λ failed told. read_bytes failed told CertificateCsv) files bytes) → Ok c ≡ certificate_of p bytes
      → IfSome held (λ files. certificate_in p None files ≡ Ok c)
  certificate-read None bytes c h e = tt
  certificate-read (Some files) bytes c h e = certificate-there files bytes c e h

  pub certificate-refused : (held : Option Files) (bytes : List ℕ) (e : CertFault) → IfSome held (λ files. GivesOk (λ failed told. read_bytes failed told CertificateCsv) files bytes) → (e.cause ≢ cert.NoMemory → Err e ≡ certificate_of p bytes)
      → IfSome held (λ files. Refuses (certificate_in p) files (certificate_fault e))
  certificate-refused None bytes e h r = tt
  certificate-refused (Some files) bytes e h r = certificate-cause (Refuses (certificate_in p) files) e.cause e tt (λ other. certificate-bad files bytes e (r other) h)

-- its faults are no failed reads
pub certificate-no-read : (P : FileName → Type 0) (e : CertFault) → IfReadFailed (certificate_fault e) P
certificate-no-read P e = certificate-cause (λ f. IfReadFailed f P) e.cause e tt (λ other. tt)

-- ---- the table

table-cause : (P : CheckFault → Type 0) (cause : BalancedCause) (e : BalancedFault) → P (Input input.NoMemory) → (cause ≢ table.NoMemory → P (BadTable e)) → P (table_unless_no_memory cause e)
table-cause P table.NoMemory e none some = none
table-cause P table.Csv e none some = some (λ x. cc)
table-cause P table.Header e none some = some (λ x. cc)
table-cause P table.WrongMeasure e none some = some (λ x. cc)
table-cause P table.WrongTarget e none some = some (λ x. cc)
table-cause P table.NotNumber e none some = some (λ x. cc)
table-cause P table.OutOfRange e none some = some (λ x. cc)
table-cause P (table.WrongTotal printed sum) e none some = some (λ x. cc)
table-cause P table.Short e none some = some (λ x. cc)

module _ (p : ProblemFacts) where
  table-absent : (files : Files) (fault : InputFault) → reads.Refuses (λ failed held. read_bytes failed held BalancedCsv) files fault → Refuses (table_in p) files (Input fault)
  unfolding table_in
  table-absent files fault h = not-read BalancedCsv (balanced_of p) BadTable files fault h

  table-there : (files : Files) (bytes : List ℕ) (t : TableFacts) → Ok t ≡ balanced_of p bytes → GivesOk (λ failed held. read_bytes failed held BalancedCsv) files bytes → table_in p None files ≡ Ok t
  unfolding table_in
  table-there files bytes t e h = was-read BalancedCsv (balanced_of p) BadTable files bytes (Ok t) h e

  table-bad : (files : Files) (bytes : List ℕ) (e : BalancedFault) → Err e ≡ balanced_of p bytes → GivesOk (λ failed held. read_bytes failed held BalancedCsv) files bytes → table_in p None files ≡ Err (BadTable e)
  unfolding table_in
  table-bad files bytes e r h = was-read BalancedCsv (balanced_of p) BadTable files bytes (Err e) h r

  pub table-not-read : (held : Option Files) (fault : InputFault) → IfSome held (λ files. reads.Refuses (λ failed told. read_bytes failed told BalancedCsv) files fault) → IfSome held (λ files. Refuses (table_in p) files (Input fault))
  table-not-read None fault h = tt
  table-not-read (Some files) fault h = table-absent files fault h

  pub table-read : (held : Option Files) (bytes : List ℕ) (t : TableFacts) → IfSome held (λ files. GivesOk (λ failed told. read_bytes failed told BalancedCsv) files bytes) → Ok t ≡ balanced_of p bytes → IfSome held (λ files. table_in p None files ≡ Ok t)
  table-read None bytes t h e = tt
  table-read (Some files) bytes t h e = table-there files bytes t e h

  pub table-refused : (held : Option Files) (bytes : List ℕ) (e : BalancedFault) → IfSome held (λ files. GivesOk (λ failed told. read_bytes failed told BalancedCsv) files bytes) → (e.cause ≢ table.NoMemory → Err e ≡ balanced_of p bytes)
      → IfSome held (λ files. Refuses (table_in p) files (table_fault e))
  table-refused None bytes e h r = tt
  table-refused (Some files) bytes e h r = table-cause (Refuses (table_in p) files) e.cause e tt (λ other. table-bad files bytes e (r other) h)

pub table-no-read : (P : FileName → Type 0) (e : BalancedFault) → IfReadFailed (table_fault e) P
table-no-read P e = table-cause (λ f. IfReadFailed f P) e.cause e tt (λ other. tt)

-- ---- both

-- the read of the table that fails leaves the certificate as it is
certificate-still : (p : ProblemFacts) (files : Files) (name : FileName) → Contains (BalancedCsv ∷ []) name → certificate_in p (Some name) files ≡ certificate_in p None files
unfolding certificate_in
certificate-still p files name (zero, below, is) = subst (λ n. certificate_in p (Some n) files ≡ certificate_in p None files) is refl
certificate-still p files name (suc k, below, is) = absurd (omega arith)

module _ (p : ProblemFacts) where
  table-given : (files : Files) (t : TableFacts) (ps : List (Account × ℤ)) → table_in p None files ≡ Ok t → answer_by p (certificate.Potentials ps) None files ≡ Ok (answer.Balanced t ps)
  table-given files t ps e = ap (λ r. and_then r (λ t. Ok (answer.Balanced t ps))) e

  pub with-table : (held : Option Files) (t : TableFacts) (ps : List (Account × ℤ)) → IfSome held (λ files. table_in p None files ≡ Ok t) → IfSome held (λ files. answer_by p (certificate.Potentials ps) None files ≡ Ok (answer.Balanced t ps))
  with-table held t ps h = if-told (λ files. table_in p None files ≡ Ok t) (λ files. answer_by p (certificate.Potentials ps) None files ≡ Ok (answer.Balanced t ps)) (λ files e. table-given files t ps e) held h

  pub without-table : (held : Option Files) (ps : List (Account × ℤ)) (fault : CheckFault) → IfSome held (λ files. Refuses (table_in p) files fault) → IfSome held (λ files. Refuses (answer_by p (certificate.Potentials ps)) files fault)
  without-table held ps fault h =
      if-told (λ files. Refuses (table_in p) files fault) (λ files. Refuses (answer_by p (certificate.Potentials ps)) files fault)
      (λ files r. first-refused (table_in p) (λ t failed told. Ok (answer.Balanced t ps)) files fault r) held h

  -- a cut needs no table
  pub cut-there : (held : Option Files) (c : Certificate) (set : List Account) → c ≡ certificate.Cut set → IfSome held (λ files. answer_by p c None files ≡ Ok (answer.Infeasible set))
  cut-there None c set e = tt
  cut-there (Some files) c set e = ap (λ c. answer_by p c None files) e

  given : (files : Files) (c : Certificate) (a : Answer) → certificate_in p None files ≡ Ok c → answer_by p c None files ≡ Ok a → answer_in p None files ≡ Ok a
  unfolding answer_in
  given files c a e h = ap (λ r. and_then r (λ c. answer_by p c None files)) e ∙ h

  refused-first : (files : Files) (fault : CheckFault) → Refuses (certificate_in p) files fault → Refuses (answer_in p) files fault
  unfolding answer_in
  refused-first files fault h = first-refused (certificate_in p) (answer_by p) files fault h

  refused-next : (files : Files) (c : Certificate) (fault : CheckFault) → IfReadFailed fault (Contains (BalancedCsv ∷ [])) → certificate_in p None files ≡ Ok c → Refuses (answer_by p c) files fault → Refuses (answer_in p) files fault
  unfolding answer_in
  refused-next files c fault only e h =
      next-refused (certificate_in p) (answer_by p) c files fault (given-still (certificate_in p) files c (Contains (BalancedCsv ∷ [])) (certificate-still p files) fault only e) h

  pub answer-given : (held : Option Files) (c : Certificate) (a : Answer) → IfSome held (λ files. certificate_in p None files ≡ Ok c) → IfSome held (λ files. answer_by p c None files ≡ Ok a) → IfSome held (λ files. answer_in p None files ≡ Ok a)
  answer-given held c a e h = if-both (λ files. certificate_in p None files ≡ Ok c) (λ files. answer_by p c None files ≡ Ok a) (λ files. answer_in p None files ≡ Ok a) (λ files e h. given files c a e h) held e h

  pub answer-refused : (held : Option Files) (fault : CheckFault) → IfSome held (λ files. Refuses (certificate_in p) files fault) → IfSome held (λ files. Refuses (answer_in p) files fault)
  answer-refused held fault h = if-told (λ files. Refuses (certificate_in p) files fault) (λ files. Refuses (answer_in p) files fault) (λ files r. refused-first files fault r) held h

  pub answer-refused-next : (held : Option Files) (c : Certificate) (fault : CheckFault) → IfReadFailed fault (Contains (BalancedCsv ∷ [])) → IfSome held (λ files. certificate_in p None files ≡ Ok c)
      → IfSome held (λ files. Refuses (answer_by p c) files fault) → IfSome held (λ files. Refuses (answer_in p) files fault)
  answer-refused-next held c fault only e h =
      if-both (λ files. certificate_in p None files ≡ Ok c) (λ files. Refuses (answer_by p c) files fault) (λ files. Refuses (answer_in p) files fault) (λ files e r. refused-next files c fault only e r) held e h

-- the names of the files of an answer
pub certificate-named : (name : FileName) → Contains (CertificateCsv ∷ []) name → Contains answer_names name
certificate-named name (zero, below, is) = (0, omega arith, is)
certificate-named name (suc k, below, is) = absurd (omega arith)

pub table-named : (name : FileName) → Contains (BalancedCsv ∷ []) name → Contains answer_names name
table-named name (zero, below, is) = (1, omega arith, is)
table-named name (suc k, below, is) = absurd (omega arith)
