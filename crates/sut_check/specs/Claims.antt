-- What the files of a check spell: a problem, and the answer that is claimed for it. Or the first refusal in the order of
-- reading, where this one read fails.
use Rattle.std.specs.Prelude.{◌≡◌, ℕ, List, Option, Some, None, Result, Ok, Err, ⊤, Contains}
use Rattle.sut_outside.specs.declared.names.FileName.{FileName}
use Rattle.sut_outside.specs.declared.names.FileName.TheVariants.{BalancedCsv, CertificateCsv}
use Rattle.sut_outside.specs.Files.{Files}
use Rattle.sut_outside.specs.Causes.{Rose}
use Rattle.sut_records.specs.FirstFault.{and_then, fault_as}
use Rattle.sut_settings.specs.SettingsFacts.{SettingsFacts}
use Rattle.sut_tables.specs.ProblemFacts.{ProblemFacts}
use Rattle.sut_tables.specs.TableFacts.{TableFacts}
use Rattle.sut_cert.specs.CertificateFile.{certificate_of}
use Rattle.sut_cert.specs.declared.answers.Answer.{Answer}
use Rattle.sut_cert.specs.declared.answers.Answer.TheVariants as answer
use Rattle.sut_cert.specs.declared.certificates.Certificate.{Certificate}
use Rattle.sut_cert.specs.declared.certificates.Certificate.TheVariants as certificate
use Rattle.sut_readback.specs.BalancedFile.{balanced_of}
use Rattle.sut_input.specs.Inputs.{problem_in, read_bytes}
use Rattle.sut_input.specs.Reads as reads
use Rattle.sut_input.specs.declared.faults.InputFault.TheVariants as input
use Rattle.sut_check.specs.declared.faults.CheckFault.{CheckFault}
use Rattle.sut_check.specs.declared.faults.CheckFault.TheVariants.{Input, BadCertificate, BadTable}

-- a step of reading: a function of the name of the read that fails, if one does, and of the files
abbrev pub CheckStep : Type 0 → Type 0
CheckStep A = Option FileName → Files → Result A CheckFault

-- a file, read and parsed
abbrev pub parsed : {A F : Type 0} → FileName → (List ℕ → Result A F) → (F → CheckFault) → CheckStep A
parsed name read bad failed files = and_then (fault_as Input (read_bytes failed files name)) (λ bytes. fault_as bad (read bytes))

unfoldable pub certificate_in : ProblemFacts → CheckStep Certificate
certificate_in p = parsed CertificateCsv (certificate_of p) BadCertificate

unfoldable pub table_in : ProblemFacts → CheckStep TableFacts
table_in p = parsed BalancedCsv (balanced_of p) BadTable

-- the table is read only where the certificate holds potentials
abbrev pub answer_by : ProblemFacts → Certificate → CheckStep Answer
answer_by p (certificate.Potentials ps) failed files = and_then (table_in p failed files) (λ t. Ok (answer.Balanced t ps))
answer_by p (certificate.Cut set) failed files = Ok (answer.Infeasible set)

-- the answer that is claimed for a problem
unfoldable pub answer_in : ProblemFacts → CheckStep Answer
answer_in p failed files = and_then (certificate_in p failed files) (λ c. answer_by p c failed files)

-- settings, classes and source
unfoldable pub given_in : FileName → CheckStep (SettingsFacts × ProblemFacts)
given_in source failed files = fault_as Input (problem_in source failed files)

-- the problem of the source that stands under this name, and the answer that is claimed for it
unfoldable pub claim_in : FileName → CheckStep (ProblemFacts × Answer)
claim_in source failed files =
    and_then (given_in source failed files) (λ given. and_then (answer_in given.1 failed files) (λ a. Ok (given.1, a)))

-- ---- what the steps of reading answer

-- the name of the read that failed, if one did
abbrev pub failed_read : CheckFault → Option FileName
failed_read (Input (input.ReadFault name)) = Some name
failed_read _ = None

-- a fact on any refusal but want of memory
abbrev pub UnlessNoMemory : CheckFault → Type 0 → Type 0
UnlessNoMemory (Input input.NoMemory) P = ⊤
UnlessNoMemory _ P = P

-- What a refusal says of the files: want of memory nothing; a failed read that nothing is refused before it; any other that
-- it is the first refusal.
abbrev pub Refuses : {A : Type 0} → CheckStep A → Files → CheckFault → Type 0
Refuses step files fault = UnlessNoMemory fault (step (failed_read fault) files ≡ Err fault)

-- a fact on a failed read's name
abbrev pub IfReadFailed : CheckFault → (FileName → Type 0) → Type 0
IfReadFailed (Input (input.ReadFault name)) P = P name
IfReadFailed _ P = ⊤

-- a failed read is answered only where the count rose, for one of these names, which is then that of the last failed call
abbrev pub FailsIn : List FileName → ℕ → ℕ → Option FileName → CheckFault → Type 0
FailsIn names before now last fault = IfReadFailed fault (λ failed. Rose before now × (last ≡ Some failed) × Contains names failed)

-- a failed read is answered
abbrev pub IsReadFault : CheckFault → Type 0
IsReadFault (Input fault) = reads.IsReadFault fault
IsReadFault _ = ⊥
