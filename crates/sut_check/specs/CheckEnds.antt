-- What each answer of a check says of the files at entry, and what it has printed.
use Rattle.std.specs.Prelude.{◌≡◌, ◌⊎◌, ℕ, List, ◌++◌, None, Some, Err, IsOkAnd, ⊤}
use Rattle.sut_outside.specs.declared.names.FileName.{FileName}
use Rattle.sut_outside.specs.Files.{Files}
use Rattle.sut_outside.specs.Sent.{AppendsPart}
use Rattle.sut_tables.specs.ProblemFacts.{ProblemFacts}
use Rattle.sut_cert.specs.declared.answers.Answer.{Answer}
use Rattle.sut_input.specs.declared.faults.InputFault.TheVariants as input
use Rattle.sut_verify.specs.declared.verdicts.Verdict.TheVariants as verdict
use Rattle.sut_check.specs.declared.statuses.CheckStatus.{CheckStatus}
use Rattle.sut_check.specs.declared.statuses.CheckStatus.TheVariants.{Least, NoTable, Refused, NoMemory, Usage, BadSettings, BadClasses, BadSource, ReadFault, Missing, SinkFault, TooLong}
use Rattle.sut_check.specs.declared.statuses.CheckStatus.TheVariants as status
use Rattle.sut_check.specs.declared.faults.CheckFault.TheVariants as fault
use Rattle.sut_check.specs.Claims.{claim_in}
use Rattle.sut_check.specs.Findings.{FindsLeast, FindsNoTable, check_text, verdict_of}

-- What an answer says of a claim: want of memory nothing; a fault at the put that it was accepted.
abbrev pub AnswersClaim : ProblemFacts → Answer → CheckStatus → Type 0
AnswersClaim p a NoMemory = ⊤
AnswersClaim p a Least = FindsLeast p a
AnswersClaim p a NoTable = FindsNoTable p a
AnswersClaim p a (Refused reason) = verdict_of p a ≡ verdict.Refused reason
AnswersClaim p a SinkFault = FindsLeast p a ⊎ FindsNoTable p a
AnswersClaim p a _ = ⊥

-- What an answer says of the files at entry. Want of memory: nothing. A failed read: where that read fails, nothing is
-- refused before it. An answer of the verifier, or a fault at the put: the files spell a claim with this verdict. Any other
-- answer is the first refusal in the order of reading.
abbrev pub AnswersCheck : FileName → Files → CheckStatus → Type 0
AnswersCheck source files NoMemory = ⊤
AnswersCheck source files Least = IsOkAnd (claim_in source None files) (λ claim. FindsLeast claim.0 claim.1)
AnswersCheck source files NoTable = IsOkAnd (claim_in source None files) (λ claim. FindsNoTable claim.0 claim.1)
AnswersCheck source files (Refused reason) = IsOkAnd (claim_in source None files) (λ claim. verdict_of claim.0 claim.1 ≡ verdict.Refused reason)
AnswersCheck source files SinkFault = IsOkAnd (claim_in source None files) (λ claim. FindsLeast claim.0 claim.1 ⊎ FindsNoTable claim.0 claim.1)
AnswersCheck source files (ReadFault name) = claim_in source (Some name) files ≡ Err (fault.Input (input.ReadFault name))
AnswersCheck source files (Missing name) = claim_in source None files ≡ Err (fault.Input (input.Missing name))
AnswersCheck source files (TooLong name) = claim_in source None files ≡ Err (fault.Input (input.TooLong name))
AnswersCheck source files (BadSettings e) = claim_in source None files ≡ Err (fault.Input (input.BadSettings e))
AnswersCheck source files (BadClasses e) = claim_in source None files ≡ Err (fault.Input (input.BadClasses e))
AnswersCheck source files (BadSource e) = claim_in source None files ≡ Err (fault.Input (input.BadSource e))
AnswersCheck source files (status.BadCertificate e) = claim_in source None files ≡ Err (fault.BadCertificate e)
AnswersCheck source files (status.BadTable e) = claim_in source None files ≡ Err (fault.BadTable e)
AnswersCheck source files Usage = ⊥

-- lines with this property went out, or a part of them from their front
pub record PrintsAll (L : List ℕ → Type 0) (old new : List ℕ) : Type 0 where
  pub lines : List ℕ
  pub spelled : L lines
  pub sent : new ≡ old ++ lines

pub record PrintsPart (L : List ℕ → Type 0) (old new : List ℕ) : Type 0 where
  pub lines : List ℕ
  pub spelled : L lines
  pub part : AppendsPart lines old new

-- What went out, by the answer: all lines of a check that accepts, a part of them after a fault at the put, and else nothing.
abbrev pub Prints : (List ℕ → Type 0) → CheckStatus → List ℕ → List ℕ → Type 0
Prints L Least old new = PrintsAll L old new
Prints L NoTable old new = PrintsAll L old new
Prints L SinkFault old new = PrintsPart L old new
Prints L _ old new = new ≡ old

-- the lines are those of the claim that the files spell
abbrev pub AreLines : FileName → Files → List ℕ → Type 0
AreLines source files lines = IsOkAnd (claim_in source None files) (λ claim. lines ≡ check_text claim.0 claim.1)

-- a fact on a failed read's name
abbrev pub IfReadFault : CheckStatus → (FileName → Type 0) → Type 0
IfReadFault (ReadFault name) P = P name
IfReadFault _ P = ⊤

-- a failed read is answered
abbrev pub IsReadFault : CheckStatus → Type 0
IsReadFault (ReadFault name) = ⊤
IsReadFault _ = ⊥
