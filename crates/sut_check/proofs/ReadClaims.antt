-- All files of a check, read.
use Rattle.std.proofs.Common.{◌≡◌, ◌∙◌, ℕ, zero, suc, List, Option, Some, None, Ok, Contains, IfSome, inl, inr, ap, sym, refl, subst, arith}
use Rattle.sut_outside.specs.declared.names.FileName.{FileName}
use Rattle.sut_outside.specs.declared.names.FileName.TheVariants.{SourceCsv, EditedCsv, BalancedCsv, CertificateCsv}
use Rattle.sut_outside.specs.Files.{Files}
use Rattle.sut_outside.specs.Causes.{Rose}
use Rattle.sut_records.specs.FirstFault.{and_then, fault_as}
use Rattle.sut_settings.specs.SettingsFacts.{SettingsFacts}
use Rattle.sut_tables.specs.ProblemFacts.{ProblemFacts}
use Rattle.sut_cert.specs.declared.answers.Answer.{Answer}
use Rattle.sut_input.specs.declared.faults.InputFault.{InputFault}
use Rattle.sut_input.specs.declared.faults.InputFault.TheVariants as input
use Rattle.sut_input.specs.Reads.{FailsAmong}
use Rattle.sut_input.specs.Reads as reads
use Rattle.sut_input.specs.Inputs.{IsSource, problem_in, problem_names}
use Rattle.sut_check.specs.declared.faults.CheckFault.{CheckFault}
use Rattle.sut_check.specs.declared.faults.CheckFault.TheVariants.{Input}
use Rattle.sut_check.specs.CheckWords.{IsCheckedSource, answer_names, checked_names}
use Rattle.sut_check.specs.Claims.{FailsIn, IfReadFailed, Refuses, answer_in, claim_in, given_in}
use Rattle.sut_check.proofs.CheckSteps.{first-refused, given-still, if-failed, next-refused}

-- the source of a check is no other file of it
pub source-apart : (source : FileName) → IsCheckedSource source → IsSource source
source-apart source (inl e) = subst IsSource (sym e) (record { not_settings = refl; not_classes = refl })
source-apart source (inr e) = subst IsSource (sym e) (record { not_settings = refl; not_classes = refl })

-- ---- settings, classes and source

given-refused : (source : FileName) (files : Files) (fault : InputFault) → reads.Refuses (problem_in source) files fault → Refuses (given_in source) files (Input fault)
unfolding given_in
given-refused source files input.NoMemory h = tt
given-refused source files (input.ReadFault n) h = ap (fault_as Input) h
given-refused source files (input.Missing n) h = ap (fault_as Input) h
given-refused source files (input.TooLong n) h = ap (fault_as Input) h
given-refused source files (input.BadSettings e) h = ap (fault_as Input) h
given-refused source files (input.BadClasses e) h = ap (fault_as Input) h
given-refused source files (input.BadSource e) h = ap (fault_as Input) h

given-there : (source : FileName) (files : Files) (s : SettingsFacts) (p : ProblemFacts) → problem_in source None files ≡ Ok (s, p) → given_in source None files ≡ Ok (s, p)
unfolding given_in
given-there source files s p e = ap (fault_as Input) e

-- a read of the answer that fails leaves the problem as it is
still-source : (files : Files) → given_in SourceCsv (Some CertificateCsv) files ≡ given_in SourceCsv None files
unfolding given_in
still-source files = refl

still-source-table : (files : Files) → given_in SourceCsv (Some BalancedCsv) files ≡ given_in SourceCsv None files
unfolding given_in
still-source-table files = refl

still-edited : (files : Files) → given_in EditedCsv (Some CertificateCsv) files ≡ given_in EditedCsv None files
unfolding given_in
still-edited files = refl

still-edited-table : (files : Files) → given_in EditedCsv (Some BalancedCsv) files ≡ given_in EditedCsv None files
unfolding given_in
still-edited-table files = refl

-- the files of an answer are two
two-names : (P : FileName → Type 0) → P CertificateCsv → P BalancedCsv → (name : FileName) → Contains answer_names name → P name
two-names P c t name (zero, below, is) = subst P is c
two-names P c t name (suc zero, below, is) = subst P is t
two-names P c t name (suc (suc k), below, is) = absurd (omega arith)

given-same : (source : FileName) → IsCheckedSource source → (files : Files) (name : FileName) → Contains answer_names name → given_in source (Some name) files ≡ given_in source None files
given-same source (inl e) files =
    subst (λ s. (name : FileName) → Contains answer_names name → given_in s (Some name) files ≡ given_in s None files) (sym e)
    (two-names (λ n. given_in SourceCsv (Some n) files ≡ given_in SourceCsv None files) (still-source files) (still-source-table files))
given-same source (inr e) files =
    subst (λ s. (name : FileName) → Contains answer_names name → given_in s (Some name) files ≡ given_in s None files) (sym e)
    (two-names (λ n. given_in EditedCsv (Some n) files ≡ given_in EditedCsv None files) (still-edited files) (still-edited-table files))

-- ---- the claim

module _ (source : FileName) where
  refused-first : (files : Files) (fault : InputFault) → reads.Refuses (problem_in source) files fault → Refuses (claim_in source) files (Input fault)
  unfolding claim_in
  refused-first files fault h =
      first-refused (given_in source) (λ given failed held. and_then (answer_in given.1 failed held) (λ a. Ok (given.1, a))) files (Input fault) (given-refused source files fault h)

  refused-next : IsCheckedSource source → (files : Files) (s : SettingsFacts) (p : ProblemFacts) (fault : CheckFault) → IfReadFailed fault (Contains answer_names) → problem_in source None files ≡ Ok (s, p)
      → Refuses (answer_in p) files fault → Refuses (claim_in source) files fault
  unfolding claim_in
  refused-next which files s p fault only e h =
      next-refused (given_in source) (λ given failed held. and_then (answer_in given.1 failed held) (λ a. Ok (given.1, a))) (s, p) files fault
      (given-still (given_in source) files (s, p) (Contains answer_names) (given-same source which files) fault only (given-there source files s p e))
      (first-refused (answer_in p) (λ a failed held. Ok (p, a)) files fault h)

  given : (files : Files) (s : SettingsFacts) (p : ProblemFacts) (a : Answer) → problem_in source None files ≡ Ok (s, p) → answer_in p None files ≡ Ok a → claim_in source None files ≡ Ok (p, a)
  unfolding claim_in
  given files s p a e h =
      ap (λ r. and_then r (λ g. and_then (answer_in g.1 None files) (λ a. Ok (g.1, a)))) (given-there source files s p e) ∙ ap (λ r. and_then r (λ a. Ok (p, a))) h

  pub claim-not-given : (held : Option Files) (fault : InputFault) → IfSome held (λ files. reads.Refuses (problem_in source) files fault) → IfSome held (λ files. Refuses (claim_in source) files (Input fault))
  claim-not-given None fault h = tt
  claim-not-given (Some files) fault h = refused-first files fault h

  pub claim-refused : IsCheckedSource source → (held : Option Files) (s : SettingsFacts) (p : ProblemFacts) (fault : CheckFault) → IfReadFailed fault (Contains answer_names) → IfSome held (λ files. problem_in source None files ≡ Ok (s, p))
      → IfSome held (λ files. Refuses (answer_in p) files fault) → IfSome held (λ files. Refuses (claim_in source) files fault)
  claim-refused which None s p fault only e h = tt
  claim-refused which (Some files) s p fault only e h = refused-next which files s p fault only e h

  pub claim-given : (held : Option Files) (s : SettingsFacts) (p : ProblemFacts) (a : Answer) → IfSome held (λ files. problem_in source None files ≡ Ok (s, p)) → IfSome held (λ files. answer_in p None files ≡ Ok a)
      → IfSome held (λ files. claim_in source None files ≡ Ok (p, a))
  claim-given None s p a e h = tt
  claim-given (Some files) s p a e h = given files s p a e h

-- ---- failed reads

first-names : (source name : FileName) → Contains (problem_names source) name → Contains (checked_names source) name
first-names source name (zero, below, is) = (0, omega arith, is)
first-names source name (suc zero, below, is) = (1, omega arith, is)
first-names source name (suc (suc zero), below, is) = (2, omega arith, is)
first-names source name (suc (suc (suc k)), below, is) = absurd (omega arith)

pub last-names : (source name : FileName) → Contains answer_names name → Contains (checked_names source) name
last-names source name (zero, below, is) = (3, omega arith, is)
last-names source name (suc zero, below, is) = (4, omega arith, is)
last-names source name (suc (suc k), below, is) = absurd (omega arith)

pub fails-first : (source : FileName) (before now : ℕ) (last : Option FileName) (fault : InputFault) → FailsAmong (problem_names source) before now last fault → FailsIn (checked_names source) before now last (Input fault)
fails-first source before now last input.NoMemory h = tt
fails-first source before now last (input.Missing n) h = tt
fails-first source before now last (input.TooLong n) h = tt
fails-first source before now last (input.ReadFault n) h = (h.0, h.1, first-names source n h.2)
fails-first source before now last (input.BadSettings e) h = tt
fails-first source before now last (input.BadClasses e) h = tt
fails-first source before now last (input.BadSource e) h = tt

-- the name of a failed read alone
pub only-names : (names : List FileName) (before now : ℕ) (last : Option FileName) (fault : CheckFault) → FailsIn names before now last fault → IfReadFailed fault (Contains names)
only-names names before now last fault h = if-failed (λ failed. Rose before now × (last ≡ Some failed) × Contains names failed) (Contains names) (λ n q. q.2) fault h
