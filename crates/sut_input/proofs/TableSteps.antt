-- The table, read after the problem that it is of.
use Rattle.std.proofs.Common.{◌≡◌, ◌≢◌, ◌∙◌, ℕ, List, [], ◌∷◌, Option, Some, None, Result, Ok, Err, Contains, IfSome, ap, sym, refl}
use Rattle.sut_outside.specs.declared.names.FileName.{FileName}
use Rattle.sut_outside.specs.declared.names.FileName.TheVariants.{SourceCsv, BalancedCsv}
use Rattle.sut_outside.specs.Files.{Files}
use Rattle.sut_records.specs.FirstFault.{and_then, fault_as}
use Rattle.sut_settings.specs.SettingsFacts.{SettingsFacts}
use Rattle.sut_tables.specs.ProblemFacts.{ProblemFacts}
use Rattle.sut_tables.specs.TableFacts.{TableFacts}
use Rattle.sut_tables.specs.Breaks.{first_break}
use Rattle.sut_tables.specs.declared.tables.Broken.{Broken}
use Rattle.sut_readback.specs.BalancedFile.{balanced_of}
use Rattle.sut_readback.specs.declared.faults.BalancedCause.{BalancedCause}
use Rattle.sut_readback.specs.declared.faults.BalancedCause.TheVariants as table
use Rattle.sut_readback.specs.declared.faults.BalancedFault.{BalancedFault}
use Rattle.sut_input.specs.declared.faults.InputFault.{InputFault}
use Rattle.sut_input.specs.declared.faults.InputFault.TheVariants as input
use Rattle.sut_input.specs.declared.tables.TableInputFault.{TableInputFault}
use Rattle.sut_input.specs.declared.tables.TableInputFault.TheVariants.{Input, BadTable, NotAdmissible}
use Rattle.sut_input.specs.Reads.{GivesOk, Refuses}
use Rattle.sut_input.specs.Inputs.{problem_in, read_bytes}
use Rattle.sut_input.specs.Following.{IfReadFailed, RefusesAs}
use Rattle.sut_input.specs.TableInputs.{admissible_only, table_fault, table_file_in, table_in, table_input_in, table_part, table_unless_no_memory, unless_broken}
use Rattle.sut_input.proofs.FollowingSteps as steps

table-cause : (P : TableInputFault → Type 0) (cause : BalancedCause) (e : BalancedFault) → P (Input input.NoMemory) → (cause ≢ table.NoMemory → P (BadTable e)) → P (table_unless_no_memory cause e)
table-cause P table.NoMemory e none some = none
table-cause P table.Csv e none some = some (λ x. cc)
table-cause P table.Header e none some = some (λ x. cc)
table-cause P table.WrongMeasure e none some = some (λ x. cc)
table-cause P table.WrongTarget e none some = some (λ x. cc)
table-cause P table.NotNumber e none some = some (λ x. cc)
table-cause P table.OutOfRange e none some = some (λ x. cc)
table-cause P (table.WrongTotal printed sum) e none some = some (λ x. cc)
table-cause P table.Short e none some = some (λ x. cc)

-- its faults are no failed reads
pub table-no-read : (P : FileName → Type 0) (e : BalancedFault) → IfReadFailed (table_part (table_fault e)) P
table-no-read P e = table-cause (λ f. IfReadFailed (table_part f) P) e.cause e tt (λ other. tt)

-- a read of the table that fails leaves the problem as it is
still : (files : Files) → problem_in SourceCsv (Some BalancedCsv) files ≡ problem_in SourceCsv None files
still files = refl

module _ (p : ProblemFacts) where
  -- ---- the file

  pub file-not-read : (held : Option Files) (fault : InputFault) → IfSome held (λ files. Refuses (λ failed told. read_bytes failed told BalancedCsv) files fault)
      → IfSome held (λ files. RefusesAs table_part (table_file_in p) files (Input fault))
  unfolding table_file_in
  file-not-read held fault h = steps.not-read table_part Input (λ e. refl) BadTable BalancedCsv (balanced_of p) held fault h

  pub file-given : (held : Option Files) (bytes : List ℕ) (t : TableFacts) → IfSome held (λ files. GivesOk (λ failed told. read_bytes failed told BalancedCsv) files bytes) → Ok t ≡ balanced_of p bytes
      → IfSome held (λ files. table_file_in p None files ≡ Ok t)
  unfolding table_file_in
  file-given held bytes t h e = steps.file-given table_part Input (λ e. refl) BadTable BalancedCsv (balanced_of p) held bytes t h e

  file-bad : (files : Files) (bytes : List ℕ) (e : BalancedFault) → GivesOk (λ failed told. read_bytes failed told BalancedCsv) files bytes → Err e ≡ balanced_of p bytes → table_file_in p None files ≡ Err (BadTable e)
  unfolding table_file_in
  file-bad files bytes e h r = steps.file-bad table_part Input (λ e. refl) BadTable BalancedCsv (balanced_of p) files bytes e h r

  pub file-refused : (held : Option Files) (bytes : List ℕ) (e : BalancedFault) → IfSome held (λ files. GivesOk (λ failed told. read_bytes failed told BalancedCsv) files bytes)
      → (e.cause ≢ table.NoMemory → Err e ≡ balanced_of p bytes) → IfSome held (λ files. RefusesAs table_part (table_file_in p) files (table_fault e))
  file-refused None bytes e h r = tt
  file-refused (Some files) bytes e h r = table-cause (RefusesAs table_part (table_file_in p) files) e.cause e tt (λ other. file-bad files bytes e h (r other))

  -- ---- the table in it

  pub table-refused : (held : Option Files) (fault : TableInputFault) → IfSome held (λ files. RefusesAs table_part (table_file_in p) files fault) → IfSome held (λ files. RefusesAs table_part (table_in p) files fault)
  unfolding table_in
  table-refused None fault h = tt
  table-refused (Some files) fault h = steps.first-refused table_part (table_file_in p) (λ t failed told. admissible_only p t) files fault h

  judged : (files : Files) (t : TableFacts) (found : Option Broken) → table_file_in p None files ≡ Ok t → first_break p t ≡ found → table_in p None files ≡ unless_broken found t
  unfolding table_in
  judged files t found e h = ap (λ r. and_then r (admissible_only p)) e ∙ ap (λ o. unless_broken o t) h

  pub table-given : (held : Option Files) (t : TableFacts) → IfSome held (λ files. table_file_in p None files ≡ Ok t) → first_break p t ≡ None → IfSome held (λ files. table_in p None files ≡ Ok t)
  table-given None t e h = tt
  table-given (Some files) t e h = judged files t None e h

  pub table-broken : (held : Option Files) (t : TableFacts) (broken : Broken) → IfSome held (λ files. table_file_in p None files ≡ Ok t) → first_break p t ≡ Some broken
      → IfSome held (λ files. RefusesAs table_part (table_in p) files (NotAdmissible broken))
  table-broken None t broken e h = tt
  table-broken (Some files) t broken e h = judged files t (Some broken) e h

-- ---- after the problem

pub problem-refused : (held : Option Files) (fault : InputFault) → IfSome held (λ files. Refuses (problem_in SourceCsv) files fault) → IfSome held (λ files. RefusesAs table_part table_input_in files (Input fault))
unfolding table_input_in
problem-refused held fault h = steps.problem-refused table_part Input (λ e. refl) table_in held fault h

pub after-refused : (held : Option Files) (s : SettingsFacts) (p : ProblemFacts) (fault : TableInputFault) → IfReadFailed (table_part fault) (Contains (BalancedCsv ∷ [])) → IfSome held (λ files. problem_in SourceCsv None files ≡ Ok (s, p))
    → IfSome held (λ files. RefusesAs table_part (table_in p) files fault) → IfSome held (λ files. RefusesAs table_part table_input_in files fault)
unfolding table_input_in
after-refused held s p fault only e h = steps.after-refused table_part Input (λ e. refl) table_in BalancedCsv still held s p fault only e h

pub after-given : (held : Option Files) (s : SettingsFacts) (p : ProblemFacts) (t : TableFacts) → IfSome held (λ files. problem_in SourceCsv None files ≡ Ok (s, p)) → IfSome held (λ files. table_in p None files ≡ Ok t)
    → IfSome held (λ files. table_input_in None files ≡ Ok ((s, p), t))
unfolding table_input_in
after-given held s p t e h = steps.after-given table_part Input (λ e. refl) table_in held s p t e h
