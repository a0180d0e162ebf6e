-- Reading what follows the files of a problem. The faults of such a reader are those of the files before, and its own: `part` is
-- a fault as one of the files before, where it is one.
use Rattle.std.specs.Prelude.{◌≡◌, ℕ, List, Option, Some, None, Result, Ok, Err, ⊤, Contains}
use Rattle.sut_outside.specs.declared.names.FileName.{FileName}
use Rattle.sut_outside.specs.declared.names.FileName.TheVariants.{SourceCsv}
use Rattle.sut_outside.specs.Files.{Files}
use Rattle.sut_outside.specs.Causes.{Rose}
use Rattle.sut_records.specs.FirstFault.{and_then, fault_as}
use Rattle.sut_settings.specs.SettingsFacts.{SettingsFacts}
use Rattle.sut_tables.specs.ProblemFacts.{ProblemFacts}
use Rattle.sut_input.specs.declared.faults.InputFault.{InputFault}
use Rattle.sut_input.specs.declared.faults.InputFault.TheVariants.{ReadFault, NoMemory}
use Rattle.sut_input.specs.Inputs.{problem_in, read_bytes}
use Rattle.sut_input.specs.Reads as reads

-- a step of reading with faults E: a function of the name of the read that fails, if one does, and of the files
abbrev pub StepOf : Type 0 → Type 0 → Type 0
StepOf E A = Option FileName → Files → Result A E

-- a file, read and parsed
abbrev pub following : {A F E : Type 0} → (InputFault → E) → (F → E) → FileName → (List ℕ → Result A F) → StepOf E A
following input bad name read failed files =
    and_then (fault_as input (read_bytes failed files name)) (λ bytes. fault_as bad (read bytes))

-- settings, classes and source, and then a step that hangs on the problem
abbrev pub after_problem : {A E : Type 0} → (InputFault → E) → (ProblemFacts → StepOf E A) → StepOf E ((SettingsFacts × ProblemFacts) × A)
after_problem input next failed files =
    and_then (fault_as input (problem_in SourceCsv failed files))
    (λ given. and_then (next given.1 failed files) (λ a. Ok (given, a)))

-- ---- what the steps of reading answer

-- the name of the read that failed, if one did
abbrev pub failed_read : Option InputFault → Option FileName
failed_read (Some (ReadFault name)) = Some name
failed_read _ = None

-- a fact on any refusal but want of memory
abbrev pub UnlessNoMemory : Option InputFault → Type 0 → Type 0
UnlessNoMemory (Some NoMemory) P = ⊤
UnlessNoMemory _ P = P

-- What a refusal says of the files: want of memory nothing; a failed read that nothing is refused before it; any other that
-- it is the first refusal.
abbrev pub RefusesAs : {A E : Type 0} → (E → Option InputFault) → StepOf E A → Files → E → Type 0
RefusesAs part step files fault = UnlessNoMemory (part fault) (step (failed_read (part fault)) files ≡ Err fault)

-- a fact on a failed read's name
abbrev pub IfReadFailed : Option InputFault → (FileName → Type 0) → Type 0
IfReadFailed (Some (ReadFault name)) P = P name
IfReadFailed _ P = ⊤

abbrev pub IsFailedRead : Option InputFault → Type 0
IsFailedRead (Some fault) = reads.IsReadFault fault
IsFailedRead None = ⊥

-- a failed read is answered only where the count rose, for one of these names, which is then that of the last failed call
abbrev pub FailsIn : {E : Type 0} → (E → Option InputFault) → List FileName → ℕ → ℕ → Option FileName → E → Type 0
FailsIn part names before now last fault =
    IfReadFailed (part fault) (λ failed. Rose before now × (last ≡ Some failed) × Contains names failed)

-- a failed read is answered
abbrev pub IsReadFault : {E : Type 0} → (E → Option InputFault) → E → Type 0
IsReadFault part fault = IsFailedRead (part fault)
