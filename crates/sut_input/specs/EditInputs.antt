-- What the files of a year spell with the edits of it, or the first refusal in the order of reading, where this one read fails.
use Rattle.std.specs.Prelude.{◌≡◌, ℕ, List, [], ◌∷◌, ◌++◌, Option, Some, None, Result, Ok, Err, ⊤, Contains}
use Rattle.sut_outside.specs.declared.names.FileName.{FileName}
use Rattle.sut_outside.specs.declared.names.FileName.TheVariants.{SourceCsv, EditsCsv}
use Rattle.sut_outside.specs.Files.{Files}
use Rattle.sut_outside.specs.Causes.{Rose}
use Rattle.sut_records.specs.FirstFault.{and_then, fault_as}
use Rattle.sut_classes.specs.ClassLists.{ClassLists}
use Rattle.sut_settings.specs.SettingsFacts.{SettingsFacts}
use Rattle.sut_tables.specs.ProblemFacts.{ProblemFacts}
use Rattle.sut_edits.specs.EditsFile.{edits_of}
use Rattle.sut_edits.specs.declared.edits.EditLine.{EditLine}
use Rattle.sut_edits.specs.declared.faults.EditsCause.{EditsCause}
use Rattle.sut_edits.specs.declared.faults.EditsCause.TheVariants as edits
use Rattle.sut_edits.specs.declared.faults.EditsFault.{EditsFault}
use Rattle.sut_input.specs.declared.faults.InputFault.TheVariants as input
use Rattle.sut_input.specs.declared.edits.EditInputFault.{EditInputFault}
use Rattle.sut_input.specs.declared.edits.EditInputFault.TheVariants.{Input, BadEdits}
use Rattle.sut_input.specs.Inputs.{problem_in, problem_names, read_bytes}
use Rattle.sut_input.specs.Reads as reads

-- a step of reading: a function of the name of the read that fails, if one does, and of the files
abbrev pub EditStep : Type 0 → Type 0
EditStep A = Option FileName → Files → Result A EditInputFault

-- the edits, read and parsed
unfoldable pub edits_in : SettingsFacts → ClassLists → EditStep (List EditLine)
edits_in s cs failed files = and_then (fault_as Input (read_bytes failed files EditsCsv)) (λ bytes. fault_as BadEdits (edits_of s cs bytes))

-- settings, classes and source
unfoldable pub edited_in : EditStep (SettingsFacts × ProblemFacts)
edited_in failed files = fault_as Input (problem_in SourceCsv failed files)

-- the settings and the problem, and the edits of it
unfoldable pub edit_input_in : EditStep ((SettingsFacts × ProblemFacts) × List EditLine)
edit_input_in failed files =
    and_then (edited_in failed files) (λ given. and_then (edits_in given.0 given.1.classes failed files) (λ lines. Ok (given, lines)))

-- the names that are read, in order
abbrev pub edit_names : List FileName
edit_names = problem_names SourceCsv ++ EditsCsv ∷ []

-- a reader's fault; want of memory is no fault of a file
abbrev pub edits_unless_no_memory : EditsCause → EditsFault → EditInputFault
edits_unless_no_memory edits.NoMemory fault = Input input.NoMemory
edits_unless_no_memory _ fault = BadEdits fault

abbrev pub edits_fault : EditsFault → EditInputFault
edits_fault fault = edits_unless_no_memory fault.cause fault

-- ---- what the steps of reading answer

-- the name of the read that failed, if one did
abbrev pub failed_read : EditInputFault → Option FileName
failed_read (Input (input.ReadFault name)) = Some name
failed_read _ = None

-- a fact on any refusal but want of memory
abbrev pub UnlessNoMemory : EditInputFault → Type 0 → Type 0
UnlessNoMemory (Input input.NoMemory) P = ⊤
UnlessNoMemory _ P = P

-- What a refusal says of the files: want of memory nothing; a failed read that nothing is refused before it; any other that
-- it is the first refusal.
abbrev pub RefusesEdits : {A : Type 0} → EditStep A → Files → EditInputFault → Type 0
RefusesEdits step files fault = UnlessNoMemory fault (step (failed_read fault) files ≡ Err fault)

-- a fact on a failed read's name
abbrev pub IfReadFailed : EditInputFault → (FileName → Type 0) → Type 0
IfReadFailed (Input (input.ReadFault name)) P = P name
IfReadFailed _ P = ⊤

-- a failed read is answered only where the count rose, for one of these names, which is then that of the last failed call
abbrev pub FailsIn : List FileName → ℕ → ℕ → Option FileName → EditInputFault → Type 0
FailsIn names before now last fault = IfReadFailed fault (λ failed. Rose before now × (last ≡ Some failed) × Contains names failed)

-- a failed read is answered
abbrev pub IsReadFault : EditInputFault → Type 0
IsReadFault (Input fault) = reads.IsReadFault fault
IsReadFault (BadEdits fault) = ⊥
