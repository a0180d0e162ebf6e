-- What a run is given: a function of the command, of the reviewers handed in, and of the files as they stood at entry.
use Rattle.std.specs.Prelude.{ℕ, List, Option, Result, Ok}
use Rattle.sut_outside.specs.declared.names.FileName.{FileName}
use Rattle.sut_outside.specs.declared.names.FileName.TheVariants.{SourceCsv}
use Rattle.sut_outside.specs.Files.{Files}
use Rattle.sut_records.specs.FirstFault.{and_then, fault_as}
use Rattle.sut_settings.specs.SettingsFacts.{SettingsFacts}
use Rattle.sut_classes.specs.ClassLists.{ClassLists}
use Rattle.sut_tables.specs.ProblemFacts.{ProblemFacts}
use Rattle.sut_input.specs.Inputs.{classes_in, problem_in}
use Rattle.sut_input.specs.declared.faults.InputFault.{InputFault}
use Rattle.sut_input.specs.declared.faults.InputFault.TheVariants as fault
use Rattle.sut_input.specs.EditInputs.{edit_input_in}
use Rattle.sut_input.specs.declared.edits.EditInputFault.{EditInputFault}
use Rattle.sut_input.specs.declared.edits.EditInputFault.TheVariants as edits
use Rattle.sut_edits.specs.declared.edits.EditLine.{EditLine}
use Rattle.sut_review.specs.Seats.{SeatFacts}
use Rattle.sut_editing.specs.Moments.{Moments, moments_of, standing_labels}
use Rattle.sut_editing.specs.declared.faults.EditingFault.{EditingFault}
use Rattle.sut_editing.specs.declared.faults.EditingFault.TheVariants.{Refused, NoMemory}
use Rattle.sut_status.specs.declared.statuses.Status.{Status}
use Rattle.sut_status.specs.declared.statuses.Status.TheVariants as status
use Rattle.sut_run.specs.declared.commands.Command.{Command}
use Rattle.sut_run.specs.declared.commands.Command.TheVariants.{Balance, Edit, Migrate, Generate}

-- what the files spell for a command
pub data Given : Type 0 where
  to_balance : SettingsFacts → ProblemFacts → Given
  to_edit : SettingsFacts → Moments → Given
  to_migrate : ClassLists → Given
  to_generate : ℕ → ℕ → ℕ → Given

-- a refused input, as a status
abbrev pub refused : InputFault → Status
refused (fault.Missing name) = status.Missing name
refused (fault.TooLong name) = status.TooLong name
refused (fault.ReadFault name) = status.ReadFault name
refused (fault.BadSettings e) = status.BadSettings e
refused (fault.BadClasses e) = status.BadClasses e
refused (fault.BadSource e) = status.BadSource e
refused fault.NoMemory = status.NoMemory

abbrev pub for_balance : SettingsFacts × ProblemFacts → Result Given Status
for_balance given = Ok (to_balance given.0 given.1)

abbrev pub for_migrate : ClassLists → Result Given Status
for_migrate cs = Ok (to_migrate cs)

abbrev pub edits_refused : EditInputFault → Status
edits_refused (edits.Input e) = refused e
edits_refused (edits.BadEdits e) = status.BadEdits e

-- a run of edits that is not done, as a status
abbrev pub edit_stopped : EditingFault → Status
edit_stopped (Refused e) = status.BadEdits e
edit_stopped NoMemory = status.NoMemory

-- what happens in a run of the edits, with reviewers of these labels; or the first edit that is refused
abbrev pub for_edit : List (List ℕ) → (SettingsFacts × ProblemFacts) × List EditLine → Result Given Status
for_edit labels given =
    and_then (fault_as status.BadEdits (moments_of labels given.0.1 given.1)) (λ m. Ok (to_edit given.0.0 m))

-- What the files at entry spell for a command, or the first refusal in the order of reading, where this one read fails. A
-- refused edit comes after all reads.
abbrev pub input_of : List SeatFacts → Command → Option FileName → Files → Result Given Status
input_of seats Balance failed files = and_then (fault_as refused (problem_in SourceCsv failed files)) for_balance
input_of seats Edit failed files = and_then (fault_as edits_refused (edit_input_in failed files)) (for_edit (standing_labels seats))
input_of seats Migrate failed files = and_then (fault_as refused (classes_in failed files)) for_migrate
input_of seats (Generate seed products industries) failed files = Ok (to_generate seed products industries)
