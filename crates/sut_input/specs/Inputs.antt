-- What the files of a year spell, or the first refusal in the order of reading, where this one read fails.
use Rattle.std.specs.Prelude.{◌≡◌, ℕ, false, List, [], ◌∷◌, Option, Result, Ok, Err, if◌then◌else◌}
use Rattle.sut_outside.specs.declared.names.FileName.{FileName}
use Rattle.sut_outside.specs.declared.names.FileName.TheVariants.{SettingsToml, ClassesCsv}
use Rattle.sut_outside.specs.Files.{Files}
use Rattle.sut_outside.specs.Deliveries.{same_name}
use Rattle.sut_outside.specs.Entry.{is_failed, bytes_or}
use Rattle.sut_records.specs.FirstFault.{and_then, fault_as}
use Rattle.sut_classes.specs.ClassLists.{ClassLists}
use Rattle.sut_classes.specs.ClassFile.{classes_of}
use Rattle.sut_classes.specs.declared.faults.ClassFault.{ClassFault}
use Rattle.sut_classes.specs.declared.faults.ClassFault.TheVariants as class
use Rattle.sut_settings.specs.SettingsFacts.{SettingsFacts}
use Rattle.sut_settings.specs.SettingsFile.{settings_of}
use Rattle.sut_settings.specs.declared.SettingsFault.{SettingsFault}
use Rattle.sut_settings.specs.declared.SettingsFault.TheVariants as settings
use Rattle.sut_source.specs.SourceFile.{source_of}
use Rattle.sut_source.specs.declared.faults.RowFault.{RowFault}
use Rattle.sut_source.specs.declared.faults.RowFault.TheVariants as row
use Rattle.sut_source.specs.declared.faults.SourceFault.{SourceFault}
use Rattle.sut_tables.specs.ProblemFacts.{ProblemFacts}
use Rattle.sut_input.specs.declared.faults.InputFault.{InputFault}
use Rattle.sut_input.specs.declared.faults.InputFault.TheVariants.{Missing, TooLong, ReadFault, BadSettings, BadClasses, BadSource, NoMemory}
use Rattle.sut_input.specs.Reads.{Step}

-- what a read of a name gives
abbrev pub read_bytes : Option FileName → Files → FileName → Result (List ℕ) InputFault
read_bytes failed files name = if is_failed failed name then Err (ReadFault name) else bytes_or (Missing name) (TooLong name) (files name)

-- a file, read and parsed
abbrev pub parsed : {A F : Type 0} → FileName → (List ℕ → Result A F) → (F → InputFault) → Step A
parsed name read bad failed files = and_then (read_bytes failed files name) (λ bytes. fault_as bad (read bytes))

abbrev pub settings_in : Step SettingsFacts
settings_in = parsed SettingsToml settings_of BadSettings

abbrev pub classes_in : Step ClassLists
classes_in = parsed ClassesCsv classes_of BadClasses

abbrev pub source_in : FileName → SettingsFacts → ClassLists → Step ProblemFacts
source_in name s cs = parsed name (source_of s cs) BadSource

-- a step, and then one that hangs on what it gave
abbrev pub then_step : {A B : Type 0} → Step A → (A → Step B) → Step B
then_step first next failed files = and_then (first failed files) (λ a. next a failed files)

abbrev pub given : {A : Type 0} → A → Step A
given a failed files = Ok a

-- the settings, and the problem of the classes and of the source that stands under this name
abbrev pub problem_in : FileName → Step (SettingsFacts × ProblemFacts)
problem_in source =
    then_step settings_in (λ s. then_step classes_in (λ cs. then_step (source_in source s cs) (λ p. given (s, p))))

-- the names that are read, in order
abbrev pub problem_names : FileName → List FileName
problem_names source = SettingsToml ∷ ClassesCsv ∷ source ∷ []

-- a name of a source is neither that of the settings nor that of the classes
pub record IsSource (name : FileName) : Type 0 where
  pub not_settings : same_name name SettingsToml ≡ false
  pub not_classes : same_name name ClassesCsv ≡ false

-- a reader's fault; want of memory is no fault of a file
abbrev pub settings_fault : SettingsFault → InputFault
settings_fault settings.NoMemory = NoMemory
settings_fault fault = BadSettings fault

abbrev pub class_fault : ClassFault → InputFault
class_fault class.NoMemory = NoMemory
class_fault fault = BadClasses fault

abbrev pub unless_no_memory : RowFault → SourceFault → InputFault
unless_no_memory row.NoMemory fault = NoMemory
unless_no_memory _ fault = BadSource fault

abbrev pub source_fault : SourceFault → InputFault
source_fault fault = unless_no_memory fault.cause fault
