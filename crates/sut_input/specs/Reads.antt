-- What the steps of reading answer. A step is a function of the name of the read that fails, if one does, and of the files.
use Rattle.std.specs.Prelude.{◌≡◌, ℕ, List, Option, Some, None, Result, Ok, Err, ⊤, Contains}
use Rattle.sut_outside.specs.declared.names.FileName.{FileName}
use Rattle.sut_outside.specs.Files.{Files}
use Rattle.sut_outside.specs.Causes.{Rose}
use Rattle.sut_input.specs.declared.faults.InputFault.{InputFault}
use Rattle.sut_input.specs.declared.faults.InputFault.TheVariants.{Missing, TooLong, ReadFault, BadSettings, BadClasses, BadSource, NoMemory}

abbrev pub Step : Type 0 → Type 0
Step A = Option FileName → Files → Result A InputFault

-- the step gives this value where no read fails
abbrev pub GivesOk : {A : Type 0} → Step A → Files → A → Type 0
GivesOk step files value = step None files ≡ Ok value

-- What a refusal says of the files: want of memory nothing; a failed read that nothing is refused before it; any other that
-- it is the first refusal.
abbrev pub Refuses : {A : Type 0} → Step A → Files → InputFault → Type 0
Refuses step files NoMemory = ⊤
Refuses step files (ReadFault name) = step (Some name) files ≡ Err (ReadFault name)
Refuses step files (Missing name) = step None files ≡ Err (Missing name)
Refuses step files (TooLong name) = step None files ≡ Err (TooLong name)
Refuses step files (BadSettings fault) = step None files ≡ Err (BadSettings fault)
Refuses step files (BadClasses fault) = step None files ≡ Err (BadClasses fault)
Refuses step files (BadSource fault) = step None files ≡ Err (BadSource fault)

-- a fact on a failed read's name
abbrev pub IfFailed : InputFault → (FileName → Type 0) → Type 0
IfFailed (ReadFault name) P = P name
IfFailed _ P = ⊤

-- a failed read is answered only where the count rose, for this name, which is then that of the last failed call
abbrev pub FailsBy : FileName → ℕ → ℕ → Option FileName → InputFault → Type 0
FailsBy name before now last fault = IfFailed fault (λ failed. Rose before now × (last ≡ Some failed) × (failed ≡ name))

abbrev pub FailsAmong : List FileName → ℕ → ℕ → Option FileName → InputFault → Type 0
FailsAmong names before now last fault = IfFailed fault (λ failed. Rose before now × (last ≡ Some failed) × Contains names failed)

-- a failed read is answered
abbrev pub IsReadFault : InputFault → Type 0
IsReadFault (ReadFault name) = ⊤
IsReadFault _ = ⊥
