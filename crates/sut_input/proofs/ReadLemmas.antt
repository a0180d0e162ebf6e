-- A file that was read, and then parsed.
use Rattle.std.proofs.Common.{◌≡◌, ◌≢◌, ◌∙◌, ℕ, List, Option, Some, None, Result, Ok, Err, ap, sym, IfSome}
use Rattle.sut_outside.specs.declared.names.FileName.{FileName}
use Rattle.sut_outside.specs.Files.{Files}
use Rattle.sut_records.specs.FirstFault.{and_then, fault_as}
use Rattle.sut_classes.specs.ClassLists.{ClassLists}
use Rattle.sut_classes.specs.declared.faults.ClassFault.{ClassFault}
use Rattle.sut_classes.specs.declared.faults.ClassFault.TheVariants as class
use Rattle.sut_settings.specs.SettingsFacts.{SettingsFacts}
use Rattle.sut_settings.specs.declared.SettingsFault.{SettingsFault}
use Rattle.sut_settings.specs.declared.SettingsFault.TheVariants as settings
use Rattle.sut_source.specs.declared.faults.RowFault.{RowFault}
use Rattle.sut_source.specs.declared.faults.RowFault.TheVariants as row
use Rattle.sut_source.specs.declared.faults.SourceFault.{SourceFault}
use Rattle.sut_tables.specs.ProblemFacts.{ProblemFacts}
use Rattle.sut_input.specs.declared.faults.InputFault.{InputFault}
use Rattle.sut_input.specs.declared.faults.InputFault.TheVariants.{Missing, TooLong, ReadFault, BadSettings, BadClasses, BadSource, NoMemory}
use Rattle.sut_input.specs.Reads.{GivesOk, Refuses}
use Rattle.sut_input.specs.Inputs.{class_fault, parsed, read_bytes, settings_fault, source_fault, unless_no_memory}

module _ {A F : Type 0} (name : FileName) (read : List ℕ → Result A F) (bad : F → InputFault) where
  -- the file was not read
  pub not-read : (files : Files) (fault : InputFault) → Refuses (λ failed held. read_bytes failed held name) files fault → Refuses (parsed name read bad) files fault
  not-read files NoMemory h = tt
  not-read files (ReadFault n) h = ap (λ r. and_then r (λ bytes. fault_as bad (read bytes))) h
  not-read files (Missing n) h = ap (λ r. and_then r (λ bytes. fault_as bad (read bytes))) h
  not-read files (TooLong n) h = ap (λ r. and_then r (λ bytes. fault_as bad (read bytes))) h
  not-read files (BadSettings e) h = ap (λ r. and_then r (λ bytes. fault_as bad (read bytes))) h
  not-read files (BadClasses e) h = ap (λ r. and_then r (λ bytes. fault_as bad (read bytes))) h
  not-read files (BadSource e) h = ap (λ r. and_then r (λ bytes. fault_as bad (read bytes))) h

  -- it was read, and this is what it gives
  pub was-read : (files : Files) (bytes : List ℕ) (r : Result A F) → GivesOk (λ failed held. read_bytes failed held name) files bytes → r ≡ read bytes → parsed name read bad None files ≡ fault_as bad r
  was-read files bytes r h e = ap (λ w. and_then w (λ bytes. fault_as bad (read bytes))) h ∙ ap (fault_as bad) (sym e)

  pub was-read-if : (held : Option Files) (bytes : List ℕ) (a : A) → IfSome held (λ files. GivesOk (λ failed held. read_bytes failed held name) files bytes) → Ok a ≡ read bytes
      → IfSome held (λ files. GivesOk (parsed name read bad) files a)
  was-read-if None bytes a h e = tt
  was-read-if (Some files) bytes a h e = was-read files bytes (Ok a) h e

  pub not-read-if : (held : Option Files) (fault : InputFault) → IfSome held (λ files. Refuses (λ failed held. read_bytes failed held name) files fault) → IfSome held (λ files. Refuses (parsed name read bad) files fault)
  not-read-if None fault h = tt
  not-read-if (Some files) fault h = not-read files fault h

settings-refused : (name : FileName) (read : List ℕ → Result SettingsFacts SettingsFault) (files : Files) (bytes : List ℕ) (e : SettingsFault)
    → GivesOk (λ failed held. read_bytes failed held name) files bytes → (◌≢◌ {A = Result SettingsFacts SettingsFault} (Err e) (Err settings.NoMemory) → Err e ≡ read bytes) → Refuses (parsed name read BadSettings) files (settings_fault e)
settings-refused name read files bytes settings.NoMemory h r = tt
settings-refused name read files bytes settings.Toml h r = was-read name read BadSettings files bytes (Err settings.Toml) h (r (λ x. cc))
settings-refused name read files bytes (settings.UnknownKey n) h r = was-read name read BadSettings files bytes (Err (settings.UnknownKey n)) h (r (λ x. cc))
settings-refused name read files bytes settings.NoScheme h r = was-read name read BadSettings files bytes (Err settings.NoScheme) h (r (λ x. cc))
settings-refused name read files bytes settings.BadScheme h r = was-read name read BadSettings files bytes (Err settings.BadScheme) h (r (λ x. cc))
settings-refused name read files bytes settings.BadGrades h r = was-read name read BadSettings files bytes (Err settings.BadGrades) h (r (λ x. cc))
settings-refused name read files bytes settings.TooMany h r = was-read name read BadSettings files bytes (Err settings.TooMany) h (r (λ x. cc))
settings-refused name read files bytes (settings.BadGrade n) h r = was-read name read BadSettings files bytes (Err (settings.BadGrade n)) h (r (λ x. cc))

pub settings-refused-if : (name : FileName) (read : List ℕ → Result SettingsFacts SettingsFault) (held : Option Files) (bytes : List ℕ) (e : SettingsFault)
    → IfSome held (λ files. GivesOk (λ failed held. read_bytes failed held name) files bytes) → (◌≢◌ {A = Result SettingsFacts SettingsFault} (Err e) (Err settings.NoMemory) → Err e ≡ read bytes) → IfSome held (λ files. Refuses (parsed name read BadSettings) files (settings_fault e))
settings-refused-if name read None bytes e h r = tt
settings-refused-if name read (Some files) bytes e h r = settings-refused name read files bytes e h r

class-refused : (name : FileName) (read : List ℕ → Result ClassLists ClassFault) (files : Files) (bytes : List ℕ) (e : ClassFault)
    → GivesOk (λ failed held. read_bytes failed held name) files bytes → (◌≢◌ {A = Result ClassLists ClassFault} (Err e) (Err class.NoMemory) → Err e ≡ read bytes) → Refuses (parsed name read BadClasses) files (class_fault e)
class-refused name read files bytes class.NoMemory h r = tt
class-refused name read files bytes (class.Csv n) h r = was-read name read BadClasses files bytes (Err (class.Csv n)) h (r (λ x. cc))
class-refused name read files bytes class.Header h r = was-read name read BadClasses files bytes (Err class.Header) h (r (λ x. cc))
class-refused name read files bytes (class.UnknownAxis n) h r = was-read name read BadClasses files bytes (Err (class.UnknownAxis n)) h (r (λ x. cc))
class-refused name read files bytes (class.BadCode n) h r = was-read name read BadClasses files bytes (Err (class.BadCode n)) h (r (λ x. cc))
class-refused name read files bytes (class.UnknownKind n) h r = was-read name read BadClasses files bytes (Err (class.UnknownKind n)) h (r (λ x. cc))
class-refused name read files bytes (class.UnknownGroup n) h r = was-read name read BadClasses files bytes (Err (class.UnknownGroup n)) h (r (λ x. cc))
class-refused name read files bytes (class.Duplicate n) h r = was-read name read BadClasses files bytes (Err (class.Duplicate n)) h (r (λ x. cc))
class-refused name read files bytes (class.TooMany a) h r = was-read name read BadClasses files bytes (Err (class.TooMany a)) h (r (λ x. cc))

pub class-refused-if : (name : FileName) (read : List ℕ → Result ClassLists ClassFault) (held : Option Files) (bytes : List ℕ) (e : ClassFault)
    → IfSome held (λ files. GivesOk (λ failed held. read_bytes failed held name) files bytes) → (◌≢◌ {A = Result ClassLists ClassFault} (Err e) (Err class.NoMemory) → Err e ≡ read bytes) → IfSome held (λ files. Refuses (parsed name read BadClasses) files (class_fault e))
class-refused-if name read None bytes e h r = tt
class-refused-if name read (Some files) bytes e h r = class-refused name read files bytes e h r

row-refused : (P : InputFault → Type 0) (cause : RowFault) (e : SourceFault) → P NoMemory → (cause ≢ row.NoMemory → P (BadSource e)) → P (unless_no_memory cause e)
row-refused P row.NoMemory e none some = none
row-refused P row.Csv e none some = some (λ x. cc)
row-refused P row.Header e none some = some (λ x. cc)
row-refused P row.UnknownKind e none some = some (λ x. cc)
row-refused P (row.UnknownCode f) e none some = some (λ x. cc)
row-refused P (row.NotEmpty f) e none some = some (λ x. cc)
row-refused P row.WrongService e none some = some (λ x. cc)
row-refused P (row.NotNumber f) e none some = some (λ x. cc)
row-refused P (row.OutOfRange f) e none some = some (λ x. cc)
row-refused P row.UnknownGrade e none some = some (λ x. cc)
row-refused P row.BadPenalty e none some = some (λ x. cc)
row-refused P row.NoTarget e none some = some (λ x. cc)
row-refused P row.Crossed e none some = some (λ x. cc)
row-refused P (row.Duplicate n) e none some = some (λ x. cc)
row-refused P row.TooMany e none some = some (λ x. cc)

source-refused : (name : FileName) (read : List ℕ → Result ProblemFacts SourceFault) (files : Files) (bytes : List ℕ) (e : SourceFault)
    → GivesOk (λ failed held. read_bytes failed held name) files bytes → (e.cause ≢ row.NoMemory → Err e ≡ read bytes) → Refuses (parsed name read BadSource) files (source_fault e)
source-refused name read files bytes e h r =
    row-refused (Refuses (parsed name read BadSource) files) e.cause e tt (λ other. was-read name read BadSource files bytes (Err e) h (r other))

pub source-refused-if : (name : FileName) (read : List ℕ → Result ProblemFacts SourceFault) (held : Option Files) (bytes : List ℕ) (e : SourceFault)
    → IfSome held (λ files. GivesOk (λ failed held. read_bytes failed held name) files bytes) → (e.cause ≢ row.NoMemory → Err e ≡ read bytes) → IfSome held (λ files. Refuses (parsed name read BadSource) files (source_fault e))
source-refused-if name read None bytes e h r = tt
source-refused-if name read (Some files) bytes e h r = source-refused name read files bytes e h r
