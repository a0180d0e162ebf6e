-- Steps of reading in a row.
use Rattle.std.proofs.Common.{◌≡◌, ◌≤◌, ◌∙◌, ℕ, false, List, [], ◌∷◌, Option, Some, None, Result, Ok, Err, Contains, IfSome, ap, sym, subst, refl, arith, if◌then◌else◌}
use Rattle.sut_outside.specs.declared.names.FileName.{FileName}
use Rattle.sut_outside.specs.declared.names.FileName.TheVariants.{SettingsToml, ClassesCsv}
use Rattle.sut_outside.specs.Files.{Files, SameFiles, Told}
use Rattle.sut_outside.specs.Causes.{Rose}
use Rattle.sut_outside.specs.Deliveries.{same_name}
use Rattle.sut_outside.specs.Entry.{bytes_or}
use Rattle.sut_outside.proofs.Told.{same_files, told_then}
use Rattle.sut_records.specs.FirstFault.{and_then, fault_as}
use Rattle.sut_classes.specs.ClassLists.{ClassLists}
use Rattle.sut_settings.specs.SettingsFacts.{SettingsFacts}
use Rattle.sut_tables.specs.ProblemFacts.{ProblemFacts}
use Rattle.sut_input.specs.declared.faults.InputFault.{InputFault}
use Rattle.sut_input.specs.declared.faults.InputFault.TheVariants.{Missing, TooLong, ReadFault, BadSettings, BadClasses, BadSource, NoMemory}
use Rattle.sut_input.specs.Reads.{FailsAmong, FailsBy, GivesOk, IfFailed, Refuses, Step}
use Rattle.sut_input.specs.Inputs.{IsSource, classes_in, given, parsed, problem_in, settings_in, source_in, then_step}

-- what two calls keep
pub kept-twice : (a b c : Option Files) → Told a b SameFiles → Told b c SameFiles → Told a c SameFiles
kept-twice a b c p q = told_then SameFiles SameFiles SameFiles (λ x y z p q name. q name ∙ p name) a b c p q

-- a fact on the files after a call that kept them
pub told-back : (P : Files → Type 0) (a b : Option Files) → Told a b SameFiles → IfSome b P → IfSome a P
told-back P None b k h = tt
told-back P (Some old) None k h = absurd k
told-back P (Some old) (Some new) k h = subst P (same_files old new k) h

-- a step that is refused
first-refused : {A B : Type 0} (first : Step A) (next : A → Step B) (files : Files) (fault : InputFault) → Refuses first files fault → Refuses (then_step first next) files fault
first-refused first next files NoMemory h = tt
first-refused first next files (ReadFault n) h = ap (λ r. and_then r (λ a. next a (Some n) files)) h
first-refused first next files (Missing n) h = ap (λ r. and_then r (λ a. next a None files)) h
first-refused first next files (TooLong n) h = ap (λ r. and_then r (λ a. next a None files)) h
first-refused first next files (BadSettings e) h = ap (λ r. and_then r (λ a. next a None files)) h
first-refused first next files (BadClasses e) h = ap (λ r. and_then r (λ a. next a None files)) h
first-refused first next files (BadSource e) h = ap (λ r. and_then r (λ a. next a None files)) h

-- a step that was made, and then one that is refused; a later read that fails doesn't change what it gave
next-refused : {A B : Type 0} (first : Step A) (next : A → Step B) (a : A) (files : Files) (fault : InputFault) → GivesOk first files a
    → IfFailed fault (λ name. first (Some name) files ≡ Ok a) → Refuses (next a) files fault → Refuses (then_step first next) files fault
next-refused first next a files NoMemory e away h = tt
next-refused first next a files (ReadFault n) e away h = ap (λ r. and_then r (λ a. next a (Some n) files)) away ∙ h
next-refused first next a files (Missing n) e away h = ap (λ r. and_then r (λ a. next a None files)) e ∙ h
next-refused first next a files (TooLong n) e away h = ap (λ r. and_then r (λ a. next a None files)) e ∙ h
next-refused first next a files (BadSettings f) e away h = ap (λ r. and_then r (λ a. next a None files)) e ∙ h
next-refused first next a files (BadClasses f) e away h = ap (λ r. and_then r (λ a. next a None files)) e ∙ h
next-refused first next a files (BadSource f) e away h = ap (λ r. and_then r (λ a. next a None files)) e ∙ h

next-given : {A B : Type 0} (first : Step A) (next : A → Step B) (a : A) (b : B) (files : Files) → GivesOk first files a → GivesOk (next a) files b → GivesOk (then_step first next) files b
next-given first next a b files e h = ap (λ r. and_then r (λ a. next a None files)) e ∙ h

if-failed : (P Q : FileName → Type 0) (fault : InputFault) → ((name : FileName) → P name → Q name) → IfFailed fault P → IfFailed fault Q
if-failed P Q (ReadFault n) f h = f n h
if-failed P Q NoMemory f h = tt
if-failed P Q (Missing n) f h = tt
if-failed P Q (TooLong n) f h = tt
if-failed P Q (BadSettings e) f h = tt
if-failed P Q (BadClasses e) f h = tt
if-failed P Q (BadSource e) f h = tt

-- another read that fails leaves this one as it is
unfailed : {A F : Type 0} (name other : FileName) (read : List ℕ → Result A F) (bad : F → InputFault) (files : Files) (a : A)
    → same_name other name ≡ false → GivesOk (parsed name read bad) files a → parsed name read bad (Some other) files ≡ Ok a
unfailed name other read bad files a e h =
    ap (λ b. and_then (if b then Err (ReadFault name) else bytes_or (Missing name) (TooLong name) (files name)) (λ bytes. fault_as bad (read bytes))) e ∙ h

-- ---- the three files

module _ (source : FileName) where
  settings-refused-first : (files : Files) (fault : InputFault) → Refuses settings_in files fault → Refuses (problem_in source) files fault
  settings-refused-first files fault h = first-refused settings_in (λ s. then_step classes_in (λ cs. then_step (source_in source s cs) (λ p. given (s, p)))) files fault h

  classes-refused-next : (s : SettingsFacts) (files : Files) (fault : InputFault) → GivesOk settings_in files s → IfFailed fault (λ name. name ≡ ClassesCsv)
      → Refuses classes_in files fault → Refuses (problem_in source) files fault
  classes-refused-next s files fault e name h =
      next-refused settings_in (λ s. then_step classes_in (λ cs. then_step (source_in source s cs) (λ p. given (s, p)))) s files fault e
      (if-failed (λ n. n ≡ ClassesCsv) (λ n. settings_in (Some n) files ≡ Ok s) fault (λ n q. subst (λ m. settings_in (Some m) files ≡ Ok s) (sym q) e) name)
      (first-refused classes_in (λ cs. then_step (source_in source s cs) (λ p. given (s, p))) files fault h)

  source-refused-last : IsSource source → (s : SettingsFacts) (cs : ClassLists) (files : Files) (fault : InputFault) → GivesOk settings_in files s → GivesOk classes_in files cs
      → IfFailed fault (λ name. name ≡ source) → Refuses (source_in source s cs) files fault → Refuses (problem_in source) files fault
  source-refused-last other s cs files fault es ec name h =
      next-refused settings_in (λ s. then_step classes_in (λ cs. then_step (source_in source s cs) (λ p. given (s, p)))) s files fault es
      (if-failed (λ n. n ≡ source) (λ n. settings_in (Some n) files ≡ Ok s) fault (λ n q. subst (λ m. settings_in (Some m) files ≡ Ok s) (sym q) (unfailed SettingsToml source _ BadSettings files s other.not_settings es)) name)
      (next-refused classes_in (λ cs. then_step (source_in source s cs) (λ p. given (s, p))) cs files fault ec
      (if-failed (λ n. n ≡ source) (λ n. classes_in (Some n) files ≡ Ok cs) fault (λ n q. subst (λ m. classes_in (Some m) files ≡ Ok cs) (sym q) (unfailed ClassesCsv source _ BadClasses files cs other.not_classes ec)) name)
      (first-refused (source_in source s cs) (λ p. given (s, p)) files fault h))

  problem-given : (s : SettingsFacts) (cs : ClassLists) (p : ProblemFacts) (files : Files) → GivesOk settings_in files s → GivesOk classes_in files cs → GivesOk (source_in source s cs) files p
      → problem_in source None files ≡ Ok (s, p)
  problem-given s cs p files es ec ep =
      next-given settings_in (λ s. then_step classes_in (λ cs. then_step (source_in source s cs) (λ p. given (s, p)))) s (s, p) files es
      (next-given classes_in (λ cs. then_step (source_in source s cs) (λ p. given (s, p))) cs (s, p) files ec
      (next-given (source_in source s cs) (λ p. given (s, p)) p (s, p) files ep refl))

  -- the same where the files are told

  pub settings-refused-told : (held : Option Files) (fault : InputFault) → IfSome held (λ files. Refuses settings_in files fault) → IfSome held (λ files. Refuses (problem_in source) files fault)
  settings-refused-told None fault h = tt
  settings-refused-told (Some files) fault h = settings-refused-first files fault h

  pub classes-refused-told : (held : Option Files) (s : SettingsFacts) (fault : InputFault) → IfSome held (λ files. GivesOk settings_in files s) → IfFailed fault (λ name. name ≡ ClassesCsv)
      → IfSome held (λ files. Refuses classes_in files fault) → IfSome held (λ files. Refuses (problem_in source) files fault)
  classes-refused-told None s fault e name h = tt
  classes-refused-told (Some files) s fault e name h = classes-refused-next s files fault e name h

  pub source-refused-told : IsSource source → (held : Option Files) (s : SettingsFacts) (cs : ClassLists) (fault : InputFault) → IfSome held (λ files. GivesOk settings_in files s) → IfSome held (λ files. GivesOk classes_in files cs)
      → IfFailed fault (λ name. name ≡ source) → IfSome held (λ files. Refuses (source_in source s cs) files fault) → IfSome held (λ files. Refuses (problem_in source) files fault)
  source-refused-told other None s cs fault es ec name h = tt
  source-refused-told other (Some files) s cs fault es ec name h = source-refused-last other s cs files fault es ec name h

  pub problem-told : (held : Option Files) (s : SettingsFacts) (cs : ClassLists) (p : ProblemFacts) → IfSome held (λ files. GivesOk settings_in files s) → IfSome held (λ files. GivesOk classes_in files cs)
      → IfSome held (λ files. GivesOk (source_in source s cs) files p) → IfSome held (λ files. problem_in source None files ≡ Ok (s, p))
  problem-told None s cs p es ec ep = tt
  problem-told (Some files) s cs p es ec ep = problem-given s cs p files es ec ep

-- ---- failed reads

pub only-name : (name : FileName) (before now : ℕ) (last : Option FileName) (fault : InputFault) → FailsBy name before now last fault → IfFailed fault (λ failed. failed ≡ name)
only-name name before now last fault h = if-failed (λ failed. Rose before now × (last ≡ Some failed) × (failed ≡ name)) (λ failed. failed ≡ name) fault (λ n q. q.2) h

-- a failed read after calls that did not lower the count
pub fails-later : (names : List FileName) (name : FileName) → Contains names name → (before between now : ℕ) (last : Option FileName) (fault : InputFault) → before ≤ between
    → FailsBy name between now last fault → FailsAmong names before now last fault
fails-later names name among before between now last fault later h =
    if-failed (λ failed. Rose between now × (last ≡ Some failed) × (failed ≡ name)) (λ failed. Rose before now × (last ≡ Some failed) × Contains names failed) fault
    (λ n q. (omega (arith, later, q.0), q.1, subst (Contains names) (sym q.2) among)) h

pub first-of : (source : FileName) → Contains (SettingsToml ∷ ClassesCsv ∷ source ∷ []) SettingsToml
first-of source = (0, omega arith, refl)

pub second-of : (source : FileName) → Contains (SettingsToml ∷ ClassesCsv ∷ source ∷ []) ClassesCsv
second-of source = (1, omega arith, refl)

pub third-of : (source : FileName) → Contains (SettingsToml ∷ ClassesCsv ∷ source ∷ []) source
third-of source = (2, omega arith, refl)
