-- Steps of reading in a row, with the faults of any reader.
use Rattle.std.proofs.Common.{◌≡◌, ◌≤◌, ◌∙◌, ℕ, zero, suc, List, [], ◌∷◌, ◌++◌, Option, Some, None, Result, Ok, Err, Contains, IfSome, ap, sym, subst, arith}
use Rattle.std.specs.Prelude.{IfErr, IfOk}
use Rattle.sut_outside.specs.declared.names.FileName.{FileName}
use Rattle.sut_outside.specs.declared.names.FileName.TheVariants.{SourceCsv}
use Rattle.sut_outside.specs.Files.{Files}
use Rattle.sut_outside.specs.Causes.{Rose}
use Rattle.sut_records.specs.FirstFault.{and_then, fault_as}
use Rattle.sut_settings.specs.SettingsFacts.{SettingsFacts}
use Rattle.sut_tables.specs.ProblemFacts.{ProblemFacts}
use Rattle.sut_input.specs.declared.faults.InputFault.{InputFault}
use Rattle.sut_input.specs.declared.faults.InputFault.TheVariants.{Missing, TooLong, ReadFault, BadSettings, BadClasses, BadSource, NoMemory}
use Rattle.sut_input.specs.Reads.{FailsAmong, FailsBy, GivesOk, Refuses, Step}
use Rattle.sut_input.specs.Inputs.{problem_in, problem_names, read_bytes}
use Rattle.sut_input.specs.Following.{FailsIn, IfReadFailed, RefusesAs, StepOf, UnlessNoMemory, after_problem, failed_read, following}

-- facts on refusals but want of memory
pub unless-as : (P Q : Type 0) → (P → Q) → (part : Option InputFault) → UnlessNoMemory part P → UnlessNoMemory part Q
unless-as P Q f None h = f h
unless-as P Q f (Some NoMemory) h = tt
unless-as P Q f (Some (Missing n)) h = f h
unless-as P Q f (Some (TooLong n)) h = f h
unless-as P Q f (Some (ReadFault n)) h = f h
unless-as P Q f (Some (BadSettings e)) h = f h
unless-as P Q f (Some (BadClasses e)) h = f h
unless-as P Q f (Some (BadSource e)) h = f h

-- facts on a failed read's name
pub if-failed : (P Q : FileName → Type 0) → ((name : FileName) → P name → Q name) → (part : Option InputFault) → IfReadFailed part P → IfReadFailed part Q
if-failed P Q f None h = tt
if-failed P Q f (Some NoMemory) h = tt
if-failed P Q f (Some (Missing n)) h = tt
if-failed P Q f (Some (TooLong n)) h = tt
if-failed P Q f (Some (ReadFault n)) h = f n h
if-failed P Q f (Some (BadSettings e)) h = tt
if-failed P Q f (Some (BadClasses e)) h = tt
if-failed P Q f (Some (BadSource e)) h = tt

-- a refusal of one of the files before
refused-part : {A : Type 0} (step : Step A) (files : Files) (fault : InputFault) → Refuses step files fault → UnlessNoMemory (Some fault) (step (failed_read (Some fault)) files ≡ Err fault)
refused-part step files NoMemory h = tt
refused-part step files (ReadFault n) h = h
refused-part step files (Missing n) h = h
refused-part step files (TooLong n) h = h
refused-part step files (BadSettings e) h = h
refused-part step files (BadClasses e) h = h
refused-part step files (BadSource e) h = h

failed-part : (names : List FileName) (before now : ℕ) (last : Option FileName) (fault : InputFault) → FailsAmong names before now last fault
    → IfReadFailed (Some fault) (λ failed. Rose before now × (last ≡ Some failed) × Contains names failed)
failed-part names before now last NoMemory h = tt
failed-part names before now last (ReadFault n) h = h
failed-part names before now last (Missing n) h = tt
failed-part names before now last (TooLong n) h = tt
failed-part names before now last (BadSettings e) h = tt
failed-part names before now last (BadClasses e) h = tt
failed-part names before now last (BadSource e) h = tt

named-part : (name : FileName) (before now : ℕ) (last : Option FileName) (fault : InputFault) → FailsBy name before now last fault
    → IfReadFailed (Some fault) (λ failed. Rose before now × (last ≡ Some failed) × Contains (name ∷ []) failed)
named-part name before now last NoMemory h = tt
named-part name before now last (ReadFault n) h = (h.0, h.1, (0, omega arith, sym h.2))
named-part name before now last (Missing n) h = tt
named-part name before now last (TooLong n) h = tt
named-part name before now last (BadSettings e) h = tt
named-part name before now last (BadClasses e) h = tt
named-part name before now last (BadSource e) h = tt

-- a later read that fails doesn't change what a step gave
pub given-part : {A E : Type 0} (step : StepOf E A) (files : Files) (a : A) (N : FileName → Type 0) → ((name : FileName) → N name → step (Some name) files ≡ step None files)
    → (part : Option InputFault) → IfReadFailed part N → step None files ≡ Ok a → step (failed_read part) files ≡ Ok a
given-part step files a N still None h e = e
given-part step files a N still (Some NoMemory) h e = e
given-part step files a N still (Some (Missing n)) h e = e
given-part step files a N still (Some (TooLong n)) h e = e
given-part step files a N still (Some (ReadFault n)) h e = still n h ∙ e
given-part step files a N still (Some (BadSettings f)) h e = e
given-part step files a N still (Some (BadClasses f)) h e = e
given-part step files a N still (Some (BadSource f)) h e = e

-- nothing is said
pub nothing-told : (held : Option Files) → IfSome held (λ files. Unit {0})
nothing-told None = tt
nothing-told (Some files) = tt

-- facts on what a call gave, or on its fault
pub ok-as : {A E : Type 0} (r : Result A E) (P Q : A → Type 0) → ((a : A) → P a → Q a) → IfOk r P → IfOk r Q
ok-as (Ok a) P Q f h = f a h
ok-as (Err e) P Q f h = tt

pub err-as : {A E : Type 0} (r : Result A E) (P Q R : E → Type 0) → ((e : E) → P e → Q e → R e) → IfErr r P → IfErr r Q → IfErr r R
err-as (Ok a) P Q R f h k = tt
err-as (Err e) P Q R f h k = f e h k

-- a list of one name
pub only-one : (name failed : FileName) → Contains (name ∷ []) failed → failed ≡ name
only-one name failed (zero, below, is) = sym is
only-one name failed (suc k, below, is) = absurd (omega arith)

module _ {E : Type 0} (part : E → Option InputFault) where
  -- ---- two steps

  pub first-refused : {A B : Type 0} (first : StepOf E A) (next : A → StepOf E B) (files : Files) (fault : E) → RefusesAs part first files fault
      → RefusesAs part (λ failed held. and_then (first failed held) (λ a. next a failed held)) files fault
  first-refused first next files fault h =
      unless-as (first (failed_read (part fault)) files ≡ Err fault) (and_then (first (failed_read (part fault)) files) (λ a. next a (failed_read (part fault)) files) ≡ Err fault)
      (λ e. ap (λ r. and_then r (λ a. next a (failed_read (part fault)) files)) e) (part fault) h

  pub next-refused : {A B : Type 0} (first : StepOf E A) (next : A → StepOf E B) (a : A) (files : Files) (fault : E) → first (failed_read (part fault)) files ≡ Ok a
      → RefusesAs part (next a) files fault → RefusesAs part (λ failed held. and_then (first failed held) (λ a. next a failed held)) files fault
  next-refused first next a files fault e h =
      unless-as (next a (failed_read (part fault)) files ≡ Err fault) (and_then (first (failed_read (part fault)) files) (λ a. next a (failed_read (part fault)) files) ≡ Err fault)
      (λ r. ap (λ w. and_then w (λ a. next a (failed_read (part fault)) files)) e ∙ r) (part fault) h

  -- ---- failed reads

  -- among more names, after calls that did not lower the count
  pub fails-later : (few names : List FileName) → ((name : FileName) → Contains few name → Contains names name) → (before between now : ℕ) (last : Option FileName) (fault : E) → before ≤ between
      → FailsIn part few between now last fault → FailsIn part names before now last fault
  fails-later few names within before between now last fault later h =
      if-failed (λ failed. Rose between now × (last ≡ Some failed) × Contains few failed) (λ failed. Rose before now × (last ≡ Some failed) × Contains names failed)
      (λ n q. (omega (arith, later, q.0), q.1, within n q.2)) (part fault) h

  -- the name alone
  pub only-names : (names : List FileName) (before now : ℕ) (last : Option FileName) (fault : E) → FailsIn part names before now last fault → IfReadFailed (part fault) (Contains names)
  only-names names before now last fault h = if-failed (λ failed. Rose before now × (last ≡ Some failed) × Contains names failed) (Contains names) (λ n q. q.2) (part fault) h

  module _ (input : InputFault → E) (is : (e : InputFault) → part (input e) ≡ Some e) where
    -- ---- the files before

    pub input-refused : {A : Type 0} (step : Step A) (files : Files) (fault : InputFault) → Refuses step files fault → RefusesAs part (λ failed held. fault_as input (step failed held)) files (input fault)
    input-refused step files fault h =
        subst (λ (o : Option InputFault). UnlessNoMemory o (fault_as input (step (failed_read o) files) ≡ Err (input fault))) (sym (is fault))
        (unless-as (step (failed_read (Some fault)) files ≡ Err fault) (fault_as input (step (failed_read (Some fault)) files) ≡ Err (input fault)) (λ e. ap (fault_as input) e) (Some fault) (refused-part step files fault h))

    pub fails-among : (names : List FileName) (before now : ℕ) (last : Option FileName) (fault : InputFault) → FailsAmong names before now last fault → FailsIn part names before now last (input fault)
    fails-among names before now last fault h =
        subst (λ (o : Option InputFault). IfReadFailed o (λ failed. Rose before now × (last ≡ Some failed) × Contains names failed)) (sym (is fault)) (failed-part names before now last fault h)

    pub fails-by : (name : FileName) (before now : ℕ) (last : Option FileName) (fault : InputFault) → FailsBy name before now last fault → FailsIn part (name ∷ []) before now last (input fault)
    fails-by name before now last fault h =
        subst (λ (o : Option InputFault). IfReadFailed o (λ failed. Rose before now × (last ≡ Some failed) × Contains (name ∷ []) failed)) (sym (is fault)) (named-part name before now last fault h)

    -- ---- a file

    module _ {A F : Type 0} (bad : F → E) (name : FileName) (read : List ℕ → Result A F) where
      pub not-read : (held : Option Files) (fault : InputFault) → IfSome held (λ files. Refuses (λ failed told. read_bytes failed told name) files fault)
          → IfSome held (λ files. RefusesAs part (following input bad name read) files (input fault))
      not-read None fault h = tt
      not-read (Some files) fault h =
          first-refused (λ failed told. fault_as input (read_bytes failed told name)) (λ bytes failed told. fault_as bad (read bytes)) files (input fault)
          (input-refused (λ failed told. read_bytes failed told name) files fault h)

      was-read : (files : Files) (bytes : List ℕ) (r : Result A F) → GivesOk (λ failed told. read_bytes failed told name) files bytes → r ≡ read bytes → following input bad name read None files ≡ fault_as bad r
      was-read files bytes r h e = ap (λ w. and_then (fault_as input w) (λ bytes. fault_as bad (read bytes))) h ∙ ap (fault_as bad) (sym e)

      pub file-given : (held : Option Files) (bytes : List ℕ) (a : A) → IfSome held (λ files. GivesOk (λ failed told. read_bytes failed told name) files bytes) → Ok a ≡ read bytes
          → IfSome held (λ files. following input bad name read None files ≡ Ok a)
      file-given None bytes a h e = tt
      file-given (Some files) bytes a h e = was-read files bytes (Ok a) h e

      pub file-bad : (files : Files) (bytes : List ℕ) (e : F) → GivesOk (λ failed told. read_bytes failed told name) files bytes → Err e ≡ read bytes → following input bad name read None files ≡ Err (bad e)
      file-bad files bytes e h r = was-read files bytes (Err e) h r

    -- ---- after the problem

    module _ {A : Type 0} (next : ProblemFacts → StepOf E A) where
      pub problem-refused : (held : Option Files) (fault : InputFault) → IfSome held (λ files. Refuses (problem_in SourceCsv) files fault)
          → IfSome held (λ files. RefusesAs part (after_problem input next) files (input fault))
      problem-refused None fault h = tt
      problem-refused (Some files) fault h =
          first-refused (λ failed told. fault_as input (problem_in SourceCsv failed told)) (λ given failed told. and_then (next given.1 failed told) (λ a. Ok (given, a))) files (input fault)
          (input-refused (problem_in SourceCsv) files fault h)

      -- a read of this name that fails leaves the problem as it is
      pub after-refused : (name : FileName) → ((files : Files) → problem_in SourceCsv (Some name) files ≡ problem_in SourceCsv None files)
          → (held : Option Files) (s : SettingsFacts) (p : ProblemFacts) (fault : E) → IfReadFailed (part fault) (Contains (name ∷ [])) → IfSome held (λ files. problem_in SourceCsv None files ≡ Ok (s, p))
          → IfSome held (λ files. RefusesAs part (next p) files fault) → IfSome held (λ files. RefusesAs part (after_problem input next) files fault)
      after-refused name still None s p fault only e h = tt
      after-refused name still (Some files) s p fault only e h =
          next-refused (λ failed told. fault_as input (problem_in SourceCsv failed told)) (λ given failed told. and_then (next given.1 failed told) (λ a. Ok (given, a))) (s, p) files fault
          (given-part (λ failed told. fault_as input (problem_in SourceCsv failed told)) files (s, p) (Contains (name ∷ []))
          (λ n q. subst (λ m. fault_as input (problem_in SourceCsv (Some m) files) ≡ fault_as input (problem_in SourceCsv None files)) (sym (only-one name n q)) (ap (fault_as input) (still files)))
          (part fault) only (ap (fault_as input) e))
          (first-refused (next p) (λ a failed told. Ok ((s, p), a)) files fault h)

      pub after-given : (held : Option Files) (s : SettingsFacts) (p : ProblemFacts) (a : A) → IfSome held (λ files. problem_in SourceCsv None files ≡ Ok (s, p)) → IfSome held (λ files. next p None files ≡ Ok a)
          → IfSome held (λ files. after_problem input next None files ≡ Ok ((s, p), a))
      after-given None s p a e h = tt
      after-given (Some files) s p a e h =
          ap (λ r. and_then (fault_as input r) (λ given. and_then (next given.1 None files) (λ a. Ok (given, a)))) e ∙ ap (λ r. and_then r (λ a. Ok ((s, p), a))) h

-- ---- the names of the problem's files, and one more

pub first-names : (more name : FileName) → Contains (problem_names SourceCsv) name → Contains (problem_names SourceCsv ++ more ∷ []) name
first-names more name (zero, below, is) = (0, omega arith, is)
first-names more name (suc zero, below, is) = (1, omega arith, is)
first-names more name (suc (suc zero), below, is) = (2, omega arith, is)
first-names more name (suc (suc (suc k)), below, is) = absurd (omega arith)

pub last-name : (more name : FileName) → Contains (more ∷ []) name → Contains (problem_names SourceCsv ++ more ∷ []) name
last-name more name (zero, below, is) = (3, omega arith, is)
last-name more name (suc k, below, is) = absurd (omega arith)
