-- Steps of reading in a row.
use Rattle.std.proofs.Common.{◌≡◌, ◌≤◌, ◌∙◌, ℕ, List, [], ◌∷◌, Option, Some, None, Result, Ok, Err, Contains, IfSome, ap, sym, arith}
use Rattle.std.specs.Prelude.{IfErr, IfOk}
use Rattle.sut_outside.specs.declared.names.FileName.{FileName}
use Rattle.sut_outside.specs.Files.{Files}
use Rattle.sut_outside.specs.Causes.{Rose}
use Rattle.sut_records.specs.FirstFault.{and_then, fault_as}
use Rattle.sut_input.specs.declared.faults.InputFault.{InputFault}
use Rattle.sut_input.specs.declared.faults.InputFault.TheVariants as input
use Rattle.sut_input.specs.Reads.{FailsBy, GivesOk}
use Rattle.sut_input.specs.Reads as reads
use Rattle.sut_input.specs.Inputs.{read_bytes}
use Rattle.sut_check.specs.declared.faults.CheckFault.{CheckFault}
use Rattle.sut_check.specs.declared.faults.CheckFault.TheVariants.{Input, BadCertificate, BadTable}
use Rattle.sut_check.specs.Claims.{CheckStep, FailsIn, IfReadFailed, Refuses, UnlessNoMemory, failed_read, parsed}

-- facts where the files are told
pub if-told : (P Q : Files → Type 0) → ((files : Files) → P files → Q files) → (held : Option Files) → IfSome held P → IfSome held Q
if-told P Q f None h = tt
if-told P Q f (Some files) h = f files h

pub if-both : (P Q R : Files → Type 0) → ((files : Files) → P files → Q files → R files) → (held : Option Files) → IfSome held P → IfSome held Q → IfSome held R
if-both P Q R f None h k = tt
if-both P Q R f (Some files) h k = f files h k

-- facts on what a call gave, or on its fault
pub ok-as : {A E : Type 0} (r : Result A E) (P Q : A → Type 0) → ((a : A) → P a → Q a) → IfOk r P → IfOk r Q
ok-as (Ok a) P Q f h = f a h
ok-as (Err e) P Q f h = tt

pub err-as : {A E : Type 0} (r : Result A E) (P Q R : E → Type 0) → ((e : E) → P e → Q e → R e) → IfErr r P → IfErr r Q → IfErr r R
err-as (Ok a) P Q R f h k = tt
err-as (Err e) P Q R f h k = f e h k

-- facts on refusals but want of memory
pub unless-as : (P Q : Type 0) → (P → Q) → (fault : CheckFault) → UnlessNoMemory fault P → UnlessNoMemory fault Q
unless-as P Q f (Input input.NoMemory) h = tt
unless-as P Q f (Input (input.Missing n)) h = f h
unless-as P Q f (Input (input.TooLong n)) h = f h
unless-as P Q f (Input (input.ReadFault n)) h = f h
unless-as P Q f (Input (input.BadSettings e)) h = f h
unless-as P Q f (Input (input.BadClasses e)) h = f h
unless-as P Q f (Input (input.BadSource e)) h = f h
unless-as P Q f (BadCertificate e) h = f h
unless-as P Q f (BadTable e) h = f h

-- facts on a failed read's name
pub if-failed : (P Q : FileName → Type 0) → ((name : FileName) → P name → Q name) → (fault : CheckFault) → IfReadFailed fault P → IfReadFailed fault Q
if-failed P Q f (Input input.NoMemory) h = tt
if-failed P Q f (Input (input.Missing n)) h = tt
if-failed P Q f (Input (input.TooLong n)) h = tt
if-failed P Q f (Input (input.ReadFault n)) h = f n h
if-failed P Q f (Input (input.BadSettings e)) h = tt
if-failed P Q f (Input (input.BadClasses e)) h = tt
if-failed P Q f (Input (input.BadSource e)) h = tt
if-failed P Q f (BadCertificate e) h = tt
if-failed P Q f (BadTable e) h = tt

-- ---- two steps

-- a first step that is refused
pub first-refused : {A B : Type 0} (first : CheckStep A) (next : A → CheckStep B) (files : Files) (fault : CheckFault) → Refuses first files fault
    → Refuses (λ failed held. and_then (first failed held) (λ a. next a failed held)) files fault
first-refused first next files fault h =
    unless-as (first (failed_read fault) files ≡ Err fault) (and_then (first (failed_read fault) files) (λ a. next a (failed_read fault) files) ≡ Err fault)
    (λ e. ap (λ r. and_then r (λ a. next a (failed_read fault) files)) e) fault h

-- a later read that fails doesn't change what a step gave
pub given-still : {A : Type 0} (step : CheckStep A) (files : Files) (a : A) (N : FileName → Type 0) → ((name : FileName) → N name → step (Some name) files ≡ step None files)
    → (fault : CheckFault) → IfReadFailed fault N → step None files ≡ Ok a → step (failed_read fault) files ≡ Ok a
given-still step files a N other (Input input.NoMemory) h e = e
given-still step files a N other (Input (input.Missing n)) h e = e
given-still step files a N other (Input (input.TooLong n)) h e = e
given-still step files a N other (Input (input.ReadFault n)) h e = other n h ∙ e
given-still step files a N other (Input (input.BadSettings f)) h e = e
given-still step files a N other (Input (input.BadClasses f)) h e = e
given-still step files a N other (Input (input.BadSource f)) h e = e
given-still step files a N other (BadCertificate f) h e = e
given-still step files a N other (BadTable f) h e = e

-- a step that was made, and then one that is refused
pub next-refused : {A B : Type 0} (first : CheckStep A) (next : A → CheckStep B) (a : A) (files : Files) (fault : CheckFault) → first (failed_read fault) files ≡ Ok a
    → Refuses (next a) files fault → Refuses (λ failed held. and_then (first failed held) (λ a. next a failed held)) files fault
next-refused first next a files fault e h =
    unless-as (next a (failed_read fault) files ≡ Err fault) (and_then (first (failed_read fault) files) (λ a. next a (failed_read fault) files) ≡ Err fault)
    (λ r. ap (λ w. and_then w (λ a. next a (failed_read fault) files)) e ∙ r) fault h

-- ---- one file

module _ {A F : Type 0} (name : FileName) (read : List ℕ → Result A F) (bad : F → CheckFault) where
  -- it was not read
  pub not-read : (files : Files) (fault : InputFault) → reads.Refuses (λ failed held. read_bytes failed held name) files fault → Refuses (parsed name read bad) files (Input fault)
  not-read files input.NoMemory h = tt
  not-read files (input.ReadFault n) h = ap (λ r. and_then (fault_as Input r) (λ bytes. fault_as bad (read bytes))) h
  not-read files (input.Missing n) h = ap (λ r. and_then (fault_as Input r) (λ bytes. fault_as bad (read bytes))) h
  not-read files (input.TooLong n) h = ap (λ r. and_then (fault_as Input r) (λ bytes. fault_as bad (read bytes))) h
  not-read files (input.BadSettings e) h = ap (λ r. and_then (fault_as Input r) (λ bytes. fault_as bad (read bytes))) h
  not-read files (input.BadClasses e) h = ap (λ r. and_then (fault_as Input r) (λ bytes. fault_as bad (read bytes))) h
  not-read files (input.BadSource e) h = ap (λ r. and_then (fault_as Input r) (λ bytes. fault_as bad (read bytes))) h

  -- it was read, and this is what it gives
  pub was-read : (files : Files) (bytes : List ℕ) (r : Result A F) → GivesOk (λ failed held. read_bytes failed held name) files bytes → r ≡ read bytes → parsed name read bad None files ≡ fault_as bad r
  was-read files bytes r h e = ap (λ w. and_then (fault_as Input w) (λ bytes. fault_as bad (read bytes))) h ∙ ap (fault_as bad) (sym e)

-- ---- failed reads

-- a failed read of one file
pub fails-by : (name : FileName) (before now : ℕ) (last : Option FileName) (fault : InputFault) → FailsBy name before now last fault → FailsIn (name ∷ []) before now last (Input fault)
fails-by name before now last input.NoMemory h = tt
fails-by name before now last (input.Missing n) h = tt
fails-by name before now last (input.TooLong n) h = tt
fails-by name before now last (input.ReadFault n) h = (h.0, h.1, (0, omega arith, sym h.2))
fails-by name before now last (input.BadSettings e) h = tt
fails-by name before now last (input.BadClasses e) h = tt
fails-by name before now last (input.BadSource e) h = tt

-- a failed read after calls that did not lower the count, among more names
pub fails-later : (few names : List FileName) → ((name : FileName) → Contains few name → Contains names name) → (before between now : ℕ) (last : Option FileName) (fault : CheckFault) → before ≤ between
    → FailsIn few between now last fault → FailsIn names before now last fault
fails-later few names within before between now last fault later h =
    if-failed (λ failed. Rose between now × (last ≡ Some failed) × Contains few failed) (λ failed. Rose before now × (last ≡ Some failed) × Contains names failed)
    (λ n q. (omega (arith, later, q.0), q.1, within n q.2)) fault h
