-- Edits, read after the problem that they change.
use Rattle.std.proofs.Common.{◌≡◌, ◌≢◌, ◌≤◌, ◌∙◌, ℕ, zero, suc, List, [], ◌∷◌, Option, Some, None, Result, Ok, Err, Contains, IfSome, ap, sym, refl, subst, arith}
use Rattle.sut_outside.specs.declared.names.FileName.{FileName}
use Rattle.sut_outside.specs.declared.names.FileName.TheVariants.{SourceCsv, EditsCsv}
use Rattle.sut_outside.specs.Files.{Files}
use Rattle.sut_outside.specs.Causes.{Rose}
use Rattle.sut_records.specs.FirstFault.{and_then, fault_as}
use Rattle.sut_classes.specs.ClassLists.{ClassLists}
use Rattle.sut_settings.specs.SettingsFacts.{SettingsFacts}
use Rattle.sut_tables.specs.ProblemFacts.{ProblemFacts}
use Rattle.sut_edits.specs.EditsFile.{edits_of}
use Rattle.sut_edits.specs.declared.edits.EditLine.{EditLine}
use Rattle.sut_edits.specs.declared.faults.EditsCause.{EditsCause}
use Rattle.sut_edits.specs.declared.faults.EditsCause.TheVariants as edits
use Rattle.sut_edits.specs.declared.faults.EditsFault.{EditsFault}
use Rattle.sut_input.specs.declared.faults.InputFault.{InputFault}
use Rattle.sut_input.specs.declared.faults.InputFault.TheVariants as input
use Rattle.sut_input.specs.declared.edits.EditInputFault.{EditInputFault}
use Rattle.sut_input.specs.declared.edits.EditInputFault.TheVariants.{Input, BadEdits}
use Rattle.sut_input.specs.Reads.{FailsAmong, FailsBy, GivesOk, Refuses}
use Rattle.sut_input.specs.Inputs.{problem_in, problem_names, read_bytes}
use Rattle.sut_input.specs.EditInputs.{FailsIn, IfReadFailed, RefusesEdits, edit_input_in, edit_names, edited_in, edits_fault, edits_in, edits_unless_no_memory}

-- ---- the edits

edits-cause : (P : EditInputFault → Type 0) (cause : EditsCause) (e : EditsFault) → P (Input input.NoMemory) → (cause ≢ edits.NoMemory → P (BadEdits e)) → P (edits_unless_no_memory cause e)
edits-cause P edits.NoMemory e none some = none
edits-cause P edits.Csv e none some = some (λ x. cc)
edits-cause P edits.Header e none some = some (λ x. cc)
edits-cause P edits.UnknownEdit e none some = some (λ x. cc)
edits-cause P (edits.NotEmpty f) e none some = some (λ x. cc)
edits-cause P (edits.BadRow f) e none some = some (λ x. cc)
edits-cause P edits.TooMany e none some = some (λ x. cc)
edits-cause P edits.NoRow e none some = some (λ x. cc)
edits-cause P edits.RowThere e none some = some (λ x. cc)
edits-cause P edits.Full e none some = some (λ x. cc)
edits-cause P edits.NoReviewer e none some = some (λ x. cc)

-- its faults are no failed reads
pub edits-no-read : (P : FileName → Type 0) (e : EditsFault) → IfReadFailed (edits_fault e) P
edits-no-read P e = edits-cause (λ f. IfReadFailed f P) e.cause e tt (λ other. tt)

module _ (s : SettingsFacts) (cs : ClassLists) where
  absent : (files : Files) (fault : InputFault) → Refuses (λ failed held. read_bytes failed held EditsCsv) files fault → RefusesEdits (edits_in s cs) files (Input fault)
  unfolding edits_in
  absent files input.NoMemory h = tt
  absent files (input.ReadFault n) h = ap (λ r. and_then (fault_as Input r) (λ bytes. fault_as BadEdits (edits_of s cs bytes))) h
  absent files (input.Missing n) h = ap (λ r. and_then (fault_as Input r) (λ bytes. fault_as BadEdits (edits_of s cs bytes))) h
  absent files (input.TooLong n) h = ap (λ r. and_then (fault_as Input r) (λ bytes. fault_as BadEdits (edits_of s cs bytes))) h
  absent files (input.BadSettings e) h = ap (λ r. and_then (fault_as Input r) (λ bytes. fault_as BadEdits (edits_of s cs bytes))) h
  absent files (input.BadClasses e) h = ap (λ r. and_then (fault_as Input r) (λ bytes. fault_as BadEdits (edits_of s cs bytes))) h
  absent files (input.BadSource e) h = ap (λ r. and_then (fault_as Input r) (λ bytes. fault_as BadEdits (edits_of s cs bytes))) h

  there : (files : Files) (bytes : List ℕ) (r : Result (List EditLine) EditsFault) → r ≡ edits_of s cs bytes → GivesOk (λ failed held. read_bytes failed held EditsCsv) files bytes → edits_in s cs None files ≡ fault_as BadEdits r
  unfolding edits_in
  there files bytes r e h = ap (λ w. and_then (fault_as Input w) (λ bytes. fault_as BadEdits (edits_of s cs bytes))) h ∙ ap (fault_as BadEdits) (sym e)

  pub edits-not-read : (held : Option Files) (fault : InputFault) → IfSome held (λ files. Refuses (λ failed told. read_bytes failed told EditsCsv) files fault) → IfSome held (λ files. RefusesEdits (edits_in s cs) files (Input fault))
  edits-not-read None fault h = tt
  edits-not-read (Some files) fault h = absent files fault h

  pub edits-read : (held : Option Files) (bytes : List ℕ) (lines : List EditLine) → IfSome held (λ files. GivesOk (λ failed told. read_bytes failed told EditsCsv) files bytes) → Ok lines ≡ edits_of s cs bytes
      → IfSome held (λ files. edits_in s cs None files ≡ Ok lines)
  edits-read None bytes lines h e = tt
  edits-read (Some files) bytes lines h e = there files bytes (Ok lines) e h

  pub edits-refused : (held : Option Files) (bytes : List ℕ) (e : EditsFault) → IfSome held (λ files. GivesOk (λ failed told. read_bytes failed told EditsCsv) files bytes) → (e.cause ≢ edits.NoMemory → Err e ≡ edits_of s cs bytes)
      → IfSome held (λ files. RefusesEdits (edits_in s cs) files (edits_fault e))
  edits-refused None bytes e h r = tt
  edits-refused (Some files) bytes e h r = edits-cause (RefusesEdits (edits_in s cs) files) e.cause e tt (λ other. there files bytes (Err e) (r other) h)

-- ---- settings, classes and source before them

first-refused : (files : Files) (fault : InputFault) → Refuses (problem_in SourceCsv) files fault → RefusesEdits edit_input_in files (Input fault)
unfolding edit_input_in edited_in
first-refused files input.NoMemory h = tt
first-refused files (input.ReadFault n) h = ap (λ r. and_then (fault_as Input r) (λ given. and_then (edits_in given.0 given.1.classes (Some n) files) (λ lines. Ok (given, lines)))) h
first-refused files (input.Missing n) h = ap (λ r. and_then (fault_as Input r) (λ given. and_then (edits_in given.0 given.1.classes None files) (λ lines. Ok (given, lines)))) h
first-refused files (input.TooLong n) h = ap (λ r. and_then (fault_as Input r) (λ given. and_then (edits_in given.0 given.1.classes None files) (λ lines. Ok (given, lines)))) h
first-refused files (input.BadSettings e) h = ap (λ r. and_then (fault_as Input r) (λ given. and_then (edits_in given.0 given.1.classes None files) (λ lines. Ok (given, lines)))) h
first-refused files (input.BadClasses e) h = ap (λ r. and_then (fault_as Input r) (λ given. and_then (edits_in given.0 given.1.classes None files) (λ lines. Ok (given, lines)))) h
first-refused files (input.BadSource e) h = ap (λ r. and_then (fault_as Input r) (λ given. and_then (edits_in given.0 given.1.classes None files) (λ lines. Ok (given, lines)))) h

-- a read of the edits that fails leaves the problem as it is
still : (files : Files) → problem_in SourceCsv (Some EditsCsv) files ≡ problem_in SourceCsv None files
still files = refl

given-with : (failed : Option FileName) (files : Files) (s : SettingsFacts) (p : ProblemFacts) → problem_in SourceCsv failed files ≡ Ok (s, p) → edit_input_in failed files ≡ and_then (edits_in s p.classes failed files) (λ lines. Ok ((s, p), lines))
unfolding edit_input_in edited_in
given-with failed files s p e = ap (λ r. and_then (fault_as Input r) (λ given. and_then (edits_in given.0 given.1.classes failed files) (λ lines. Ok (given, lines)))) e

refused-with : (failed : Option FileName) (files : Files) (s : SettingsFacts) (p : ProblemFacts) (fault : EditInputFault) → problem_in SourceCsv failed files ≡ Ok (s, p) → edits_in s p.classes failed files ≡ Err fault → edit_input_in failed files ≡ Err fault
refused-with failed files s p fault e h = given-with failed files s p e ∙ ap (λ r. and_then r (λ lines. Ok ((s, p), lines))) h

next-refused : (files : Files) (s : SettingsFacts) (p : ProblemFacts) (fault : EditInputFault) → IfReadFailed fault (Contains (EditsCsv ∷ [])) → problem_in SourceCsv None files ≡ Ok (s, p)
    → RefusesEdits (edits_in s p.classes) files fault → RefusesEdits edit_input_in files fault
next-refused files s p (Input input.NoMemory) only e h = tt
next-refused files s p (Input (input.ReadFault n)) (zero, below, is) e h = refused-with (Some n) files s p (Input (input.ReadFault n)) (subst (λ m. problem_in SourceCsv (Some m) files ≡ Ok (s, p)) is (still files ∙ e)) h
next-refused files s p (Input (input.ReadFault n)) (suc k, below, is) e h = absurd (omega arith)
next-refused files s p (Input (input.Missing n)) only e h = refused-with None files s p (Input (input.Missing n)) e h
next-refused files s p (Input (input.TooLong n)) only e h = refused-with None files s p (Input (input.TooLong n)) e h
next-refused files s p (Input (input.BadSettings f)) only e h = refused-with None files s p (Input (input.BadSettings f)) e h
next-refused files s p (Input (input.BadClasses f)) only e h = refused-with None files s p (Input (input.BadClasses f)) e h
next-refused files s p (Input (input.BadSource f)) only e h = refused-with None files s p (Input (input.BadSource f)) e h
next-refused files s p (BadEdits f) only e h = refused-with None files s p (BadEdits f) e h

pub problem-not-given : (held : Option Files) (fault : InputFault) → IfSome held (λ files. Refuses (problem_in SourceCsv) files fault) → IfSome held (λ files. RefusesEdits edit_input_in files (Input fault))
problem-not-given None fault h = tt
problem-not-given (Some files) fault h = first-refused files fault h

pub edits-not-given : (held : Option Files) (s : SettingsFacts) (p : ProblemFacts) (fault : EditInputFault) → IfReadFailed fault (Contains (EditsCsv ∷ [])) → IfSome held (λ files. problem_in SourceCsv None files ≡ Ok (s, p))
    → IfSome held (λ files. RefusesEdits (edits_in s p.classes) files fault) → IfSome held (λ files. RefusesEdits edit_input_in files fault)
edits-not-given None s p fault only e h = tt
edits-not-given (Some files) s p fault only e h = next-refused files s p fault only e h

pub edits-given : (held : Option Files) (s : SettingsFacts) (p : ProblemFacts) (lines : List EditLine) → IfSome held (λ files. problem_in SourceCsv None files ≡ Ok (s, p)) → IfSome held (λ files. edits_in s p.classes None files ≡ Ok lines)
    → IfSome held (λ files. edit_input_in None files ≡ Ok ((s, p), lines))
edits-given None s p lines e h = tt
edits-given (Some files) s p lines e h = given-with None files s p e ∙ ap (λ r. and_then r (λ lines. Ok ((s, p), lines))) h

-- ---- failed reads

if-failed : (P Q : FileName → Type 0) → ((name : FileName) → P name → Q name) → (fault : EditInputFault) → IfReadFailed fault P → IfReadFailed fault Q
if-failed P Q f (Input input.NoMemory) h = tt
if-failed P Q f (Input (input.Missing n)) h = tt
if-failed P Q f (Input (input.TooLong n)) h = tt
if-failed P Q f (Input (input.ReadFault n)) h = f n h
if-failed P Q f (Input (input.BadSettings e)) h = tt
if-failed P Q f (Input (input.BadClasses e)) h = tt
if-failed P Q f (Input (input.BadSource e)) h = tt
if-failed P Q f (BadEdits e) h = tt

-- a failed read of one file
pub fails-by : (name : FileName) (before now : ℕ) (last : Option FileName) (fault : InputFault) → FailsBy name before now last fault → FailsIn (name ∷ []) before now last (Input fault)
fails-by name before now last input.NoMemory h = tt
fails-by name before now last (input.Missing n) h = tt
fails-by name before now last (input.TooLong n) h = tt
fails-by name before now last (input.ReadFault n) h = (h.0, h.1, (0, omega arith, sym h.2))
fails-by name before now last (input.BadSettings e) h = tt
fails-by name before now last (input.BadClasses e) h = tt
fails-by name before now last (input.BadSource e) h = tt

first-names : (name : FileName) → Contains (problem_names SourceCsv) name → Contains edit_names name
first-names name (zero, below, is) = (0, omega arith, is)
first-names name (suc zero, below, is) = (1, omega arith, is)
first-names name (suc (suc zero), below, is) = (2, omega arith, is)
first-names name (suc (suc (suc k)), below, is) = absurd (omega arith)

last-name : (name : FileName) → Contains (EditsCsv ∷ []) name → Contains edit_names name
last-name name (zero, below, is) = (3, omega arith, is)
last-name name (suc k, below, is) = absurd (omega arith)

pub fails-first : (before now : ℕ) (last : Option FileName) (fault : InputFault) → FailsAmong (problem_names SourceCsv) before now last fault → FailsIn edit_names before now last (Input fault)
fails-first before now last input.NoMemory h = tt
fails-first before now last (input.Missing n) h = tt
fails-first before now last (input.TooLong n) h = tt
fails-first before now last (input.ReadFault n) h = (h.0, h.1, first-names n h.2)
fails-first before now last (input.BadSettings e) h = tt
fails-first before now last (input.BadClasses e) h = tt
fails-first before now last (input.BadSource e) h = tt

-- a failed read of the edits after calls that did not lower the count
pub fails-last : (before between now : ℕ) (last : Option FileName) (fault : EditInputFault) → before ≤ between → FailsIn (EditsCsv ∷ []) between now last fault → FailsIn edit_names before now last fault
fails-last before between now last fault later h =
    if-failed (λ failed. Rose between now × (last ≡ Some failed) × Contains (EditsCsv ∷ []) failed) (λ failed. Rose before now × (last ≡ Some failed) × Contains edit_names failed)
    (λ n q. (omega (arith, later, q.0), q.1, last-name n q.2)) fault h

-- the name of a failed read alone
pub only-edits : (before now : ℕ) (last : Option FileName) (fault : EditInputFault) → FailsIn (EditsCsv ∷ []) before now last fault → IfReadFailed fault (Contains (EditsCsv ∷ []))
only-edits before now last fault h = if-failed (λ failed. Rose before now × (last ≡ Some failed) × Contains (EditsCsv ∷ []) failed) (Contains (EditsCsv ∷ [])) (λ n q. q.2) fault h
