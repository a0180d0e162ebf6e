-- The years of a series, read one after another, and what is read before and after them.
use Rattle.std.proofs.Common.{◌≡◌, ◌≢◌, ◌<◌, ◌≤◌, ◌∙◌, ◌+◌, ℕ, false, List, [], ◌∷◌, ◌++◌, Option, Some, None, Result, Ok, Err, Contains, IfSome, length, take, ap, sym, refl, subst, arith, if◌then◌else◌, add-one}
use Rattle.std.specs.Prelude.{slice_get}
use Rattle.std.specs.List.{AllByRecursion}
use Rattle.sut_outside.specs.declared.names.FileName.{FileName}
use Rattle.sut_outside.specs.declared.names.FileName.TheVariants.{SettingsToml, ClassesCsv, DismissCsv}
use Rattle.sut_outside.specs.Files.{Files, SameFiles, Told}
use Rattle.sut_outside.specs.Deliveries.{same_name}
use Rattle.sut_outside.specs.Entry.{bytes_or}
use Rattle.sut_records.specs.RecordList.{Fields, records_of}
use Rattle.sut_records.specs.FirstFault.{and_then, fault_as}
use Rattle.sut_classes.specs.ClassLists.{ClassLists}
use Rattle.sut_classes.specs.ClassFile.{classes_of}
use Rattle.sut_settings.specs.SettingsFacts.{SettingsFacts}
use Rattle.sut_settings.specs.SettingsFile.{settings_of}
use Rattle.sut_tables.specs.ProblemFacts.{ProblemFacts}
use Rattle.sut_source.specs.SourceFile.{source_of, under_header}
use Rattle.sut_source.specs.declared.faults.RowFault.{RowFault}
use Rattle.sut_source.specs.declared.faults.RowFault.TheVariants as row
use Rattle.sut_source.specs.declared.faults.SourceFault.{SourceFault}
use Rattle.sut_dismissals.specs.DismissFile.{dismissals_of}
use Rattle.sut_dismissals.specs.declared.dismissals.DismissLine.{DismissLine}
use Rattle.sut_dismissals.specs.declared.faults.DismissCause.{DismissCause}
use Rattle.sut_dismissals.specs.declared.faults.DismissCause.TheVariants as dismiss
use Rattle.sut_dismissals.specs.declared.faults.DismissFault.{DismissFault}
use Rattle.sut_input.specs.declared.faults.InputFault.{InputFault}
use Rattle.sut_input.specs.declared.faults.InputFault.TheVariants as input
use Rattle.sut_input.specs.declared.series.SeriesInputFault.{SeriesInputFault}
use Rattle.sut_input.specs.declared.series.SeriesInputFault.TheVariants.{Input, BadYear, BadDismiss}
use Rattle.sut_input.specs.Reads.{GivesOk, Refuses}
use Rattle.sut_input.specs.Inputs.{classes_in, read_bytes, settings_in}
use Rattle.sut_input.specs.Following.{IfReadFailed, RefusesAs, failed_read}
use Rattle.sut_input.specs.SeriesInputs.{class_years_in, dismiss_fault, dismiss_unless_no_memory, dismissals_in, series_input_in, series_part, year_fault, year_in, year_names, year_unless_no_memory, years_in}
use Rattle.sut_input.proofs.FollowingSteps as steps
use Rattle.sut_input.proofs.YearNames.{not-classes, not-dismissals, not-settings, others-before, so-many, split-at, take-one}

-- ---- faults

dismiss-cause : (P : SeriesInputFault → Type 0) (cause : DismissCause) (e : DismissFault) → P (Input input.NoMemory) → (cause ≢ dismiss.NoMemory → P (BadDismiss e)) → P (dismiss_unless_no_memory cause e)
dismiss-cause P dismiss.NoMemory e none some = none
dismiss-cause P dismiss.Csv e none some = some (λ x. cc)
dismiss-cause P dismiss.Header e none some = some (λ x. cc)
dismiss-cause P dismiss.WrongYear e none some = some (λ x. cc)
dismiss-cause P dismiss.TooMany e none some = some (λ x. cc)
dismiss-cause P dismiss.NoReviewer e none some = some (λ x. cc)

year-cause : (P : SeriesInputFault → Type 0) (cause : RowFault) (k : ℕ) (e : SourceFault) → (cause ≡ row.NoMemory → P (Input input.NoMemory)) → (cause ≢ row.NoMemory → P (BadYear k e)) → P (year_unless_no_memory cause k e)
year-cause P row.NoMemory k e none some = none refl
year-cause P row.Csv k e none some = some (λ x. cc)
year-cause P row.Header k e none some = some (λ x. cc)
year-cause P row.UnknownKind k e none some = some (λ x. cc)
year-cause P (row.UnknownCode f) k e none some = some (λ x. cc)
year-cause P (row.NotEmpty f) k e none some = some (λ x. cc)
year-cause P row.WrongService k e none some = some (λ x. cc)
year-cause P (row.NotNumber f) k e none some = some (λ x. cc)
year-cause P (row.OutOfRange f) k e none some = some (λ x. cc)
year-cause P row.UnknownGrade k e none some = some (λ x. cc)
year-cause P row.BadPenalty k e none some = some (λ x. cc)
year-cause P row.NoTarget k e none some = some (λ x. cc)
year-cause P row.Crossed k e none some = some (λ x. cc)
year-cause P (row.Duplicate n) k e none some = some (λ x. cc)
year-cause P row.TooMany k e none some = some (λ x. cc)

-- a fault of a source but want of memory, with its year
pub year-named : (k : ℕ) (e : SourceFault) → e.cause ≢ row.NoMemory → BadYear k e ≡ year_fault k e
year-named k e other = year-cause (λ f. BadYear k e ≡ f) e.cause k e (λ lack. absurd (other lack)) (λ _. refl)

-- ---- the dismissals

module _ (years : ℕ) where
  pub dismissals-not-read : (held : Option Files) (fault : InputFault) → IfSome held (λ files. Refuses (λ failed told. read_bytes failed told DismissCsv) files fault)
      → IfSome held (λ files. RefusesAs series_part (dismissals_in years) files (Input fault))
  unfolding dismissals_in
  dismissals-not-read held fault h = steps.not-read series_part Input (λ e. refl) BadDismiss DismissCsv (dismissals_of years) held fault h

  pub dismissals-given : (held : Option Files) (bytes : List ℕ) (lines : List DismissLine) → IfSome held (λ files. GivesOk (λ failed told. read_bytes failed told DismissCsv) files bytes) → Ok lines ≡ dismissals_of years bytes
      → IfSome held (λ files. dismissals_in years None files ≡ Ok lines)
  unfolding dismissals_in
  dismissals-given held bytes lines h e = steps.file-given series_part Input (λ e. refl) BadDismiss DismissCsv (dismissals_of years) held bytes lines h e

  dismissals-bad : (files : Files) (bytes : List ℕ) (e : DismissFault) → GivesOk (λ failed told. read_bytes failed told DismissCsv) files bytes → Err e ≡ dismissals_of years bytes → dismissals_in years None files ≡ Err (BadDismiss e)
  unfolding dismissals_in
  dismissals-bad files bytes e h r = steps.file-bad series_part Input (λ e. refl) BadDismiss DismissCsv (dismissals_of years) files bytes e h r

  pub dismissals-refused : (held : Option Files) (bytes : List ℕ) (e : DismissFault) → IfSome held (λ files. GivesOk (λ failed told. read_bytes failed told DismissCsv) files bytes)
      → (e.cause ≢ dismiss.NoMemory → Err e ≡ dismissals_of years bytes) → IfSome held (λ files. RefusesAs series_part (dismissals_in years) files (dismiss_fault e))
  dismissals-refused None bytes e h r = tt
  dismissals-refused (Some files) bytes e h r = dismiss-cause (RefusesAs series_part (dismissals_in years) files) e.cause e tt (λ other. dismissals-bad files bytes e h (r other))

-- ---- a year

under-classes : (cs : ClassLists) (q : ProblemFacts) (under : Result (List Fields) SourceFault) (next : List Fields → Result ProblemFacts SourceFault) → ((lines : List Fields) (x : ProblemFacts) → next lines ≡ Ok x → x.classes ≡ cs)
    → and_then under next ≡ Ok q → q.classes ≡ cs
under-classes cs q (Ok lines) next each h = each lines q h
under-classes cs q (Err e) next each h = absurd cc

rows-classes : {R : Type 0} (cs : ClassLists) (q : ProblemFacts) (r : Result R SourceFault) (make : R → ProblemFacts) → ((x : R) → (make x).classes ≡ cs) → and_then r (λ x. Ok (make x)) ≡ Ok q → q.classes ≡ cs
rows-classes cs q (Ok x) make each h =
    let same : ◌≡◌ {A = Result ProblemFacts SourceFault} (Ok (make x)) (Ok q) = h in
    let equal : make x ≡ q = cc in
    subst (λ (y : ProblemFacts). y.classes ≡ cs) equal (each x)
rows-classes cs q (Err e) make each h = absurd cc

-- a source is of the classes under which it was read
pub source-classes : (s : SettingsFacts) (cs : ClassLists) (bytes : List ℕ) (q : ProblemFacts) → Ok q ≡ source_of s cs bytes → q.classes ≡ cs
source-classes s cs bytes q h = under-classes cs q (under_header (records_of bytes)) _ (λ lines x e. rows-classes cs x _ _ (λ rows. refl) e) (sym h)

-- what was read under classes and bytes that are equal to these
pub same-source : (s : SettingsFacts) (own cs : ClassLists) (seen bytes : List ℕ) (r : Result ProblemFacts SourceFault) → r ≡ source_of s own seen → own ≡ cs → seen ≡ bytes → r ≡ source_of s cs bytes
same-source s own cs seen bytes r h e f = h ∙ ap (λ (c : ClassLists). source_of s c seen) e ∙ ap (source_of s cs) f

module _ (name : FileName) (k : ℕ) (s : SettingsFacts) (cs : ClassLists) where
  pub year-not-read : (held : Option Files) (fault : InputFault) → IfSome held (λ files. Refuses (λ failed told. read_bytes failed told name) files fault)
      → IfSome held (λ files. RefusesAs series_part (year_in name k s cs) files (Input fault))
  unfolding year_in
  year-not-read held fault h = steps.not-read series_part Input (λ e. refl) (BadYear k) name (source_of s cs) held fault h

  pub year-given : (held : Option Files) (bytes : List ℕ) (p : ProblemFacts) → IfSome held (λ files. GivesOk (λ failed told. read_bytes failed told name) files bytes) → Ok p ≡ source_of s cs bytes
      → IfSome held (λ files. year_in name k s cs None files ≡ Ok p)
  unfolding year_in
  year-given held bytes p h e = steps.file-given series_part Input (λ e. refl) (BadYear k) name (source_of s cs) held bytes p h e

  year-bad : (files : Files) (bytes : List ℕ) (e : SourceFault) → GivesOk (λ failed told. read_bytes failed told name) files bytes → Err e ≡ source_of s cs bytes → year_in name k s cs None files ≡ Err (BadYear k e)
  unfolding year_in
  year-bad files bytes e h r = steps.file-bad series_part Input (λ e. refl) (BadYear k) name (source_of s cs) files bytes e h r

  pub year-refused : (held : Option Files) (bytes : List ℕ) (e : SourceFault) → IfSome held (λ files. GivesOk (λ failed told. read_bytes failed told name) files bytes)
      → (e.cause ≢ row.NoMemory → Err e ≡ source_of s cs bytes) → IfSome held (λ files. RefusesAs series_part (year_in name k s cs) files (year_fault k e))
  year-refused None bytes e h r = tt
  year-refused (Some files) bytes e h r = year-cause (RefusesAs series_part (year_in name k s cs) files) e.cause k e (λ lack. tt) (λ other. year-bad files bytes e h (r other))

  -- another read that fails leaves it as it is
  year-still : (failed : FileName) (files : Files) → same_name failed name ≡ false → year_in name k s cs (Some failed) files ≡ year_in name k s cs None files
  unfolding year_in
  year-still failed files h =
      ap (λ b. and_then (fault_as Input (if b then Err (input.ReadFault name) else bytes_or (input.Missing name) (input.TooLong name) (files name))) (λ bytes. fault_as (BadYear k) (source_of s cs bytes))) h

-- ---- the years

same-then : {A E : Type 0} (r : Result A E) → r ≡ and_then r (λ x. Ok x)
same-then (Ok x) = refl
same-then (Err e) = refl

-- three results in a row
regrouped : {P E : Type 0} (year : Result P E) (some more : Result (List P) E)
    → and_then year (λ p. and_then (and_then some (λ ps. and_then more (λ qs. Ok (ps ++ qs)))) (λ ps. Ok (p ∷ ps))) ≡ and_then (and_then year (λ p. and_then some (λ ps. Ok (p ∷ ps)))) (λ ps. and_then more (λ qs. Ok (ps ++ qs)))
regrouped (Ok p) (Ok ps) (Ok qs) = refl
regrouped (Ok p) (Ok ps) (Err e) = refl
regrouped (Ok p) (Err e) more = refl
regrouped (Err e) some more = refl

module _ (s : SettingsFacts) (cs : ClassLists) where
  no-years : (k : ℕ) (failed : Option FileName) (files : Files) → years_in [] k s cs failed files ≡ Ok []
  unfolding years_in
  no-years k failed files = refl

  year-first : (name : FileName) (names : List FileName) (k : ℕ) (failed : Option FileName) (files : Files)
      → years_in (name ∷ names) k s cs failed files ≡ and_then (year_in name k s cs failed files) (λ p. and_then (years_in names (k + 1) s cs failed files) (λ ps. Ok (p ∷ ps)))
  unfolding years_in
  year-first name names k failed files = refl

  -- some years and then more
  years-split : (names rest : List FileName) (k : ℕ) (failed : Option FileName) (files : Files)
      → years_in (names ++ rest) k s cs failed files ≡ and_then (years_in names k s cs failed files) (λ ps. and_then (years_in rest (k + length names) s cs failed files) (λ qs. Ok (ps ++ qs)))
  years-split [] rest k failed files =
      let same : k ≡ k + 0 = omega arith in
      ap (λ n. years_in rest n s cs failed files) same ∙ same-then (years_in rest (k + 0) s cs failed files)
      ∙ ap (λ r. and_then r (λ ps. and_then (years_in rest (k + 0) s cs failed files) (λ qs. Ok (ps ++ qs)))) (sym (no-years k failed files))
  years-split (name ∷ names) rest k failed files =
      let far : k + 1 + length names ≡ k + length (name ∷ names) = omega arith in
      year-first name (names ++ rest) k failed files
      ∙ ap (λ r. and_then (year_in name k s cs failed files) (λ p. and_then r (λ ps. Ok (p ∷ ps)))) (years-split names rest (k + 1) failed files)
      ∙ regrouped (year_in name k s cs failed files) (years_in names (k + 1) s cs failed files) (years_in rest (k + 1 + length names) s cs failed files)
      ∙ ap (λ n. and_then (and_then (year_in name k s cs failed files) (λ p. and_then (years_in names (k + 1) s cs failed files) (λ ps. Ok (p ∷ ps)))) (λ ps. and_then (years_in rest n s cs failed files) (λ qs. Ok (ps ++ qs)))) far
      ∙ ap (λ r. and_then r (λ ps. and_then (years_in rest (k + length (name ∷ names)) s cs failed files) (λ qs. Ok (ps ++ qs)))) (sym (year-first name names k failed files))

  -- a year after them
  year-last : (names : List FileName) (name : FileName) (k : ℕ) (files : Files) (ps : List ProblemFacts) (p : ProblemFacts) → years_in names k s cs None files ≡ Ok ps → year_in name (k + length names) s cs None files ≡ Ok p
      → years_in (names ++ name ∷ []) k s cs None files ≡ Ok (ps ++ p ∷ [])
  year-last names name k files ps p e h =
      let one : years_in (name ∷ []) (k + length names) s cs None files ≡ Ok (p ∷ []) = year-first name [] (k + length names) None files ∙ ap (λ r. and_then r (λ p. and_then (years_in [] (k + length names + 1) s cs None files) (λ ps. Ok (p ∷ ps)))) h ∙ ap (λ r. and_then r (λ ps. Ok (p ∷ ps))) (no-years (k + length names + 1) None files) in
      years-split names (name ∷ []) k None files ∙ ap (λ r. and_then r (λ ps. and_then (years_in (name ∷ []) (k + length names) s cs None files) (λ qs. Ok (ps ++ qs)))) e ∙ ap (λ r. and_then r (λ qs. Ok (ps ++ qs))) one

  -- a year after them that is refused
  year-fails : (names rest : List FileName) (name : FileName) (k : ℕ) (failed : Option FileName) (files : Files) (ps : List ProblemFacts) (fault : SeriesInputFault) → years_in names k s cs failed files ≡ Ok ps
      → year_in name (k + length names) s cs failed files ≡ Err fault → years_in (names ++ name ∷ rest) k s cs failed files ≡ Err fault
  year-fails names rest name k failed files ps fault e h =
      let one : years_in (name ∷ rest) (k + length names) s cs failed files ≡ Err fault = year-first name rest (k + length names) failed files ∙ ap (λ r. and_then r (λ p. and_then (years_in rest (k + length names + 1) s cs failed files) (λ ps. Ok (p ∷ ps)))) h in
      years-split names (name ∷ rest) k failed files ∙ ap (λ r. and_then r (λ ps. and_then (years_in (name ∷ rest) (k + length names) s cs failed files) (λ qs. Ok (ps ++ qs)))) e ∙ ap (λ r. and_then r (λ qs. Ok (ps ++ qs))) one

  -- another read that fails leaves them as they are
  years-still : (names : List FileName) (k : ℕ) (failed : FileName) (files : Files) → AllByRecursion (λ n. same_name failed n ≡ false) names → years_in names k s cs (Some failed) files ≡ years_in names k s cs None files
  years-still [] k failed files h = no-years k (Some failed) files ∙ sym (no-years k None files)
  years-still (name ∷ names) k failed files h =
      year-first name names k (Some failed) files
      ∙ ap (λ r. and_then r (λ p. and_then (years_in names (k + 1) s cs (Some failed) files) (λ ps. Ok (p ∷ ps)))) (year-still name k s cs failed files h.0)
      ∙ ap (λ m. and_then (year_in name k s cs None files) (λ p. and_then m (λ ps. Ok (p ∷ ps)))) (years-still names (k + 1) failed files h.1)
      ∙ sym (year-first name names k None files)

  -- ---- the first years of the series

  -- no year
  pub none-read : (held : Option Files) → IfSome held (λ files. years_in (take 0 year_names) 1 s cs None files ≡ Ok [])
  none-read None = tt
  none-read (Some files) = no-years 1 None files

  -- the next year was read
  pub next-read : (held : Option Files) (before : ℕ) (name : FileName) (ps : List ProblemFacts) (p : ProblemFacts) → before ≤ 9 → slice_get year_names before ≡ Some name
      → IfSome held (λ files. years_in (take before year_names) 1 s cs None files ≡ Ok ps) → IfSome held (λ files. year_in name (before + 1) s cs None files ≡ Ok p)
      → IfSome held (λ files. years_in (take (before + 1) year_names) 1 s cs None files ≡ Ok (ps ++ p ∷ []))
  next-read None before name ps p few is e h = tt
  next-read (Some files) before name ps p few is e h =
      let at : before + 1 ≡ 1 + length (take before year_names) = omega (arith, so-many before few) in
      let names : take (before + 1) year_names ≡ take before year_names ++ name ∷ [] = ap (λ n. take n year_names) (add-one before) ∙ take-one year_names before name is in
      subst (λ (ns : List FileName). years_in ns 1 s cs None files ≡ Ok (ps ++ p ∷ [])) (sym names)
      (year-last (take before year_names) name 1 files ps p e (subst (λ (n : ℕ). year_in name n s cs None files ≡ Ok p) at h))

  -- the next year was refused
  pub next-refused : (held : Option Files) (years before : ℕ) (name : FileName) (ps : List ProblemFacts) (fault : SeriesInputFault) → before < years → before ≤ 9 → slice_get year_names before ≡ Some name
      → IfReadFailed (series_part fault) (Contains (name ∷ [])) → IfSome held (λ files. years_in (take before year_names) 1 s cs None files ≡ Ok ps)
      → IfSome held (λ files. RefusesAs series_part (year_in name (before + 1) s cs) files fault) → IfSome held (λ files. RefusesAs series_part (years_in (take years year_names) 1 s cs) files fault)
  next-refused None years before name ps fault below few is only e h = tt
  next-refused (Some files) years before name ps fault below few is only e h =
      let failed = failed_read (series_part fault) in
      let at : before + 1 ≡ 1 + length (take before year_names) = omega (arith, so-many before few) in
      let names = split-at year_names before years name below is in
      let given : years_in (take before year_names) 1 s cs failed files ≡ Ok ps =
      steps.given-part (years_in (take before year_names) 1 s cs) files ps (Contains (name ∷ []))
      (λ n q. years-still (take before year_names) 1 n files (subst (λ (m : FileName). AllByRecursion (λ x. same_name m x ≡ false) (take before year_names)) (sym (steps.only-one name n q)) (others-before before name is)))
      (series_part fault) only e in
      steps.unless-as (year_in name (before + 1) s cs failed files ≡ Err fault) (years_in (take years year_names) 1 s cs failed files ≡ Err fault)
      (λ r. subst (λ (ns : List FileName). years_in ns 1 s cs failed files ≡ Err fault) (sym names.1)
      (year-fails (take before year_names) names.0 name 1 failed files ps fault given (subst (λ (n : ℕ). year_in name n s cs failed files ≡ Err fault) at r)))
      (series_part fault) h

-- ---- the classes and the years of them

same-next : {A B E : Type 0} (r : Result A E) (f g : A → Result B E) → ((a : A) → f a ≡ g a) → and_then r f ≡ and_then r g
same-next (Ok a) f g same = same a
same-next (Err e) f g same = refl

module _ (years : ℕ) (s : SettingsFacts) where
  -- a read of the dismissals that fails leaves them as they are
  class-years-still : (files : Files) → class_years_in years s (Some DismissCsv) files ≡ class_years_in years s None files
  unfolding class_years_in
  class-years-still files =
      same-next (fault_as Input (classes_in None files)) (λ cs. years_in (take years year_names) 1 s cs (Some DismissCsv) files) (λ cs. years_in (take years year_names) 1 s cs None files)
      (λ cs. years-still s cs (take years year_names) 1 DismissCsv files (not-dismissals years))

  pub classes-refused : (held : Option Files) (fault : InputFault) → IfSome held (λ files. Refuses classes_in files fault) → IfSome held (λ files. RefusesAs series_part (class_years_in years s) files (Input fault))
  unfolding class_years_in
  classes-refused None fault h = tt
  classes-refused (Some files) fault h =
      steps.first-refused series_part (λ failed told. fault_as Input (classes_in failed told)) (λ cs failed told. years_in (take years year_names) 1 s cs failed told) files (Input fault)
      (steps.input-refused series_part Input (λ e. refl) classes_in files fault h)

  -- a read of another file that fails leaves the classes as they are
  classes-still : (files : Files) (n : FileName) → same_name n ClassesCsv ≡ false → fault_as Input (classes_in (Some n) files) ≡ fault_as Input (classes_in None files)
  classes-still files n h =
      ap (λ b. fault_as Input (and_then (if b then Err (input.ReadFault ClassesCsv) else bytes_or (input.Missing ClassesCsv) (input.TooLong ClassesCsv) (files ClassesCsv)) (λ bytes. fault_as input.BadClasses (classes_of bytes)))) h

  pub years-refused : (held : Option Files) (cs : ClassLists) (fault : SeriesInputFault) → IfReadFailed (series_part fault) (Contains (take years year_names)) → IfSome held (λ files. GivesOk classes_in files cs)
      → IfSome held (λ files. RefusesAs series_part (years_in (take years year_names) 1 s cs) files fault) → IfSome held (λ files. RefusesAs series_part (class_years_in years s) files fault)
  unfolding class_years_in
  years-refused None cs fault only e h = tt
  years-refused (Some files) cs fault only e h =
      steps.next-refused series_part (λ failed told. fault_as Input (classes_in failed told)) (λ cs failed told. years_in (take years year_names) 1 s cs failed told) cs files fault
      (steps.given-part (λ failed told. fault_as Input (classes_in failed told)) files cs (Contains (take years year_names)) (λ n q. classes-still files n (not-classes years n q)) (series_part fault) only (ap (fault_as Input) e))
      h

  pub class-years-given : (held : Option Files) (cs : ClassLists) (ps : List ProblemFacts) → IfSome held (λ files. GivesOk classes_in files cs) → IfSome held (λ files. years_in (take years year_names) 1 s cs None files ≡ Ok ps)
      → IfSome held (λ files. class_years_in years s None files ≡ Ok ps)
  unfolding class_years_in
  class-years-given None cs ps e h = tt
  class-years-given (Some files) cs ps e h = ap (λ r. and_then (fault_as Input r) (λ cs. years_in (take years year_names) 1 s cs None files)) e ∙ h

-- ---- the settings, the years and the dismissals

module _ (years : ℕ) where
  pub settings-refused : (held : Option Files) (fault : InputFault) → IfSome held (λ files. Refuses settings_in files fault) → IfSome held (λ files. RefusesAs series_part (series_input_in years) files (Input fault))
  unfolding series_input_in
  settings-refused None fault h = tt
  settings-refused (Some files) fault h =
      steps.first-refused series_part (λ failed told. fault_as Input (settings_in failed told))
      (λ s failed told. and_then (class_years_in years s failed told) (λ ps. and_then (dismissals_in years failed told) (λ lines. Ok (s, ps, lines)))) files (Input fault)
      (steps.input-refused series_part Input (λ e. refl) settings_in files fault h)

  -- a read of another file that fails leaves the settings as they are
  settings-still : (files : Files) (n : FileName) → same_name n SettingsToml ≡ false → fault_as Input (settings_in (Some n) files) ≡ fault_as Input (settings_in None files)
  settings-still files n h =
      ap (λ b. fault_as Input (and_then (if b then Err (input.ReadFault SettingsToml) else bytes_or (input.Missing SettingsToml) (input.TooLong SettingsToml) (files SettingsToml)) (λ bytes. fault_as input.BadSettings (settings_of bytes)))) h

  pub class-years-refused : (held : Option Files) (s : SettingsFacts) (fault : SeriesInputFault) → IfReadFailed (series_part fault) (Contains (ClassesCsv ∷ take years year_names)) → IfSome held (λ files. GivesOk settings_in files s)
      → IfSome held (λ files. RefusesAs series_part (class_years_in years s) files fault) → IfSome held (λ files. RefusesAs series_part (series_input_in years) files fault)
  unfolding series_input_in
  class-years-refused None s fault only e h = tt
  class-years-refused (Some files) s fault only e h =
      steps.next-refused series_part (λ failed told. fault_as Input (settings_in failed told))
      (λ s failed told. and_then (class_years_in years s failed told) (λ ps. and_then (dismissals_in years failed told) (λ lines. Ok (s, ps, lines)))) s files fault
      (steps.given-part (λ failed told. fault_as Input (settings_in failed told)) files s (Contains (ClassesCsv ∷ take years year_names)) (λ n q. settings-still files n (not-settings years n q)) (series_part fault) only (ap (fault_as Input) e))
      (steps.first-refused series_part (class_years_in years s) (λ ps failed told. and_then (dismissals_in years failed told) (λ lines. Ok (s, ps, lines))) files fault h)

  pub dismissals-refused-last : (held : Option Files) (s : SettingsFacts) (ps : List ProblemFacts) (fault : SeriesInputFault) → IfReadFailed (series_part fault) (Contains (DismissCsv ∷ [])) → IfSome held (λ files. GivesOk settings_in files s)
      → IfSome held (λ files. class_years_in years s None files ≡ Ok ps) → IfSome held (λ files. RefusesAs series_part (dismissals_in years) files fault) → IfSome held (λ files. RefusesAs series_part (series_input_in years) files fault)
  unfolding series_input_in
  dismissals-refused-last None s ps fault only e f h = tt
  dismissals-refused-last (Some files) s ps fault only e f h =
      steps.next-refused series_part (λ failed told. fault_as Input (settings_in failed told))
      (λ s failed told. and_then (class_years_in years s failed told) (λ ps. and_then (dismissals_in years failed told) (λ lines. Ok (s, ps, lines)))) s files fault
      (steps.given-part (λ failed told. fault_as Input (settings_in failed told)) files s (Contains (DismissCsv ∷ []))
      (λ n q. settings-still files n (subst (λ (m : FileName). same_name m SettingsToml ≡ false) (sym (steps.only-one DismissCsv n q)) refl)) (series_part fault) only (ap (fault_as Input) e))
      (steps.next-refused series_part (class_years_in years s) (λ ps failed told. and_then (dismissals_in years failed told) (λ lines. Ok (s, ps, lines))) ps files fault
      (steps.given-part (class_years_in years s) files ps (Contains (DismissCsv ∷ []))
      (λ n q. subst (λ (m : FileName). class_years_in years s (Some m) files ≡ class_years_in years s None files) (sym (steps.only-one DismissCsv n q)) (class-years-still years s files)) (series_part fault) only f)
      (steps.first-refused series_part (dismissals_in years) (λ lines failed told. Ok (s, ps, lines)) files fault h))

  pub series-given : (held : Option Files) (s : SettingsFacts) (ps : List ProblemFacts) (lines : List DismissLine) → IfSome held (λ files. GivesOk settings_in files s) → IfSome held (λ files. class_years_in years s None files ≡ Ok ps)
      → IfSome held (λ files. dismissals_in years None files ≡ Ok lines) → IfSome held (λ files. series_input_in years None files ≡ Ok (s, ps, lines))
  unfolding series_input_in
  series-given None s ps lines e f h = tt
  series-given (Some files) s ps lines e f h =
      ap (λ r. and_then (fault_as Input r) (λ s. and_then (class_years_in years s None files) (λ ps. and_then (dismissals_in years None files) (λ lines. Ok (s, ps, lines))))) e
      ∙ ap (λ r. and_then r (λ ps. and_then (dismissals_in years None files) (λ lines. Ok (s, ps, lines)))) f
      ∙ ap (λ r. and_then r (λ lines. Ok (s, ps, lines))) h

-- ---- no call

pub told-self : (held : Option Files) → Told held held SameFiles
told-self None = tt
told-self (Some files) = λ name. refl
