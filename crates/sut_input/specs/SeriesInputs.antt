-- What the files of a series spell: settings, classes, a source of them for each year, and dismissals; or the first refusal in
-- the order of reading, where this one read fails.
use Rattle.std.specs.Prelude.{◌≢◌, ℕ, ◌+◌, List, [], ◌∷◌, ◌++◌, take, Option, Some, None, Ok, ⊤}
use Rattle.sut_outside.specs.declared.names.FileName.{FileName}
use Rattle.sut_outside.specs.declared.names.FileName.TheVariants.{SettingsToml, ClassesCsv, Year1Csv, Year2Csv, Year3Csv, Year4Csv, Year5Csv, Year6Csv, Year7Csv, Year8Csv, Year9Csv, DismissCsv}
use Rattle.sut_records.specs.FirstFault.{and_then, fault_as}
use Rattle.sut_classes.specs.ClassLists.{ClassLists}
use Rattle.sut_settings.specs.SettingsFacts.{SettingsFacts}
use Rattle.sut_tables.specs.ProblemFacts.{ProblemFacts}
use Rattle.sut_source.specs.SourceFile.{source_of}
use Rattle.sut_source.specs.declared.faults.RowFault.{RowFault}
use Rattle.sut_source.specs.declared.faults.RowFault.TheVariants as row
use Rattle.sut_source.specs.declared.faults.SourceFault.{SourceFault}
use Rattle.sut_dismissals.specs.DismissFile.{dismissals_of}
use Rattle.sut_dismissals.specs.declared.dismissals.DismissLine.{DismissLine}
use Rattle.sut_dismissals.specs.declared.faults.DismissCause.{DismissCause}
use Rattle.sut_dismissals.specs.declared.faults.DismissCause.TheVariants as cause
use Rattle.sut_dismissals.specs.declared.faults.DismissFault.{DismissFault}
use Rattle.sut_input.specs.declared.faults.InputFault.{InputFault}
use Rattle.sut_input.specs.declared.faults.InputFault.TheVariants as input
use Rattle.sut_input.specs.declared.series.SeriesInputFault.{SeriesInputFault}
use Rattle.sut_input.specs.declared.series.SeriesInputFault.TheVariants.{Input, BadYear, BadDismiss}
use Rattle.sut_input.specs.Inputs.{classes_in, settings_in}
use Rattle.sut_input.specs.Following.{StepOf, following}

-- a fault as one of the settings, the classes or a read, where it is one
abbrev pub series_part : SeriesInputFault → Option InputFault
series_part (Input fault) = Some fault
series_part (BadYear year fault) = None
series_part (BadDismiss fault) = None

-- the files of the years, from year 1 on
abbrev pub year_names : List FileName
year_names = Year1Csv ∷ Year2Csv ∷ Year3Csv ∷ Year4Csv ∷ Year5Csv ∷ Year6Csv ∷ Year7Csv ∷ Year8Csv ∷ Year9Csv ∷ []

-- the problem of year k, whose source stands under this name
unfoldable pub year_in : FileName → ℕ → SettingsFacts → ClassLists → StepOf SeriesInputFault ProblemFacts
year_in name k s cs = following Input (BadYear k) name (source_of s cs)

-- the problems of the years under these names, the first of them year k
unfoldable pub years_in : List FileName → ℕ → SettingsFacts → ClassLists → StepOf SeriesInputFault (List ProblemFacts)
years_in [] k s cs failed files = Ok []
years_in (name ∷ names) k s cs failed files =
    and_then (year_in name k s cs failed files) (λ p. and_then (years_in names (k + 1) s cs failed files) (λ ps. Ok (p ∷ ps)))

-- the classes, and the problems of so many years
unfoldable pub class_years_in : ℕ → SettingsFacts → StepOf SeriesInputFault (List ProblemFacts)
class_years_in years s failed files =
    and_then (fault_as Input (classes_in failed files)) (λ cs. years_in (take years year_names) 1 s cs failed files)

-- the dismissals after so many years
unfoldable pub dismissals_in : ℕ → StepOf SeriesInputFault (List DismissLine)
dismissals_in years = following Input BadDismiss DismissCsv (dismissals_of years)

-- the settings, the problems of so many years, and the dismissals
unfoldable pub series_input_in : ℕ → StepOf SeriesInputFault (SettingsFacts × List ProblemFacts × List DismissLine)
series_input_in years failed files =
    and_then (fault_as Input (settings_in failed files)) (λ s.
    and_then (class_years_in years s failed files) (λ ps.
    and_then (dismissals_in years failed files) (λ lines. Ok (s, ps, lines))))

-- the names that are read for so many years, in order
abbrev pub series_names : ℕ → List FileName
series_names years = SettingsToml ∷ ClassesCsv ∷ (take years year_names ++ DismissCsv ∷ [])

-- a reader's fault; want of memory is no fault of a file
abbrev pub year_unless_no_memory : RowFault → ℕ → SourceFault → SeriesInputFault
year_unless_no_memory row.NoMemory k fault = Input input.NoMemory
year_unless_no_memory _ k fault = BadYear k fault

abbrev pub year_fault : ℕ → SourceFault → SeriesInputFault
year_fault k fault = year_unless_no_memory fault.cause k fault

abbrev pub dismiss_unless_no_memory : DismissCause → DismissFault → SeriesInputFault
dismiss_unless_no_memory cause.NoMemory fault = Input input.NoMemory
dismiss_unless_no_memory _ fault = BadDismiss fault

abbrev pub dismiss_fault : DismissFault → SeriesInputFault
dismiss_fault fault = dismiss_unless_no_memory fault.cause fault

-- a fault that reading a series answers: it is no want of memory of a year or of the dismissals, and no missing reviewer
abbrev pub IsSeriesFault : SeriesInputFault → Type 0
IsSeriesFault (Input fault) = ⊤
IsSeriesFault (BadYear k fault) = fault.cause ≢ row.NoMemory
IsSeriesFault (BadDismiss fault) = (fault.cause ≢ cause.NoMemory) × (fault.cause ≢ cause.NoReviewer)
