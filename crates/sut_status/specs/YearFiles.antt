-- The files of the years of a series.
use Rattle.std.specs.Prelude.{ℕ, zero, suc, List, [], ◌∷◌, Option, None, slice_get}
use Rattle.sut_outside.specs.declared.names.FileName.{FileName}
use Rattle.sut_outside.specs.declared.names.FileName.TheVariants.{Year1Csv, Year2Csv, Year3Csv, Year4Csv, Year5Csv, Year6Csv, Year7Csv, Year8Csv, Year9Csv}

-- from year 1 on
abbrev pub year_files : List FileName
year_files = Year1Csv ∷ Year2Csv ∷ Year3Csv ∷ Year4Csv ∷ Year5Csv ∷ Year6Csv ∷ Year7Csv ∷ Year8Csv ∷ Year9Csv ∷ []

-- the file of a year, where it has one
abbrev pub year_file : ℕ → Option FileName
year_file zero = None
year_file (suc n) = slice_get year_files n
