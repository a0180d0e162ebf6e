-- The words of a check, and the files that it reads.
use Rattle.std.specs.Prelude.{◌≡◌, ◌⊎◌, ℕ, List, [], ◌∷◌, Option, Some, None, codes, if◌then◌else◌}
use Rattle.std.specs.Str.{bytes_eq}
use Rattle.sut_outside.specs.declared.names.FileName.{FileName}
use Rattle.sut_outside.specs.declared.names.FileName.TheVariants.{SettingsToml, ClassesCsv, SourceCsv, EditedCsv, CertificateCsv, BalancedCsv}

-- the source that one word names
abbrev pub named : List ℕ → Option FileName
named word = if bytes_eq word (codes "edited") then Some EditedCsv else None

-- The source that these words ask to be checked against: without a word `source.csv`, and with the one word `edited`
-- `edited.csv`. Words are accepted exactly where there is one.
abbrev pub checked_source : List (List ℕ) → Option FileName
checked_source [] = Some SourceCsv
checked_source (word ∷ []) = named word
checked_source _ = None

-- one of these two
abbrev pub IsCheckedSource : FileName → Type 0
IsCheckedSource source = (source ≡ SourceCsv) ⊎ (source ≡ EditedCsv)

-- the files of an answer, in the order of reading
abbrev pub answer_names : List FileName
answer_names = CertificateCsv ∷ BalancedCsv ∷ []

-- the files that a check may read, in order
abbrev pub checked_names : FileName → List FileName
checked_names source = SettingsToml ∷ ClassesCsv ∷ source ∷ answer_names
