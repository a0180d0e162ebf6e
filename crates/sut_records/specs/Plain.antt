-- Records that are printed without quotes: at least two fields, none with a comma, a quote, CR or LF.
use Rattle.std.specs.Prelude.{◌≡◌, ◌≤◌, false, List, [], ◌∷◌, length}
use Rattle.sut_text.specs.Text.{needs_quotes}
use Rattle.sut_records.specs.RecordList.{Fields}

-- no field needs quotes
abbrev pub ArePlain : Fields → Type 0
ArePlain [] = Unit {0}
ArePlain (field ∷ fields) = (needs_quotes field ≡ false) × ArePlain fields

pub record IsPlainRow (row : Fields) : Type 0 where
  pub wide : 2 ≤ length row
  pub plain : ArePlain row

-- each record of a list is printed without quotes
abbrev pub ArePlainRows : List Fields → Type 0
ArePlainRows [] = Unit {0}
ArePlainRows (row ∷ rows) = IsPlainRow row × ArePlainRows rows
