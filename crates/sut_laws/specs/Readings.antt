-- What is printed reads back, and what reads is what is printed: numbers, files of records, names. The texts are definitions of
-- this project (docs/FORMATS.md).
use Rattle.std.specs.Prelude.{◌≡◌, ◌<◌, ◌^◌, ℕ, ℤ, List, [], ◌∷◌, IsTrue, Ok}
use lib.Signed.{mag}
use Rattle.csv.specs.Reading.{strip_bom}
use Rattle.sut_text.specs.Number.{whole_of}
use Rattle.sut_text.specs.Text.{file_text, whole_text}
use Rattle.sut_records.specs.Plain.{ArePlainRows, IsPlainRow}
use Rattle.sut_records.specs.RecordList.{Fields, records_of}
use Rattle.sut_classes.specs.ClassLists.{ClassLists}
use Rattle.sut_classes.specs.Kept.{IsClasses}
use Rattle.sut_measures.specs.Fits.{account_fits, fits}
use Rattle.sut_measures.specs.Names.{account_fields, account_name, measure_name, name_fields}
use Rattle.sut_measures.specs.ReadNames.{account_of, measure_of}
use Rattle.sut_measures.specs.declared.accounts.Account.{Account}
use Rattle.sut_measures.specs.declared.measures.Measure.{Measure}

-- What is printed for a number reads as it, and a text that reads as a number is what is printed for it. (`put_whole` prints
-- numbers of 128 bits, `read_whole` reads them.)
abbrev pub NumbersReadBack : Type 0
NumbersReadBack =
    ((z : ℤ) → mag z < 2 ^ 127 → whole_of (whole_text z) ≡ Ok z)
    × ((text : List ℕ) (z : ℤ) → whole_of text ≡ Ok z → text ≡ whole_text z)

-- A file whose lines have at least two fields, none of which needs quotes, and that has no byte order mark at its front, reads
-- back as its header and lines. (So are the files that `print_classes`, `print_source` and `print_certificate` make.)
abbrev pub FilesReadBack : Type 0
FilesReadBack =
    (header : Fields) (lines : List Fields) → IsPlainRow header → ArePlainRows lines
    → strip_bom (file_text header lines) ≡ file_text header lines
    → records_of (file_text header lines) ≡ header ∷ lines

-- The name of a measure that fits the classes reads as it, and a name that reads as a measure is that measure's, which fits.
-- (All `Classes` are as the first premise asks: `Classes::kept`.)
abbrev pub MeasureNamesReadBack : Type 0
MeasureNamesReadBack =
    ((cs : ClassLists) → IsClasses cs → (m : Measure) → IsTrue (fits cs m)
    → measure_of cs (measure_name cs m).kind (measure_name cs m).a (measure_name cs m).b (measure_name cs m).c ≡ Ok m)
    × ((cs : ClassLists) (kind a b c : List ℕ) (m : Measure) → measure_of cs kind a b c ≡ Ok m
    → IsTrue (fits cs m) × (name_fields cs m ≡ kind ∷ a ∷ b ∷ c ∷ []))

-- So with accounts.
abbrev pub AccountNamesReadBack : Type 0
AccountNamesReadBack =
    ((cs : ClassLists) → IsClasses cs → (x : Account) → IsTrue (account_fits cs x)
    → account_of cs (account_name cs x).word (account_name cs x).a (account_name cs x).b ≡ Ok x)
    × ((cs : ClassLists) (word a b : List ℕ) (x : Account) → account_of cs word a b ≡ Ok x
    → IsTrue (account_fits cs x) × (account_fields cs x ≡ word ∷ a ∷ b ∷ []))
