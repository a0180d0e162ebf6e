-- A printed file of lines is the csv writer's text of its records, and reads back as them.
use Rattle.std.proofs.Common.{◌≡◌, ◌∷◌, ◌++◌, ◌∙◌, ◌||◌, ◌≤◌, ℕ, Bool, true, false, List, [], length, map, arith, ap, sym, refl}
use Rattle.std.specs.Prelude.{◌==◌}
use Rattle.std.specs.List.{flat_map, list_any}
use Rattle.csv.specs.Reading.{strip_bom}
use Rattle.csv.specs.Writing.{default_writer, read_back, row_text, is_blank, fields_text as csv_fields_text, field_text as csv_field_text, needs_quotes as csv_needs_quotes}
use Rattle.sut_text.specs.Text.{field_text, file_text, line_text, needs_quotes}
use Rattle.sut_records.specs.Plain.{ArePlain, ArePlainRows, IsPlainRow}
use Rattle.sut_records.specs.RecordList.{Fields, records_of}
use Rattle.sut_records.specs.RowText.{text_of_rows}
use Rattle.sut_records.proofs.FieldTextLemmas.{needs-is, escaped-is}
use Rattle.sut_records.proofs.RowTextLemmas.{printed-rows}

regrouped : (a b c d : Bool) → (((a || b) || c) || d) ≡ (a || (b || (c || d)))
regrouped true b c d = refl
regrouped false true c d = refl
regrouped false false true d = refl
regrouped false false false d = refl

-- both tests of a field look for the same bytes
pub needs_quotes-is : (field : List ℕ) → csv_needs_quotes default_writer field ≡ needs_quotes field
needs_quotes-is field =
    ap (λ (p : ℕ → Bool). list_any p field) (λ i b. (needs-is b ∙ regrouped (b == 44) (b == 34) (b == 13) (b == 10)) i)

-- a field is printed as the csv writer writes it
pub field_text-is : (field : List ℕ) → field_text field ≡ csv_field_text default_writer field
field_text-is field = rw (needs_quotes-is field, escaped-is field) refl

plain-field : (field : List ℕ) → needs_quotes field ≡ false → csv_field_text default_writer field ≡ field
plain-field field plain = rw (needs_quotes-is field, plain) refl

plain-rest : (fields : Fields) → ArePlain fields → csv_fields_text default_writer fields ≡ flat_map (λ f. (44 ∷ []) ++ f) fields
unfolding csv_fields_text
plain-rest [] plain = refl
plain-rest (field ∷ fields) plain = rw (plain-field field plain.0, plain-rest fields plain.1) refl

-- a record without quotes is printed as the csv writer writes it
pub line_text-is : (row : Fields) → IsPlainRow row → line_text row ≡ row_text default_writer row
unfolding is_blank
line_text-is [] h = absurd (omega (arith, h.wide))
line_text-is (x ∷ []) h = absurd (omega (arith, h.wide))
line_text-is (x ∷ y ∷ rest) h = rw (plain-field x h.plain.0, plain-rest (y ∷ rest) h.plain.1) refl

pub lines-are : (rows : List Fields) → ArePlainRows rows → flat_map line_text rows ≡ text_of_rows rows
lines-are [] h = refl
lines-are (row ∷ rows) h = rw (line_text-is row h.0, lines-are rows h.1) refl

read_back-plain : (row : Fields) → 2 ≤ length row → read_back row ≡ row
read_back-plain [] h = absurd (omega arith)
read_back-plain (x ∷ rest) h = refl

all-read_back : (rows : List Fields) → ArePlainRows rows → map read_back rows ≡ rows
all-read_back [] h = refl
all-read_back (row ∷ rows) h = rw (read_back-plain row h.0.wide, all-read_back rows h.1) refl

-- a printed file reads back as its records
pub printed-file :
    (header : Fields) (lines : List Fields) → IsPlainRow header → ArePlainRows lines →
    strip_bom (file_text header lines) ≡ file_text header lines → records_of (file_text header lines) ≡ header ∷ lines
printed-file header lines h hs mark =
    let same : file_text header lines ≡ text_of_rows (header ∷ lines) = lines-are (header ∷ lines) (h, hs) in
    ap records_of same ∙ printed-rows (header ∷ lines) (ap strip_bom (sym same) ∙ mark ∙ same) ∙ all-read_back (header ∷ lines) (h, hs)
