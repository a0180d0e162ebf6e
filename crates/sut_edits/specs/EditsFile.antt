-- Reading `edits.csv`: how a line is judged by the edits of the lines before it.
use Rattle.std.specs.Prelude.{ℕ, ◌==◌, nat_lt, if◌then◌else◌, Bool, true, false, List, [], ◌∷◌, ◌++◌, codes, count_by, find, length, not, Option, Some, None, Result, Ok, Err}
use Rattle.std.specs.Str.{bytes_eq}
use Rattle.sut_records.specs.RecordList.{Fields, field, records_of, same_fields}
use Rattle.sut_records.specs.FirstFault.{and_then, fault_as, only_if, or_fault, read_lines}
use Rattle.sut_classes.specs.ClassLists.{ClassLists}
use Rattle.sut_measures.specs.ReadNames.{measure_of}
use Rattle.sut_measures.specs.declared.faults.Field.{Field}
use Rattle.sut_measures.specs.declared.faults.Field.TheVariants as column
use Rattle.sut_measures.specs.declared.faults.NameFault.{NameFault}
use Rattle.sut_measures.specs.declared.measures.Measure.{Measure}
use Rattle.sut_tables.specs.RowFacts.{RowFacts}
use Rattle.sut_settings.specs.SettingsFacts.{SettingsFacts}
use Rattle.sut_source.specs.RowFile.{name_fault, row_fields}
use Rattle.sut_source.specs.RowFile as source
use Rattle.sut_edits.specs.declared.edits.Edit.{Edit}
use Rattle.sut_edits.specs.declared.edits.Edit.TheVariants as edit
use Rattle.sut_edits.specs.declared.edits.EditLine.{EditLine}
use Rattle.sut_edits.specs.declared.faults.EditsCause.{EditsCause}
use Rattle.sut_edits.specs.declared.faults.EditsCause.TheVariants as fault
use Rattle.sut_edits.specs.declared.faults.EditsFault.{EditsFault}
use Rattle.sut_edits.specs.declared.lines.Word.{Word}
use Rattle.sut_edits.specs.declared.lines.Word.TheVariants as word

-- ---- the fields of a line

-- the word of a line, which stands in its first field
abbrev pub word_of : List ℕ → Option Word
word_of text =
    if bytes_eq text (codes "set") then Some word.Set
    else if bytes_eq text (codes "add") then Some word.Add
    else if bytes_eq text (codes "drop") then Some word.Drop
    else if bytes_eq text (codes "balance") then Some word.Balance
    else if bytes_eq text (codes "dismiss") then Some word.Dismiss
    else None

-- the places of the other fields
abbrev pub place_of : Field → ℕ
place_of column.Kind = 1
place_of column.A = 2
place_of column.B = 3
place_of column.C = 4
place_of column.Target = 5
place_of column.Grade = 6
place_of column.Lower = 7
place_of column.Upper = 8

-- those that follow the word; those that follow a measure's name; those beside a label, which stands in field a
abbrev pub after_name : List Field
after_name = column.Target ∷ column.Grade ∷ column.Lower ∷ column.Upper ∷ []

abbrev pub after_word : List Field
after_word = column.Kind ∷ column.A ∷ column.B ∷ column.C ∷ after_name

abbrev pub beside_label : List Field
beside_label = column.Kind ∷ column.B ∷ column.C ∷ after_name

abbrev pub is_filled : Fields → Field → Bool
is_filled line at = not (length (field line (place_of at)) == 0)

-- the first of these fields that is not empty
abbrev pub first_filled : Fields → List Field → Option Field
first_filled line among = find (is_filled line) among

abbrev pub unless_filled : {A : Type 0} → Option Field → Result A EditsCause → Result A EditsCause
unless_filled None next = next
unless_filled (Some at) next = Err (fault.NotEmpty at)

-- what comes next where all of these fields are empty, or the fault of the first that is not
abbrev pub only_empty : {A : Type 0} → Fields → List Field → Result A EditsCause → Result A EditsCause
only_empty line among next = unless_filled (first_filled line among) next

-- ---- the edit of a line of nine fields

-- the row of a source behind the word
abbrev pub row_in : SettingsFacts → ClassLists → Fields → Result RowFacts EditsCause
row_in s cs line = fault_as fault.BadRow (source.row_in s cs (row_fields 1 line))

-- the measure that is named behind the word
abbrev pub measure_in : ClassLists → Fields → Result Measure EditsCause
measure_in cs line =
    fault_as (λ (f : NameFault). fault.BadRow (name_fault f)) (measure_of cs (field line 1) (field line 2) (field line 3) (field line 4))

abbrev pub drop_in : ClassLists → Fields → Result Edit EditsCause
drop_in cs line = and_then (measure_in cs line) (λ m. only_empty line after_name (Ok (edit.Drop m)))

abbrev pub dismiss_in : Fields → Result Edit EditsCause
dismiss_in line = only_empty line beside_label (Ok (edit.Dismiss (field line 2)))

unfoldable pub edit_with : SettingsFacts → ClassLists → Fields → Word → Result Edit EditsCause
edit_with s cs line word.Set = and_then (row_in s cs line) (λ r. Ok (edit.Set r))
edit_with s cs line word.Add = and_then (row_in s cs line) (λ r. Ok (edit.Add r))
edit_with s cs line word.Drop = drop_in cs line
edit_with s cs line word.Balance = only_empty line after_word (Ok edit.Balance)
edit_with s cs line word.Dismiss = dismiss_in line

-- the edit that a line says, or its first fault
abbrev pub edit_in : SettingsFacts → ClassLists → Fields → Result Edit EditsCause
edit_in s cs line = or_fault (word_of (field line 0)) fault.UnknownEdit (edit_with s cs line)

-- ---- the lines

abbrev pub is_balance : Edit → Bool
is_balance edit.Balance = true
is_balance (edit.Set r) = false
is_balance (edit.Add r) = false
is_balance (edit.Drop m) = false
is_balance (edit.Dismiss label) = false

abbrev pub balances_in : List EditLine → ℕ
balances_in before = count_by (λ (l : EditLine). is_balance l.edit) before

-- at most 4,096 edits, and 15 rebalances among them
abbrev pub has_room_for : List EditLine → Edit → Bool
has_room_for before e =
    if nat_lt (length before) 4096 then (if is_balance e then nat_lt (balances_in before) 15 else true)
    else false

-- the edits with that of line n
abbrev pub edit_added : ℕ → List EditLine → Edit → Result (List EditLine) EditsCause
edit_added n before e = only_if (has_room_for before e) fault.TooMany (Ok (before ++ record { line = n; edit = e } ∷ []))

-- a cause with its line
abbrev pub at_line : {A : Type 0} → ℕ → Result A EditsCause → Result A EditsFault
at_line n r = fault_as (λ cause. record { line = n; cause = cause }) r

-- line n, after the edits of the lines before it
unfoldable pub edit_line : SettingsFacts → ClassLists → ℕ → List EditLine → Fields → Result (List EditLine) EditsFault
edit_line s cs n before line = at_line n
    (only_if (length line == 9) fault.Csv
    (and_then (edit_in s cs line) (edit_added n before)))

-- ---- the file

abbrev pub edits_header : Fields
edits_header = codes "edit" ∷ codes "kind" ∷ codes "a" ∷ codes "b" ∷ codes "c" ∷ codes "target" ∷ codes "grade" ∷ codes "lower" ∷ codes "upper" ∷ []

-- the records under the header
unfoldable pub under_header : List Fields → Result (List Fields) EditsFault
under_header [] = Err (record { line = 1; cause = fault.Header })
under_header (header ∷ lines) = only_if (same_fields header edits_header) (record { line = 1; cause = fault.Header }) (Ok lines)

-- what the records of a file give: the edits with their lines, or the first fault with its line
abbrev pub edits_in : SettingsFacts → ClassLists → List Fields → Result (List EditLine) EditsFault
edits_in s cs records = and_then (under_header records) (λ lines. read_lines (edit_line s cs) 2 [] lines)

abbrev pub edits_of : SettingsFacts → ClassLists → List ℕ → Result (List EditLine) EditsFault
edits_of s cs bytes = edits_in s cs (records_of bytes)
