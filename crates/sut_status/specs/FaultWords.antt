-- What is wrong with a file, in words: the variant's name in lower case with dashes, and then what it carries.
use Rattle.std.specs.Prelude.{ℕ, List, [], ◌∷◌, codes, decimal}
use Rattle.sut_text.specs.Text.{whole_text}
use Rattle.sut_classes.specs.declared.ids.Axis.{Axis}
use Rattle.sut_classes.specs.declared.ids.Axis.TheVariants as axis
use Rattle.sut_measures.specs.declared.faults.Field.{Field}
use Rattle.sut_measures.specs.declared.faults.Field.TheVariants as field
use Rattle.sut_measures.specs.declared.faults.NameFault.{NameFault}
use Rattle.sut_measures.specs.declared.faults.NameFault.TheVariants as name
use Rattle.sut_classes.specs.declared.faults.ClassFault.{ClassFault}
use Rattle.sut_classes.specs.declared.faults.ClassFault.TheVariants as class
use Rattle.sut_settings.specs.declared.SettingsFault.{SettingsFault}
use Rattle.sut_settings.specs.declared.SettingsFault.TheVariants as settings
use Rattle.sut_source.specs.declared.faults.RowFault.{RowFault}
use Rattle.sut_source.specs.declared.faults.RowFault.TheVariants as row
use Rattle.sut_edits.specs.declared.faults.EditsCause.{EditsCause}
use Rattle.sut_edits.specs.declared.faults.EditsCause.TheVariants as edits
use Rattle.sut_readback.specs.declared.faults.BalancedCause.{BalancedCause}
use Rattle.sut_readback.specs.declared.faults.BalancedCause.TheVariants as table
use Rattle.sut_asks.specs.declared.faults.AskCause.{AskCause}
use Rattle.sut_asks.specs.declared.faults.AskCause.TheVariants as ask
use Rattle.sut_dismissals.specs.declared.faults.DismissCause.{DismissCause}
use Rattle.sut_dismissals.specs.declared.faults.DismissCause.TheVariants as dismiss

-- the word of an axis
abbrev pub axis_word : Axis → List ℕ
axis_word axis.Product = codes "product"
axis_word axis.Industry = codes "industry"
axis_word axis.Final = codes "final"
axis_word axis.Item = codes "item"
axis_word axis.Margin = codes "margin"
axis_word axis.Tax = codes "tax"
axis_word axis.ProductGroup = codes "product_group"
axis_word axis.IndustryGroup = codes "industry_group"

-- the name of a field's column
abbrev pub field_word : Field → List ℕ
field_word field.Kind = codes "kind"
field_word field.A = codes "a"
field_word field.B = codes "b"
field_word field.C = codes "c"
field_word field.Target = codes "target"
field_word field.Grade = codes "grade"
field_word field.Lower = codes "lower"
field_word field.Upper = codes "upper"

-- a fault of the classes; its line stands before it
abbrev pub class_words : ClassFault → List (List ℕ)
class_words (class.Csv n) = codes "csv" ∷ []
class_words class.Header = codes "header" ∷ []
class_words (class.UnknownAxis n) = codes "unknown-axis" ∷ []
class_words (class.BadCode n) = codes "bad-code" ∷ []
class_words (class.UnknownKind n) = codes "unknown-kind" ∷ []
class_words (class.UnknownGroup n) = codes "unknown-group" ∷ []
class_words (class.Duplicate n) = codes "duplicate" ∷ []
class_words (class.TooMany a) = codes "too-many" ∷ axis_word a ∷ []
class_words class.NoMemory = codes "no-memory" ∷ []

-- a fault of the settings; its number counts keys
abbrev pub settings_words : SettingsFault → List (List ℕ)
settings_words settings.Toml = codes "toml" ∷ []
settings_words (settings.UnknownKey n) = codes "unknown-key" ∷ decimal n ∷ []
settings_words settings.NoScheme = codes "no-scheme" ∷ []
settings_words settings.BadScheme = codes "bad-scheme" ∷ []
settings_words settings.BadGrades = codes "bad-grades" ∷ []
settings_words settings.TooMany = codes "too-many" ∷ []
settings_words (settings.BadGrade n) = codes "bad-grade" ∷ decimal n ∷ []
settings_words settings.NoMemory = codes "no-memory" ∷ []

-- a fault of a row
abbrev pub row_words : RowFault → List (List ℕ)
row_words row.Csv = codes "csv" ∷ []
row_words row.Header = codes "header" ∷ []
row_words row.UnknownKind = codes "unknown-kind" ∷ []
row_words (row.UnknownCode f) = codes "unknown-code" ∷ field_word f ∷ []
row_words (row.NotEmpty f) = codes "not-empty" ∷ field_word f ∷ []
row_words row.WrongService = codes "wrong-service" ∷ []
row_words (row.NotNumber f) = codes "not-number" ∷ field_word f ∷ []
row_words (row.OutOfRange f) = codes "out-of-range" ∷ field_word f ∷ []
row_words row.UnknownGrade = codes "unknown-grade" ∷ []
row_words row.BadPenalty = codes "bad-penalty" ∷ []
row_words row.NoTarget = codes "no-target" ∷ []
row_words row.Crossed = codes "crossed" ∷ []
row_words (row.Duplicate n) = codes "duplicate" ∷ decimal n ∷ []
row_words row.TooMany = codes "too-many" ∷ []
row_words row.NoMemory = codes "no-memory" ∷ []

-- a fault of an edit; the fault of its row follows
abbrev pub edit_words : EditsCause → List (List ℕ)
edit_words edits.Csv = codes "csv" ∷ []
edit_words edits.Header = codes "header" ∷ []
edit_words edits.UnknownEdit = codes "unknown-edit" ∷ []
edit_words (edits.NotEmpty f) = codes "not-empty" ∷ field_word f ∷ []
edit_words (edits.BadRow r) = codes "bad-row" ∷ row_words r
edit_words edits.TooMany = codes "too-many" ∷ []
edit_words edits.NoRow = codes "no-row" ∷ []
edit_words edits.RowThere = codes "row-there" ∷ []
edit_words edits.Full = codes "full" ∷ []
edit_words edits.NoReviewer = codes "no-reviewer" ∷ []
edit_words edits.NoMemory = codes "no-memory" ∷ []

-- a fault in a name
abbrev pub name_words : NameFault → List (List ℕ)
name_words name.UnknownKind = codes "unknown-kind" ∷ []
name_words (name.UnknownCode f) = codes "unknown-code" ∷ field_word f ∷ []
name_words (name.NotEmpty f) = codes "not-empty" ∷ field_word f ∷ []
name_words name.WrongService = codes "wrong-service" ∷ []

-- a fault of a balanced table
abbrev pub table_words : BalancedCause → List (List ℕ)
table_words table.Csv = codes "csv" ∷ []
table_words table.Header = codes "header" ∷ []
table_words table.WrongMeasure = codes "wrong-measure" ∷ []
table_words table.WrongTarget = codes "wrong-target" ∷ []
table_words table.NotNumber = codes "not-number" ∷ []
table_words table.OutOfRange = codes "out-of-range" ∷ []
table_words (table.WrongTotal printed sum) = codes "wrong-total" ∷ whole_text printed ∷ whole_text sum ∷ []
table_words table.Short = codes "short" ∷ []
table_words table.NoMemory = codes "no-memory" ∷ []

-- a fault of asks; the fault of a name follows
abbrev pub ask_words : AskCause → List (List ℕ)
ask_words ask.Csv = codes "csv" ∷ []
ask_words ask.Header = codes "header" ∷ []
ask_words (ask.BadName e) = codes "bad-name" ∷ name_words e
ask_words ask.NotLive = codes "not-live" ∷ []
ask_words ask.TooMany = codes "too-many" ∷ []
ask_words ask.Short = codes "short" ∷ []
ask_words ask.NoMemory = codes "no-memory" ∷ []

-- a fault of dismissals
abbrev pub dismiss_words : DismissCause → List (List ℕ)
dismiss_words dismiss.Csv = codes "csv" ∷ []
dismiss_words dismiss.Header = codes "header" ∷ []
dismiss_words dismiss.WrongYear = codes "wrong-year" ∷ []
dismiss_words dismiss.TooMany = codes "too-many" ∷ []
dismiss_words dismiss.NoReviewer = codes "no-reviewer" ∷ []
dismiss_words dismiss.NoMemory = codes "no-memory" ∷ []
