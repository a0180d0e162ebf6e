-- The status line: the program's name and a colon, the words of the status, each behind a space, and LF.
use Rattle.std.specs.Prelude.{ℕ, List, [], ◌∷◌, ◌++◌, Option, Some, None, codes, decimal}
use Rattle.sut_text.specs.Text.{spaced}
use Rattle.sut_outside.specs.declared.names.FileName.{FileName}
use Rattle.sut_outside.specs.declared.names.FileName.TheVariants.{SettingsToml, ClassesCsv, SourceCsv, EditsCsv, AsksCsv, DismissCsv, BalancedCsv}
use Rattle.sut_outside.specs.Names.{name_text}
use Rattle.sut_classes.specs.declared.faults.ClassFault.{ClassFault}
use Rattle.sut_classes.specs.declared.faults.ClassFault.TheVariants as class
use Rattle.sut_settings.specs.declared.SettingsFault.{SettingsFault}
use Rattle.sut_source.specs.declared.faults.SourceFault.{SourceFault}
use Rattle.sut_edits.specs.declared.faults.EditsFault.{EditsFault}
use Rattle.sut_readback.specs.declared.faults.BalancedFault.{BalancedFault}
use Rattle.sut_asks.specs.declared.faults.AskFault.{AskFault}
use Rattle.sut_dismissals.specs.declared.faults.DismissFault.{DismissFault}
use Rattle.sut_tables.specs.declared.tables.Broken.{Broken}
use Rattle.sut_status.specs.FaultWords.{ask_words, class_words, dismiss_words, edit_words, row_words, settings_words, table_words}
use Rattle.sut_status.specs.YearFiles.{year_file}
use Rattle.sut_status.specs.BrokenTexts.{broken_text}
use Rattle.sut_status.specs.Endings.{memory_text, missing_text, too_long_text, unprinted_text, unread_text}
use Rattle.sut_status.specs.declared.statuses.Status.{Status}
use Rattle.sut_status.specs.declared.statuses.Status.TheVariants as status

-- a file, and a line of it: `NAME:` and `NAME line K:`
abbrev pub in_file : FileName → List ℕ
in_file name = spaced (name_text name ∷ []) ++ codes ":"

abbrev pub on_line : FileName → ℕ → List ℕ
on_line name line = spaced (name_text name ∷ codes "line" ∷ decimal line ∷ []) ++ codes ":"

abbrev pub settings_text : SettingsFault → List ℕ
settings_text fault = in_file SettingsToml ++ spaced (settings_words fault)

-- the line of a fault of the classes, where it has one
abbrev pub class_line : ClassFault → Option ℕ
class_line (class.Csv n) = Some n
class_line (class.UnknownAxis n) = Some n
class_line (class.BadCode n) = Some n
class_line (class.UnknownKind n) = Some n
class_line (class.UnknownGroup n) = Some n
class_line (class.Duplicate n) = Some n
class_line class.Header = None
class_line (class.TooMany a) = None
class_line class.NoMemory = None

abbrev pub in_classes : Option ℕ → List ℕ
in_classes (Some line) = on_line ClassesCsv line
in_classes None = in_file ClassesCsv

abbrev pub class_text : ClassFault → List ℕ
class_text fault = in_classes (class_line fault) ++ spaced (class_words fault)

abbrev pub source_text : SourceFault → List ℕ
source_text fault = on_line SourceCsv fault.line ++ spaced (row_words fault.cause)

abbrev pub edits_text : EditsFault → List ℕ
edits_text fault = on_line EditsCsv fault.line ++ spaced (edit_words fault.cause)

abbrev pub table_text : BalancedFault → List ℕ
table_text fault = on_line BalancedCsv fault.line ++ spaced (table_words fault.cause)

abbrev pub asks_text : AskFault → List ℕ
asks_text fault = on_line AsksCsv fault.line ++ spaced (ask_words fault.cause)

abbrev pub dismiss_text : DismissFault → List ℕ
dismiss_text fault = on_line DismissCsv fault.line ++ spaced (dismiss_words fault.cause)

-- a line of a year's file; a year without a file stands by its number: `year N line K:`
abbrev pub on_line_of : Option FileName → ℕ → ℕ → List ℕ
on_line_of (Some name) year line = on_line name line
on_line_of None year line = spaced (codes "year" ∷ decimal year ∷ codes "line" ∷ decimal line ∷ []) ++ codes ":"

abbrev pub on_year_line : ℕ → ℕ → List ℕ
on_year_line year line = on_line_of (year_file year) year line

abbrev pub year_text : ℕ → SourceFault → List ℕ
year_text year fault = on_year_line year fault.line ++ spaced (row_words fault.cause)

-- ---- a status

abbrev pub usage_text : List ℕ
usage_text = spaced (codes "usage:" ∷ codes "a" ∷ codes "command" ∷ codes "of" ∷ codes "sut" ∷ [])

abbrev pub unwritten_text : FileName → List ℕ
unwritten_text name = spaced (codes "cannot" ∷ codes "write" ∷ name_text name ∷ [])

abbrev pub not_admissible_text : Broken → List ℕ
not_admissible_text b = spaced (codes "not" ∷ codes "admissible" ∷ []) ++ broken_text b

abbrev pub too_many_pairs_text : ℕ → List ℕ
too_many_pairs_text pairs = spaced (codes "too" ∷ codes "many" ∷ codes "pairs" ∷ decimal pairs ∷ [])

-- the words of a status, each behind a space
abbrev pub status_text : Status → List ℕ
status_text status.Balanced = spaced (codes "ok" ∷ [])
status_text status.Generated = spaced (codes "ok" ∷ [])
status_text status.Migrated = spaced (codes "ok" ∷ [])
status_text status.Published = spaced (codes "ok" ∷ [])
status_text status.Ranged = spaced (codes "ok" ∷ [])
status_text status.Series = spaced (codes "ok" ∷ [])
status_text status.Shared = spaced (codes "ok" ∷ [])
status_text status.NoMemory = memory_text
status_text status.Usage = usage_text
status_text status.Infeasible = spaced (codes "infeasible" ∷ [])
status_text (status.BadSettings e) = settings_text e
status_text (status.BadClasses e) = class_text e
status_text (status.BadSource e) = source_text e
status_text (status.BadEdits e) = edits_text e
status_text (status.BadTable e) = table_text e
status_text (status.NotAdmissible b) = not_admissible_text b
status_text (status.BadAsks e) = asks_text e
status_text (status.BadDismiss e) = dismiss_text e
status_text (status.TooManyPairs n) = too_many_pairs_text n
status_text (status.BadYear y e) = year_text y e
status_text (status.ReadFault n) = unread_text n
status_text (status.WriteFault n) = unwritten_text n
status_text (status.Missing n) = missing_text n
status_text status.SinkFault = unprinted_text
status_text (status.TooLong n) = too_long_text n

abbrev pub status_line : Status → List ℕ
status_line s = codes "sut:" ++ status_text s ++ codes "\n"
