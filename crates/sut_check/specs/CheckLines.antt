-- The status line of a check: the program's name and a colon, the words of the status, each behind a space, and LF.
use Rattle.std.specs.Prelude.{ℕ, List, [], ◌∷◌, ◌++◌, codes}
use Rattle.sut_text.specs.Text.{spaced}
use Rattle.sut_status.specs.Endings.{memory_text, missing_text, too_long_text, unprinted_text, unread_text}
use Rattle.sut_status.specs.StatusLines.{class_text, settings_text, source_text, table_text}
use Rattle.sut_check.specs.ReasonTexts.{reason_text}
use Rattle.sut_check.specs.CheckFaultWords.{certificate_text}
use Rattle.sut_verify.specs.declared.verdicts.Reason.{Reason}
use Rattle.sut_check.specs.declared.statuses.CheckStatus.{CheckStatus}
use Rattle.sut_check.specs.declared.statuses.CheckStatus.TheVariants as status

abbrev pub usage_text : List ℕ
usage_text = spaced (codes "usage:" ∷ codes "no" ∷ codes "word," ∷ codes "or" ∷ codes "edited" ∷ [])

abbrev pub refused_text : Reason → List ℕ
refused_text r = spaced (codes "refused:" ∷ []) ++ reason_text r

-- the words of a status, each behind a space
abbrev pub check_status_text : CheckStatus → List ℕ
check_status_text status.Least = spaced (codes "ok" ∷ [])
check_status_text status.NoTable = spaced (codes "ok" ∷ [])
check_status_text (status.Refused r) = refused_text r
check_status_text (status.BadCertificate e) = certificate_text e
check_status_text (status.BadTable e) = table_text e
check_status_text status.NoMemory = memory_text
check_status_text status.Usage = usage_text
check_status_text (status.BadSettings e) = settings_text e
check_status_text (status.BadClasses e) = class_text e
check_status_text (status.BadSource e) = source_text e
check_status_text (status.ReadFault n) = unread_text n
check_status_text (status.Missing n) = missing_text n
check_status_text status.SinkFault = unprinted_text
check_status_text (status.TooLong n) = too_long_text n

abbrev pub check_line : CheckStatus → List ℕ
check_line s = codes "sutcheck:" ++ check_status_text s ++ codes "\n"
