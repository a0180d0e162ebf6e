-- A line by its steps, and a file by its first record.
use Rattle.std.proofs.Common.{◌≡◌, ◌==◌, ◌∷◌, ◌++◌, ℕ, List, [], true, false, Result, Ok, Err, length, refl, sym, ap}
use Rattle.sut_records.specs.RecordList.{Fields, same_fields}
use Rattle.sut_records.specs.FirstFault.{and_then, read_lines}
use Rattle.sut_classes.specs.ClassLists.{ClassLists}
use Rattle.sut_settings.specs.SettingsFacts.{SettingsFacts}
use Rattle.sut_edits.specs.declared.edits.Edit.{Edit}
use Rattle.sut_edits.specs.declared.edits.EditLine.{EditLine}
use Rattle.sut_edits.specs.declared.faults.EditsCause.{EditsCause}
use Rattle.sut_edits.specs.declared.faults.EditsCause.TheVariants as fault
use Rattle.sut_edits.specs.declared.faults.EditsFault.{EditsFault}
use Rattle.sut_edits.specs.EditsFile.{edit_added, edit_in, edit_line, edits_header, edits_in, under_header}

module _ (s : SettingsFacts) (cs : ClassLists) (n : ℕ) (before : List EditLine) (line : Fields) where
  pub line-short : (length line == 9) ≡ false → edit_line s cs n before line ≡ Err (record { line = n; cause = fault.Csv })
  unfolding edit_line
  line-short e = rw e refl

  pub line-fault : (cause : EditsCause) → (length line == 9) ≡ true → edit_in s cs line ≡ Err cause → edit_line s cs n before line ≡ Err (record { line = n; cause = cause })
  unfolding edit_line
  line-fault cause e f = rw (e, f) refl

  pub line-refused : (edit : Edit) (cause : EditsCause) → (length line == 9) ≡ true → edit_in s cs line ≡ Ok edit → edit_added n before edit ≡ Err cause
      → edit_line s cs n before line ≡ Err (record { line = n; cause = cause })
  unfolding edit_line
  line-refused edit cause e f g = rw (e, f, g) refl

  pub line-added : (edit : Edit) (after : List EditLine) → (length line == 9) ≡ true → edit_in s cs line ≡ Ok edit → edit_added n before edit ≡ Ok after
      → edit_line s cs n before line ≡ Ok after
  unfolding edit_line
  line-added edit after e f g = rw (e, f, g) refl

pub no-record : (all : List Fields) → all ≡ [] → under_header all ≡ Err (record { line = 1; cause = fault.Header })
unfolding under_header
no-record all e = rw e refl

pub other-header : (all : List Fields) (header : Fields) (rest : List Fields) → all ≡ header ∷ rest → same_fields header edits_header ≡ false
    → under_header all ≡ Err (record { line = 1; cause = fault.Header })
unfolding under_header
other-header all header rest e f = rw (e, f) refl

pub right-header : (all : List Fields) (header : Fields) (rest : List Fields) → all ≡ header ∷ rest → same_fields header edits_header ≡ true
    → under_header all ≡ Ok rest
unfolding under_header
right-header all header rest e f = rw (e, f) refl

module _ (s : SettingsFacts) (cs : ClassLists) where
  pub file-read : (all lines : List Fields) (r : Result (List EditLine) EditsFault) → under_header all ≡ Ok lines
      → read_lines (edit_line s cs) 2 [] lines ≡ r → edits_in s cs all ≡ r
  file-read all lines r under read = rw (ap (λ u. and_then u (λ lines. read_lines (edit_line s cs) 2 [] lines)) under) read

  pub file-fault : (all : List Fields) (e : EditsFault) → under_header all ≡ Err e → edits_in s cs all ≡ Err e
  file-fault all e under = ap (λ u. and_then u (λ lines. read_lines (edit_line s cs) 2 [] lines)) under
