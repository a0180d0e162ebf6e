-- A file by its first record.
use Rattle.std.proofs.Common.{◌≡◌, ◌∷◌, ℕ, List, [], Some, None, Err, refl}
use Rattle.sut_records.specs.RecordList.{Fields}
use Rattle.sut_records.specs.FirstFault.{read_lines}
use Rattle.sut_classes.specs.ClassFile.{class_line, classes_in, format_of, no_classes}
use Rattle.sut_classes.specs.declared.faults.ClassFault.TheVariants as fault

pub no-record : (all : List Fields) → all ≡ [] → classes_in all ≡ Err fault.Header
unfolding classes_in
no-record all e = rw e refl

pub no-format : (all : List Fields) (header : Fields) (rest : List Fields) → all ≡ header ∷ rest → format_of header ≡ None → classes_in all ≡ Err fault.Header
unfolding classes_in
no-format all header rest e f = rw (e, f) refl

pub under-format : (all : List Fields) (header : Fields) (rest : List Fields) (format : ℕ) → all ≡ header ∷ rest → format_of header ≡ Some format
    → classes_in all ≡ read_lines class_line 2 (no_classes format) rest
unfolding classes_in
under-format all header rest format e f = rw (e, f) refl
