use Rattle.std.proofs.Common.{◌≡◌, ◌+◌, ◌^◌, ◌<◌, length}
use Rattle.sut_records.specs.FirstFault.{read_lines}
use Rattle.sut_classes.specs.ClassFile.{class_line}
use Rattle.sut_classes.proofs.read.read_all.Given as goal

abbrev pub invariant-lines : goal.invariant-lines
invariant-lines l = record {
  bound : l.line + length l.records < 2 ^ 63 + 1;
  same : read_lines class_line 2 l.fn.classes l.fn.records ≡ read_lines class_line (l.line + 1) l.classes l.records;
}

abbrev pub decreases-lines : goal.decreases-lines
decreases-lines l = length l.records
