use Rattle.std.proofs.Common.{◌≡◌, ◌+◌, ◌^◌, ◌<◌, length}
use Rattle.sut_records.specs.FirstFault.{read_lines}
use Rattle.sut_edits.specs.EditsFile.{edit_line}
use Rattle.sut_edits.specs.EditRules.{AreEditsOf}
use Rattle.sut_edits.proofs.read.read_all.Given as goal

abbrev pub invariant-lines : goal.invariant-lines
invariant-lines l = record {
  bound : l.line + length l.records < 2 ^ 63 + 1;
  good : AreEditsOf l.s l.classes l.edits.items;
  same : read_lines (edit_line l.s l.classes) 2 l.fn.edits.items l.fn.records ≡ read_lines (edit_line l.s l.classes) (l.line + 1) l.edits.items l.records;
}

abbrev pub decreases-lines : goal.decreases-lines
decreases-lines l = length l.records
