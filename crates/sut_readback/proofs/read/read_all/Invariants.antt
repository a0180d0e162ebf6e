use Rattle.std.proofs.Common.{◌≡◌, ◌+◌, length}
use Rattle.sut_records.specs.FirstFault.{read_lines}
use Rattle.sut_readback.specs.BalancedFile.{table_line}
use Rattle.sut_readback.proofs.read.read_all.Given as goal

abbrev pub invariant-lines : goal.invariant-lines
invariant-lines l = record {
  count : l.line + length l.records ≡ length l.fn.records + 2;
  same : read_lines (table_line l.p) 2 l.fn.reading l.fn.records ≡ read_lines (table_line l.p) l.line l.reading l.records;
}

abbrev pub decreases-lines : goal.decreases-lines
decreases-lines l = length l.records
