use Rattle.std.proofs.Common.{◌≡◌, ◌+◌, ◌^◌, ◌<◌, [], length}
use Rattle.sut_records.specs.FirstFault.{read_lines}
use Rattle.sut_asks.specs.AsksFile.{ask_line}
use Rattle.sut_asks.proofs.read.read_lines_left.Given as goal

abbrev pub invariant-lines : goal.invariant-lines
invariant-lines l = record {
  bound : l.line + length l.records < 2 ^ 63 + 2;
  same : read_lines (ask_line l.p) 2 [] l.fn.records ≡ read_lines (ask_line l.p) l.line l.asks.items l.records;
}

abbrev pub decreases-lines : goal.decreases-lines
decreases-lines l = length l.records
