use Rattle.std.proofs.Common.{◌≡◌, ◌+◌, ◌^◌, ◌<◌, length}
use Rattle.sut_records.specs.FirstFault.{read_lines}
use Rattle.sut_source.specs.SourceFile.{source_line}
use Rattle.sut_source.specs.LinedRows.{KeepsLines, lined_rows}
use Rattle.sut_source.proofs.read.read_all.Given as goal

abbrev pub invariant-source : goal.invariant-source
invariant-source l = record {
  bound : l.line + length l.records < 2 ^ 63 + 1;
  keeps : KeepsLines l.problem.rows l.lines.entries;
  classes : l.problem.classes ≡ l.fn.problem.classes;
  same : read_lines (source_line l.s l.fn.problem.classes) 2 (lined_rows l.fn.problem.rows l.fn.lines.entries) l.fn.records
      ≡ read_lines (source_line l.s l.fn.problem.classes) (l.line + 1) (lined_rows l.problem.rows l.lines.entries) l.records;
}

abbrev pub decreases-source : goal.decreases-source
decreases-source l = length l.records
