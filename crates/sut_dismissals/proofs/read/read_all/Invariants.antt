use Rattle.std.proofs.Common.{◌≡◌, ◌+◌, ◌^◌, ◌<◌, length}
use Rattle.sut_records.specs.FirstFault.{read_lines}
use Rattle.sut_dismissals.specs.DismissFile.{dismiss_line}
use Rattle.sut_dismissals.specs.DismissRules.{AreDismissals}
use Rattle.sut_dismissals.proofs.read.read_all.Given as goal

abbrev pub invariant-lines : goal.invariant-lines
invariant-lines l = record {
  bound : l.line + length l.records < 2 ^ 63 + 1;
  good : AreDismissals l.years l.lines.items;
  same : read_lines (dismiss_line l.years) 2 l.fn.lines.items l.fn.records ≡ read_lines (dismiss_line l.years) (l.line + 1) l.lines.items l.records;
}

abbrev pub decreases-lines : goal.decreases-lines
decreases-lines l = length l.records
