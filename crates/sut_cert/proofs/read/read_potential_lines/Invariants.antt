use Rattle.std.proofs.Common.{◌≡◌, ◌+◌, ◌^◌, ◌<◌, [], length}
use Rattle.sut_records.specs.FirstFault.{read_lines}
use Rattle.sut_cert.specs.CertificateFile.{potential_line}
use Rattle.sut_cert.proofs.read.read_potential_lines.Given as goal

abbrev pub invariant-lines : goal.invariant-lines
invariant-lines l = record {
  bound : l.line + length l.records < 2 ^ 63 + 2;
  count : l.line + length l.records ≡ 2 + length l.fn.records;
  same : read_lines (potential_line l.classes l.live) 2 [] l.fn.records ≡ read_lines (potential_line l.classes l.live) l.line l.given.items l.records;
}

abbrev pub decreases-lines : goal.decreases-lines
decreases-lines l = length l.records
