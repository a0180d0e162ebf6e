use Rattle.std.proofs.Common.{◌≡◌, ◌+◌, ◌^◌, ◌<◌, [], length}
use Rattle.sut_records.specs.FirstFault.{read_lines}
use Rattle.sut_cert.specs.CertificateFile.{cut_line}
use Rattle.sut_cert.proofs.read.read_account_lines.Given as goal

abbrev pub invariant-lines : goal.invariant-lines
invariant-lines l = record {
  bound : l.line + length l.records < 2 ^ 63 + 2;
  same : read_lines (cut_line l.classes l.live) 2 [] l.fn.records ≡ read_lines (cut_line l.classes l.live) l.line l.set.items l.records;
}

abbrev pub decreases-lines : goal.decreases-lines
decreases-lines l = length l.records
