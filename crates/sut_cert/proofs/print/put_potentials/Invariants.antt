use Rattle.std.proofs.Common.{◌≡◌, ◌++◌, map, take}
use Rattle.std.specs.List.{flat_map}
use Rattle.sut_text.specs.Text.{line_text}
use Rattle.sut_cert.specs.CertificateText.{potential_fields}
use Rattle.sut_cert.proofs.print.put_potentials.Given as goal

abbrev pub invariant-loop-pair : goal.invariant-loop-pair
invariant-loop-pair l = l.out.items ≡ l.fn.out.items ++ flat_map line_text (map (potential_fields l.classes) (take l.pair-index l.pairs))
