use Rattle.sut_cert.proofs.Ranges.{ranges-tested}
use Rattle.sut_cert.proofs.certificates.are_potentials.Goals as goal

pub returns : goal.returns
returns c =
    let ranges = ranges-tested c.args.pairs.now c.are_in_range.result c.are_in_range.ensures in (
      (λ e. record { in_order = c.pairs_ascend.ensures.0 c.if-not-pairs_ascend.false; in_range = ranges.0 e }),
      (λ h. ranges.1 h.in_range),
    )
