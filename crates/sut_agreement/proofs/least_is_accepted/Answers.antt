use Rattle.sut_run.specs.Headlines.{source_name}
use Rattle.sut_agreement.proofs.Accepted.{least-accepted}
use Rattle.sut_agreement.proofs.least_is_accepted.Goals as goal

pub returns : goal.returns
returns c =
    λ seats command before after old new h. least-accepted (source_name command) new h.settings h.problem h.written.table h.written.shown_by h.spelled h.written.table_spelled h.written.certificate_spelled h.written.shown
