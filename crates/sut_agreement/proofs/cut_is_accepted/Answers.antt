use Rattle.sut_run.specs.Headlines.{source_name}
use Rattle.sut_agreement.proofs.Accepted.{cut-accepted}
use Rattle.sut_agreement.proofs.cut_is_accepted.Goals as goal

pub returns : goal.returns
returns c =
    λ seats command before after old new h. cut-accepted (source_name command) new h.settings h.problem h.written.set h.spelled h.written.spelled h.written.contradicts
