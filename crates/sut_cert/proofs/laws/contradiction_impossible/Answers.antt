use Rattle.sut_cert.proofs.Cuts.{contradiction-impossible}
use Rattle.sut_cert.proofs.laws.contradiction_impossible.Goals as goal

pub returns : goal.returns
returns c = λ p set ok con. contradiction-impossible p ok set con
