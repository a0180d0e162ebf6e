use Rattle.sut_cert.proofs.Least.{shown-least}
use Rattle.sut_cert.proofs.laws.shown_least.Goals as goal

pub returns : goal.returns
returns c = λ p t ps ok s. shown-least p ok t ps s
