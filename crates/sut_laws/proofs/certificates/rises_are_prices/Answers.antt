use Rattle.sut_laws.proofs.Priced.{rises-are-prices}
use Rattle.sut_laws.proofs.certificates.rises_are_prices.Goals as goal

pub returns : goal.returns
returns c = rises-are-prices
