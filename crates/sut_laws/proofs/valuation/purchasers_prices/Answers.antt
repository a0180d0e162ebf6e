use Rattle.sut_laws.proofs.Prices.{purchase-is}
use Rattle.sut_laws.proofs.valuation.purchasers_prices.Goals as goal

pub returns : goal.returns
returns c = λ p t ok of i q. purchase-is p t ok of i q
