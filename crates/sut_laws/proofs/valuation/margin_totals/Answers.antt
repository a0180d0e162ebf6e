use Rattle.sut_laws.proofs.Prices.{margin-total}
use Rattle.sut_laws.proofs.valuation.margin_totals.Goals as goal

pub returns : goal.returns
returns c = λ p t ok of k. margin-total p t ok of k
