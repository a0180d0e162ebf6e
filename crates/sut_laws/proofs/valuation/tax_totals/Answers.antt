use Rattle.sut_laws.proofs.Prices.{tax-total}
use Rattle.sut_laws.proofs.valuation.tax_totals.Goals as goal

pub returns : goal.returns
returns c = λ p t ok of x. tax-total p t ok of x
