use Rattle.sut_write.proofs.Layers.{purchased}
use Rattle.sut_laws.proofs.valuation.supply_is_purchased.Goals as goal

pub returns : goal.returns
returns c = λ p t ok of meets i. purchased p t ok of meets i
