use Rattle.sut_laws.proofs.GdpSums.{expenditure-is, income-is, production-is}
use Rattle.sut_laws.proofs.accounts.gdp_is_summed.Goals as goal

pub returns : goal.returns
returns c = λ p t ok of. (production-is p t ok of, income-is p t ok of, expenditure-is p t ok of)
