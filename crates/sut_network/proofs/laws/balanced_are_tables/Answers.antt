use Rattle.sut_network.proofs.Balanced.{table-of_problem, table-identities, values-back}
use Rattle.sut_network.proofs.laws.balanced_are_tables.Goals as goal

pub returns : goal.returns
returns c = λ p g ok network xs counted balanced. (
  table-of_problem p ok g network xs counted balanced,
  table-identities p ok g network xs counted balanced,
  values-back p ok g network xs counted balanced,
)
