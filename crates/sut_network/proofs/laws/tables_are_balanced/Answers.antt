use Rattle.sut_network.proofs.Balanced.{values-counted, values-balanced, table-back}
use Rattle.sut_network.proofs.laws.tables_are_balanced.Goals as goal

pub returns : goal.returns
returns c = λ p g ok network t of meets. (
  values-counted p ok g network t of,
  values-balanced p ok g network t of meets,
  table-back p ok g network t of,
)
