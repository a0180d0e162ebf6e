use Rattle.sut_circuit.proofs.Circulations.{flows-back, table-admissible, same-cost}
use Rattle.std.proofs.Common.{sym}
use Rattle.sut_circuit.proofs.laws.circulations_are_tables.Goals as goal

pub returns : goal.returns
returns g c = λ p n costs b xs circulation. (
  table-admissible g.C.Cost.value_at p b.problem n costs b.circuit xs circulation,
  flows-back g.C.Cost.value_at p b.problem n costs b.circuit xs circulation,
  sym (same-cost g.C.Cost.value_at p b.problem n costs b.circuit xs circulation),
)
