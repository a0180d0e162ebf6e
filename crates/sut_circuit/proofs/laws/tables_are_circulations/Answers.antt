use Rattle.sut_circuit.proofs.Circulations.{flows-circulate, flows-cost, table-back}
use Rattle.sut_circuit.proofs.laws.tables_are_circulations.Goals as goal

pub returns : goal.returns
returns g c = λ p n costs b t admissible. (
  flows-circulate g.C.Cost.value_at p b.problem n costs b.circuit b.limits t admissible,
  flows-cost g.C.Cost.value_at p b.problem n costs b.circuit b.limits t admissible,
  table-back g.C.Cost.value_at p b.problem n costs b.circuit t admissible.of_problem,
)
