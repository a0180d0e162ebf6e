use Rattle.sut_circuit.proofs.Circulations.{least-table, least-flows, none-impossible, impossible-none}
use Rattle.sut_circuit.proofs.laws.least_together.Goals as goal

pub returns : goal.returns
returns g c = λ p n costs b. (
  least-table g.C.Cost.value_at p b.problem n costs b.circuit b.limits,
  least-flows g.C.Cost.value_at p b.problem n costs b.circuit b.limits,
  (none-impossible g.C.Cost.value_at p b.problem n costs b.circuit b.limits, impossible-none g.C.Cost.value_at p b.problem n costs b.circuit),
)
