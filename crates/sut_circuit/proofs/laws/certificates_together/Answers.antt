use Rattle.sut_circuit.proofs.PotentialsBack.{accounts-show}
use Rattle.sut_circuit.proofs.CutsBack.{accounts-contradict}
use Rattle.sut_circuit.proofs.laws.certificates_together.Goals as goal

pub returns : goal.returns
returns g c = λ p n costs b. (
  accounts-show g.C.Cost.value_at p b.problem b.limits n costs b.circuit,
  accounts-contradict g.C.Cost.value_at p b.problem b.limits n costs b.circuit,
)
