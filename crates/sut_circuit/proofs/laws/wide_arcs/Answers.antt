use Rattle.sut_circuit.proofs.WideArcs.{wide-arcs}
use Rattle.sut_circuit.proofs.laws.wide_arcs.Goals as goal

pub returns : goal.returns
returns g c = wide-arcs g.C.Cost.value_at
