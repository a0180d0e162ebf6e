use Rattle.sut_circuit.proofs.RightAnswers.{answers-right}
use Rattle.sut_circuit.proofs.laws.answers_are_right.Goals as goal

pub returns : goal.returns
returns g c = answers-right g.C.Cost.value_at
