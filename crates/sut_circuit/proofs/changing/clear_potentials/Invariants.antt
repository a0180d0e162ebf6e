use Rattle.sut_circuit.proofs.Cleared.{IsCleared}
use Rattle.sut_circuit.proofs.changing.clear_potentials.Given as goal

abbrev pub invariant-loop-n : goal.invariant-loop-n
invariant-loop-n l = IsCleared l.initial.state l.state l.n
