-- An answer and the circuit that it was found on.
use Rattle.std.specs.Prelude.{◌≡◌}
use Rattle.sut_tables.specs.ProblemFacts.{ProblemFacts}
use Rattle.sut_cert.specs.declared.answers.Answer.{Answer}
use Rattle.sut_cert.specs.declared.answers.Answer.TheVariants as answer
use Rattle.sut_circuit.specs.Circuit.{flows_of, by_account}
use Rattle.sut_circuit.specs.declared.circuits.Circuit.{Circuit}

-- a table's values at the live measures are the flows of their arcs, and each account's potential is that of its node
abbrev pub IsFoundOn : ProblemFacts → Circuit → Answer → Type 0
IsFoundOn p c (answer.Balanced t ps) = (flows_of p t ≡ c.state.flows) × (ps ≡ by_account c.accounts.items c.state.potentials)
IsFoundOn p c (answer.Infeasible s) = Unit {0}
