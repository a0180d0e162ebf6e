-- When a `Circuit` is that of a problem.
use Rattle.std.specs.Prelude.{◌≡◌}
use Rattle.sut_tables.specs.ProblemFacts.{ProblemFacts}
use Rattle.sut_tables.specs.Problems.{live_accounts}
use Rattle.sut_circuit.specs.Circuit.{IsCircuitOf}
use Rattle.sut_circuit.specs.RowCosts.{cost_at}
use Rattle.sut_circuit.specs.declared.circuits.Circuit.{Circuit}

-- its accounts are the live ones in order, and its graph and costs are those of the problem
pub record IsCircuit (p : ProblemFacts) (c : Circuit) : Type 0 where
  pub accounts : c.accounts.items ≡ live_accounts p
  pub circuit : IsCircuitOf cost_at p c.state.graph c.state.costs
