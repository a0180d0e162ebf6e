use Rattle.std.proofs.Common.{◌≡◌, take}
use Rattle.sut_circuit.specs.Circuit.{by_account}
use Rattle.sut_network.proofs.network_tables.potentials_of.Given as goal

abbrev pub invariant-loop-k : goal.invariant-loop-k
invariant-loop-k g l = l.pairs.items ≡ by_account (take l.k l.n.accounts.items) (take l.k l.n.state.potentials)
