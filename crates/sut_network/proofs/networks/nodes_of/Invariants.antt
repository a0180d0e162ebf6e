use Rattle.std.proofs.Common.{◌≡◌, take}
use Rattle.sut_circuit.proofs.Grown.{nodes_alone}
use Rattle.sut_network.proofs.networks.nodes_of.Given as goal

abbrev pub invariant-loop-account : goal.invariant-loop-account
invariant-loop-account l = l.graph ≡ nodes_alone (take l.account-index l.accounts)
