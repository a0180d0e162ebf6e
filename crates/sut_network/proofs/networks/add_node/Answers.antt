use Rattle.std.proofs.lemmas.Option.{MatchOption-at_none}
use Rattle.sut_circuit.proofs.Fresh.{node-fits}
use Rattle.sut_circuit.proofs.Names.{same_account}
use Rattle.sut_network.proofs.networks.add_node.Goals as goal

pub unreachable-requires : goal.unreachable-requires
unreachable-requires c =
    c.in_default.not-NoMemory (MatchOption-at_none _ _ (node-fits same_account c.args.graph.now c.args.account c.requires.fresh c.requires.room) c.in-Err.ensures.fault)
