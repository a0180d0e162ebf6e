use Rattle.std.proofs.Common.{rules, length, ◌∙◌, ap, arith}
use Rattle.std.proofs.lemmas.List.{length-take, take_all}
use Rattle.std.proofs.lemmas.Option.{slice_get-get_or}
use Rattle.sut_measures.specs.Keys.{account_key}
use Rattle.sut_measures.specs.declared.accounts.Account.{Account}
use Rattle.sut_measures.specs.declared.measures.Measure.{Measure}
use Rattle.flow_graph.specs.Network.{Network}
use Rattle.sut_tables.proofs.Conservation.{Sorted-from_ascending}
use Rattle.sut_circuit.proofs.Grown.{nodes_alone, node-more}
use Rattle.sut_circuit.proofs.Names.{same_account, account-same, none-before}
use Rattle.sut_network.proofs.networks.nodes_of.Goals as goal

pub add_node-requires-clause-fresh : goal.add_node-requires-clause-fresh
add_node-requires-clause-fresh c =
    let nodes = ap (λ (g : Network Account Measure). g.nodes) c.loop-account.invariant in
    rw nodes
    (none-before account_key same_account account-same c.args.accounts.now (Sorted-from_ascending account_key c.args.accounts.now c.requires.in_order) c.loop-account.account-index _
    (slice_get-get_or c.args.accounts.now c.loop-account.account-index _ (omega arith)))

pub add_node-requires-clause-room : goal.add_node-requires-clause-room
add_node-requires-clause-room c =
    let nodes = ap (λ (g : Network Account Measure). length g.nodes) c.loop-account.invariant in
    omega (arith, nodes, length-take c.loop-account.account-index c.args.accounts.now, c.requires.few)

pub loop-account-preserved : goal.loop-account-preserved
loop-account-preserved c =
    node-more c.args.accounts.now c.loop-account.account-index _ c.loop-account.graph c.add_node.new.graph (omega arith) (search rules) c.loop-account.invariant c.in_ok-add_node.ensures

pub returns : goal.returns
returns c = c.loop-account.invariant ∙ ap nodes_alone (take_all c.loop-account.account-index c.args.accounts.now (omega arith))
