use Rattle.std.proofs.Common.{length, ◌∙◌, sym, subst}
use Rattle.std.specs.List.{AllZip}
use Rattle.flow_graph.specs.Circulation.{IsFlow}
use Rattle.flow_residual.proofs.Excesses.{first_are_flows, kept_at_first}
use Rattle.flow_residual.proofs.states.State.new.Goals as goal

pub excesses_of-requires : goal.excesses_of-requires
excesses_of-requires g c =
    let net = c.node_count-nodes.ensures.network in
    subst (λ z. AllZip IsFlow c.args.g.arcs z) (sym (c.deref.ensures.value ∙ c.in_ok-flows.ensures)) (first_are_flows (length c.args.g.nodes) c.args.g.arcs net.arcs_fit)

pub invariant_of-result : goal.invariant_of-result
invariant_of-result g c =
    let net = c.node_count-nodes.ensures.network in
    kept_at_first _ _ _ c.args.g c.args.costs.items c.in_ok-flows.flows.items c.in_ok-potentials.potentials.items c.in_ok-excesses.excesses.items c.deref.result.now c.node_count-nodes.result
    net c.requires c.in_ok-flows.ensures c.in_ok-potentials.ensures c.node_count-nodes.ensures.count c.deref.ensures.value c.in_ok-excesses.ensures.counted c.in_ok-excesses.ensures.each
