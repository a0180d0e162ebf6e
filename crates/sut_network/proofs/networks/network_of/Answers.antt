use Rattle.sut_network.proofs.Grown.{spans-fit}
use Rattle.sut_network.proofs.networks.network_of.Goals as goal

pub new-requires : goal.new-requires
new-requires g c = spans-fit g.C.Cost.span_of c.args.bounds.now c.in_ok-graph.graph.arcs c.args.costs.items c.in_ok-graph.ensures.bounds c.requires.spans
