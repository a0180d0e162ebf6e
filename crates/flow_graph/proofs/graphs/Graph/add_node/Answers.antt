use Rattle.std.proofs.Common.{◌<◌, length, refl, arith}
use Rattle.flow_graph.proofs.Grown.{stored_node}
use Rattle.flow_graph.proofs.graphs.Graph.add_node.Goals as goal

pub invariant_of-self-2 : goal.invariant_of-self-2
invariant_of-self-2 g c =
    let few : length c.self.inside.nodes.keys < 262_144 = omega (arith, c.if-len-ge-NODE_LIMIT.false, c.len.ensures.len) in
    stored_node _ _ c.self.inside.nodes.keys c.self.inside.names.keys c.self.inside.arcs.items c.self.inside.starts.items c.self.inside.links.items c.self.invariant
    c.push_node.new.names.keys c.push_node.new.starts.items c.args.name
    (c.if-not-push_node.ensures.named refl) (c.if-not-push_node.ensures.started refl) (c.if-not-push_node.ensures.unique refl) few
