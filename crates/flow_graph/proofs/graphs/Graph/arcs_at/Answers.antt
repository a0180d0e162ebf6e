use Rattle.std.proofs.Common.{◌<◌, length, sym, subst}
use Rattle.std.specs.List.Sorted.{IsPermutation}
use Rattle.flow_graph.specs.Network.{arcs_touching}
use Rattle.flow_graph.proofs.Linked.{start_is, at_start, start_permutes}
use Rattle.flow_graph.proofs.graphs.Graph.arcs_at.Goals as goal

pub from-requires : goal.from-requires
from-requires g c =
    let there : c.args.n.0 < length c.self.inside.nodes.keys = subst (λ z. c.args.n.0 < length z.nodes) (sym c.self.view_is) c.requires in
    let start = start_is (length c.self.inside.nodes.keys) c.args.n.0 c.self.inside.arcs.items c.self.inside.starts.items c.index.result.now c.self.invariant.started there c.index.ensures in
    rw (c.deref.ensures.value, c.deref-2.ensures.value)
    (at_start c.args.n.0 c.self.inside.arcs.items c.self.inside.links.items c.index.result.now c.self.invariant.linked start)

pub returns : goal.returns
returns g c =
    let there : c.args.n.0 < length c.self.inside.nodes.keys = subst (λ z. c.args.n.0 < length z.nodes) (sym c.self.view_is) c.requires in
    let start = start_is (length c.self.inside.nodes.keys) c.args.n.0 c.self.inside.arcs.items c.self.inside.starts.items c.index.result.now c.self.invariant.started there c.index.ensures in
    subst (λ z. IsPermutation (arcs_touching c.args.n.0 0 z.arcs) c.from.result) c.self.view_is
    (rw (c.from.ensures, c.deref.ensures.value) (start_permutes c.args.n.0 c.self.inside.arcs.items c.index.result.now start))
