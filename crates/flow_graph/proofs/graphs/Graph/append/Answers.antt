use Rattle.std.proofs.Common.{◌≡◌, ◌<◌, length, refl, sym, subst, arith}
use Rattle.flow_graph.specs.Network.{IsArcAmong}
use Rattle.flow_graph.proofs.Grown.{stored_arc}
use Rattle.flow_graph.proofs.graphs.Graph.append.Goals as goal

pub invariant_of-self-2 : goal.invariant_of-self-2
invariant_of-self-2 g c =
    let id : c.len.result ≡ length c.self.inside.arcs.items = omega (arith, c.len.ensures, c.self.inside.arcs.ok.0) in
    let few : length c.self.inside.arcs.items < 524_288 = subst (λ z. length z.arcs < 524_288) (sym c.self.view_is) c.requires.room in
    let among : IsArcAmong (length c.self.inside.nodes.keys) c.args.arc = subst (λ z. IsArcAmong (length z.nodes) c.args.arc) (sym c.self.view_is) c.requires.among in
    stored_arc _ _ c.self.inside.nodes.keys c.self.inside.names.keys c.self.inside.arcs.items c.self.inside.starts.items c.self.inside.links.items c.self.invariant
    c.push_name.new.names.keys c.push_linked.new.arcs.items c.push_linked.new.links.items c.args.name c.args.arc (record { tail = c.index.result.now; head = c.index-2.result.now }) c.len.result
    (c.if-not-push_name.ensures.added refl) (c.if-not-push_linked.ensures.added refl) (c.if-not-push_linked.ensures.linked refl) id
    c.index.ensures c.index-2.ensures c.push_name.ensures.unique among few
