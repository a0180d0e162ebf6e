use Rattle.std.proofs.Common.{◌<◌, length, sym, subst}
use Rattle.std.proofs.lemmas.Int.{to_z-of_z}
use mir.Syntax.{w64}
use Rattle.flow_graph.proofs.Grown.{stored_bounds, bounds_set}
use Rattle.flow_graph.proofs.graphs.Graph.set_bounds.Goals as goal

pub invariant_of-self : goal.invariant_of-self
invariant_of-self g c =
    let there : c.args.a.0 < length c.self.inside.arcs.items = subst (λ z. c.args.a.0 < length z.arcs) (sym c.self.view_is) c.requires.there in
    rw (to_z-of_z w64 c.args.lo c.ranges.lo, to_z-of_z w64 c.args.hi c.ranges.hi)
    (stored_bounds _ _ c.self.inside.nodes.keys c.self.inside.names.keys c.self.inside.arcs.items c.self.inside.starts.items c.self.inside.links.items c.self.invariant
    c.args.a.0 c.index_mut-arc.result.now c.args.lo c.args.hi there c.index_mut-arc.ensures.value c.requires.bounds)

pub returns : goal.returns
returns g c =
    rw (to_z-of_z w64 c.args.lo c.ranges.lo, to_z-of_z w64 c.args.hi c.ranges.hi)
    (bounds_set c.self.inside.nodes.keys c.self.inside.names.keys c.self.inside.arcs.items c.args.self.now c.args.a.0 c.index_mut-arc.result.now c.args.lo c.args.hi c.self.view_is c.requires.there c.index_mut-arc.ensures.value)
