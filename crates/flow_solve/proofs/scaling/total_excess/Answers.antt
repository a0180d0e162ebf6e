use Rattle.std.proofs.Common.{rules, ◌≡◌, ◌<◌, length, arith}
use Rattle.std.proofs.lemmas.Int.{ints, to_z-of_z}
use Rattle.std.proofs.lemmas.List.Elements.{recursion_from_All}
use mir.Syntax.{w128}
use mir.Val.{to_z, SFits}
use Rattle.flow_graph.specs.Network.{IsArcAmong}
use Rattle.flow_residual.proofs.Changes.{excess_small}
use Rattle.flow_solve.specs.Bounds.{surplus_below}
use Rattle.flow_solve.proofs.Sums.{surplus_low, surplus_small}
use Rattle.flow_solve.proofs.scaling.total_excess.Goals as goal

pub with_positive-sum-requires-clause-sum : goal.with_positive-sum-requires-clause-sum
with_positive-sum-requires-clause-sum g c =
    let k = c.graph.ensures.kept in
    let fit = recursion_from_All (IsArcAmong (length c.args.s.now.graph.nodes)) c.args.s.now.graph.arcs k.network.arcs_fit in
    let is : to_z w128 c.loop-n.sum-bits ≡ surplus_below c.args.s.now.graph.arcs c.args.s.now.flows c.loop-n.n = c.loop-n.invariant in
    let low = surplus_low c.args.s.now.graph.arcs c.args.s.now.flows c.loop-n.n in
    let high = surplus_small (length c.args.s.now.graph.nodes) c.args.s.now.graph.arcs c.args.s.now.flows fit k.bounded k.network.arc_limit c.loop-n.n in
    let there : c.loop-n.n < length c.args.s.now.graph.nodes = search rules in
    record { low = omega (arith, ints, is, low); high = omega (arith, ints, is, high, there, k.network.node_limit) }

pub with_positive-sum-requires-clause-x : goal.with_positive-sum-requires-clause-x
with_positive-sum-requires-clause-x g c =
    let k = c.graph.ensures.kept in
    let fit = recursion_from_All (IsArcAmong (length c.args.s.now.graph.nodes)) c.args.s.now.graph.arcs k.network.arcs_fit in
    let fits : SFits w128 c.excess.result = record { sfits = c.excess.type_inv } in
    let e = c.excess.ensures in
    let s = excess_small (length c.args.s.now.graph.nodes) c.args.s.now.graph.arcs c.args.s.now.flows c.loop-n.n fit k.bounded in
    rw (to_z-of_z w128 c.excess.result fits) (record { low = omega (arith, ints, e, s.low, k.network.arc_limit); high = omega (arith, ints, e, s.high, k.network.arc_limit) })
