use Rattle.std.proofs.Common.{arith, ap, length}
use Rattle.flow_graph.specs.Network.{Network}
use Rattle.flow_residual.specs.Flows.{Flow}
use Rattle.flow_start.proofs.Rest.{flows_alone}
use Rattle.flow_start.proofs.starting.write_flows.Goals as goal

pub set_flow-requires : goal.set_flow-requires
set_flow-requires g c =
    let first = ap (λ (n : Network g.row.N.Denot g.row.A.Denot). length n.arcs) c.graph.ensures.value in
    let now = ap (λ (s : Flow g.row.N.Denot g.row.A.Denot g.row.C.Denot). length s.graph.arcs) c.loop-a.invariant in
    omega (arith, first, now, c.arc_count-a-end.ensures.count)

pub loop-a-preserved : goal.loop-a-preserved
loop-a-preserved g c = flows_alone c.args.s.now c.loop-a.s c.set_flow.new.self c.loop-a.a _ c.loop-a.invariant c.set_flow.ensures
