use Rattle.std.proofs.Common.{arith, ap, length}
use Rattle.flow_graph.specs.Network.{Network}
use Rattle.flow_residual.specs.Flows.{Flow}
use Rattle.flow_start.proofs.Rest.{potentials_alone}
use Rattle.flow_start.proofs.starting.write_potentials.Goals as goal

pub set_potential-requires-clause-there : goal.set_potential-requires-clause-there
set_potential-requires-clause-there g c =
    let first = ap (λ (n : Network g.row.N.Denot g.row.A.Denot). length n.nodes) c.graph.ensures.value in
    let now = ap (λ (s : Flow g.row.N.Denot g.row.A.Denot g.row.C.Denot). length s.graph.nodes) c.loop-n.invariant in
    omega (arith, first, now, c.node_count-n-end.ensures.count)

pub loop-n-preserved : goal.loop-n-preserved
loop-n-preserved g c = potentials_alone c.args.s.now c.loop-n.s c.set_potential.new.self _ c.loop-n.invariant c.set_potential.ensures
