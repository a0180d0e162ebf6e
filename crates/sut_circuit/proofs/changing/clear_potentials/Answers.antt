use Rattle.std.proofs.Common.{◌≡◌, length, pos, replicate, refl, ◌∙◌, ap, arith}
use Rattle.sut_measures.specs.declared.accounts.Account.{Account}
use Rattle.sut_measures.specs.declared.measures.Measure.{Measure}
use Rattle.flow_graph.specs.Network.{Network}
use Rattle.sut_circuit.proofs.Cleared.{cleared-all, cleared-more}
use Rattle.sut_circuit.proofs.changing.clear_potentials.Goals as goal

pub loop-n-init : goal.loop-n-init
loop-n-init c = record { rest = refl; counted = refl; cleared = refl }

pub loop-n-preserved : goal.loop-n-preserved
loop-n-preserved c =
    let nodes = ap (λ (g : Network Account Measure). length g.nodes) c.graph.ensures.value in
    cleared-more c.args.state.now c.loop-n.state c.set_potential.new.self c.loop-n.n
    (omega (arith, c.loop-n.invariant.counted, c.graph.ensures.kept.potentials.counted, nodes, c.node_count-n-end.ensures.count)) c.set_potential.ensures c.loop-n.invariant

pub returns : goal.returns
returns c =
    let nodes = ap (λ (g : Network Account Measure). length g.nodes) c.graph.ensures.value in
    let all : c.loop-n.n ≡ length c.args.state.now.graph.nodes = omega (arith, nodes, c.node_count-n-end.ensures.count) in
    cleared-all c.args.state.now c.loop-n.state c.loop-n.n (omega (arith, c.loop-n.invariant.counted, c.graph.ensures.kept.potentials.counted, all)) c.loop-n.invariant
    ∙ ap (λ k. record c.args.state.now { potentials = replicate k (pos 0) }) all
