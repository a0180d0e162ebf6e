use Rattle.std.proofs.Common.{◌≡◌, ◌≤◌, length, ◌*ℤ◌, sym, ◌∙◌, ap, subst, arith, to_z, of_z, to_z-of_z}
use mir.Syntax.{w64}
use Rattle.std.proofs.lemmas.Int.{ints}
use Rattle.sut_measures.specs.declared.accounts.Account.{Account}
use Rattle.sut_measures.specs.declared.measures.Measure.{Measure}
use Rattle.flow_graph.specs.Network.{Network}
use Rattle.sut_tables.specs.Problems.{IsTableOf, live_measures}
use Rattle.sut_tables.specs.Tables.{zeros}
use Rattle.sut_circuit.specs.TableFlows.{FitsIn}
use Rattle.sut_circuit.proofs.Flowed.{flow-put, none-put}
use Rattle.sut_network.specs.Networks.{times}
use Rattle.sut_network.proofs.Put.{flow-fits, measure-at, network-put, times-at}
use Rattle.sut_network.proofs.network_tables.table_of.Goals as goal

pub loop-a-init : goal.loop-a-init
loop-a-init g c =
    let p = c.args.p.now in
    let t = c.in_ok-table.ensures in
    t.value ∙ none-put p (zeros p) (times (to_z w64 (of_z w64 c.args.by)) c.args.n.now.state.flows) c.kept.ensures.problem (subst (IsTableOf p) t.value t.belongs)

pub put_times-requires : goal.put_times-requires
put_times-requires g c =
    let m = c.arc_name.result in
    let x = c.flow.result in
    let same : to_z w64 (of_z w64 x) ≡ x = omega (arith, ints, c.flow.type_inv) in
    let named = measure-at c.args.p.now c.args.n.now.state.graph c.graph-graph.result.now c.requires.network c.graph-graph.ensures.value c.loop-a.a m c.arc_name.ensures in
    let fits = flow-fits c.args.by (live_measures c.args.p.now) c.args.n.now.state.flows c.requires.fits c.loop-a.a m x named c.flow.ensures in
    subst (λ z. FitsIn m (z *ℤ to_z w64 (of_z w64 x))) (sym (to_z-of_z c.ranges.by)) (subst (λ z. FitsIn m (c.args.by *ℤ z)) (sym same) fits)

pub loop-a-preserved : goal.loop-a-preserved
loop-a-preserved g c =
    let p = c.args.p.now in
    let m = c.arc_name.result in
    let by = to_z w64 (of_z w64 c.args.by) in
    let x = to_z w64 (of_z w64 c.flow.result) in
    let same : x ≡ c.flow.result = omega (arith, ints, c.flow.type_inv) in
    let named = measure-at p c.args.n.now.state.graph c.graph-graph.result.now c.requires.network c.graph-graph.ensures.value c.loop-a.a m c.arc_name.ensures in
    let flows = c.args.n.now.state.flows in
    flow-put p (zeros p) (times by flows) c.loop-a.a m (by *ℤ x) c.loop-a.table c.put_times.new.table named
    (times-at by flows c.loop-a.a x c.flow.result c.flow.ensures same) c.loop-a.invariant c.put_times.ensures

pub returns : goal.returns
returns g c =
    let p = c.args.p.now in
    let s = c.args.n.now.state in
    let done : length s.graph.arcs ≤ c.loop-a.a = omega (arith, ap (λ (g : Network Account Measure). length g.arcs) c.graph-graph.ensures.value, c.arc_count-a-end.ensures.count) in
    network-put p s.graph c.requires.network (zeros p) c.loop-a.table (to_z w64 (of_z w64 c.args.by)) c.args.by s.flows c.loop-a.a c.graph-graph.ensures.kept.counted done (to_z-of_z c.ranges.by) c.loop-a.invariant
