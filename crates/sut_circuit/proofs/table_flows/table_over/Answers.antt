use Rattle.std.proofs.Common.{◌≡◌, ◌≤◌, length, Some, sym, ◌∙◌, ap, subst, arith, pos, to_z, of_z}
use mir.Syntax.{w64}
use Rattle.std.proofs.lemmas.Int.{ints}
use Rattle.std.specs.Prelude.{slice_get}
use Rattle.sut_measures.specs.declared.accounts.Account.{Account}
use Rattle.sut_measures.specs.declared.measures.Measure.{Measure}
use Rattle.flow_graph.specs.Network.{Network}
use Rattle.sut_tables.specs.Costs.{IsAdmissible, cost}
use Rattle.sut_tables.specs.Problems.{live_accounts, live_measures}
use Rattle.sut_circuit.specs.Circuit.{IsArcOf, flows_of, table_from}
use Rattle.sut_circuit.specs.RowCosts.{cost_at}
use Rattle.sut_circuit.specs.TableFlows.{FitsIn}
use Rattle.sut_circuit.proofs.Circulations.{flows-back, same-cost, table-admissible}
use Rattle.sut_circuit.proofs.Flowed.{all-put, flow-fits, flow-put, none-put}
use Rattle.sut_circuit.proofs.Places.{zip-length}
use Rattle.sut_circuit.proofs.table_flows.table_over.Goals as goal

pub loop-a-init : goal.loop-a-init
loop-a-init c = none-put c.args.p.now c.args.table c.args.c.now.state.flows c.kept.ensures.problem c.requires.table

-- the arc's measure is the live one at its place
measure_at : (c : goal.After-flow) → slice_get (live_measures c.args.p.now) c.loop-a.a ≡ Some c.arc_name.result
measure_at c =
    subst (λ ms. slice_get ms c.loop-a.a ≡ Some c.arc_name.result) (ap (λ (g : Network Account Measure). g.names) c.graph-graph.ensures.value ∙ c.requires.circuit.circuit.measures) c.arc_name.ensures

same_flow : (c : goal.After-flow) → to_z w64 (of_z w64 c.flow.result) ≡ c.flow.result
same_flow c = omega (arith, ints, c.flow.type_inv)

pub put_flow-requires : goal.put_flow-requires
put_flow-requires c =
    let s = c.args.c.now.state in
    subst (FitsIn c.arc_name.result) (sym (same_flow c))
    (flow-fits cost_at c.args.p.now c.kept.ensures.problem s.graph s.costs c.requires.circuit.circuit s.flows c.requires.circulation c.loop-a.a c.arc_name.result c.flow.result (measure_at c) c.flow.ensures)

pub loop-a-preserved : goal.loop-a-preserved
loop-a-preserved c =
    let x = to_z w64 (of_z w64 c.flow.result) in
    let same : x ≡ c.flow.result = omega (arith, ints, c.flow.type_inv) in
    let named : slice_get (live_measures c.args.p.now) c.loop-a.a ≡ Some c.arc_name.result =
    subst (λ ms. slice_get ms c.loop-a.a ≡ Some c.arc_name.result) (ap (λ (g : Network Account Measure). g.names) c.graph-graph.ensures.value ∙ c.requires.circuit.circuit.measures) c.arc_name.ensures in
    flow-put c.args.p.now c.args.table c.args.c.now.state.flows c.loop-a.a c.arc_name.result x c.loop-a.table c.put_flow.new.table named (c.flow.ensures ∙ ap Some (sym same)) c.loop-a.invariant c.put_flow.ensures

-- at the end the table is that of the flows
table_is : (c : goal.After-loop-a) → c.loop-a.table ≡ table_from c.args.p.now c.args.c.now.state.flows
table_is c =
    let p = c.args.p.now in
    let s = c.args.c.now.state in
    let arcs : length s.graph.arcs ≤ c.loop-a.a = omega (arith, ap (λ (g : Network Account Measure). length g.arcs) c.graph-graph.ensures.value, c.arc_count-a-end.ensures.count) in
    let zipped = zip-length (IsArcOf p (live_accounts p)) (live_measures p) s.graph.arcs c.requires.circuit.circuit.arcs in
    c.loop-a.invariant
    ∙ all-put p c.args.table s.flows c.loop-a.a
    (omega (arith, arcs, zipped))
    (omega (arith, arcs, c.graph-graph.ensures.kept.counted))
    (omega (arith, zipped, c.graph-graph.ensures.kept.counted))

pub returns-clause-table : goal.returns-clause-table
returns-clause-table c = table_is c

pub returns-clause-admissible : goal.returns-clause-admissible
returns-clause-admissible c =
    let s = c.args.c.now.state in
    subst (IsAdmissible c.args.p.now) (sym (table_is c))
    (table-admissible cost_at c.args.p.now c.kept.ensures.problem s.graph s.costs c.requires.circuit.circuit s.flows c.requires.circulation)

pub returns-clause-values : goal.returns-clause-values
returns-clause-values c =
    let s = c.args.c.now.state in
    ap (flows_of c.args.p.now) (table_is c)
    ∙ flows-back cost_at c.args.p.now c.kept.ensures.problem s.graph s.costs c.requires.circuit.circuit s.flows c.requires.circulation

pub returns-clause-cost : goal.returns-clause-cost
returns-clause-cost c =
    let s = c.args.c.now.state in
    ap (λ t. pos (cost c.args.p.now t)) (table_is c)
    ∙ sym (same-cost cost_at c.args.p.now c.kept.ensures.problem s.graph s.costs c.requires.circuit.circuit s.flows c.requires.circulation)
