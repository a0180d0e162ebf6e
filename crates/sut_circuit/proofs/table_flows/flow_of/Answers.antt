use Rattle.std.proofs.Common.{◌≡◌, ◌^◌, ◌<ℤ◌, neg_ℤ, ℤ, pos, negsuc, length, map, Some, refl, sym, ◌∙◌, ap, subst, arith, to_z, of_z}
use mir.Syntax.{w64, w128}
use mir.Val.{SFits}
use Rattle.std.specs.Prelude.{slice_get}
use Rattle.std.proofs.lemmas.Int.{ints}
use Rattle.std.proofs.lemmas.List.{take_all}
use Rattle.sut_measures.specs.declared.accounts.Account.{Account}
use Rattle.sut_measures.specs.declared.measures.Measure.{Measure}
use Rattle.flow_graph.specs.Circulation.{IsCirculation, total_cost}
use Rattle.flow_graph.specs.Network.{Network}
use Rattle.sut_tables.specs.ProblemFacts.{ProblemFacts}
use Rattle.sut_tables.specs.Values.{value_of}
use Rattle.sut_tables.proofs.Wide.{value-over, value-under}
use Rattle.sut_circuit.specs.Circuit.{flows_of, table_from}
use Rattle.sut_circuit.specs.IsCircuit.{IsCircuit}
use Rattle.sut_circuit.specs.RowCosts.{cost_at}
use Rattle.sut_circuit.proofs.Circulations.{flows-circulate, flows-cost, table-back}
use Rattle.sut_circuit.proofs.Flowed.{values-more}
use Rattle.sut_circuit.proofs.table_flows.flow_of.Goals as goal

over : (c : goal.After-value) → neg_ℤ (pos (2 ^ 60)) <ℤ c.value.result
over c =
    let r = c.requires.circuit in
    subst (λ z. neg_ℤ (pos (2 ^ 60)) <ℤ z) (sym c.value.ensures) (value-over r.0 c.args.t.now r.1.problem r.1.limits r.3 c.arc_name.result)

under : (c : goal.After-value) → c.value.result <ℤ pos (2 ^ 60)
under c =
    let r = c.requires.circuit in
    subst (λ z. z <ℤ pos (2 ^ 60)) (sym c.value.ensures) (value-under r.0 c.args.t.now r.1.problem r.1.limits r.3 c.arc_name.result)

small : (z : ℤ) → neg_ℤ (pos (2 ^ 60)) <ℤ z → z <ℤ pos (2 ^ 60) → SFits w64 z
small (pos n) l h = record { sfits = omega (arith, ints, h) }
small (negsuc n) l h = record { sfits = omega (arith, ints, l) }

pub overflow_cast-out : goal.overflow_cast-out
overflow_cast-out c =
    let same : to_z w128 (of_z w128 c.value.result) ≡ c.value.result = omega (arith, ints, c.value.type_inv) in
    rw same (small c.value.result (over c) (under c))

pub loop-a-preserved : goal.loop-a-preserved
loop-a-preserved c =
    let y = to_z w64 (of_z w64 (to_z w128 (of_z w128 c.value.result))) in
    let same : y ≡ c.value.result = omega (arith, ints, over c, under c) in
    let named : slice_get c.args.c.now.state.graph.names c.loop-a.a ≡ Some c.arc_name.result =
    subst (λ ns. slice_get ns c.loop-a.a ≡ Some c.arc_name.result) (ap (λ (g : Network Account Measure). g.names) c.graph-graph.ensures.value) c.arc_name.ensures in
    let arcs = ap (λ (g : Network Account Measure). length g.arcs) c.graph-graph.ensures.value in
    values-more (value_of c.args.t.now) c.args.c.now.state.graph.names c.loop-a.out _ c.loop-a.a c.arc_name.result y named (same ∙ c.value.ensures)
    (omega (arith, arcs, c.arc_count-a-end.ensures.count, c.requires.places)) c.loop-a.invariant refl

-- each measure's value is written
written : (c : goal.After-loop-a) → c.loop-a.out ≡ map (value_of c.args.t.now) c.args.c.now.state.graph.names
written c =
    let arcs = ap (λ (g : Network Account Measure). length g.arcs) c.graph-graph.ensures.value in
    let names = ap (λ (g : Network Account Measure). length g.names) c.graph-graph.ensures.value in
    let named = c.arc_count-a-end.ensures.network.named in
    sym (take_all c.loop-a.a c.loop-a.out (omega (arith, arcs, c.arc_count-a-end.ensures.count, c.requires.places)))
    ∙ c.loop-a.invariant
    ∙ ap (map (value_of c.args.t.now)) (take_all c.loop-a.a c.args.c.now.state.graph.names (omega (arith, names, named, c.arc_count-a-end.ensures.count)))

flows : (c : goal.After-loop-a) (p : ProblemFacts) → IsCircuit p c.args.c.now → c.loop-a.out ≡ flows_of p c.args.t.now
flows c p circuit = written c ∙ ap (map (value_of c.args.t.now)) circuit.circuit.measures

pub returns-clause-flows : goal.returns-clause-flows
returns-clause-flows c = written c

pub returns-clause-circulation : goal.returns-clause-circulation
returns-clause-circulation c =
    let r = c.requires.circuit in
    let s = c.args.c.now.state in
    subst (IsCirculation (length s.graph.nodes) s.graph.arcs) (sym (flows c r.0 r.2)) (flows-circulate cost_at r.0 r.1.problem s.graph s.costs r.2.circuit r.1.limits c.args.t.now r.3)

pub returns-clause-cost : goal.returns-clause-cost
returns-clause-cost c = λ p kept circuit admissible.
    let s = c.args.c.now.state in
    ap (total_cost cost_at s.costs) (flows c p circuit) ∙ flows-cost cost_at p kept.problem s.graph s.costs circuit.circuit kept.limits c.args.t.now admissible

pub returns-clause-table : goal.returns-clause-table
returns-clause-table c = λ p kept circuit admissible.
    let s = c.args.c.now.state in
    ap (table_from p) (flows c p circuit) ∙ table-back cost_at p kept.problem s.graph s.costs circuit.circuit c.args.t.now admissible.of_problem
