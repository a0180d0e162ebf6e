use Rattle.std.proofs.Common.{◌≡◌, length, Some, neg_ℤ, pos, replicate, refl, sym, ◌∙◌, ap, subst, arith}
use Rattle.std.specs.Prelude.{option_map, slice_get, slice_set}
use Rattle.std.proofs.lemmas.Option.{slice_get_within}
use Rattle.sut_measures.specs.declared.accounts.Account.{Account}
use Rattle.sut_measures.specs.declared.measures.Measure.{Measure}
use Rattle.sut_measures.specs.declared.measures.Measure.TheVariants as measure
use Rattle.flow_graph.specs.declared.arcs.Arc.{Arc}
use Rattle.flow_graph.specs.declared.arcs.ArcId.{ArcId}
use Rattle.flow_graph.specs.Network.{Network}
use Rattle.flow_graph.proofs.Lookups.{some_and}
use Rattle.flow_residual.specs.Flows.{Flow}
use Rattle.sut_circuit.specs.Circuit.{IsCircuitOf, wide}
use Rattle.sut_circuit.specs.RowChanges.{ChangesArc}
use Rattle.sut_circuit.specs.RowCosts.{ArcCost, cost_at}
use Rattle.sut_tables.specs.Changes.{row_removed}
use Rattle.sut_circuit.proofs.Changed.{arc-there, arc-place, flow-stays, one-arc, total-freed}
use Rattle.sut_circuit.proofs.LiveStays.{total-live}
use Rattle.sut_circuit.proofs.Names.{place-there, same_measure, some-there}
use Rattle.sut_circuit.proofs.circuits.Circuit.free_total.Goals as goal

pub unwrap-arc-requires : goal.unwrap-arc-requires
unwrap-arc-requires c =
    let names = ap (λ (g : Network Account Measure). g.names) c.graph.ensures.value in
    some-there (λ (id : ArcId). id.0) c.arc.result _
    (c.arc.ensures ∙ place-there (same_measure (measure.Total c.args.t)) c.graph.result.now.names
    (arc-there c.requires.0 c.graph.result.now.names (measure.Total c.args.t) (names ∙ c.requires.1.circuit.measures) (total-live c.requires.0 c.args.t c.requires.2)))

-- the arc that was found is the total's
place : (c : goal.After-clear_potentials) → slice_get c.args.self.now.state.graph.names c.unwrap-arc.result.0 ≡ Some (measure.Total c.args.t)
place c =
    subst (λ ns. slice_get ns c.unwrap-arc.result.0 ≡ Some (measure.Total c.args.t)) (ap (λ (g : Network Account Measure). g.names) c.graph.ensures.value)
    (arc-place c.graph.result.now.names (measure.Total c.args.t) c.unwrap-arc.result.0
    (sym c.arc.ensures ∙ ap (option_map (λ (id : ArcId). id.0)) c.unwrap-arc.ensures))

pub returns-clause-circuit : goal.returns-clause-circuit
returns-clause-circuit c = λ p circuit part.
    let r = total-freed p c.args.t part c.args.self.now.state.graph c.set_arc.new.self.graph c.args.self.now.state.costs c.set_arc.new.self.costs c.unwrap-arc.result.0 _ circuit.circuit
    (place c) (λ x. refl) c.set_arc.ensures.graph c.set_arc.ensures.costs in
    record {
      accounts = circuit.accounts ∙ sym r.1;
      circuit = subst (λ (s : Flow Account Measure ArcCost). IsCircuitOf cost_at (row_removed p (measure.Total c.args.t)) s.graph s.costs) (sym c.clear_potentials.ensures) r.0;
    }

-- clearing the potentials keeps the flows
kept : (c : goal.After-clear_potentials) → c.clear_potentials.new.state.flows ≡ c.set_arc.new.self.flows
kept c = ap (λ (s : Flow Account Measure ArcCost). s.flows) c.clear_potentials.ensures

pub returns-clause-arc : goal.returns-clause-arc
returns-clause-arc c = λ a there.
    let same = one-arc c.requires.0 c.args.self.now.state.graph.names (measure.Total c.args.t) c.unwrap-arc.result.0 a c.requires.1.circuit.measures (place c) there in
    subst (λ k. ChangesArc c.args.self.now (record { state = c.clear_potentials.new.state; accounts = c.args.self.now.accounts }) k (neg_ℤ wide) wide) same
    (subst (λ (s : Flow Account Measure ArcCost). ChangesArc c.args.self.now (record { state = s; accounts = c.args.self.now.accounts }) c.unwrap-arc.result.0 (neg_ℤ wide) wide) (sym c.clear_potentials.ensures)
    (record {
      graph = c.set_arc.ensures.graph;
      cost = _;
      costs = c.set_arc.ensures.costs;
      flows = c.set_arc.ensures.flows;
    }))

pub returns-clause-flows : goal.returns-clause-flows
returns-clause-flows c =
    let s = c.args.self.now.state in
    let k = c.graph.ensures.kept in
    kept c ∙ c.set_arc.ensures.flows
    ∙ flow-stays (length s.graph.nodes) s.graph.arcs s.flows c.unwrap-arc.result.0 k.network.arcs_fit k.bounded
    (omega (arith, slice_get_within s.graph.names c.unwrap-arc.result.0 (measure.Total c.args.t) (place c), k.network.named, k.counted)) k.counted

pub returns-clause-potentials : goal.returns-clause-potentials
returns-clause-potentials c =
    let s = c.args.self.now.state in
    let set = some_and (slice_get s.graph.arcs c.unwrap-arc.result.0) (λ (arc : Arc). c.set_arc.new.self.graph ≡ record s.graph { arcs = slice_set s.graph.arcs c.unwrap-arc.result.0 (record arc { lo = neg_ℤ wide; hi = wide }) }) c.set_arc.ensures.graph in
    ap (λ (s : Flow Account Measure ArcCost). s.potentials) c.clear_potentials.ensures
    ∙ ap (λ ns. replicate (length ns) (pos 0)) (ap (λ (g : Network Account Measure). g.nodes) set.2 ∙ c.requires.1.circuit.accounts ∙ sym c.requires.1.accounts)
