use Rattle.std.proofs.Common.{◌≡◌, Some, sym, ◌∙◌, ap, subst, arith, to_z, of_z}
use mir.Syntax.{w64}
use Rattle.std.specs.Prelude.{option_map, slice_get, true}
use Rattle.std.specs.List.{list_any, position}
use Rattle.std.proofs.lemmas.Int.{ints}
use Rattle.sut_measures.specs.declared.accounts.Account.{Account}
use Rattle.sut_measures.specs.declared.measures.Measure.{Measure}
use Rattle.flow_graph.specs.declared.arcs.ArcId.{ArcId}
use Rattle.flow_graph.specs.Network.{Network}
use Rattle.flow_graph.specs.Updates.{SetsBounds}
use Rattle.sut_circuit.specs.RowChanges.{ChangesArc}
use Rattle.sut_circuit.proofs.Changed.{arc-there, arc-place, one-arc, row-put}
use Rattle.sut_circuit.proofs.Names.{place-there, same_measure, some-there}
use Rattle.sut_circuit.proofs.circuits.Circuit.put_row.Goals as goal

pub unwrap-arc-requires : goal.unwrap-arc-requires
unwrap-arc-requires c =
    let names = ap (λ (g : Network Account Measure). g.names) c.graph.ensures.value in
    some-there (λ (id : ArcId). id.0) c.arc.result _
    (c.arc.ensures ∙ place-there (same_measure c.measure.result) c.graph.result.now.names
    (subst (λ m. list_any (same_measure m) c.graph.result.now.names ≡ true) (sym c.measure.ensures)
    (arc-there c.requires.0 c.graph.result.now.names c.args.row.now.measure (names ∙ c.requires.1.circuit.measures) c.requires.2)))

-- the arc that was found is the measure's
place : (c : goal.After-set_arc) → slice_get c.args.self.now.state.graph.names c.unwrap-arc.result.0 ≡ Some c.args.row.now.measure
place c =
    subst (λ ns. slice_get ns c.unwrap-arc.result.0 ≡ Some c.args.row.now.measure) (ap (λ (g : Network Account Measure). g.names) c.graph.ensures.value)
    (arc-place c.graph.result.now.names c.args.row.now.measure c.unwrap-arc.result.0
    (subst (λ m. position (same_measure m) c.graph.result.now.names ≡ Some c.unwrap-arc.result.0) c.measure.ensures
    (sym c.arc.ensures ∙ ap (option_map (λ (id : ArcId). id.0)) c.unwrap-arc.ensures)))

low : (c : goal.After-set_arc) → to_z w64 (of_z w64 c.lower.result) ≡ c.args.row.now.lower
low c = omega (arith, ints, c.lower.ensures, c.in_range.ensures.lower.low, c.in_range.ensures.lower.high)

high : (c : goal.After-set_arc) → to_z w64 (of_z w64 c.upper.result) ≡ c.args.row.now.upper
high c = omega (arith, ints, c.upper.ensures, c.in_range.ensures.upper.low, c.in_range.ensures.upper.high)

bounds : (c : goal.After-set_arc) → SetsBounds c.args.self.now.state.graph c.set_arc.new.self.graph c.unwrap-arc.result.0 c.args.row.now.lower c.args.row.now.upper
bounds c =
    subst (λ z. SetsBounds c.args.self.now.state.graph c.set_arc.new.self.graph c.unwrap-arc.result.0 z c.args.row.now.upper) (low c)
    (subst (λ z. SetsBounds c.args.self.now.state.graph c.set_arc.new.self.graph c.unwrap-arc.result.0 (to_z w64 (of_z w64 c.lower.result)) z) (high c) c.set_arc.ensures.graph)

pub returns-clause-circuit : goal.returns-clause-circuit
returns-clause-circuit c = λ p circuit live.
    let r = row-put p c.args.row.now live c.args.self.now.state.graph c.set_arc.new.self.graph c.args.self.now.state.costs c.set_arc.new.self.costs c.unwrap-arc.result.0 c.row_cost.result circuit.circuit
    (place c) c.row_cost.ensures.value (bounds c) c.set_arc.ensures.costs in
    record { accounts = circuit.accounts ∙ sym r.1; circuit = r.0 }

pub returns-clause-arc : goal.returns-clause-arc
returns-clause-arc c = λ a there.
    let same = one-arc c.requires.0 c.args.self.now.state.graph.names c.args.row.now.measure c.unwrap-arc.result.0 a c.requires.1.circuit.measures (place c) there in
    subst (λ k. ChangesArc c.args.self.now (record { state = c.set_arc.new.self; accounts = c.args.self.now.accounts }) k c.args.row.now.lower c.args.row.now.upper) same
    (record {
      graph = bounds c;
      cost = c.row_cost.result;
      costs = c.set_arc.ensures.costs;
      flows = rw (← low c, ← high c) c.set_arc.ensures.flows;
    })
