use Rattle.std.proofs.Common.{◌≤◌, length, sym, ◌∙◌, ap, subst, arith}
use Rattle.std.specs.List.{AllZip}
use Rattle.sut_classes.specs.Kept.{IsClasses}
use Rattle.sut_tables.specs.Problems.{live_accounts, live_measures}
use Rattle.sut_circuit.specs.Building.{HoldsBounds}
use Rattle.sut_circuit.specs.Circuit.{IsCircuitOf, IsCostOf}
use Rattle.sut_circuit.specs.RowCosts.{cost_at, span_at}
use Rattle.sut_circuit.proofs.AccountCounts.{accounts-few}
use Rattle.sut_circuit.proofs.MeasureCounts.{measures-few}
use Rattle.sut_circuit.proofs.Grown.{begun-arcs, begun-circuit, spans-fit}
use Rattle.sut_circuit.proofs.circuits.build.Goals as goal

pub graph_of-requires : goal.graph_of-requires
graph_of-requires c =
    let p = c.args.p.now in
    let classes = subst IsClasses c.classes.ensures c.kept-2.ensures in
    record {
      accounts = c.deref.ensures.value ∙ c.in_ok-accounts.ensures;
      measures = c.deref-2.ensures.value ∙ c.in_ok-measures.ensures;
      nodes_few = omega (arith, ap length (c.deref.ensures.value ∙ c.in_ok-accounts.ensures), accounts-few p c.kept.ensures.problem classes);
      arcs_few = omega (arith, ap length (c.deref-2.ensures.value ∙ c.in_ok-measures.ensures), measures-few p c.kept.ensures.problem c.kept.ensures.limits classes);
    }

pub new-requires : goal.new-requires
new-requires c =
    let p = c.args.p.now in
    let all : length (live_measures p) ≤ length c.deref-2.result.now = omega (arith, ap length (c.deref-2.ensures.value ∙ c.in_ok-measures.ensures)) in
    spans-fit span_at p (live_accounts p) (live_measures p) c.in_ok-graph.graph.arcs c.in_ok-costs.costs.items
    (begun-arcs p (length c.deref-2.result.now) c.in_ok-graph.graph c.in_ok-graph.ensures all)
    (subst (λ ms. AllZip (HoldsBounds span_at p) ms c.in_ok-costs.costs.items) (c.deref-3.ensures.value ∙ c.in_ok-measures.ensures) c.in_ok-costs.ensures.bounds)

pub returns-clause-circuit : goal.returns-clause-circuit
returns-clause-circuit c =
    let p = c.args.p.now in
    let all : length (live_measures p) ≤ length c.deref-2.result.now = omega (arith, ap length (c.deref-2.ensures.value ∙ c.in_ok-measures.ensures)) in
    record {
      accounts = c.in_ok-accounts.ensures;
      circuit = subst (λ cs. IsCircuitOf cost_at p c.in_ok-state.state.graph cs) (sym c.in_ok-state.ensures.costs)
          (begun-circuit cost_at p (length c.deref-2.result.now) c.in_ok-graph.graph c.in_ok-state.state.graph c.in_ok-costs.costs.items c.in_ok-graph.ensures all c.in_ok-state.ensures.graph
          (subst (λ ms. AllZip (IsCostOf cost_at p) ms c.in_ok-costs.costs.items) (c.deref-3.ensures.value ∙ c.in_ok-measures.ensures) c.in_ok-costs.ensures.costs));
    }
