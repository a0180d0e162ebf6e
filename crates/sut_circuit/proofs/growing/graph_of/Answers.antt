use Rattle.std.proofs.Common.{◌≡◌, ◌+◌, ◌≤◌, length, sym, ◌∙◌, ap, subst, arith}
use Rattle.std.specs.Prelude.{[]}
use Rattle.std.specs.List.{AllZip}
use Rattle.std.proofs.lemmas.Option.{slice_get-get_or}
use Rattle.sut_measures.specs.Keys.{account_key}
use Rattle.sut_measures.specs.declared.accounts.Account.{Account}
use Rattle.sut_measures.specs.declared.measures.Measure.{Measure}
use Rattle.flow_graph.specs.Network.{Network}
use Rattle.sut_tables.specs.InOrder.{IsAscending}
use Rattle.sut_tables.specs.Problems.{live_accounts, live_measures}
use Rattle.sut_tables.proofs.Ascending.{accounts-ascending}
use Rattle.sut_circuit.specs.Building.{IsBegun}
use Rattle.sut_circuit.specs.Circuit.{IsArcOf}
use Rattle.sut_circuit.proofs.Grown.{begun-count}
use Rattle.sut_circuit.proofs.growing.graph_of.Goals as goal

pub nodes_of-requires-clause-in_order : goal.nodes_of-requires-clause-in_order
nodes_of-requires-clause-in_order c = subst (IsAscending account_key) (sym c.requires.accounts) (accounts-ascending c.args.p.now)

pub loop-m-init : goal.loop-m-init
loop-m-init c = record {
  accounts = ap (λ (g : Network Account Measure). g.nodes) c.in_ok-graph.ensures ∙ c.requires.accounts;
  measures = ap (λ (g : Network Account Measure). g.names) c.in_ok-graph.ensures;
  arcs = subst (λ (g : Network Account Measure). AllZip (IsArcOf c.args.p.now (live_accounts c.args.p.now)) [] g.arcs) (sym c.in_ok-graph.ensures) tt;
}

pub add_arc-requires : goal.add_arc-requires
add_arc-requires c =
    let few : c.loop-m.m-index ≤ length (live_measures c.args.p.now) = omega (arith, ap length c.requires.measures) in
    let count = begun-count c.args.p.now c.loop-m.m-index c.loop-m.graph c.loop-m.invariant few in
    record {
      begun = subst (λ k. IsBegun c.args.p.now k c.loop-m.graph) (sym count) c.loop-m.invariant;
      next = rw (count, ← c.requires.measures) (slice_get-get_or c.args.measures.now c.loop-m.m-index _ (omega arith));
      room = omega (arith, count, c.requires.arcs_few);
    }

pub loop-m-preserved : goal.loop-m-preserved
loop-m-preserved c =
    let few : c.loop-m.m-index ≤ length (live_measures c.args.p.now) = omega (arith, ap length c.requires.measures) in
    subst (λ k. IsBegun c.args.p.now (k + 1) c.add_arc.new.graph) (begun-count c.args.p.now c.loop-m.m-index c.loop-m.graph c.loop-m.invariant few) c.in_ok-add_arc.ensures

pub returns : goal.returns
returns c =
    let done : c.loop-m.m-index ≡ length c.args.measures.now = omega arith in
    subst (λ k. IsBegun c.args.p.now k c.loop-m.graph) done c.loop-m.invariant
