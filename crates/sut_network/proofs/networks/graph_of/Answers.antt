use Rattle.std.proofs.Common.{rules, ◌+◌, ◌<◌, ◌≤◌, ℤ, pos, length, get_or, map, to_z, of_z, refl, sym, ◌∙◌, ap, subst, arith}
use mir.Syntax.{w64}
use Rattle.std.specs.Prelude.{[], ◌∷◌, ◌++◌}
use Rattle.std.specs.List.{AllZip}
use Rattle.std.proofs.lemmas.List.{take_all}
use Rattle.std.proofs.lemmas.Option.{slice_get-get_or, slice_get_read}
use Rattle.sut_classes.specs.Kept.{IsClasses}
use Rattle.sut_measures.specs.Keys.{account_key}
use Rattle.sut_measures.specs.declared.accounts.Account.{Account}
use Rattle.sut_measures.specs.declared.measures.Measure.{Measure}
use Rattle.flow_graph.specs.Network.{AreBounds, Network}
use Rattle.sut_tables.specs.InOrder.{IsAscending}
use Rattle.sut_tables.specs.Problems.{live_accounts, live_measures}
use Rattle.sut_tables.proofs.Ascending.{accounts-ascending}
use Rattle.sut_circuit.proofs.AccountCounts.{accounts-few}
use Rattle.sut_circuit.proofs.MeasureCounts.{measures-few}
use Rattle.sut_circuit.proofs.Places.{All-at}
use Rattle.sut_network.specs.Building.{IsBegun}
use Rattle.sut_network.specs.Networks.{HasEndsOf, bounds_in}
use Rattle.sut_network.proofs.Grown.{begun-count, begun-network, bounds-held, bounds-next}
use Rattle.sut_network.proofs.networks.graph_of.Goals as goal

pub nodes_of-requires-clause-in_order : goal.nodes_of-requires-clause-in_order
nodes_of-requires-clause-in_order c = subst (IsAscending account_key) (sym c.requires.accounts) (accounts-ascending c.args.p.now)

pub nodes_of-requires-clause-few : goal.nodes_of-requires-clause-few
nodes_of-requires-clause-few c =
    let classes = subst IsClasses c.classes.ensures c.kept-2.ensures in
    omega (arith, ap length c.requires.accounts, accounts-few c.args.p.now c.kept.ensures.problem classes)

pub loop-k-init : goal.loop-k-init
loop-k-init c = record {
  begun = record {
    accounts = ap (λ (g : Network Account Measure). g.nodes) c.in_ok-graph.ensures ∙ c.requires.accounts;
    measures = ap (λ (g : Network Account Measure). g.names) c.in_ok-graph.ensures;
    ends = subst (λ (g : Network Account Measure). AllZip (HasEndsOf c.args.p.now (live_accounts c.args.p.now)) [] g.arcs) (sym c.in_ok-graph.ensures) tt;
  };
  bounds = ap (λ (g : Network Account Measure). map bounds_in g.arcs) c.in_ok-graph.ensures;
}

pub add_arc-requires-clause-begun : goal.add_arc-requires-clause-begun
add_arc-requires-clause-begun c =
    let few : c.loop-k.k ≤ length (live_measures c.args.p.now) = omega (arith, ap length c.requires.measures) in
    let count = begun-count c.args.p.now c.loop-k.k c.loop-k.graph c.loop-k.invariant.begun few in
    subst (λ k. IsBegun c.args.p.now k c.loop-k.graph) (sym count) c.loop-k.invariant.begun

pub add_arc-requires-clause-next : goal.add_arc-requires-clause-next
add_arc-requires-clause-next c =
    let few : c.loop-k.k ≤ length (live_measures c.args.p.now) = omega (arith, ap length c.requires.measures) in
    let count = begun-count c.args.p.now c.loop-k.k c.loop-k.graph c.loop-k.invariant.begun few in
    rw (count, ← c.requires.measures) (slice_get_read c.args.measures.now (length c.args.measures.now) c.loop-k.k _ refl (omega arith) (search rules))

pub add_arc-requires-clause-room : goal.add_arc-requires-clause-room
add_arc-requires-clause-room c =
    let few : c.loop-k.k ≤ length (live_measures c.args.p.now) = omega (arith, ap length c.requires.measures) in
    let count = begun-count c.args.p.now c.loop-k.k c.loop-k.graph c.loop-k.invariant.begun few in
    let classes = subst IsClasses c.classes.ensures c.kept-2.ensures in
    omega (arith, count, few, measures-few c.args.p.now c.kept.ensures.problem c.kept.ensures.limits classes)

pub add_arc-requires-clause-bounds : goal.add_arc-requires-clause-bounds
add_arc-requires-clause-bounds c =
    let all = c.args.bounds.now in
    let there : c.loop-k.k < length all = omega (arith, c.loop-k-test.true, c.requires.counted) in
    let b = get_or all c.loop-k.k (pos 0, pos 0) in
    let are : AreBounds b.0 b.1 = All-at (λ (b : ℤ × ℤ). AreBounds b.0 b.1) all c.loop-k.k b c.requires.bounded (slice_get-get_or all c.loop-k.k (pos 0, pos 0) there) in
    let held = bounds-held b.0 b.1 are in
    subst (λ z. AreBounds z (to_z w64 (of_z w64 b.1))) (sym held.0) (subst (λ z. AreBounds b.0 z) (sym held.1) are)

pub loop-k-preserved : goal.loop-k-preserved
loop-k-preserved c =
    let few : c.loop-k.k ≤ length (live_measures c.args.p.now) = omega (arith, ap length c.requires.measures) in
    let count = begun-count c.args.p.now c.loop-k.k c.loop-k.graph c.loop-k.invariant.begun few in
    let all = c.args.bounds.now in
    let there : c.loop-k.k < length all = omega (arith, c.loop-k-test.true, c.requires.counted) in
    let b = get_or all c.loop-k.k (pos 0, pos 0) in
    let at = slice_get-get_or all c.loop-k.k (pos 0, pos 0) there in
    let are : AreBounds b.0 b.1 = All-at (λ (b : ℤ × ℤ). AreBounds b.0 b.1) all c.loop-k.k b c.requires.bounded at in
    let held = bounds-held b.0 b.1 are in
    let before = map bounds_in c.loop-k.graph.arcs in
    let same = ap (λ z. before ++ (z, to_z w64 (of_z w64 b.1)) ∷ []) held.0 ∙ ap (λ z. before ++ (b.0, z) ∷ []) held.1 in
    record {
      begun = subst (λ k. IsBegun c.args.p.now (k + 1) c.add_arc.new.graph) count c.in_ok-add_arc.ensures.begun;
      bounds = bounds-next all before (map bounds_in c.add_arc.new.graph.arcs) c.loop-k.k b at c.loop-k.invariant.bounds (c.in_ok-add_arc.ensures.bounds ∙ same);
    }

pub returns-clause-network : goal.returns-clause-network
returns-clause-network c = begun-network c.args.p.now c.loop-k.k c.loop-k.graph c.loop-k.invariant.begun (omega (arith, ap length c.requires.measures))

pub returns-clause-bounds : goal.returns-clause-bounds
returns-clause-bounds c = c.loop-k.invariant.bounds ∙ take_all c.loop-k.k c.args.bounds.now (omega (arith, c.requires.counted))
