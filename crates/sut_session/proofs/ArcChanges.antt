-- Networks whose circuit had one arc changed.
use Rattle.std.proofs.Common.{◌≡◌, ℕ, length, Some, ℤ, pos, refl, sym, ◌∙◌, ap, subst, arith}
use Rattle.std.specs.Prelude.{slice_get, slice_set}
use Rattle.std.proofs.lemmas.Int.{ints, clamps}
use Rattle.std.proofs.lemmas.Option.{get_or_from_slice_get, slice_get_within}
use Rattle.std.specs.List.{AllZip}
use Rattle.sut_measures.specs.declared.accounts.Account.{Account}
use Rattle.sut_measures.specs.declared.measures.Measure.{Measure}
use Rattle.sut_tables.specs.ProblemFacts.{ProblemFacts}
use Rattle.sut_tables.specs.Problems.{live_accounts, live_measures}
use Rattle.sut_tables.specs.RowFacts.{RowFacts}
use Rattle.flow_graph.specs.Circulation.{IsFlow}
use Rattle.flow_graph.specs.Network.{Network as Graph}
use Rattle.flow_graph.proofs.Lookups.{read_within, some_and}
use Rattle.flow_residual.specs.Flows.{nearest_within}
use Rattle.sut_circuit.specs.Circuit.{IsArcOf, high_of, low_of}
use Rattle.sut_circuit.specs.IsCircuit.{IsCircuit}
use Rattle.sut_circuit.specs.RowChanges.{ChangesArc}
use Rattle.sut_circuit.specs.declared.circuits.Circuit.{Circuit}
use Rattle.sut_circuit.proofs.Changed.{set-same}
use Rattle.sut_circuit.proofs.Zips.{zip-at}
use Rattle.sut_session.specs.SessionView.{numbers_of}
use Rattle.sut_session.specs.declared.networks.Network.{Network}
use Rattle.sut_session.specs.SmallSets.{HasBounds}

-- one arc's bounds change, so the nodes stay, and the room fits
pub room-stays : (old new : Circuit) (a : ℕ) (lo hi : ℤ) → ChangesArc old new a lo hi → length new.state.graph.nodes ≡ length old.state.graph.nodes
room-stays old new a lo hi h =
    let g = some_and (slice_get old.state.graph.arcs a) (λ arc. new.state.graph ≡ record old.state.graph { arcs = slice_set old.state.graph.arcs a (record arc { lo = lo; hi = hi }) }) h.graph in
    ap (λ (z : Graph Account Measure). length z.nodes) g.2

-- the same flows and potentials
pub same-numbers : (old new : Network) → new.circuit.state.flows ≡ old.circuit.state.flows → new.circuit.state.potentials ≡ old.circuit.state.potentials → numbers_of new ≡ numbers_of old
same-numbers old new e f = rw (e, f) refl

-- a flow within the new bounds stays
pub flows-stay : (q : ProblemFacts) (old new : Circuit) (r : RowFacts) (a : ℕ) → IsCircuit q old → HasBounds q r → AllZip IsFlow old.state.graph.arcs old.state.flows → length old.state.flows ≡ length old.state.graph.arcs
    → slice_get old.state.graph.names a ≡ Some r.measure → ChangesArc old new a r.lower r.upper → new.state.flows ≡ old.state.flows
flows-stay q old new r a circuit bounds bounded counted there h =
    let arc = some_and (slice_get old.state.graph.arcs a) (λ arc. new.state.graph ≡ record old.state.graph { arcs = slice_set old.state.graph.arcs a (record arc { lo = r.lower; hi = r.upper }) }) h.graph in
    let flow = read_within old.state.flows a (omega (arith, slice_get_within old.state.graph.arcs a arc.0 arc.1, counted)) in
    let within = zip-at IsFlow old.state.graph.arcs old.state.flows a arc.0 flow.0 bounded arc.1 flow.1 in
    let is = zip-at (IsArcOf q (live_accounts q)) (live_measures q) old.state.graph.arcs a r.measure arc.0 circuit.circuit.arcs (subst (λ ms. slice_get ms a ≡ Some r.measure) circuit.circuit.measures there) arc.1 in
    let low : arc.0.lo ≡ r.lower = is.low ∙ ap low_of bounds.was ∙ sym bounds.lower in
    let high : arc.0.hi ≡ r.upper = is.high ∙ ap high_of bounds.was ∙ sym bounds.upper in
    let same : nearest_within r.lower r.upper flow.0 ≡ flow.0 = omega (arith, ints, clamps, low, high, within.low, within.high) in
    h.flows
    ∙ ap (λ z. slice_set old.state.flows a (nearest_within r.lower r.upper z)) (get_or_from_slice_get old.state.flows a flow.0 (pos 0) flow.1)
    ∙ ap (λ z. slice_set old.state.flows a z) same ∙ set-same old.state.flows a flow.0 flow.1
