-- How often the solver augments on a network that was taken out of its place.
use Rattle.std.proofs.Common.{◌≡◌, ℕ, ◌-◌, Option, Some, None, length, arith, subst}
use Rattle.std.specs.Prelude.{IfSome}
use Rattle.std.proofs.lemmas.Int.{ints}
use Rattle.flow_solve.specs.Bounds.{FewTicks, NearSettled}
use Rattle.flow_solve.proofs.Sums.{surplus_low}
use Rattle.sut_circuit.specs.RowCosts.{cost_at}
use Rattle.sut_session.specs.declared.networks.Network.{Network}

-- no tick is at most any surplus
pub no-tick : (net : Option Network) (s : ℕ) → IfSome net (λ n. FewTicks cost_at n.circuit.state (s - s))
no-tick None s = tt
no-tick (Some n) s = λ settled settles small.
    let low = surplus_low n.circuit.state.graph.arcs settled (length n.circuit.state.graph.nodes) in
    omega (arith, ints, low)

pub ticks-of : (net : Option Network) (n : Network) (ticks : ℕ) → IfSome net (λ kept. n ≡ kept) → FewTicks cost_at n.circuit.state ticks → IfSome net (λ n. FewTicks cost_at n.circuit.state ticks)
ticks-of None n ticks e few = tt
ticks-of (Some kept) n ticks e few = subst (λ (z : Network). FewTicks cost_at z.circuit.state ticks) e few

pub near-of : (net : Option Network) (n now : Network) → IfSome net (λ kept. n ≡ kept) → NearSettled cost_at n.circuit.state now.circuit.state.flows
    → IfSome net (λ n. NearSettled cost_at n.circuit.state now.circuit.state.flows)
near-of None n now e near = tt
near-of (Some kept) n now e near = subst (λ (z : Network). NearSettled cost_at z.circuit.state now.circuit.state.flows) e near
