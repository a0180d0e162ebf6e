-- What needs no offer.
use Rattle.std.proofs.Common.{◌≡◌, ℕ, Bool, if◌then◌else◌, slice_get, sym, subst, ◌∙◌, arith, ℤ}
use Rattle.std.specs.Prelude.{IsSomeAnd}
use Rattle.std.proofs.lemmas.Int.{ints}
use Rattle.flow_residual.specs.Flows.{Flow, MeetsAll}
use Rattle.flow_search.specs.Labels.{Labels, distance, RelaxesMove}
use Rattle.flow_search.specs.Frontier.{IsReachedWithin}
use Rattle.flow_search.proofs.Ways.{edge_long}

-- no edge brings a node nearer that is no further than the node that the edge leaves
pub near_relaxed : {N A C : Type 0} (value : C → ℤ → ℤ) (step : ℤ) (s : Flow N A C) (l : Labels) (u a v : ℕ) (up : Bool) → MeetsAll value step s →
    IsSomeAnd (slice_get s.graph.arcs a) (λ arc. v ≡ (if up then arc.head else arc.tail)) → IsReachedWithin (distance l u) (distance l v) → RelaxesMove value step s l u (record { arc = a; up = up })
near_relaxed value step s l u a v up meets h near w price e =
    let long = edge_long value step s (record { arc = a; up = up }) u w price meets e in
    let k : v ≡ (if up then e.arc.head else e.arc.tail) = subst (λ o. IsSomeAnd o (λ arc. v ≡ (if up then arc.head else arc.tail))) e.has.arc_is h in
    let j : IsReachedWithin (distance l u) (distance l w) = subst (λ n. IsReachedWithin (distance l u) (distance l n)) (k ∙ sym e.to_is) near in
    record { reached = record { nonneg = j.reached }; short = omega (arith, ints, j.near, long) }
