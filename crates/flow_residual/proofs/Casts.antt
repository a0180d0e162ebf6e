-- What the code reads, in the words of the contracts.
use Rattle.std.proofs.Common.{IsTrue, ◌↔◌, ◌*◌, not, eqb, inl, inr, rules, ◌≡◌, ℕ, ◌^◌, Bool, false, Some, slice_get, IsSomeAnd, ℤ, pos, ◌+ℤ◌, ◌-ℤ◌, neg_ℤ, ◌≤ℤ◌, refl, ap, subst, ◌∙◌, arith}
use Rattle.std.specs.Int.{int_div_euclid}
use Rattle.std.proofs.lemmas.Int.{ints, by_lt_z, to_z-of_z}
use Rattle.std.proofs.lemmas.Bool.{cases_eq}
use Rattle.std.proofs.lemmas.Bool.Decides.{nat_tests}
use lib.Signed.{lt_z, le_z}
use mir.Syntax.{w64, w128}
use mir.Val.{to_z, of_z, SFits}
use Rattle.flow_cost.specs.Cost.{IsWithin}
use Rattle.flow_cost.specs.Condition.{floor_quotient, ceil_quotient}
use Rattle.flow_graph.specs.declared.arcs.Arc.{Arc}
use Rattle.flow_graph.specs.Network.{Network, AreBounds}
use Rattle.flow_graph.proofs.Bounded.{flow_at}
use Rattle.flow_graph.proofs.Lookups.{read_once, some_and}
use Rattle.flow_residual.specs.Flows.{Flow, IsFlowOf, HasArc, IsStep}
use Rattle.flow_residual.specs.Edges.{slope_limit}

pub same_floor : (a b c d : ℤ) → a ≡ c → b ≡ d → floor_quotient a b ≡ floor_quotient c d
same_floor a b c d e f = ap (λ t. floor_quotient t b) e ∙ ap (λ t. floor_quotient c t) f

pub same_ceil : (a b c d : ℤ) → a ≡ c → b ≡ d → ceil_quotient a b ≡ ceil_quotient c d
same_ceil a b c d e f = ap (λ t. ceil_quotient t b) e ∙ ap (λ t. ceil_quotient c t) f

pub same_quotient : (a b c d : ℤ) → a ≡ c → b ≡ d → int_div_euclid a b ≡ int_div_euclid c d
same_quotient a b c d e f = ap (λ t. int_div_euclid t b) e ∙ ap (λ t. int_div_euclid c t) f

pub same_difference : (value : ℤ → ℤ) (a b c d : ℤ) → a ≡ c → b ≡ d → value a -ℤ value b ≡ value c -ℤ value d
same_difference value a b c d e f = ap (λ t. value t -ℤ value b) e ∙ ap (λ t. value c -ℤ value t) f

-- what four reads say of an arc
pub record Seen {N A C : Type 0} (s : Flow N A C) (a tail head : ℕ) (lo hi x : ℤ) : Type 0 where
  pub arc : Arc
  pub arc_is : slice_get s.graph.arcs a ≡ Some arc
  pub tail_is : tail ≡ arc.tail
  pub head_is : head ≡ arc.head
  pub lo_is : lo ≡ arc.lo
  pub hi_is : hi ≡ arc.hi
  pub flow_is : slice_get s.flows a ≡ Some x
  pub low : lo ≤ℤ x
  pub high : x ≤ℤ hi

pub seen : {N A C : Type 0} (node_eq : N → N → Bool) (arc_eq : A → A → Bool) (span : C → ℤ) (s : Flow N A C) (g : Network N A) (a tail head : ℕ) (lo hi x : ℤ) →
    IsFlowOf node_eq arc_eq span s → g ≡ s.graph → IsSomeAnd (slice_get g.arcs a) (λ arc. (tail ≡ arc.tail) × (head ≡ arc.head)) →
    IsSomeAnd (slice_get g.arcs a) (λ arc. (lo ≡ arc.lo) × (hi ≡ arc.hi)) → slice_get s.flows a ≡ Some x → Seen s a tail head lo hi x
seen node_eq arc_eq span s g a tail head lo hi x kept e ends bounds flow =
    let p = some_and (slice_get g.arcs a) (λ arc. (tail ≡ arc.tail) × (head ≡ arc.head)) ends in
    let q = some_and (slice_get g.arcs a) (λ arc. (lo ≡ arc.lo) × (hi ≡ arc.hi)) bounds in
    let same : q.0 ≡ p.0 = read_once g.arcs a q.0 p.0 q.1 p.1 in
    let there : slice_get s.graph.arcs a ≡ Some p.0 = subst (λ z. slice_get z.arcs a ≡ Some p.0) e p.1 in
    let within = flow_at s.graph.arcs s.flows a p.0 x kept.bounded there flow in
    let low : lo ≡ p.0.lo = q.2.0 ∙ ap (λ z. z.lo) same in
    let high : hi ≡ p.0.hi = q.2.1 ∙ ap (λ z. z.hi) same in
    record {
      arc = p.0;
      arc_is = there;
      tail_is = p.2.0;
      head_is = p.2.1;
      lo_is = low;
      hi_is = high;
      flow_is = flow;
      low = omega (arith, ints, low, within.low);
      high = omega (arith, ints, high, within.high);
    }

-- with its cost
pub has_arc : {N A C : Type 0} (s : Flow N A C) (a tail head : ℕ) (lo hi x : ℤ) (c : C) → (v : Seen s a tail head lo hi x) → slice_get s.costs a ≡ Some c → HasArc s a v.arc c x
has_arc s a tail head lo hi x c v e = record { arc_is = v.arc_is; cost_is = e; number_is = v.flow_is }

pub spans_of : {N A C : Type 0} (node_eq : N → N → Bool) (arc_eq : A → A → Bool) (span : C → ℤ) (s : Flow N A C) (a tail head : ℕ) (lo hi x : ℤ) (c : C) →
    IsFlowOf node_eq arc_eq span s → Seen s a tail head lo hi x → slice_get s.costs a ≡ Some c → IsWithin (span c) lo × IsWithin (span c) hi
spans_of node_eq arc_eq span s a tail head lo hi x c kept v e =
    let w = kept.spans.within a v.arc c v.arc_is e in
    (rw v.lo_is w.0, rw v.hi_is w.1)

-- a test `!=` that fails
pub same_from_test : (a b : ℕ) (r : Bool) → r ≡ not (eqb a b) → r ≡ false → a ≡ b
same_from_test a b r h k = elim (cases_eq a b) [
  | inl e ↦ e
  | inr n ↦ absurd (search (rules, nat_tests, arith))
]

module _ (x step lo hi : ℤ) (b : AreBounds lo hi) (low : lo ≤ℤ x) (high : x ≤ℤ hi) (s : IsStep step) where
  -- a step up does not pass the upper bound
  pub up_room : lt_z (to_z w64 (of_z w64 hi)) (to_z w64 (of_z w64 (to_z w64 (of_z w64 x) +ℤ to_z w64 (of_z w64 step)))) ≡ false → (x +ℤ step) ≤ℤ hi
  up_room t =
      let e : to_z w64 (of_z w64 hi) ≡ hi = omega (arith, ints) in
      let f : to_z w64 (of_z w64 (to_z w64 (of_z w64 x) +ℤ to_z w64 (of_z w64 step))) ≡ x +ℤ step = omega (arith, ints) in
      let k = rw (e, f) at t in
      by_lt_z hi (x +ℤ step) (λ l. absurd (grind (arith, ints))) (λ l. l)

  -- a step down does not pass the lower bound
  pub down_room : lt_z (to_z w64 (of_z w64 (to_z w64 (of_z w64 x) -ℤ to_z w64 (of_z w64 step)))) (to_z w64 (of_z w64 lo)) ≡ false → lo ≤ℤ (x -ℤ step)
  down_room t =
      let e : to_z w64 (of_z w64 lo) ≡ lo = omega (arith, ints) in
      let f : to_z w64 (of_z w64 (to_z w64 (of_z w64 x) -ℤ to_z w64 (of_z w64 step))) ≡ x -ℤ step = omega (arith, ints) in
      let k = rw (e, f) at t in
      by_lt_z (x -ℤ step) lo (λ l. absurd (grind (arith, ints))) (λ l. l)

-- a small number turned round
pub negated : (r : ℤ) → IsWithin slope_limit r → to_z w128 (of_z w128 (pos 0 -ℤ to_z w128 (of_z w128 r))) ≡ neg_ℤ r
negated r w = omega (arith, ints, w.low, w.high)

pub turned : (r : ℤ) → IsWithin (pos (8 * 10 ^ 28)) r → to_z w128 (of_z w128 (pos 0 -ℤ to_z w128 (of_z w128 r))) ≡ neg_ℤ r
turned r w = omega (arith, ints, w.low, w.high)

pub summed : (at price there here : ℤ) → IsWithin (pos (10 ^ 23)) at → IsWithin slope_limit price → IsWithin (pos (2 * 10 ^ 22)) there → IsWithin (pos (2 * 10 ^ 22)) here →
    to_z w128 (of_z w128 (to_z w128 (of_z w128 at) +ℤ to_z w128 (of_z w128 (to_z w128 (of_z w128 price) -ℤ to_z w128 (of_z w128 (to_z w128 (of_z w128 there) -ℤ to_z w128 (of_z w128 here)))))))
    ≡ at +ℤ (price -ℤ (there -ℤ here))
summed at price there here a p t h =
    let a' : to_z w128 (of_z w128 at) ≡ at = omega (arith, ints, a.low, a.high) in
    let p' : to_z w128 (of_z w128 price) ≡ price = omega (arith, ints, p.low, p.high) in
    let t' : to_z w128 (of_z w128 there) ≡ there = omega (arith, ints, t.low, t.high) in
    let h' : to_z w128 (of_z w128 here) ≡ here = omega (arith, ints, h.low, h.high) in
    let x : to_z w128 (of_z w128 (there -ℤ here)) ≡ there -ℤ here = omega (arith, ints, t.low, t.high, h.low, h.high) in
    let y : to_z w128 (of_z w128 (price -ℤ (there -ℤ here))) ≡ price -ℤ (there -ℤ here) = omega (arith, ints, p.low, p.high, t.low, t.high, h.low, h.high) in
    let z : to_z w128 (of_z w128 (at +ℤ (price -ℤ (there -ℤ here)))) ≡ at +ℤ (price -ℤ (there -ℤ here)) = omega (arith, ints, a.low, a.high, p.low, p.high, t.low, t.high, h.low, h.high) in
    rw (a', p', t', h', x, y, z) refl

-- the test of a deficit
pub lacks_is : (x step : ℤ) → SFits w128 x → IsStep step →
    IsTrue (le_z (to_z w128 (of_z w128 x)) (to_z w128 (of_z w128 (pos 0 -ℤ to_z w128 (of_z w128 (to_z w64 (of_z w64 step))))))) ↔ (step ≤ℤ neg_ℤ x)
lacks_is x step fits s =
    let e : to_z w128 (of_z w128 x) ≡ x = to_z-of_z w128 x fits in
    let f : to_z w128 (of_z w128 (pos 0 -ℤ to_z w128 (of_z w128 (to_z w64 (of_z w64 step))))) ≡ neg_ℤ step = omega (arith, ints, s.low, s.high) in
    rw (e, f) (λ t. grind (arith, ints), λ h. grind (arith, ints))
