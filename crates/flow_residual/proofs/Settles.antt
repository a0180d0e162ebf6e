-- Settling one flow after another.
use Rattle.std.proofs.Common.{◌≡◌, ℕ, ◌+◌, ◌*◌, ◌^◌, ◌<◌, ◌≤◌, List, length, set, get_or, slice_get, Some, IsSomeAnd, inl, inr, refl, ap, sym, subst, ◌∙◌, arith, ℤ, pos, ◌-ℤ◌, ◌≤ℤ◌}
use Rattle.std.proofs.lemmas.Int.{ints}
use Rattle.std.proofs.lemmas.Bool.{cases_eq}
use Rattle.std.specs.List.{AllZip}
use Rattle.std.proofs.lemmas.Option.{slice_get_read}
use mir.Syntax.{w128}
use mir.Val.{to_z, of_z}
use Rattle.flow_cost.specs.Cost.{IsWithin}
use Rattle.flow_cost.specs.Settle.{IsNearestSettled}
use Rattle.flow_graph.specs.declared.arcs.Arc.{Arc}
use Rattle.flow_graph.specs.Circulation.{IsFlow}
use Rattle.flow_graph.specs.Condition.{rise, FitSpans, Carries, ArePotentials}
use Rattle.flow_graph.proofs.Bounded.{flow_at}
use Rattle.flow_graph.proofs.Lookups.{read_once, slice_get-set_other, slice_get-set_same, some_and}
use Rattle.flow_residual.proofs.Kept.{read_at}

-- an arc with its cost, and a number within its bounds
pub record IsAround {C : Type 0} (span : C → ℤ) (arcs : List Arc) (costs : List C) (a : ℕ) (lo hi x : ℤ) (c : C) : Type 0 where
  pub arc : Arc
  pub arc_is : slice_get arcs a ≡ Some arc
  pub cost_is : slice_get costs a ≡ Some c
  pub lo_is : lo ≡ arc.lo
  pub hi_is : hi ≡ arc.hi
  pub low : lo ≤ℤ x
  pub high : x ≤ℤ hi
  pub span_low : IsWithin (span c) lo
  pub span_high : IsWithin (span c) hi

pub around : {C : Type 0} (span : C → ℤ) (arcs : List Arc) (costs : List C) (a : ℕ) (lo hi x : ℤ) (c : C) → FitSpans span arcs costs → a < length arcs →
    IsSomeAnd (slice_get arcs a) (λ arc. (lo ≡ arc.lo) × (hi ≡ arc.hi)) → IsSomeAnd (slice_get arcs a) (λ arc. IsFlow arc x) → c ≡ get_or costs a c → IsAround span arcs costs a lo hi x c
around span arcs costs a lo hi x c fit l bounds within e =
    let p = some_and (slice_get arcs a) (λ arc. (lo ≡ arc.lo) × (hi ≡ arc.hi)) bounds in
    let q = some_and (slice_get arcs a) (λ arc. IsFlow arc x) within in
    let same : q.0 ≡ p.0 = read_once arcs a q.0 p.0 q.1 p.1 in
    let f : IsFlow p.0 x = subst (λ z. IsFlow z x) same q.2 in
    let cost = slice_get_read costs (length costs) a c refl (omega (arith, l, fit.counted)) e in
    let w = fit.within a p.0 c p.1 cost in
    record {
      arc = p.0;
      arc_is = p.1;
      cost_is = cost;
      lo_is = p.2.0;
      hi_is = p.2.1;
      low = rw (p.2.0) f.low;
      high = rw (p.2.1) f.high;
      span_low = rw (p.2.0) w.0;
      span_high = rw (p.2.1) w.1;
    }

-- the code's difference of two potentials is the rise
pub rise_is : (potentials : List ℤ) (arcs : List Arc) (a : ℕ) (arc : Arc) (tail head n : ℕ) (up : ℤ) → ArePotentials (pos (10 ^ 24)) n potentials → tail < n → head < n →
    IsSomeAnd (slice_get arcs a) (λ b. (tail ≡ b.tail) × (head ≡ b.head)) → slice_get arcs a ≡ Some arc →
    up ≡ to_z w128 (of_z w128 (get_or potentials head (pos 0))) -ℤ to_z w128 (of_z w128 (get_or potentials tail (pos 0))) → IsWithin (pos (2 * 10 ^ 24)) up →
    to_z w128 (of_z w128 up) ≡ rise potentials arc
rise_is potentials arcs a arc tail head n up ps lt lh ends arc_is e w =
    let p = some_and (slice_get arcs a) (λ b. (tail ≡ b.tail) × (head ≡ b.head)) ends in
    let same : p.0 ≡ arc = read_once arcs a p.0 arc p.1 arc_is in
    let there = ps.within head (pos 0) (omega (arith, lh, ps.counted)) in
    let here = ps.within tail (pos 0) (omega (arith, lt, ps.counted)) in
    let plain : to_z w128 (of_z w128 up) ≡ get_or potentials head (pos 0) -ℤ get_or potentials tail (pos 0) =
    omega (arith, ints, e, w.low, w.high, there.low, there.high, here.low, here.high) in
    plain ∙ ap (λ z. get_or potentials z (pos 0) -ℤ get_or potentials tail (pos 0)) (p.2.1 ∙ ap (λ z. z.head) same)
    ∙ ap (λ z. get_or potentials arc.head (pos 0) -ℤ get_or potentials z (pos 0)) (p.2.0 ∙ ap (λ z. z.tail) same)

pub same_settled : {C : Type 0} (value : C → ℤ → ℤ) (c d : C) (x x' lo lo' hi hi' step step' p p' y y' : ℤ) → c ≡ d → x ≡ x' → lo ≡ lo' → hi ≡ hi' → step ≡ step' → p ≡ p' → y ≡ y' →
    IsNearestSettled (value c) x lo hi step p y → IsNearestSettled (value d) x' lo' hi' step' p' y'
same_settled value c d x x' lo lo' hi hi' step step' p p' y y' ec ex el eh es ep ey n = rw (← ec, ← ex, ← el, ← eh, ← es, ← ep, ← ey) n

pub flow_here : (arcs : List Arc) (flows : List ℤ) (a : ℕ) (x : ℤ) → AllZip IsFlow arcs flows → a < length arcs → slice_get flows a ≡ Some x → IsSomeAnd (slice_get arcs a) (λ arc. IsFlow arc x)
flow_here arcs flows a x z l k =
    let p = read_at arcs a (length arcs) refl l in
    rw (p.1) (flow_at arcs flows a p.0 x z p.1 k)

module _ {C : Type 0} (value : C → ℤ → ℤ) (step : ℤ) (potentials : List ℤ) (arcs : List Arc) (costs : List C) (flows start : List ℤ) (a : ℕ) (x v : ℤ)
    (there : a < length flows) (start_is : slice_get start a ≡ Some x) where
  pub other_more : ((k : ℕ) → a ≤ k → slice_get flows k ≡ slice_get start k) → (k : ℕ) → a + 1 ≤ k → slice_get (set flows a v) k ≡ slice_get start k
  other_more h k l = slice_get-set_other flows a k v (λ e. omega (arith, e, l)) ∙ h k (omega (arith, l))

  pub settled_more : ((arc : Arc) (c : C) → slice_get arcs a ≡ Some arc → slice_get costs a ≡ Some c → IsNearestSettled (value c) x arc.lo arc.hi step (rise potentials arc) v) →
      ((k : ℕ) → k < a → (arc : Arc) (c : C) (z y : ℤ) → Carries arcs costs start k arc c z → slice_get flows k ≡ Some y → IsNearestSettled (value c) z arc.lo arc.hi step (rise potentials arc) y) →
      (k : ℕ) → k < a + 1 → (arc : Arc) (c : C) (z y : ℤ) → Carries arcs costs start k arc c z → slice_get (set flows a v) k ≡ Some y → IsNearestSettled (value c) z arc.lo arc.hi step (rise potentials arc) y
  settled_more new done k l arc c z y h e = elim (cases_eq k a) [
    | inl q ↦ (let i : v ≡ y = read_once (set flows a v) a v y (slice_get-set_same flows a v there) (subst (λ n. slice_get (set flows a v) n ≡ Some y) q e) in
        let j : x ≡ z = read_once start a x z start_is (subst (λ n. slice_get start n ≡ Some z) q h.number_is) in
        rw (← i, ← j) (new arc c (subst (λ n. slice_get arcs n ≡ Some arc) q h.arc_is) (subst (λ n. slice_get costs n ≡ Some c) q h.cost_is)))
    | inr q ↦ done k (omega (arith, l, q)) arc c z y h (sym (slice_get-set_other flows a k v q) ∙ e)
  ]
