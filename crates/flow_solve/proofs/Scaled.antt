-- What a scale leaves, and how many steps the next one can take.
use Rattle.std.proofs.Common.{◌≡◌, ℕ, zero, suc, ◌+◌, ◌-◌, ◌*◌, ◌^◌, ◌<◌, ◌≤◌, Bool, true, false, List, [], ◌∷◌, length, get_or, inl, inr, refl, ap, sym, subst, ◌∙◌, arith, ℤ, pos, ◌+ℤ◌, ◌-ℤ◌, ◌*ℤ◌, neg_ℤ, ◌≤ℤ◌, ◌<ℤ◌}
use Rattle.std.specs.Prelude.{unsigned_abs}
use Rattle.std.specs.List.{AllZip}
use Rattle.std.proofs.Math.IntN.{*ℤ_comm}
use Rattle.std.proofs.Math.Nat.{mul-le-mul_left, mul-le-mul_right}
use Rattle.std.proofs.lemmas.Int.{ints, by_lt_z}
use Rattle.std.proofs.lemmas.Bool.{cases_lt}
use Rattle.std.proofs.lemmas.List.{ext_get_or}
use Rattle.std.proofs.lemmas.Option.{slice_get-get_or, get_or_from_slice_get}
use Rattle.flow_cost.specs.Cost.{IsWithin, IsLawful}
use Rattle.flow_cost.specs.Integers.{mul-add, abs_low, abs_high}
use Rattle.flow_graph.specs.declared.arcs.Arc.{Arc}
use Rattle.flow_graph.specs.Condition.{rise}
use Rattle.flow_graph.proofs.Bounded.{flow_at}
use Rattle.flow_residual.specs.Flows.{Flow, IsFlowOf, HasArc, MeetsAll, SettlesTo, excess_of}
use Rattle.flow_residual.proofs.Kept.{read_at, same_length_read}
use Rattle.flow_solve.specs.Bounds.{surplus, size_of, ScaledTicks}
use Rattle.flow_solve.specs.Progress.{IsUnderway}
use Rattle.flow_solve.specs.Scales.{least_excess, IsDrained, FallsAtMost, SettlesNear}
use Rattle.flow_solve.proofs.Cuts.{zip_each}
use Rattle.flow_solve.proofs.Debts.{IsPressed, surplus_at_least, surplus_at_most, surplus_moves}
use Rattle.flow_solve.proofs.Halved.{settled_at_once, settles_near}
use Rattle.flow_solve.proofs.Powers.{power_some, power_double}
use Rattle.flow_solve.proofs.Underway.{surplus_is}

product_add : (n m : ℕ) (step : ℤ) → pos (n + m) *ℤ step ≡ pos n *ℤ step +ℤ pos m *ℤ step
product_add n m step =
    let e : pos (n + m) ≡ pos n +ℤ pos m = omega (arith, ints) in
    ap (λ z. z *ℤ step) e ∙ *ℤ_comm (pos n +ℤ pos m) step ∙ mul-add step (pos n) (pos m) ∙ (let p = *ℤ_comm step (pos n) in let q = *ℤ_comm step (pos m) in omega (arith, ints, p, q))

-- a count of steps, from the sum of them
count_few : (t u most w : ℕ) → 1 ≤ w → u * w ≤ t * w + most * w → u ≤ t + most
count_few t u most w low h = elim (cases_lt (t + most) u) [
  | inl l ↦ (let k : suc (t + most) * w ≤ u * w = mul-le-mul_right w l in absurd (omega (arith, k, h, low)))
  | inr l ↦ l
]

least_none : (arcs : List Arc) → least_excess (λ n. false) arcs ≡ pos 0
least_none [] = refl
least_none (b ∷ bs) = let h = least_none bs in omega (arith, ints, h)

no_way_none : (x y : ℤ) → unsigned_abs (y -ℤ x) ≤ unsigned_abs (x -ℤ x) → y ≡ x
no_way_none x y h =
    let z : x -ℤ x ≡ pos 0 = omega (arith, ints) in
    let n : unsigned_abs (y -ℤ x) ≤ 0 = rw z at h in
    let l = abs_low (y -ℤ x) 0 n in
    let k = abs_high (y -ℤ x) 0 n in
    omega (arith, ints, l, k)

module _ {N A C : Type 0} (node_eq : N → N → Bool) (arc_eq : A → A → Bool) (span : C → ℤ) (value : C → ℤ → ℤ) (law : (c : C) → IsLawful (value c) (span c)) (s : Flow N A C) (kept : IsFlowOf node_eq arc_eq span s) where
  -- what a scale leaves
  pub drained_falls : (step : ℤ) → pos 1 ≤ℤ step → IsDrained step s → FallsAtMost (pos (size_of s) *ℤ step) s s.flows
  drained_falls step low d = record {
    set = d.set;
    close =
        let z = zip_each (IsPressed d.set step) s.graph.arcs s.flows kept.counted (λ a arc x ea ex. record {
          leaving = λ t h. let l = d.shut.leaving a arc x ea ex t h in omega (arith, ints, l);
          entering = λ h t. let l = d.shut.entering a arc x ea ex h t in omega (arith, ints, l);
        }) in
        let inside : (k : ℕ) → k < length s.graph.nodes → d.set k ≡ true → neg_ℤ step ≤ℤ excess_of s k = λ k l e.
        by_lt_z (excess_of s k) (neg_ℤ step) (λ m. absurd (d.shut.no_sink k l e (omega (arith, ints, m)))) (λ m. m) in
        let outside : (k : ℕ) → k < length s.graph.nodes → d.set k ≡ false → excess_of s k ≤ℤ step = λ k l e. let m = d.spent k l e in omega (arith, ints, m) in
        let h = surplus_at_most (length s.graph.nodes) s.graph.arcs kept.network.arcs_fit d.set step s.flows (omega (arith, ints, low)) z inside outside in
        let e = product_add (length s.graph.nodes) (length s.graph.arcs) step in
        omega (arith, ints, h, e);
  }

  -- what settles at half the step stays near
  moves_little : (n m : ℕ) → suc m ≡ suc n + suc n → MeetsAll value (pos (suc m)) s → (settled : List ℤ) → SettlesTo value (pos (suc n)) s settled → AllZip (λ x y. IsWithin (pos (suc m)) (y -ℤ x)) s.flows settled
  moves_little n m double meets settled h = zip_each (λ x y. IsWithin (pos (suc m)) (y -ℤ x)) s.flows settled h.counted (λ a x y ex ey.
      let arc = same_length_read s.graph.arcs s.flows a x (sym kept.counted) ex in
      let c = same_length_read s.costs s.graph.arcs a arc.0 kept.spans.counted arc.1 in
      let f = flow_at s.graph.arcs s.flows a arc.0 x kept.bounded arc.1 ex in
      let w = kept.spans.within a arc.0 c.0 arc.1 c.1 in
      let p = rise s.potentials arc.0 in
      let has : HasArc s a arc.0 c.0 x = record { arc_is = arc.1; cost_is = c.1; number_is = ex } in
      let d = settles_near (value c.0) (span c.0) (law c.0) arc.0.lo arc.0.hi p w.0 w.1 x y n m double f.low f.high (meets a arc.0 c.0 x has) (h.each a arc.0 c.0 x y has ey) in
      record { low = abs_low (y -ℤ x) (suc m) d; high = abs_high (y -ℤ x) (suc m) d })

  halved : (n m : ℕ) → suc m ≡ suc n + suc n → MeetsAll value (pos (suc m)) s → IsDrained (pos (suc m)) s → SettlesNear value (pos (suc n)) (pos (4 * size_of s * suc n)) s
  halved n m double meets drained settled h =
      let f = drained_falls (pos (suc m)) (omega (arith, ints)) drained in
      let g = surplus_moves (length s.graph.nodes) s.graph.arcs kept.network.arcs_fit (pos (suc m)) s.flows settled kept.counted (moves_little n m double meets settled h) in
      let k = f.close in
      let more : size_of s * suc m + length s.graph.arcs * suc m ≤ 4 * size_of s * suc n = rw double (omega arith) in
      record { set = f.set; close = omega (arith, ints, g, k, more) }

  -- what is left of a scale lets the surplus fall little at half the step
  pub next_near : (w v : ℕ) → v ≡ w + w → 1 ≤ w → MeetsAll value (pos v) s → IsDrained (pos v) s → SettlesNear value (pos w) (pos (4 * size_of s * w)) s
  next_near zero v double low meets drained = absurd (omega (arith, low))
  next_near (suc n) zero double low meets drained = absurd (omega (arith, double))
  next_near (suc n) (suc m) double low meets drained = halved n m double meets drained

  -- what is settled at step 1 stays at every step
  settles_here : (n : ℕ) → MeetsAll value (pos 1) s → (settled : List ℤ) → SettlesTo value (pos (suc n)) s settled → settled ≡ s.flows
  settles_here n meets settled h = ext_get_or (pos 0) settled s.flows h.counted (λ i l.
      let x = read_at s.flows i (length settled) (sym h.counted) l in
      let arc = read_at s.graph.arcs i (length settled) (sym (h.counted ∙ kept.counted)) l in
      let c = read_at s.costs i (length settled) (kept.spans.counted ∙ sym (h.counted ∙ kept.counted)) l in
      let f = flow_at s.graph.arcs s.flows i arc.0 x.0 kept.bounded arc.1 x.1 in
      let w = kept.spans.within i arc.0 c.0 arc.1 c.1 in
      let p = rise s.potentials arc.0 in
      let has : HasArc s i arc.0 c.0 x.0 = record { arc_is = arc.1; cost_is = c.1; number_is = x.1 } in
      let here = settled_at_once (value c.0) (span c.0) (law c.0) arc.0.lo arc.0.hi p w.0 w.1 x.0 n f.low f.high (meets i arc.0 c.0 x.0 has) in
      let y = h.each i arc.0 c.0 x.0 (get_or settled i (pos 0)) has (slice_get-get_or settled i (pos 0) l) in
      let same = no_way_none x.0 (get_or settled i (pos 0)) (y.nearest x.0 (record { by_steps = (pos 0, omega (arith, ints)); above = f.low; below = f.high }) here) in
      same ∙ sym (get_or_from_slice_get s.flows i x.0 (pos 0) x.1))

  first_at : (n most : ℕ) → MeetsAll value (pos 1) s → surplus s s.flows ≤ℤ pos most → SettlesNear value (pos (suc n)) (pos most) s
  first_at n most meets few settled h =
      let e = ap (λ z. surplus s z) (settles_here n meets settled h) in
      let l = least_none s.graph.arcs in
      record { set = λ n. false; close = omega (arith, ints, e, l, few) }

  -- so the first scale begins with the surplus
  pub first_near : (w most : ℕ) → 1 ≤ w → MeetsAll value (pos 1) s → surplus s s.flows ≤ℤ pos most → SettlesNear value (pos w) (pos most) s
  first_near zero most low meets few = absurd (omega (arith, low))
  first_near (suc n) most low meets few = first_at n most meets few

  -- how often a step was taken
  pub ticks_few : (start : Flow N A C) (t u most w : ℕ) → 1 ≤ w → IsUnderway value (pos w) start s t u → FallsAtMost (pos (most * w)) start start.flows → u ≤ t + most
  ticks_few start t u most w low h f =
      let same : s.graph ≡ start.graph = ap (λ (z : Flow N A C). z.graph) h.rest in
      let least = surplus_at_least (length s.graph.nodes) s.graph.arcs kept.network.arcs_fit f.set s.flows kept.bounded in
      let e = ap (λ z. least_excess f.set z.arcs) same in
      let b = h.balance in
      let k = f.close in
      count_few t u most w low (omega (arith, ints, least, e, b, k))

-- a state that settling left
pub falls_at : {N A C : Type 0} (most : ℤ) (s new : Flow N A C) → new ≡ record s { flows = new.flows } → FallsAtMost most s new.flows → FallsAtMost most new new.flows
falls_at most s new rest f = subst (λ z. FallsAtMost most z z.flows) (sym rest) (record { set = f.set; close = f.close })

less_one : (j : ℕ) → suc j - 1 ≡ j
less_one j = omega arith

-- one scale takes few steps, and leaves little to the next
pub record IsScaleDone {N A C : Type 0} (value : C → ℤ → ℤ) (size k : ℕ) (s : Flow N A C) (before after : ℕ) : Type 0 where
  pub near : SettlesNear value (pos (2 ^ (k - 1))) (pos (4 * size * 2 ^ (k - 1))) s
  pub few : after ≤ before + 4 * size

pub scale_done : {N A C : Type 0} (node_eq : N → N → Bool) (arc_eq : A → A → Bool) (span : C → ℤ) (value : C → ℤ → ℤ) → ((c : C) → IsLawful (value c) (span c)) → (s settled now : Flow N A C) (size k before after : ℕ) → 1 ≤ k → IsFlowOf node_eq arc_eq span now → size ≡ size_of now →
    settled ≡ record s { flows = settled.flows } → SettlesTo value (pos (2 ^ k)) s settled.flows → SettlesNear value (pos (2 ^ k)) (pos (4 * size * 2 ^ k)) s → IsUnderway value (pos (2 ^ k)) settled now before after → IsDrained (pos (2 ^ k)) now → IsScaleDone value size k now before after
scale_done node_eq arc_eq span value law s settled now size zero before after low kept same rest settles near u d = absurd (omega (arith, low))
scale_done node_eq arc_eq span value law s settled now size (suc j) before after low kept same rest settles near u d = record {
  near = rw (less_one j) (subst (λ z. SettlesNear value (pos (2 ^ j)) (pos (4 * z * 2 ^ j)) now) (sym same) (next_near node_eq arc_eq span value law now kept (2 ^ j) (2 ^ suc j) (power_double j) (power_some j) u.condition d));
  few = ticks_few node_eq arc_eq span value law now kept settled before after (4 * size) (2 ^ suc j) (power_some (suc j)) u (falls_at (pos (4 * size * 2 ^ suc j)) s settled rest (near settled.flows settles));
}

-- the count of one scale more
pub count_down : (before after most k total : ℕ) → 1 ≤ k → after ≤ before + most → before + most * k ≤ total → after + most * (k - 1) ≤ total
count_down before after most zero total low h l = absurd (omega (arith, low))
count_down before after most (suc j) total low h l = rw (less_one j) (omega (arith, h, l))

-- the first scale is the least that covers the excess
pub first_fits : (size first k : ℕ) (e : ℤ) → first ≤ 40 → (first < 40 → e ≤ℤ pos (size * 2 ^ first)) → ((j : ℕ) → j < first → pos (size * 2 ^ j) <ℤ e) → k ≤ 40 → e ≤ℤ pos (size * 2 ^ k) → (first ≤ k) × (e ≤ℤ pos (size * 2 ^ first))
first_fits size first k e high covers least l few = elim (cases_lt k first) [
  | inl q ↦ (let m = least k q in absurd (omega (arith, ints, m, few)))
  | inr q ↦ (
    q,
    elim (cases_lt first 40) [
      | inl c ↦ covers c
      | inr c ↦ (let same : k ≡ first = omega (arith, c, l, q) in subst (λ z. e ≤ℤ pos (size * 2 ^ z)) same few)
    ],
  )
]

-- no later scale takes fewer
pub later_more : (before after most first k : ℕ) → first ≤ k → after ≤ before + most * first → after ≤ before + most * k
later_more before after most first k l h = let m = mul-le-mul_left most l in omega (arith, h, m)

all_scales : (before middle after size k : ℕ) → middle ≤ before + 4 * size * k → after ≤ middle + 4 * size → after - before ≤ 16 * size * (k + 1)
all_scales before middle after size k h l = omega (arith, h, l)

-- what the large steps and the unit steps come to
pub scaled_from : {N A C : Type 0} (node_eq : N → N → Bool) (arc_eq : A → A → Bool) (span : C → ℤ) (value : C → ℤ → ℤ) → ((c : C) → IsLawful (value c) (span c)) → (old settled middle now : Flow N A C) (before between after : ℕ) →
    IsFlowOf node_eq arc_eq span old → SettlesTo value (pos 1) old settled.flows → settled ≡ record old { flows = settled.flows } → IsFlowOf node_eq arc_eq span now → IsUnderway value (pos 1) middle now between after →
    (pos 4_096 <ℤ surplus settled settled.flows → (k : ℕ) → k ≤ 40 → surplus settled settled.flows ≤ℤ pos (size_of settled * 2 ^ k) → FallsAtMost (pos (4 * size_of settled)) middle middle.flows × (between ≤ before + 4 * size_of settled * k)) →
    ScaledTicks value old (after - before)
scaled_from {N = N} {A = A} {C = C} node_eq arc_eq span value law old settled middle now before between after kept_old settles rest kept u large xs h big k l few =
    let e = surplus_is node_eq arc_eq span value law old settled now before after kept_old settles rest xs h in
    let same : size_of settled ≡ size_of old = ap (λ (z : Flow N A C). size_of z) rest in
    let some : surplus settled settled.flows ≤ℤ pos (size_of settled * 2 ^ k) = rw (e, same) few in
    let p = large (omega (arith, ints, e, big)) k l some in
    let one : 4 * size_of settled * 1 ≡ 4 * size_of settled = omega arith in
    let q = ticks_few node_eq arc_eq span value law now kept middle between after (4 * size_of settled) 1 (omega arith) u (subst (λ z. FallsAtMost (pos z) middle middle.flows) (sym one) p.0) in
    subst (λ z. after - before ≤ 16 * z * (k + 1)) same (all_scales before between after (size_of settled) k p.1 q)
