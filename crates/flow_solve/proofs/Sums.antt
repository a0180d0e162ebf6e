-- The surplus after a step along a path, and what the excesses of all nodes sum to.
use Rattle.std.proofs.Common.{◌≡◌, ◌≢◌, ℕ, zero, suc, ◌*◌, ◌^◌, length, ◌<◌, ◌≤◌, List, [], ◌∷◌, All, ◌⊎◌, inl, inr, refl, sym, subst, ◌∙◌, arith, ℤ, pos, ◌+ℤ◌, ◌-ℤ◌, ◌*ℤ◌, neg_ℤ, ◌≤ℤ◌, ◌<ℤ◌}
use Rattle.std.specs.Int.{int_max}
use Rattle.std.specs.List.{AllByRecursion, AllZip}
use Rattle.std.proofs.Math.IntN.{*ℤ_comm, zero-*ℤ}
use Rattle.std.proofs.lemmas.Int.{ints, clamps}
use Rattle.std.proofs.lemmas.Bool.{cases_eq}
use Rattle.std.proofs.lemmas.List.Elements.{recursion_from_All}
use Rattle.flow_cost.specs.Cost.{IsWithin}
use Rattle.flow_cost.specs.Integers.{mul-one}
use Rattle.flow_graph.specs.declared.arcs.Arc.{Arc}
use Rattle.flow_graph.specs.Circulation.{IsFlow, excess}
use Rattle.flow_graph.specs.Network.{IsArcAmong}
use Rattle.flow_check.proofs.Sums.{sum_below, carried, carried-is}
use Rattle.flow_residual.specs.Flows.{only_at}
use Rattle.flow_residual.proofs.Changes.{excess_small}
use Rattle.flow_residual.proofs.Excesses.{if_same, if_other}
use Rattle.flow_solve.specs.Bounds.{surplus_below}

pub surplus_low : (arcs : List Arc) (xs : List ℤ) (n : ℕ) → pos 0 ≤ℤ surplus_below arcs xs n
surplus_low arcs xs zero = omega (arith, ints)
surplus_low arcs xs (suc n) = let h = surplus_low arcs xs n in omega (arith, ints, clamps, h)

top_small : (e : ℤ) (n : ℕ) → n ≤ 524_288 → IsWithin (pos (n * 2 ^ 61)) e → int_max (pos 0) e ≤ℤ pos (2 ^ 80)
top_small e n l w = omega (arith, ints, clamps, l, w.high)

-- the surplus fits 128 bits
pub surplus_small : (nodes : ℕ) (arcs : List Arc) (xs : List ℤ) → AllByRecursion (IsArcAmong nodes) arcs → AllZip IsFlow arcs xs → length arcs ≤ 524_288 → (n : ℕ) → surplus_below arcs xs n ≤ℤ pos (n * 2 ^ 80)
surplus_small nodes arcs xs fit z l zero = omega (arith, ints)
surplus_small nodes arcs xs fit z l (suc n) =
    let h = surplus_small nodes arcs xs fit z l n in
    let k = top_small (excess arcs xs n) (length arcs) l (excess_small nodes arcs xs n fit z) in
    omega (arith, ints, h, k)

top_falls : (e f s z step : ℤ) → pos 1 ≤ℤ step → step ≤ℤ e → s ≡ step → z ≡ pos 0 → f ≡ (e -ℤ s) +ℤ z → int_max (pos 0) f +ℤ step ≡ int_max (pos 0) e
top_falls e f s z step low l p q h = omega (arith, ints, clamps, low, l, p, q, h)

top_stays : (e f s z step : ℤ) → s ≡ pos 0 → (z ≡ pos 0) ⊎ ((z ≡ step) × (step ≤ℤ neg_ℤ e)) → pos 1 ≤ℤ step → f ≡ (e -ℤ s) +ℤ z → int_max (pos 0) f ≡ int_max (pos 0) e
top_stays e f s z step p (inl q) low h = omega (arith, ints, clamps, p, q, h)
top_stays e f s z step p (inr q) low h = omega (arith, ints, clamps, p, q.0, q.1, low, h)

module _ (arcs : List Arc) (xs ys : List ℤ) (nodes source last : ℕ) (step : ℤ) (low : pos 1 ≤ℤ step) (there : source < nodes) (enough : step ≤ℤ excess arcs xs source) (sink : step ≤ℤ neg_ℤ (excess arcs xs last))
    (moved : (n : ℕ) → n < nodes → excess arcs ys n ≡ (excess arcs xs n -ℤ only_at source step n) +ℤ only_at last step n) where
  pub source_apart : last ≢ source
  source_apart e = let h : step ≤ℤ neg_ℤ (excess arcs xs source) = subst (λ z. step ≤ℤ neg_ℤ (excess arcs xs z)) e sink in omega (arith, ints, h, enough, low)

  at_source : int_max (pos 0) (excess arcs ys source) +ℤ step ≡ int_max (pos 0) (excess arcs xs source)
  at_source = top_falls (excess arcs xs source) (excess arcs ys source) (only_at source step source) (only_at last step source) step low enough (if_same source source step refl) (if_other last source step source_apart) (moved source there)

  at_other : (n : ℕ) → n < nodes → n ≢ source → int_max (pos 0) (excess arcs ys n) ≡ int_max (pos 0) (excess arcs xs n)
  at_other n l h = top_stays (excess arcs xs n) (excess arcs ys n) (only_at source step n) (only_at last step n) step (if_other source n step (λ e. h (sym e))) (elim (cases_eq last n) [
    | inl e ↦ inr (if_same last n step e, subst (λ z. step ≤ℤ neg_ℤ (excess arcs xs z)) e sink)
    | inr e ↦ inl (if_other last n step e)
  ]) low (moved n l)

  before_source : (n : ℕ) → n ≤ source → surplus_below arcs ys n ≡ surplus_below arcs xs n
  before_source zero l = refl
  before_source (suc n) l =
      let h = before_source n (omega (arith, l)) in
      let k = at_other n (omega (arith, l, there)) (λ e. omega (arith, e, l)) in
      omega (arith, ints, h, k)

  past_source : (n : ℕ) → source < n → n ≤ nodes → surplus_below arcs ys n +ℤ step ≡ surplus_below arcs xs n
  past_source zero l m = absurd (omega (arith, l))
  past_source (suc n) l m = elim (cases_eq n source) [
    | inl e ↦ (let h = before_source n (omega (arith, e)) in
        let k : int_max (pos 0) (excess arcs ys n) +ℤ step ≡ int_max (pos 0) (excess arcs xs n) = subst (λ z. int_max (pos 0) (excess arcs ys z) +ℤ step ≡ int_max (pos 0) (excess arcs xs z)) (sym e) at_source in
        omega (arith, ints, h, k))
    | inr e ↦ (let h = past_source n (omega (arith, l, e)) (omega (arith, m)) in
        let k = at_other n (omega (arith, m)) e in
        omega (arith, ints, h, k))
  ]

  -- the step comes off the surplus
  pub surplus_falls : surplus_below arcs ys nodes +ℤ step ≡ surplus_below arcs xs nodes
  surplus_falls = past_source nodes there (omega arith)

  -- the source's excess falls by the step
  pub source_falls : excess arcs ys source ≡ excess arcs xs source -ℤ step
  source_falls =
      let h = moved source there in
      let p = if_same source source step refl in
      let q = if_other last source step source_apart in
      omega (arith, ints, h, p, q)

  -- no node gets an excess of the step
  pub still_spent : (n : ℕ) → n < nodes → excess arcs xs n <ℤ step → excess arcs ys n <ℤ step
  still_spent n l h =
      let m = moved n l in
      let q : only_at source step n ≡ pos 0 = if_other source n step (λ e. let k : step ≤ℤ excess arcs xs n = subst (λ z. step ≤ℤ excess arcs xs z) e enough in omega (arith, ints, k, h)) in
      elim (cases_eq last n) [
        | inl e ↦ (let z = if_same last n step e in let k : step ≤ℤ neg_ℤ (excess arcs xs n) = subst (λ z. step ≤ℤ neg_ℤ (excess arcs xs z)) e sink in omega (arith, ints, m, q, z, k, low))
        | inr e ↦ (let z = if_other last n step e in omega (arith, ints, m, q, z, h))
      ]

-- ---- all excesses sum to 0
times_one : (x : ℤ) → pos 1 *ℤ x ≡ x
times_one x = *ℤ_comm (pos 1) x ∙ mul-one x

carried_flat : (arcs : List Arc) (xs : List ℤ) → carried (λ n. pos 1) arcs xs ≡ pos 0
carried_flat [] xs = refl
carried_flat (b ∷ bs) [] = refl
carried_flat (b ∷ bs) (x ∷ xs) = let h = carried_flat bs xs in let z = zero-*ℤ x in omega (arith, ints, h, z)

sum_not_above : (f : ℕ → ℤ) (n : ℕ) → ((k : ℕ) → k < n → f k ≤ℤ pos 0) → sum_below f n ≤ℤ pos 0
sum_not_above f zero h = omega (arith, ints)
sum_not_above f (suc n) h = let k = sum_not_above f n (λ j l. h j (omega (arith, l))) in let m = h n (omega arith) in omega (arith, ints, k, m)

each_zero : (f : ℕ → ℤ) (n : ℕ) → ((k : ℕ) → k < n → f k ≤ℤ pos 0) → sum_below f n ≡ pos 0 → (k : ℕ) → k < n → f k ≡ pos 0
each_zero f zero h e k l = absurd (omega (arith, l))
each_zero f (suc n) h e k l =
    let low = sum_not_above f n (λ j m. h j (omega (arith, m))) in
    let here = h n (omega arith) in
    elim (cases_eq k n) [
      | inl q ↦ subst (λ z. f z ≡ pos 0) (sym q) (omega (arith, ints, low, here, e))
      | inr q ↦ each_zero f n (λ j m. h j (omega (arith, m))) (omega (arith, ints, low, here, e)) k (omega (arith, l, q))
    ]

-- where no excess is above 0, all are 0
pub all_balanced : (nodes : ℕ) (arcs : List Arc) (xs : List ℤ) → All (IsArcAmong nodes) arcs → ((n : ℕ) → n < nodes → excess arcs xs n <ℤ pos 1) → (n : ℕ) → n < nodes → excess arcs xs n ≡ pos 0
all_balanced nodes arcs xs fit h n l =
    let s = carried-is (λ k. pos 1) nodes arcs xs (recursion_from_All (IsArcAmong nodes) arcs fit) in
    let z = carried_flat arcs xs in
    let each = each_zero (λ k. pos 1 *ℤ excess arcs xs k) nodes (λ k m. let one = times_one (excess arcs xs k) in let up = h k m in omega (arith, ints, one, up)) (sym s ∙ z) n l in
    sym (times_one (excess arcs xs n)) ∙ each
