-- How far the surplus lies above the least that any set's excesses can sum to.
use Rattle.std.proofs.Common.{◌≡◌, ℕ, zero, suc, ◌<◌, Bool, true, false, if◌then◌else◌, List, [], ◌∷◌, All, length, refl, ◌∙◌, arith, ℤ, pos, negsuc, ◌+ℤ◌, ◌-ℤ◌, ◌*ℤ◌, neg_ℤ, ◌≤ℤ◌, ap}
use Rattle.std.specs.List.{AllZip}
use Rattle.std.specs.Int.{int_max}
use Rattle.std.proofs.Math.IntN.{*ℤ_comm, zero-*ℤ, suc_ℤ-*ℤ}
use Rattle.std.proofs.lemmas.Int.{ints, clamps}
use Rattle.std.proofs.lemmas.List.Elements.{recursion_from_All}
use Rattle.flow_cost.specs.Cost.{IsWithin}
use Rattle.flow_cost.specs.Integers.{mul-one, mul-neg}
use Rattle.flow_graph.specs.declared.arcs.Arc.{Arc}
use Rattle.flow_graph.specs.Circulation.{IsFlow, excess}
use Rattle.flow_graph.specs.Network.{IsArcAmong}
use Rattle.flow_check.proofs.Sums.{sum_below, carried, carried-is}
use Rattle.flow_solve.specs.Bounds.{surplus_below}
use Rattle.flow_solve.specs.Scales.{least_added, least_excess}

-- 1 for a member, 0 for another
abbrev weight_of : Bool → ℤ
weight_of b = if b then pos 1 else pos 0

times_one : (x : ℤ) → pos 1 *ℤ x ≡ x
times_one x = *ℤ_comm (pos 1) x ∙ mul-one x

times_minus_one : (x : ℤ) → negsuc 0 *ℤ x ≡ neg_ℤ x
times_minus_one x = *ℤ_comm (negsuc 0) x ∙ mul-neg x (pos 1) ∙ ap neg_ℤ (mul-one x)

pub one_more : (n : ℕ) (step : ℤ) → pos (suc n) *ℤ step ≡ pos n *ℤ step +ℤ step
one_more n step = omega (arith, ints, suc_ℤ-*ℤ (pos n) step)

-- ---- nodes
part_low : (b : Bool) (e : ℤ) → (weight_of b *ℤ e) ≤ℤ int_max (pos 0) e
part_low true e = rw (times_one e) (omega (arith, ints, clamps))
part_low false e = rw (zero-*ℤ e) (omega (arith, ints, clamps))

part_high : (b : Bool) (e step : ℤ) → pos 0 ≤ℤ step → (b ≡ true → neg_ℤ step ≤ℤ e) → (b ≡ false → e ≤ℤ step) → int_max (pos 0) e ≤ℤ (weight_of b *ℤ e +ℤ step)
part_high true e step l h k = rw (times_one e) (let m = h refl in omega (arith, ints, clamps, l, m))
part_high false e step l h k = rw (zero-*ℤ e) (let m = k refl in omega (arith, ints, clamps, l, m))

sum_low : (set : ℕ → Bool) (arcs : List Arc) (xs : List ℤ) (n : ℕ) → sum_below (λ k. weight_of (set k) *ℤ excess arcs xs k) n ≤ℤ surplus_below arcs xs n
sum_low set arcs xs zero = omega (arith, ints)
sum_low set arcs xs (suc n) = let h = sum_low set arcs xs n in let k = part_low (set n) (excess arcs xs n) in omega (arith, ints, h, k)

sum_high : (set : ℕ → Bool) (arcs : List Arc) (xs : List ℤ) (step : ℤ) → pos 0 ≤ℤ step → (n : ℕ) → ((k : ℕ) → k < n → set k ≡ true → neg_ℤ step ≤ℤ excess arcs xs k) → ((k : ℕ) → k < n → set k ≡ false → excess arcs xs k ≤ℤ step) →
    surplus_below arcs xs n ≤ℤ (sum_below (λ k. weight_of (set k) *ℤ excess arcs xs k) n +ℤ pos n *ℤ step)
sum_high set arcs xs step l zero h k = rw (zero-*ℤ step) (omega (arith, ints))
sum_high set arcs xs step l (suc n) h k =
    let p = sum_high set arcs xs step l n (λ j m. h j (omega (arith, m))) (λ j m. k j (omega (arith, m))) in
    let q = part_high (set n) (excess arcs xs n) step l (h n (omega arith)) (k n (omega arith)) in
    let r = one_more n step in
    omega (arith, ints, p, q, r)

-- ---- arcs
arc_low : (head tail : Bool) (lo hi x : ℤ) → lo ≤ℤ x → x ≤ℤ hi → least_added head tail lo hi ≤ℤ ((weight_of head -ℤ weight_of tail) *ℤ x)
arc_low true true lo hi x l h = rw (zero-*ℤ x) (omega (arith, ints))
arc_low true false lo hi x l h = rw (times_one x) l
arc_low false true lo hi x l h = rw (times_minus_one x) (omega (arith, ints, h))
arc_low false false lo hi x l h = rw (zero-*ℤ x) (omega (arith, ints))

-- an arc that leaves the set has less than a step left, and one that enters it has less than a step above its least
pub record IsPressed (set : ℕ → Bool) (step : ℤ) (arc : Arc) (x : ℤ) : Type 0 where
  pub leaving : set arc.tail ≡ true → set arc.head ≡ false → arc.hi ≤ℤ (x +ℤ step)
  pub entering : set arc.head ≡ true → set arc.tail ≡ false → (x -ℤ step) ≤ℤ arc.lo

arc_high : (head tail : Bool) (lo hi x step : ℤ) → pos 0 ≤ℤ step → (tail ≡ true → head ≡ false → hi ≤ℤ (x +ℤ step)) → (head ≡ true → tail ≡ false → (x -ℤ step) ≤ℤ lo) →
    ((weight_of head -ℤ weight_of tail) *ℤ x) ≤ℤ (least_added head tail lo hi +ℤ step)
arc_high true true lo hi x step p l e = rw (zero-*ℤ x) (omega (arith, ints, p))
arc_high true false lo hi x step p l e = rw (times_one x) (let q = e refl refl in omega (arith, ints, q))
arc_high false true lo hi x step p l e = rw (times_minus_one x) (let q = l refl refl in omega (arith, ints, q))
arc_high false false lo hi x step p l e = rw (zero-*ℤ x) (omega (arith, ints, p))

arcs_low : (set : ℕ → Bool) (arcs : List Arc) (xs : List ℤ) → AllZip IsFlow arcs xs → least_excess set arcs ≤ℤ carried (λ k. weight_of (set k)) arcs xs
arcs_low set [] [] z = omega (arith, ints)
arcs_low set [] (x ∷ xs) z = elim z [ ]
arcs_low set (b ∷ bs) [] z = elim z [ ]
arcs_low set (b ∷ bs) (x ∷ xs) z = let h = arcs_low set bs xs z.1 in let k = arc_low (set b.head) (set b.tail) b.lo b.hi x z.0.low z.0.high in omega (arith, ints, h, k)

arcs_high : (set : ℕ → Bool) (step : ℤ) (arcs : List Arc) (xs : List ℤ) → pos 0 ≤ℤ step → AllZip (IsPressed set step) arcs xs → carried (λ k. weight_of (set k)) arcs xs ≤ℤ (least_excess set arcs +ℤ pos (length arcs) *ℤ step)
arcs_high set step [] [] p z = rw (zero-*ℤ step) (omega (arith, ints))
arcs_high set step [] (x ∷ xs) p z = elim z [ ]
arcs_high set step (b ∷ bs) [] p z = elim z [ ]
arcs_high set step (b ∷ bs) (x ∷ xs) p z =
    let h = arcs_high set step bs xs p z.1 in
    let k = arc_high (set b.head) (set b.tail) b.lo b.hi x step p z.0.leaving z.0.entering in
    let r = one_more (length bs) step in
    omega (arith, ints, h, k, r)

-- ---- one arc after another settles anew
arc_moves : (head tail : Bool) (x y far : ℤ) → IsWithin far (y -ℤ x) → ((weight_of head -ℤ weight_of tail) *ℤ y) ≤ℤ ((weight_of head -ℤ weight_of tail) *ℤ x +ℤ far)
arc_moves true true x y far w = rw (zero-*ℤ x, zero-*ℤ y) (omega (arith, ints, w.low, w.high))
arc_moves true false x y far w = rw (times_one x, times_one y) (omega (arith, ints, w.low, w.high))
arc_moves false true x y far w = rw (times_minus_one x, times_minus_one y) (omega (arith, ints, w.low, w.high))
arc_moves false false x y far w = rw (zero-*ℤ x, zero-*ℤ y) (omega (arith, ints, w.low, w.high))

arcs_move : (set : ℕ → Bool) (far : ℤ) (arcs : List Arc) (xs ys : List ℤ) → length xs ≡ length arcs → AllZip (λ x y. IsWithin far (y -ℤ x)) xs ys →
    carried (λ k. weight_of (set k)) arcs ys ≤ℤ (carried (λ k. weight_of (set k)) arcs xs +ℤ pos (length arcs) *ℤ far)
arcs_move set far [] [] [] e z = rw (zero-*ℤ far) (omega (arith, ints))
arcs_move set far [] [] (y ∷ ys) e z = elim z [ ]
arcs_move set far [] (x ∷ xs) ys e z = absurd (omega (arith, e))
arcs_move set far (b ∷ bs) [] ys e z = absurd (omega (arith, e))
arcs_move set far (b ∷ bs) (x ∷ xs) [] e z = elim z [ ]
arcs_move set far (b ∷ bs) (x ∷ xs) (y ∷ ys) e z =
    let h = arcs_move set far bs xs ys (omega (arith, e)) z.1 in
    let k = arc_moves (set b.head) (set b.tail) x y far z.0 in
    let r = one_more (length bs) far in
    omega (arith, ints, h, k, r)

abbrev is_above_zero : ℤ → Bool
is_above_zero (pos zero) = false
is_above_zero (pos (suc n)) = true
is_above_zero (negsuc n) = false

part_is : (e : ℤ) → int_max (pos 0) e ≤ℤ (weight_of (is_above_zero e) *ℤ e)
part_is (pos zero) = rw (zero-*ℤ (pos 0)) (omega (arith, ints, clamps))
part_is (pos (suc n)) = rw (times_one (pos (suc n))) (omega (arith, ints, clamps))
part_is (negsuc n) = rw (zero-*ℤ (negsuc n)) (omega (arith, ints, clamps))

sum_is : (arcs : List Arc) (xs : List ℤ) (n : ℕ) → surplus_below arcs xs n ≤ℤ sum_below (λ k. weight_of (is_above_zero (excess arcs xs k)) *ℤ excess arcs xs k) n
sum_is arcs xs zero = omega (arith, ints)
sum_is arcs xs (suc n) = let h = sum_is arcs xs n in let k = part_is (excess arcs xs n) in omega (arith, ints, h, k)

module _ (nodes : ℕ) (arcs : List Arc) (fit : All (IsArcAmong nodes) arcs) where
  weighed : (p : ℕ → ℤ) (xs : List ℤ) → carried p arcs xs ≡ sum_below (λ k. p k *ℤ excess arcs xs k) nodes
  weighed p xs = carried-is p nodes arcs xs (recursion_from_All (IsArcAmong nodes) arcs fit)

  -- the excesses of no set can be less than the surplus
  pub surplus_at_least : (set : ℕ → Bool) (xs : List ℤ) → AllZip IsFlow arcs xs → least_excess set arcs ≤ℤ surplus_below arcs xs nodes
  surplus_at_least set xs z =
      let h = arcs_low set arcs xs z in
      let e = weighed (λ k. weight_of (set k)) xs in
      let k = sum_low set arcs xs nodes in
      omega (arith, ints, h, e, k)

  -- where no arc has a step left out of the set, no node in it lacks more than a step and none outside has more than one
  pub surplus_at_most : (set : ℕ → Bool) (step : ℤ) (xs : List ℤ) → pos 0 ≤ℤ step → AllZip (IsPressed set step) arcs xs → ((k : ℕ) → k < nodes → set k ≡ true → neg_ℤ step ≤ℤ excess arcs xs k) → ((k : ℕ) → k < nodes → set k ≡ false → excess arcs xs k ≤ℤ step) →
      surplus_below arcs xs nodes ≤ℤ (least_excess set arcs +ℤ (pos nodes *ℤ step +ℤ pos (length arcs) *ℤ step))
  surplus_at_most set step xs l z low high =
      let h = sum_high set arcs xs step l nodes low high in
      let e = weighed (λ k. weight_of (set k)) xs in
      let k = arcs_high set step arcs xs l z in
      omega (arith, ints, h, e, k)

  -- flows that each move a little move the surplus little
  pub surplus_moves : (far : ℤ) (xs ys : List ℤ) → length xs ≡ length arcs → AllZip (λ x y. IsWithin far (y -ℤ x)) xs ys →
      surplus_below arcs ys nodes ≤ℤ (surplus_below arcs xs nodes +ℤ pos (length arcs) *ℤ far)
  surplus_moves far xs ys e z =
      let set : ℕ → Bool = λ k. is_above_zero (excess arcs ys k) in
      let a = sum_is arcs ys nodes in
      let b = weighed (λ k. weight_of (set k)) ys in
      let c = arcs_move set far arcs xs ys e z in
      let d = weighed (λ k. weight_of (set k)) xs in
      let f = sum_low set arcs xs nodes in
      omega (arith, ints, a, b, c, d, f)
