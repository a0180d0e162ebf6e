-- The surplus of a circulation in which one number moved.
use Rattle.std.proofs.Common.{◌≡◌, ℕ, zero, suc, ◌==◌, ◌<◌, ◌≤◌, ℤ, pos, negsuc, ◌-ℤ◌, ◌≤ℤ◌, unsigned_abs, if◌then◌else◌, true, false, Bool, List, slice_get, Some, inl, inr, refl, ◌∙◌, ap, arith}
use Rattle.std.specs.Prelude.{slice_set}
use Rattle.std.specs.Int.{int_max}
use Rattle.std.proofs.lemmas.Bool.{cases_eq}
use Rattle.std.proofs.lemmas.Int.{ints, clamps}
use Rattle.flow_graph.specs.declared.arcs.Arc.{Arc}
use Rattle.flow_graph.specs.Circulation.{excess}
use Rattle.flow_residual.specs.Excess.{arc_adds}
use Rattle.flow_residual.proofs.Changes.{excess_set}
use Rattle.flow_residual.proofs.Excesses.{if_same, if_other}
use Rattle.flow_solve.specs.Bounds.{surplus_below}

-- excesses that are above 0 at one place alone
one-place : (arcs : List Arc) (ys : List ℤ) (place k n : ℕ) → ((i : ℕ) → i < n → int_max (pos 0) (excess arcs ys i) ≤ℤ (if place == i then pos k else pos 0))
    → (n ≤ place → surplus_below arcs ys n ≤ℤ pos 0) × (surplus_below arcs ys n ≤ℤ pos k)
one-place arcs ys place k zero h = (λ _. omega (arith, ints), omega (arith, ints))
one-place arcs ys place k (suc n) h =
    let rest = one-place arcs ys place k n (λ i l. h i (omega (arith, l))) in
    let here = h n (omega arith) in
    elim (cases_eq place n) [
      | inl e ↦ (let f = if_same place n (pos k) e in let low = rest.0 (omega (arith, e)) in (λ l. absurd (omega (arith, l, e)), omega (arith, ints, here, f, low)))
      | inr e ↦ (let f = if_other place n (pos k) e in (λ l. let low = rest.0 (omega (arith, l)) in omega (arith, ints, here, f, low), let high = rest.1 in omega (arith, ints, here, f, high)))
    ]

-- what a number adds at one end it takes off at the other
added-up : (h t : Bool) (k : ℕ) (e : ℤ) → e ≡ (if h then pos k else pos 0) -ℤ (if t then pos k else pos 0) → int_max (pos 0) e ≤ℤ (if h then pos k else pos 0)
added-up true true k e q = omega (arith, ints, clamps, q)
added-up true false k e q = omega (arith, ints, clamps, q)
added-up false true k e q = omega (arith, ints, clamps, q)
added-up false false k e q = omega (arith, ints, clamps, q)

added-down : (h t : Bool) (k : ℕ) (e : ℤ) → e ≡ (if h then negsuc k else pos 0) -ℤ (if t then negsuc k else pos 0) → int_max (pos 0) e ≤ℤ (if t then pos (suc k) else pos 0)
added-down true true k e q = omega (arith, ints, clamps, q)
added-down true false k e q = omega (arith, ints, clamps, q)
added-down false true k e q = omega (arith, ints, clamps, q)
added-down false false k e q = omega (arith, ints, clamps, q)

-- the surplus is at most how far the number moved
pub surplus-moved : (arcs : List Arc) (xs : List ℤ) (nodes : ℕ) → ((n : ℕ) → n < nodes → excess arcs xs n ≡ pos 0) → (a : ℕ) (arc : Arc) (x y : ℤ) → slice_get arcs a ≡ Some arc → slice_get xs a ≡ Some x
    → surplus_below arcs (slice_set xs a y) nodes ≤ℤ pos (unsigned_abs (y -ℤ x))
surplus-moved arcs xs nodes balanced a arc x y there carries = by (y -ℤ x) refl
  where
    at : (d : ℤ) → y -ℤ x ≡ d → (n : ℕ) → n < nodes → excess arcs (slice_set xs a y) n ≡ arc_adds arc.tail arc.head d n
    at d e n l =
        let was = balanced n l in
        let now = excess_set arcs xs a arc x y n there carries in
        let s : excess arcs (slice_set xs a y) n ≡ arc_adds arc.tail arc.head (y -ℤ x) n = omega (arith, ints, was, now) in
        s ∙ ap (λ z. arc_adds arc.tail arc.head z n) e

    by : (d : ℤ) → y -ℤ x ≡ d → surplus_below arcs (slice_set xs a y) nodes ≤ℤ pos (unsigned_abs d)
    by (pos k) e = (one-place arcs (slice_set xs a y) arc.head k nodes (λ i l. added-up (arc.head == i) (arc.tail == i) k _ (at (pos k) e i l))).1
    by (negsuc k) e = (one-place arcs (slice_set xs a y) arc.tail (suc k) nodes (λ i l. added-down (arc.head == i) (arc.tail == i) k _ (at (negsuc k) e i l))).1
