-- Sums over the arcs and over the nodes: what the arcs carry, paid by the rises, is what the nodes have, paid by their
-- potentials.
use Rattle.std.proofs.Common.{◌≡◌, ℕ, zero, suc, ◌<◌, if◌then◌else◌, ◌==◌, List, [], ◌∷◌, ℤ, pos, ◌+ℤ◌, ◌-ℤ◌, ◌*ℤ◌, inl, inr, refl, arith, sym, ◌∙◌}
use Rattle.std.specs.List.{AllByRecursion}
use Rattle.std.proofs.Math.IntN.{*ℤ_comm, *ℤ-zero, +ℤ_idl}
use Rattle.std.proofs.lemmas.Int.{ints}
use Rattle.std.proofs.lemmas.Bool.Decides.{eqb_tells}
use Rattle.flow_cost.specs.Integers.{mul-add, mul-sub}
use Rattle.flow_graph.specs.declared.arcs.Arc.{Arc}
use Rattle.flow_graph.specs.Circulation.{inflow, outflow, excess}
use Rattle.flow_graph.specs.Network.{IsArcAmong}

-- the sum of f at the numbers below n
abbrev pub sum_below : (ℕ → ℤ) → ℕ → ℤ
sum_below f zero = pos 0
sum_below f (suc n) = sum_below f n +ℤ f n

sum_same : (f g : ℕ → ℤ) (n : ℕ) → ((k : ℕ) → k < n → f k ≡ g k) → sum_below f n ≡ sum_below g n
sum_same f g zero h = refl
sum_same f g (suc n) h = omega (arith, ints, sum_same f g n (λ k l. h k (omega arith)), h n (omega arith))

pub sum_nothing : (f : ℕ → ℤ) (n : ℕ) → ((k : ℕ) → k < n → f k ≡ pos 0) → sum_below f n ≡ pos 0
sum_nothing f zero h = refl
sum_nothing f (suc n) h = omega (arith, ints, sum_nothing f n (λ k l. h k (omega arith)), h n (omega arith))

sum_join : (f g h : ℕ → ℤ) (n : ℕ) → sum_below (λ k. (f k -ℤ g k) +ℤ h k) n ≡ (sum_below f n -ℤ sum_below g n) +ℤ sum_below h n
sum_join f g h zero = refl
sum_join f g h (suc n) = omega (arith, ints, sum_join f g h n)

-- a number at one node alone
abbrev only_at : ℕ → ℤ → ℕ → ℤ
only_at place x k = if place == k then x else pos 0

only_elsewhere : (place k : ℕ) (x : ℤ) → (place ≡ k → ⊥) → only_at place x k ≡ pos 0
only_elsewhere place k x ne = elim (eqb_tells place k) [ inl e ↦ absurd (ne e.1) | inr e ↦ rw (e.0) refl ]

only_here : (k : ℕ) (x : ℤ) → only_at k x k ≡ x
only_here k x = elim (eqb_tells k k) [ inl e ↦ rw (e.0) refl | inr e ↦ absurd (e.1 refl) ]

sum_only : (p : ℕ → ℤ) (place : ℕ) (x : ℤ) (n : ℕ) → place < n → sum_below (λ k. p k *ℤ only_at place x k) n ≡ p place *ℤ x
sum_only p place x zero h = absurd (omega arith)
sum_only p place x (suc n) h = elim (eqb_tells place n) [
  | inl e ↦ (rw (← e.1) (
      let none : sum_below (λ k. p k *ℤ only_at place x k) place ≡ pos 0 = sum_nothing _ place (λ k l. rw (only_elsewhere place k x (λ f. omega arith)) (*ℤ-zero (p k))) in
      rw (none, only_here place x) (+ℤ_idl _)))
  | inr e ↦ rw (only_elsewhere place n x e.1, *ℤ-zero (p n)) (omega (arith, ints, sum_only p place x n (omega arith)))
]

-- what the arcs carry, each unit paid the rise
abbrev pub carried : (ℕ → ℤ) → List Arc → List ℤ → ℤ
carried p (arc ∷ arcs) (x ∷ xs) = (p arc.head -ℤ p arc.tail) *ℤ x +ℤ carried p arcs xs
carried p arcs xs = pos 0

-- one node's part: its potential times what an arc adds to its excess
node_part : (q a b c d : ℤ) → q *ℤ ((a +ℤ b) -ℤ (c +ℤ d)) ≡ (q *ℤ a -ℤ q *ℤ c) +ℤ q *ℤ (b -ℤ d)
node_part q a b c d = omega (arith, ints, mul-sub q (a +ℤ b) (c +ℤ d), mul-add q a b, mul-add q c d, mul-sub q b d)

rise_part : (a b x : ℤ) → (a -ℤ b) *ℤ x ≡ a *ℤ x -ℤ b *ℤ x
rise_part a b x = *ℤ_comm (a -ℤ b) x ∙ mul-sub x a b ∙ omega (arith, ints, *ℤ_comm a x, *ℤ_comm b x)

pub carried-is : (p : ℕ → ℤ) (nodes : ℕ) (arcs : List Arc) (xs : List ℤ) → AllByRecursion (IsArcAmong nodes) arcs →
    carried p arcs xs ≡ sum_below (λ k. p k *ℤ excess arcs xs k) nodes
carried-is p nodes [] xs h = sym (sum_nothing _ nodes (λ k l. *ℤ-zero (p k)))
carried-is p nodes (arc ∷ arcs) [] h = sym (sum_nothing _ nodes (λ k l. *ℤ-zero (p k)))
carried-is p nodes (arc ∷ arcs) (x ∷ xs) h =
    let split : sum_below (λ k. p k *ℤ excess (arc ∷ arcs) (x ∷ xs) k) nodes ≡ sum_below (λ k. (p k *ℤ only_at arc.head x k -ℤ p k *ℤ only_at arc.tail x k) +ℤ p k *ℤ excess arcs xs k) nodes =
    sum_same _ _ nodes (λ k l. node_part (p k) (only_at arc.head x k) (inflow arcs xs k) (only_at arc.tail x k) (outflow arcs xs k)) in
    let join = sum_join (λ k. p k *ℤ only_at arc.head x k) (λ k. p k *ℤ only_at arc.tail x k) (λ k. p k *ℤ excess arcs xs k) nodes in
    let at_head = sum_only p arc.head x nodes h.0.head in
    let at_tail = sum_only p arc.tail x nodes h.0.tail in
    let rest = carried-is p nodes arcs xs h.1 in
    let part = rise_part (p arc.head) (p arc.tail) x in
    rw (split, join, at_head, at_tail, ← rest) (omega (arith, ints, part))

-- a circulation carries nothing
pub carried-circulation : (p : ℕ → ℤ) (nodes : ℕ) (arcs : List Arc) (xs : List ℤ) → AllByRecursion (IsArcAmong nodes) arcs →
    ((k : ℕ) → k < nodes → excess arcs xs k ≡ pos 0) → carried p arcs xs ≡ pos 0
carried-circulation p nodes arcs xs h balanced =
    carried-is p nodes arcs xs h ∙ sum_nothing _ nodes (λ k l. rw (balanced k l) (*ℤ-zero (p k)))
