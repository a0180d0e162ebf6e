-- What the excesses become where the number or the bounds of one arc change.
use Rattle.std.proofs.Common.{◌≡◌, ℕ, zero, suc, ◌*◌, ◌^◌, Bool, true, false, ◌==◌, if◌then◌else◌, List, [], ◌∷◌, length, set, slice_get, Some, refl, arith, ℤ, pos, ◌+ℤ◌, ◌-ℤ◌}
use Rattle.std.proofs.lemmas.Int.{ints}
use Rattle.std.specs.List.{AllByRecursion, AllZip}
use Rattle.flow_cost.specs.Cost.{IsWithin}
use Rattle.flow_graph.specs.declared.arcs.Arc.{Arc}
use Rattle.flow_graph.specs.Circulation.{IsFlow, inflow, outflow, excess}
use Rattle.flow_graph.specs.Network.{IsArcAmong}
use Rattle.flow_residual.specs.Excess.{arc_adds}
use Rattle.flow_residual.proofs.Excesses.{excess_cons, adds_small}

-- one arc's number changes
one_changed : (h t : Bool) (x y i o : ℤ) →
    ((if h then y else pos 0) +ℤ i) -ℤ ((if t then y else pos 0) +ℤ o) ≡ (((if h then x else pos 0) +ℤ i) -ℤ ((if t then x else pos 0) +ℤ o)) +ℤ ((if h then (y -ℤ x) else pos 0) -ℤ (if t then (y -ℤ x) else pos 0))
one_changed true true x y i o = omega (arith, ints)
one_changed true false x y i o = omega (arith, ints)
one_changed false true x y i o = omega (arith, ints)
one_changed false false x y i o = omega (arith, ints)

rest_changed : (p q i o i' o' d : ℤ) → i' -ℤ o' ≡ (i -ℤ o) +ℤ d → (p +ℤ i') -ℤ (q +ℤ o') ≡ ((p +ℤ i) -ℤ (q +ℤ o)) +ℤ d
rest_changed p q i o i' o' d e = omega (arith, ints, e)

-- the difference goes to the head, and comes from the tail
pub excess_set : (arcs : List Arc) (xs : List ℤ) (a : ℕ) (arc : Arc) (x y : ℤ) (node : ℕ) → slice_get arcs a ≡ Some arc → slice_get xs a ≡ Some x →
    excess arcs (set xs a y) node ≡ excess arcs xs node +ℤ arc_adds arc.tail arc.head (y -ℤ x) node
excess_set [] xs a arc x y node h k = absurd (cc)
excess_set (b ∷ bs) [] a arc x y node h k = absurd (cc)
excess_set (b ∷ bs) (z ∷ zs) zero arc x y node h k =
    let e : b ≡ arc = cc in
    let f : z ≡ x = cc in
    rw (e, f) (one_changed (arc.head == node) (arc.tail == node) x y (inflow bs zs node) (outflow bs zs node))
excess_set (b ∷ bs) (z ∷ zs) (suc a) arc x y node h k =
    rest_changed (if b.head == node then z else pos 0) (if b.tail == node then z else pos 0) (inflow bs zs node) (outflow bs zs node) (inflow bs (set zs a y) node) (outflow bs (set zs a y) node) _
    (excess_set bs zs a arc x y node h k)

same_rest : (p q i o i' o' : ℤ) → i' -ℤ o' ≡ i -ℤ o → (p +ℤ i') -ℤ (q +ℤ o') ≡ (p +ℤ i) -ℤ (q +ℤ o)
same_rest p q i o i' o' e = omega (arith, ints, e)

-- bounds do not matter
pub excess_bounds : (arcs : List Arc) (xs : List ℤ) (a : ℕ) (arc : Arc) (lo hi : ℤ) (node : ℕ) → slice_get arcs a ≡ Some arc →
    excess (set arcs a (record arc { lo = lo; hi = hi })) xs node ≡ excess arcs xs node
excess_bounds [] xs a arc lo hi node h = refl
excess_bounds (b ∷ bs) [] zero arc lo hi node h = refl
excess_bounds (b ∷ bs) [] (suc a) arc lo hi node h = refl
excess_bounds (b ∷ bs) (z ∷ zs) zero arc lo hi node h =
    let e : b ≡ arc = cc in
    rw e refl
excess_bounds (b ∷ bs) (z ∷ zs) (suc a) arc lo hi node h =
    same_rest (if b.head == node then z else pos 0) (if b.tail == node then z else pos 0) (inflow bs zs node) (outflow bs zs node)
    (inflow (set bs a (record arc { lo = lo; hi = hi })) zs node) (outflow (set bs a (record arc { lo = lo; hi = hi })) zs node)
    (excess_bounds bs zs a arc lo hi node h)

one_small : (n : ℕ) (p e f : ℤ) → IsWithin (pos (2 ^ 61)) p → IsWithin (pos (n * 2 ^ 61)) e → f ≡ p +ℤ e → IsWithin (pos (suc n * 2 ^ 61)) f
one_small n p e f h k q = record { low = omega (arith, ints, h.low, k.low, q); high = omega (arith, ints, h.high, k.high, q) }

-- an excess is small
pub excess_small : (nodes : ℕ) (arcs : List Arc) (xs : List ℤ) (node : ℕ) → AllByRecursion (IsArcAmong nodes) arcs → AllZip IsFlow arcs xs → IsWithin (pos (length arcs * 2 ^ 61)) (excess arcs xs node)
excess_small nodes [] xs node fit z = record { low = omega (arith, ints); high = omega (arith, ints) }
excess_small nodes (b ∷ bs) [] node fit z = elim z [ ]
excess_small nodes (b ∷ bs) (x ∷ xs) node fit z =
    let w : IsWithin (pos (2 ^ 60)) x = record { low = omega (arith, ints, fit.0.bounds.low, z.0.low); high = omega (arith, ints, fit.0.bounds.high, z.0.high) } in
    one_small (length bs) (arc_adds b.tail b.head x node) (excess bs xs node) _ (adds_small b.tail b.head x node w) (excess_small nodes bs xs node fit.1 z.1)
    (excess_cons (inflow bs xs node) (outflow bs xs node) (if b.head == node then x else pos 0) (if b.tail == node then x else pos 0))
