-- Numbers within the arcs' bounds, arc by arc.
use Rattle.std.proofs.Common.{◌≡◌, ℕ, zero, suc, ◌+◌, List, [], ◌∷◌, length, ℤ, Some, slice_get, refl, arith}
use Rattle.std.specs.List.{AllZip}
use Rattle.flow_graph.specs.declared.arcs.Arc.{Arc}
use Rattle.flow_graph.specs.Circulation.{IsFlow}

-- the number at a place lies within the bounds of the arc there
pub flow_at : (arcs : List Arc) (xs : List ℤ) (a : ℕ) (arc : Arc) (x : ℤ) → AllZip IsFlow arcs xs → slice_get arcs a ≡ Some arc → slice_get xs a ≡ Some x → IsFlow arc x
flow_at [] [] a arc x z h k = absurd (cc)
flow_at [] (y ∷ ys) a arc x z h k = elim z [ ]
flow_at (b ∷ bs) [] a arc x z h k = elim z [ ]
flow_at (b ∷ bs) (y ∷ ys) zero arc x z h k =
    let e : b ≡ arc = cc in
    let f : y ≡ x = cc in
    rw (← e, ← f) z.0
flow_at (b ∷ bs) (y ∷ ys) (suc a) arc x z h k = flow_at bs ys a arc x z.1 h k

-- and back
pub all_flows : (arcs : List Arc) (xs : List ℤ) → length xs ≡ length arcs →
    ((a : ℕ) (arc : Arc) (x : ℤ) → slice_get arcs a ≡ Some arc → slice_get xs a ≡ Some x → IsFlow arc x) → AllZip IsFlow arcs xs
all_flows [] [] e h = tt
all_flows [] (x ∷ xs) e h = absurd (omega arith)
all_flows (arc ∷ arcs) [] e h = absurd (omega arith)
all_flows (arc ∷ arcs) (x ∷ xs) e h = (h 0 arc x refl refl, all_flows arcs xs (omega arith) (λ a b y p q. h (suc a) b y p q))
