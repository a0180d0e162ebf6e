-- Which arcs touch a node.
use Rattle.std.proofs.Common.{◌≡◌, ℕ, zero, suc, ◌+◌, ◌<◌, Bool, true, false, ◌||◌, ◌==◌, cond, List, [], ◌∷◌, length, Some, slice_get, refl, subst, arith, rules, ◌≤◌, ℤ, All, Contains}
use Rattle.std.proofs.lemmas.List.Elements.{All-nil, All-cons}
use Rattle.std.proofs.lemmas.Bool.Decides.{nat_tests}
use Rattle.flow_graph.specs.declared.arcs.Arc.{Arc}
use Rattle.flow_graph.specs.declared.arcs.ArcId.{ArcId}
use Rattle.flow_graph.specs.Network.{arcs_touching}
use Rattle.flow_residual.specs.Flows.{Flow}
use Rattle.flow_residual.specs.Path.{Move}
use Rattle.flow_residual.specs.Edges.{IsEdge}

later : {X : Type 0} (t : Bool) (x y : X) (xs : List X) → Contains xs y → Contains (cond t (x ∷ xs) xs) y
later true x y xs (k, l, e) = (suc k, omega (arith, l), e)
later false x y xs c = c

here : {X : Type 0} (t : Bool) (x : X) (xs : List X) → t ≡ true → Contains (cond t (x ∷ xs) xs) x
here true x xs e = (0, omega arith, refl)
here false x xs e = absurd (cc)

all_kept : {X : Type 0} (P : X → Type 0) (t : Bool) (x : X) (xs : List X) → P x → All P xs → All P (cond t (x ∷ xs) xs)
all_kept P true x xs p a = All-cons P x xs p a
all_kept P false x xs p a = a

touches : (node first : ℕ) (arcs : List Arc) (k n : ℕ) (arc : Arc) → slice_get arcs k ≡ Some arc → (arc.tail == node || arc.head == node) ≡ true → n ≡ first + k →
    Contains (arcs_touching node first arcs) (record { 0 = n })
touches node first [] k n arc h t e = absurd (cc)
touches node first (b ∷ bs) zero n arc h t e =
    let same : b ≡ arc = cc in
    let t' : (b.tail == node || b.head == node) ≡ true = rw same t in
    let f : first ≡ n = omega arith in
    subst (λ z. Contains (arcs_touching node first (b ∷ bs)) (record { 0 = z })) f
    (here (b.tail == node || b.head == node) (record { 0 = first }) (arcs_touching node (first + 1) bs) t')
touches node first (b ∷ bs) (suc k) n arc h t e =
    later (b.tail == node || b.head == node) (record { 0 = first }) (record { 0 = n }) (arcs_touching node (first + 1) bs)
    (touches node (first + 1) bs k n arc h t (omega arith))

pub touching_below : (node first limit : ℕ) (arcs : List Arc) → first + length arcs ≤ limit → All (λ (a : ArcId). a.0 < limit) (arcs_touching node first arcs)
touching_below node first limit [] h = All-nil (λ (a : ArcId). a.0 < limit)
touching_below node first limit (b ∷ bs) h =
    all_kept (λ (a : ArcId). a.0 < limit) (b.tail == node || b.head == node) (record { 0 = first }) (arcs_touching node (first + 1) bs) (omega (arith, h))
    (touching_below node (first + 1) limit bs (omega (arith, h)))

left_true : (a b : ℕ) (t : Bool) → b ≡ a → (a == b || t) ≡ true
left_true a b t e = rw e (search (rules, nat_tests))

right_true : (a b : ℕ) (t : Bool) → b ≡ a → (t || a == b) ≡ true
right_true a b true e = refl
right_true a b false e = rw e (search (rules, nat_tests))

edge_touches_of : {N A C : Type 0} (value : C → ℤ → ℤ) (step : ℤ) (s : Flow N A C) (up : Bool) (a u v : ℕ) (price : ℤ) → IsEdge value step s (record { arc = a; up = up }) u v price →
    Contains (arcs_touching u 0 s.graph.arcs) (record { 0 = a })
edge_touches_of value step s true a u v price e = touches u 0 s.graph.arcs a a e.arc e.has.arc_is (left_true e.arc.tail u (e.arc.head == u) e.from_is) (omega arith)
edge_touches_of value step s false a u v price e = touches u 0 s.graph.arcs a a e.arc e.has.arc_is (right_true e.arc.head u (e.arc.tail == u) e.from_is) (omega arith)

-- the arc of an edge from a node touches it
pub edge_touches : {N A C : Type 0} (value : C → ℤ → ℤ) (step : ℤ) (s : Flow N A C) (m : Move) (u v : ℕ) (price : ℤ) → IsEdge value step s m u v price →
    Contains (arcs_touching u 0 s.graph.arcs) (record { 0 = m.arc })
edge_touches value step s m u v price e = edge_touches_of value step s m.up m.arc u v price e
