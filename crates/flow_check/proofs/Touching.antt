-- The excess of a node is the sum of what the arcs that touch it add.
use Rattle.std.proofs.Common.{◌≡◌, ℕ, zero, suc, ◌+◌, ◌*◌, ◌^◌, ◌≤◌, Bool, true, false, ◌||◌, ◌==◌, if◌then◌else◌, List, [], ◌∷◌, length, get_or, ℤ, pos, negsuc, ◌+ℤ◌, ◌-ℤ◌, unsigned_abs, Some, slice_get, IsSomeAnd, sum_by, refl, ap, subst, ◌∙◌, arith}
use Rattle.std.specs.List.Sorted.{IsPermutation}
use Rattle.std.proofs.lemmas.Int.{ints}
use Rattle.std.proofs.lemmas.List.Sorted.{sum_by-IsPermutation}
use Rattle.std.proofs.lemmas.List.Sums.{sum_by-cons}
use Rattle.std.proofs.lemmas.Option.{get_or_from_slice_get}
use mir.Syntax.{w64}
use mir.Val.{SFits}
use Rattle.flow_graph.specs.declared.arcs.Arc.{Arc}
use Rattle.flow_graph.specs.declared.arcs.ArcId.{ArcId}
use Rattle.flow_graph.specs.Circulation.{inflow, outflow, excess}
use Rattle.flow_graph.specs.Network.{arcs_touching}
use Rattle.flow_graph.proofs.Lookups.{some_and}

-- the sum of what f gives
unfoldable pub sum_over : {X : Type 0} → (X → ℤ) → List X → ℤ
sum_over f [] = pos 0
sum_over f (x ∷ xs) = f x +ℤ sum_over f xs

-- a number as the difference of two natural ones
unfoldable above : ℤ → ℕ
above (pos n) = n
above (negsuc n) = 0

unfoldable below : ℤ → ℕ
below (pos n) = 0
below (negsuc n) = suc n

parts : (z : ℤ) → z ≡ pos (above z) -ℤ pos (below z)
unfolding above below
parts (pos n) = omega (arith, ints)
parts (negsuc n) = omega (arith, ints)

joined : (z : ℤ) (a b m n : ℕ) → z ≡ pos a -ℤ pos b → z +ℤ (pos m -ℤ pos n) ≡ pos (a + m) -ℤ pos (b + n)
joined z a b m n e = omega (arith, ints)

sum_parts : {X : Type 0} (f : X → ℤ) (xs : List X) → sum_over f xs ≡ pos (sum_by (λ x. above (f x)) xs) -ℤ pos (sum_by (λ x. below (f x)) xs)
unfolding sum_over
sum_parts f [] = omega (arith, ints)
sum_parts f (x ∷ xs) =
    rw (sum_parts f xs, sum_by-cons (λ y. above (f y)) x xs, sum_by-cons (λ y. below (f y)) x xs)
    (joined (f x) (above (f x)) (below (f x)) (sum_by (λ y. above (f y)) xs) (sum_by (λ y. below (f y)) xs) (parts (f x)))

-- the order of a sum's terms does not matter
pub sum_over-IsPermutation : {X : Type 0} (f : X → ℤ) (xs ys : List X) → IsPermutation xs ys → sum_over f ys ≡ sum_over f xs
sum_over-IsPermutation f xs ys p =
    rw (sum_parts f ys, sum_parts f xs, sum_by-IsPermutation (λ x. above (f x)) xs ys p, sum_by-IsPermutation (λ x. below (f x)) xs ys p) refl

-- the distance of a sum from 0
pub abs_add : (a b : ℤ) → unsigned_abs (a +ℤ b) ≤ unsigned_abs a + unsigned_abs b
abs_add (pos a) (pos b) = omega (arith, ints)
abs_add (pos a) (negsuc b) = omega (arith, ints)
abs_add (negsuc a) (pos b) = omega (arith, ints)
abs_add (negsuc a) (negsuc b) = omega (arith, ints)

-- what an arc that carries x adds to the excess of a node
abbrev pub part : ℕ → Arc → ℤ → ℤ
part node arc x = (if arc.head == node then x else pos 0) -ℤ (if arc.tail == node then x else pos 0)

-- what the arc at a place adds
unfoldable pub adds : List Arc → List ℤ → ℕ → ArcId → ℤ
adds arcs xs node a = part node (get_or arcs a.0 (record { tail = 0; head = 0; lo = pos 0; hi = pos 0 })) (get_or xs a.0 (pos 0))

-- an arc that does not touch the node adds nothing
one_more : (head tail : Bool) (x i o s f : ℤ) → (f ≡ (if head then x else pos 0) -ℤ (if tail then x else pos 0)) → s ≡ i -ℤ o →
    (if tail || head then f +ℤ s else s) ≡ ((if head then x else pos 0) +ℤ i) -ℤ ((if tail then x else pos 0) +ℤ o)
one_more true true x i o s f e h = omega (arith, ints)
one_more true false x i o s f e h = omega (arith, ints)
one_more false true x i o s f e h = omega (arith, ints)
one_more false false x i o s f e h = omega (arith, ints)

sum_if : {X : Type 0} (f : X → ℤ) (b : Bool) (x : X) (xs : List X) → sum_over f (if b then x ∷ xs else xs) ≡ (if b then f x +ℤ sum_over f xs else sum_over f xs)
unfolding sum_over
sum_if f true x xs = refl
sum_if f false x xs = refl

sum_touching : (node first : ℕ) (arcs : List Arc) (xs : List ℤ) (f : ArcId → ℤ) → length xs ≡ length arcs →
    ((k : ℕ) (arc : Arc) (x : ℤ) → slice_get arcs k ≡ Some arc → slice_get xs k ≡ Some x → f (record { 0 = first + k }) ≡ part node arc x) →
    sum_over f (arcs_touching node first arcs) ≡ excess arcs xs node
unfolding sum_over
sum_touching node first [] [] f e h = refl
sum_touching node first [] (x ∷ xs) f e h = absurd (omega arith)
sum_touching node first (arc ∷ arcs) [] f e h = absurd (omega arith)
sum_touching node first (arc ∷ arcs) (x ∷ xs) f e h =
    let here : f (record { 0 = first }) ≡ part node arc x = subst (λ z. f (record { 0 = z }) ≡ part node arc x) (omega arith) (h 0 arc x refl refl) in
    let rest : sum_over f (arcs_touching node (first + 1) arcs) ≡ excess arcs xs node = sum_touching node (first + 1) arcs xs f (omega arith)
    (λ k b y p q. let z : first + suc k ≡ (first + 1) + k = omega arith in subst (λ n. f (record { 0 = n }) ≡ part node b y) z (h (suc k) b y p q)) in
    sum_if f (arc.tail == node || arc.head == node) (record { 0 = first }) (arcs_touching node (first + 1) arcs)
    ∙ one_more (arc.head == node) (arc.tail == node) x (inflow arcs xs node) (outflow arcs xs node) (sum_over f (arcs_touching node (first + 1) arcs)) (f (record { 0 = first })) here rest

-- the sum over the arcs at a node, in any order
pub excess_by_arcs : (arcs : List Arc) (xs : List ℤ) (node : ℕ) (ids : List ArcId) → length xs ≡ length arcs → IsPermutation (arcs_touching node 0 arcs) ids →
    sum_over (adds arcs xs node) ids ≡ excess arcs xs node
unfolding adds
excess_by_arcs arcs xs node ids e p =
    sum_over-IsPermutation (adds arcs xs node) (arcs_touching node 0 arcs) ids p
    ∙ sum_touching node 0 arcs xs (adds arcs xs node) e
    (λ k arc x h l. let z : 0 + k ≡ k = omega arith in rw (z, get_or_from_slice_get arcs k arc (record { tail = 0; head = 0; lo = pos 0; hi = pos 0 }) h, get_or_from_slice_get xs k x (pos 0) l) refl)

-- what the code computes for one arc
pub adds_is : (arcs : List Arc) (xs : List ℤ) (node : ℕ) (a : ArcId) (tail head : ℕ) (x : ℤ) → IsSomeAnd (slice_get arcs a.0) (λ arc. (tail ≡ arc.tail) × (head ≡ arc.head)) →
    x ≡ get_or xs a.0 (pos 0) → ((if head == node then x else pos 0) -ℤ (if tail == node then x else pos 0)) ≡ adds arcs xs node a
unfolding adds
adds_is arcs xs node a tail head x h e =
    let p = some_and (slice_get arcs a.0) (λ arc. (tail ≡ arc.tail) × (head ≡ arc.head)) h in
    rw (get_or_from_slice_get arcs a.0 p.0 (record { tail = 0; head = 0; lo = pos 0; hi = pos 0 }) p.1, ← e, ← p.2.0, ← p.2.1) refl

-- one arc of the loop
pub next_arc : (arcs : List Arc) (xs : List ℤ) (node : ℕ) (a : ArcId) (left rest : List ArcId) (sum part total : ℤ) → left ≡ a ∷ rest → part ≡ adds arcs xs node a →
    sum +ℤ sum_over (adds arcs xs node) left ≡ total → (sum +ℤ part) +ℤ sum_over (adds arcs xs node) rest ≡ total
unfolding sum_over
next_arc arcs xs node a left rest sum part total e f h =
    let g = subst (λ z. sum +ℤ sum_over (adds arcs xs node) z ≡ total) e h in
    omega (arith, ints)

-- at its end
pub last_arc : (arcs : List Arc) (xs : List ℤ) (node : ℕ) (left : List ArcId) (sum total : ℤ) → left ≡ [] → sum +ℤ sum_over (adds arcs xs node) left ≡ total → sum ≡ total
unfolding sum_over
last_arc arcs xs node left sum total e h =
    let g = subst (λ z. sum +ℤ sum_over (adds arcs xs node) z ≡ total) e h in
    omega (arith, ints)

-- and how large the sum may be on the way
pub next_small : (a : ArcId) (left rest : List ArcId) (sum part : ℤ) (limit : ℕ) → left ≡ a ∷ rest → unsigned_abs part ≤ 2 ^ 63 →
    unsigned_abs sum + length left * 2 ^ 63 ≤ limit → unsigned_abs (sum +ℤ part) + length rest * 2 ^ 63 ≤ limit
next_small a left rest sum part limit e p h =
    let long : length left ≡ suc (length rest) = ap length e in
    let more : unsigned_abs (sum +ℤ part) ≤ unsigned_abs sum + unsigned_abs part = abs_add sum part in
    omega (arith, long, more)

-- what one arc adds is no further from 0 than a flow can be
one_small : (head tail : Bool) (x : ℤ) → unsigned_abs x ≤ 2 ^ 63 → unsigned_abs ((if head then x else pos 0) -ℤ (if tail then x else pos 0)) ≤ 2 ^ 63
one_small true true x h = let e : x -ℤ x ≡ pos 0 = omega (arith, ints) in rw e (omega arith)
one_small true false x h = let e : x -ℤ pos 0 ≡ x = omega (arith, ints) in rw e h
one_small false true (pos zero) h = omega arith
one_small false true (pos (suc n)) h = omega (arith, ints)
one_small false true (negsuc n) h = omega (arith, ints)
one_small false false x h = omega arith

pub adds_small : (arcs : List Arc) (xs : List ℤ) (node : ℕ) (a : ArcId) → unsigned_abs (get_or xs a.0 (pos 0)) ≤ 2 ^ 63 → unsigned_abs (adds arcs xs node a) ≤ 2 ^ 63
unfolding adds
adds_small arcs xs node a h = one_small _ _ (get_or xs a.0 (pos 0)) h

pub fits_small : (x : ℤ) → SFits w64 x → unsigned_abs x ≤ 2 ^ 63
fits_small (pos n) h = omega (arith, h.sfits)
fits_small (negsuc n) h = omega (arith, h.sfits)
