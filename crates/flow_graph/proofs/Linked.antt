-- The lists of arcs at the nodes: what their definitions give, and that they stay right as a graph changes.
use Rattle.std.proofs.Common.{◌≡◌, ◌≢◌, ℕ, zero, suc, ◌+◌, ◌<◌, ◌≤◌, Bool, true, false, ◌||◌, ◌==◌, if◌then◌else◌, List, [], ◌∷◌, ◌++◌, length, All, take, get_or, pos, Option, Some, None, slice_get, slice_set, refl, sym, ap, subst, ◌∙◌, ◌⊎◌, inl, inr, arith, add-one, length-append}
use Rattle.std.specs.Option.{option_map_or}
use Rattle.std.specs.List.{AllByRecursion}
use Rattle.std.specs.List.Sorted.{IsPermutation}
use Rattle.std.proofs.lemmas.Bool.Decides.{nat_tests}
use Rattle.std.proofs.lemmas.Bool.{cases_lt, cases_eq}
use Rattle.std.proofs.lemmas.List.Elements.{recursion_from_All, All-cons}
use Rattle.std.proofs.lemmas.List.Sorted.{IsPermutation-refl, IsPermutation-push_more}
use Rattle.std.proofs.lemmas.Option.{slice_get_read, same_Some, slice_get_within, slice_get-get_or}
use Rattle.std.proofs.lemmas.List.{take_more, take_all, length-take-le, length-set, append-nil}
use Rattle.flow_graph.specs.declared.arcs.Arc.{Arc}
use Rattle.flow_graph.specs.declared.arcs.ArcId.{ArcId}
use Rattle.flow_graph.specs.declared.arcs.Links.{Links}
use Rattle.flow_graph.specs.Incidence.{touches_at, last_touching, touching_below, count_to, AreLinked, AreStarts, AreAt}
use Rattle.flow_graph.specs.Network.{IsArcAmong, arcs_touching}
use Rattle.flow_graph.proofs.Lookups.{slice_get-append, slice_get-push, slice_get-set_same, slice_get-set_other}

-- whether an arc touches a node
abbrev touches : ℕ → Arc → Bool
touches node arc = arc.tail == node || arc.head == node

-- the ends of an arc, and any other node
tail_test : (arc : Arc) → touches arc.tail arc ≡ true
tail_test arc = grind (arith, nat_tests)

head_test : (arc : Arc) → touches arc.head arc ≡ true
head_test arc = grind (arith, nat_tests)

no_test : (arc : Arc) (node : ℕ) → node ≢ arc.head → node ≢ arc.tail → touches node arc ≡ false
no_test arc node h t = grind (arith, nat_tests)

other_end : (arc : Arc) (node : ℕ) → touches node arc ≡ true → (arc.tail ≡ node → ⊥) → arc.head ≡ node
other_end arc node h ne = grind (arith, nat_tests)

-- an arc that touches a node is there
pub touching_there : (node : ℕ) (arcs : List Arc) (k : ℕ) → touches_at node arcs k ≡ true → k < length arcs
touching_there node [] k h = absurd (cc)
touching_there node (arc ∷ arcs) zero h = omega arith
touching_there node (arc ∷ arcs) (suc k) h = omega (arith, touching_there node arcs k h)

-- the definitions at one arc more
last_at : (node : ℕ) (arcs : List Arc) (k : ℕ) → touches_at node arcs k ≡ true → last_touching node arcs (suc k) ≡ Some (record { 0 = k })
last_at node arcs k h = rw h refl

last_before : (node : ℕ) (arcs : List Arc) (k : ℕ) → touches_at node arcs k ≡ false → last_touching node arcs (suc k) ≡ last_touching node arcs k
last_before node arcs k h = rw h refl

pub below_at : (node : ℕ) (arcs : List Arc) (k : ℕ) → touches_at node arcs k ≡ true → touching_below node arcs (suc k) ≡ record { 0 = k } ∷ touching_below node arcs k
below_at node arcs k h = rw h refl

below_before : (node : ℕ) (arcs : List Arc) (k : ℕ) → touches_at node arcs k ≡ false → touching_below node arcs (suc k) ≡ touching_below node arcs k
below_before node arcs k h = rw h refl

-- the last arc touches the node
pub last_touches : (node : ℕ) (arcs : List Arc) (k : ℕ) (a : ArcId) → last_touching node arcs k ≡ Some a → touches_at node arcs a.0 ≡ true
last_touches node arcs zero a h = absurd (cc)
last_touches node arcs (suc k) a h = by (touches_at node arcs k) refl (last_touches node arcs k a)
  where
    by : (b : Bool) → touches_at node arcs k ≡ b → (last_touching node arcs k ≡ Some a → touches_at node arcs a.0 ≡ true) → touches_at node arcs a.0 ≡ true
    by true e before = subst (λ z. touches_at node arcs z.0 ≡ true) (same_Some _ _ (sym (last_at node arcs k e) ∙ h)) e
    by false e before = before (sym (last_before node arcs k e) ∙ h)

-- the list starts at the last arc
pub below_from_last : (node : ℕ) (arcs : List Arc) (k : ℕ) → touching_below node arcs k ≡ touching_below node arcs (count_to (last_touching node arcs k))
below_from_last node arcs zero = refl
below_from_last node arcs (suc k) = by (touches_at node arcs k) refl (below_from_last node arcs k)
  where
    by : (b : Bool) → touches_at node arcs k ≡ b → touching_below node arcs k ≡ touching_below node arcs (count_to (last_touching node arcs k)) →
        touching_below node arcs (suc k) ≡ touching_below node arcs (count_to (last_touching node arcs (suc k)))
    by true e before = ap (λ z. touching_below node arcs (count_to z)) (sym (last_at node arcs k e))
    by false e before = below_before node arcs k e ∙ before ∙ ap (λ z. touching_below node arcs (count_to z)) (sym (last_before node arcs k e))

-- what `next` gives, and what it leaves
pub list_steps : (node : ℕ) (arcs : List Arc) (next after : Option ArcId) (a : ArcId) → next ≡ Some a → touches_at node arcs a.0 ≡ true → after ≡ last_touching node arcs a.0 →
    touching_below node arcs (count_to next) ≡ a ∷ touching_below node arcs (count_to after)
list_steps node arcs next after a e h f =
    ap (λ z. touching_below node arcs (count_to z)) e ∙ below_at node arcs a.0 h
    ∙ ap (λ z. a ∷ z) (below_from_last node arcs a.0 ∙ ap (λ z. touching_below node arcs (count_to z)) (sym f))

-- the arc before one whose other end is the node
pub next_at_head : (arcs : List Arc) (links : List Links) (node a : ℕ) (arc : Arc) (link : Links) → AreLinked arcs links → touches_at node arcs a ≡ true →
    ((get_or arcs a arc).tail ≡ node → ⊥) → (get_or links a link).head ≡ last_touching node arcs a
next_at_head arcs links node a arc link h t ne =
    let l : a < length arcs = touching_there node arcs a t in
    let there : slice_get arcs a ≡ Some (get_or arcs a arc) = slice_get-get_or arcs a arc l in
    let linked : slice_get links a ≡ Some (get_or links a link) = slice_get-get_or links a link (omega (arith, h.counted)) in
    let test : touches node (get_or arcs a arc) ≡ true = sym (ap (λ z. option_map_or (touches node) z false) there) ∙ t in
    (h.each a (get_or arcs a arc) (get_or links a link) there linked).1 ∙ ap (λ z. last_touching z arcs a) (other_end (get_or arcs a arc) node test ne)

-- lists of arcs with the same ends up to a place have the same last arc there
pub last_same : (node : ℕ) (arcs others : List Arc) (k : ℕ) → ((i : ℕ) → i < k → touches_at node arcs i ≡ touches_at node others i) → last_touching node arcs k ≡ last_touching node others k
last_same node arcs others zero h = refl
last_same node arcs others (suc k) h = rw (h k (omega arith), last_same node arcs others k (λ i l. h i (omega arith))) refl

pub last_touching-append : (node : ℕ) (arcs more : List Arc) (k : ℕ) → k ≤ length arcs → last_touching node (arcs ++ more) k ≡ last_touching node arcs k
last_touching-append node arcs more k l = last_same node (arcs ++ more) arcs k (λ i m. ap (λ z. option_map_or (touches node) z false) (slice_get-append arcs more i (omega arith)))

-- an arc with the same ends
touches_at-set : (node : ℕ) (arcs : List Arc) (a : ℕ) (arc other : Arc) (k : ℕ) → slice_get arcs a ≡ Some arc → other.tail ≡ arc.tail → other.head ≡ arc.head →
    touches_at node (slice_set arcs a other) k ≡ touches_at node arcs k
touches_at-set node arcs a arc other k there t h = elim (cases_eq k a) [
  | inl e ↦ (rw (e, slice_get-set_same arcs a other (slice_get_within arcs a arc there), there, t, h) refl)
  | inr ne ↦ ap (λ z. option_map_or (touches node) z false) (slice_get-set_other arcs a k other ne)
]

pub last_touching-set : (node : ℕ) (arcs : List Arc) (a : ℕ) (arc other : Arc) (k : ℕ) → slice_get arcs a ≡ Some arc → other.tail ≡ arc.tail → other.head ≡ arc.head →
    last_touching node (slice_set arcs a other) k ≡ last_touching node arcs k
last_touching-set node arcs a arc other k there t h = last_same node (slice_set arcs a other) arcs k (λ i l. touches_at-set node arcs a arc other i there t h)

-- no arc touches a node that is not there yet
none_touches_at : (nodes : ℕ) (arcs : List Arc) (k : ℕ) → AllByRecursion (IsArcAmong nodes) arcs → touches_at nodes arcs k ≡ false
none_touches_at nodes [] k h = refl
none_touches_at nodes (arc ∷ arcs) zero h =
    let t = h.0.tail in
    let u = h.0.head in
    grind (arith, nat_tests)
none_touches_at nodes (arc ∷ arcs) (suc k) h = none_touches_at nodes arcs k h.1

none_touching : (nodes : ℕ) (arcs : List Arc) (k : ℕ) → AllByRecursion (IsArcAmong nodes) arcs → last_touching nodes arcs k ≡ None
none_touching nodes arcs zero h = refl
none_touching nodes arcs (suc k) h = last_before nodes arcs k (none_touches_at nodes arcs k h) ∙ none_touching nodes arcs k h

-- the arcs that touch a node are there, and no more than all
pub arcs_touching_within : (node first limit : ℕ) (arcs : List Arc) → first + length arcs ≤ limit → All (λ (a : ArcId). a.0 < limit) (arcs_touching node first arcs)
arcs_touching_within node first limit [] l = λ k d m. absurd (omega arith)
arcs_touching_within node first limit (arc ∷ arcs) l = by (touches node arc) (arcs_touching_within node (first + 1) limit arcs (omega arith))
  where
    by : (b : Bool) → All (λ (a : ArcId). a.0 < limit) (arcs_touching node (first + 1) arcs) →
        All (λ (a : ArcId). a.0 < limit) (if b then record { 0 = first } ∷ arcs_touching node (first + 1) arcs else arcs_touching node (first + 1) arcs)
    by true rest = All-cons (λ (a : ArcId). a.0 < limit) (record { 0 = first }) (arcs_touching node (first + 1) arcs) (omega arith) rest
    by false rest = rest

pub length-arcs_touching : (node first : ℕ) (arcs : List Arc) → length (arcs_touching node first arcs) ≤ length arcs
length-arcs_touching node first [] = omega arith
length-arcs_touching node first (arc ∷ arcs) = by (touches node arc) (length-arcs_touching node (first + 1) arcs)
  where
    by : (b : Bool) → length (arcs_touching node (first + 1) arcs) ≤ length arcs →
        length (if b then record { 0 = first } ∷ arcs_touching node (first + 1) arcs else arcs_touching node (first + 1) arcs) ≤ suc (length arcs)
    by true rest = omega arith
    by false rest = omega arith

-- the arcs that touch a node, after a push
arcs_touching-push : (node first : ℕ) (arcs : List Arc) (arc : Arc) →
    arcs_touching node first (arcs ++ arc ∷ []) ≡ arcs_touching node first arcs ++ (if touches node arc then record { 0 = first + length arcs } ∷ [] else [])
arcs_touching-push node first [] arc = rw (let e : first + 0 ≡ first = omega arith in e) refl
arcs_touching-push node first (x ∷ arcs) arc =
    let e : first + suc (length arcs) ≡ (first + 1) + length arcs = omega arith in
    rw (e, arcs_touching-push node (first + 1) arcs arc) (by (touches node x))
  where
    by : (b : Bool) →
        (if b then record { 0 = first } ∷ (arcs_touching node (first + 1) arcs ++ (if touches node arc then record { 0 = (first + 1) + length arcs } ∷ [] else []))
        else (arcs_touching node (first + 1) arcs ++ (if touches node arc then record { 0 = (first + 1) + length arcs } ∷ [] else []))) ≡
        (if b then record { 0 = first } ∷ arcs_touching node (first + 1) arcs else arcs_touching node (first + 1) arcs) ++ (if touches node arc then record { 0 = (first + 1) + length arcs } ∷ [] else [])
    by true = refl
    by false = refl

-- the arcs that touch a node among the first arcs of a list, the last one first, are those of the list in another order
below_front : (node : ℕ) (arcs : List Arc) (k : ℕ) → k ≤ length arcs → IsPermutation (arcs_touching node 0 (take k arcs)) (touching_below node arcs k)
below_front node arcs zero l = IsPermutation-refl []
below_front node arcs (suc k) l = by (touches_at node arcs k) refl (below_front node arcs k (omega arith))
  where
    arc : Arc
    arc = get_or arcs k (record { tail = 0; head = 0; lo = pos 0; hi = pos 0 })

    there : slice_get arcs k ≡ Some arc
    there = slice_get-get_or arcs k _ (omega arith)

    test : touches_at node arcs k ≡ touches node arc
    test = ap (λ z. option_map_or (touches node) z false) there

    front : take (suc k) arcs ≡ take k arcs ++ arc ∷ []
    front = rw (← add-one k) (take_more arcs k _ (omega arith))

    long : 0 + length (take k arcs) ≡ k
    long = omega (arith, length-take-le k arcs (omega arith))

    by : (b : Bool) → touches_at node arcs k ≡ b → IsPermutation (arcs_touching node 0 (take k arcs)) (touching_below node arcs k) →
        IsPermutation (arcs_touching node 0 (take (suc k) arcs)) (touching_below node arcs (suc k))
    by true e p =
        rw (front, arcs_touching-push node 0 (take k arcs) arc, ← test, long, below_at node arcs k e, e)
        (IsPermutation-push_more (arcs_touching node 0 (take k arcs)) (touching_below node arcs k) (record { 0 = k } ∷ touching_below node arcs k) (record { 0 = k }) p (IsPermutation-refl _))
    by false e p =
        rw (front, arcs_touching-push node 0 (take k arcs) arc, ← test, below_before node arcs k e, e, append-nil) p

pub below_permutes : (node : ℕ) (arcs : List Arc) → IsPermutation (arcs_touching node 0 arcs) (touching_below node arcs (length arcs))
below_permutes node arcs = rw (take_all (length arcs) arcs (omega arith)) at (below_front node arcs (length arcs) (omega arith))

-- where a node's list starts
pub start_is : (nodes node : ℕ) (arcs : List Arc) (starts : List (Option ArcId)) (start : Option ArcId) → AreStarts nodes arcs starts → node < nodes → start ≡ get_or starts node start →
    start ≡ last_touching node arcs (length arcs)
start_is nodes node arcs starts start h l e =
    same_Some _ _ (sym (slice_get_read starts nodes node start (sym h.counted) l e) ∙ h.each node l)

pub at_start : (node : ℕ) (arcs : List Arc) (links : List Links) (start : Option ArcId) → AreLinked arcs links → start ≡ last_touching node arcs (length arcs) → AreAt arcs links node start
at_start node arcs links start h e = record { linked = h; touches = λ a f. last_touches node arcs (length arcs) a (sym e ∙ f) }

pub start_permutes : (node : ℕ) (arcs : List Arc) (start : Option ArcId) → start ≡ last_touching node arcs (length arcs) →
    IsPermutation (arcs_touching node 0 arcs) (touching_below node arcs (count_to start))
start_permutes node arcs start e = rw (e, ← below_from_last node arcs (length arcs)) (below_permutes node arcs)

-- a place in a list with one more element
place_cases : {X : Type 0} (xs : List X) (y : X) (k : ℕ) (x : X) → slice_get (xs ++ y ∷ []) k ≡ Some x → ((k < length xs) × (slice_get xs k ≡ Some x)) ⊎ ((k ≡ length xs) × (x ≡ y))
place_cases xs y k x h = elim (cases_lt k (length xs)) [
  | inl l ↦ inl (l, sym (slice_get-append xs (y ∷ []) k l) ∙ h)
  | inr l ↦ (let within : k < length (xs ++ y ∷ []) = slice_get_within (xs ++ y ∷ []) k x h in
      let e : k ≡ length xs = omega (arith, length-append xs (y ∷ [])) in
      inr (e, same_Some _ _ (sym h ∙ ap (slice_get (xs ++ y ∷ [])) e ∙ slice_get-push xs y)))
]

-- one more arc, with its links
pub links_more : (arcs : List Arc) (links : List Links) (arc : Arc) (link : Links) → AreLinked arcs links →
    link.tail ≡ last_touching arc.tail arcs (length arcs) → link.head ≡ last_touching arc.head arcs (length arcs) → AreLinked (arcs ++ arc ∷ []) (links ++ link ∷ [])
links_more arcs links arc link h t u = record {
  counted = omega (arith, length-append arcs (arc ∷ []), length-append links (link ∷ []), h.counted);
  each = λ a x y hx hy. elim (place_cases arcs arc a x hx) [
    | inl p ↦ elim (place_cases links link a y hy) [
      | inl q ↦ (let old = h.each a x y p.1 q.1 in
          (old.0 ∙ sym (last_touching-append x.tail arcs (arc ∷ []) a (omega (arith, p.0))), old.1 ∙ sym (last_touching-append x.head arcs (arc ∷ []) a (omega (arith, p.0)))))
      | inr q ↦ absurd (omega (arith, p.0, q.0, h.counted))
    ]
    | inr p ↦ elim (place_cases links link a y hy) [
      | inl q ↦ absurd (omega (arith, p.0, q.0, h.counted))
      | inr q ↦ rw (p.0, p.1, q.1, last_touching-append arc.tail arcs (arc ∷ []) (length arcs) (omega arith), last_touching-append arc.head arcs (arc ∷ []) (length arcs) (omega arith)) (t, u)
    ]
  ];
}

-- the new arc comes first in the lists of its ends
pub starts_more : (nodes : ℕ) (arcs : List Arc) (starts : List (Option ArcId)) (arc : Arc) → AreStarts nodes arcs starts → arc.tail < nodes → arc.head < nodes →
    AreStarts nodes (arcs ++ arc ∷ []) (slice_set (slice_set starts arc.tail (Some (record { 0 = length arcs }))) arc.head (Some (record { 0 = length arcs })))
starts_more nodes arcs starts arc h t u = record {
  counted = length-set _ _ _ ∙ length-set _ _ _ ∙ h.counted;
  each = λ node l. elim (cases_eq node arc.head) [
    | inl e ↦ (rw e (slice_get-set_same (slice_set starts arc.tail new) arc.head new (omega (arith, length-set starts arc.tail new, h.counted)) ∙ ap Some (sym (now arc.head (head_test arc)))))
    | inr ne ↦ elim (cases_eq node arc.tail) [
      | inl e ↦ (rw e (slice_get-set_other (slice_set starts arc.tail new) arc.head arc.tail new (λ f. ne (e ∙ f)) ∙ slice_get-set_same starts arc.tail new (omega (arith, h.counted)) ∙ ap Some (sym (now arc.tail (tail_test arc)))))
      | inr other ↦ (slice_get-set_other (slice_set starts arc.tail new) arc.head node new ne ∙ slice_get-set_other starts arc.tail node new other ∙ h.each node l ∙ ap Some (sym (before node (no_test arc node ne other))))
    ]
  ];
}
  where
    new : Option ArcId
    new = Some (record { 0 = length arcs })

    long : length (arcs ++ arc ∷ []) ≡ suc (length arcs)
    long = omega (arith, length-append arcs (arc ∷ []))

    test : (node : ℕ) → touches_at node (arcs ++ arc ∷ []) (length arcs) ≡ touches node arc
    test node = ap (λ z. option_map_or (touches node) z false) (slice_get-push arcs arc)

    now : (node : ℕ) → touches node arc ≡ true → last_touching node (arcs ++ arc ∷ []) (length (arcs ++ arc ∷ [])) ≡ new
    now node e = rw long (last_at node (arcs ++ arc ∷ []) (length arcs) (test node ∙ e))

    before : (node : ℕ) → touches node arc ≡ false → last_touching node (arcs ++ arc ∷ []) (length (arcs ++ arc ∷ [])) ≡ last_touching node arcs (length arcs)
    before node e = rw long (last_before node (arcs ++ arc ∷ []) (length arcs) (test node ∙ e) ∙ last_touching-append node arcs (arc ∷ []) (length arcs) (omega arith))

-- one more node has no arcs yet
pub starts_node : (nodes : ℕ) (arcs : List Arc) (starts : List (Option ArcId)) → AreStarts nodes arcs starts → All (IsArcAmong nodes) arcs → AreStarts (suc nodes) arcs (starts ++ None ∷ [])
starts_node nodes arcs starts h among = record {
  counted = omega (arith, length-append starts (None ∷ []), h.counted);
  each = λ node l. elim (cases_lt node nodes) [
    | inl m ↦ (slice_get-append starts (None ∷ []) node (omega (arith, h.counted)) ∙ h.each node m)
    | inr m ↦ (let e : node ≡ nodes = omega arith in
        rw (e, none_touching nodes arcs (length arcs) (recursion_from_All (IsArcAmong nodes) arcs among)) (rw h.counted at (slice_get-push starts None)))
  ];
}

-- other bounds
pub links_set : (arcs : List Arc) (links : List Links) (a : ℕ) (arc other : Arc) → AreLinked arcs links → slice_get arcs a ≡ Some arc → other.tail ≡ arc.tail → other.head ≡ arc.head →
    AreLinked (slice_set arcs a other) links
links_set arcs links a arc other h there t u = record {
  counted = h.counted ∙ sym (length-set arcs a other);
  each = λ k x y hx hy. elim (cases_eq k a) [
    | inl e ↦ (let same : x ≡ other = same_Some _ _ (sym hx ∙ ap (slice_get (slice_set arcs a other)) e ∙ slice_get-set_same arcs a other (slice_get_within arcs a arc there)) in
        let old = h.each k arc y (ap (slice_get arcs) e ∙ there) hy in
        let tail : x.tail ≡ arc.tail = ap (λ z. z.tail) same ∙ t in
        let head : x.head ≡ arc.head = ap (λ z. z.head) same ∙ u in (
          old.0 ∙ sym (ap (λ z. last_touching z (slice_set arcs a other) k) tail ∙ last_touching-set arc.tail arcs a arc other k there t u),
          old.1 ∙ sym (ap (λ z. last_touching z (slice_set arcs a other) k) head ∙ last_touching-set arc.head arcs a arc other k there t u),
        ))
    | inr ne ↦ (let old = h.each k x y (sym (slice_get-set_other arcs a k other ne) ∙ hx) hy in
        rw (last_touching-set x.tail arcs a arc other k there t u, last_touching-set x.head arcs a arc other k there t u) old)
  ];
}

pub starts_set : (nodes : ℕ) (arcs : List Arc) (starts : List (Option ArcId)) (a : ℕ) (arc other : Arc) → AreStarts nodes arcs starts → slice_get arcs a ≡ Some arc → other.tail ≡ arc.tail → other.head ≡ arc.head →
    AreStarts nodes (slice_set arcs a other) starts
starts_set nodes arcs starts a arc other h there t u = record {
  counted = h.counted;
  each = λ node l. rw (length-set arcs a other, last_touching-set node arcs a arc other (length arcs) there t u) (h.each node l);
}
