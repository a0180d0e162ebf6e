-- How the excesses grow with the arcs.
use Rattle.std.proofs.Common.{replicate, ◌≡◌, ◌≢◌, true, false, rules, inl, inr, set, map, take, ◌++◌, IsSomeAnd, All, length-set, get_or-set_same, get_or-set_other, ℕ, suc, ◌+◌, ◌*◌, ◌^◌, ◌<◌, ◌≤◌, Bool, ◌==◌, if◌then◌else◌, List, [], ◌∷◌, length, drop, get_or, slice_get, Some, refl, ap, sym, subst, ◌∙◌, arith, ℤ, pos, ◌+ℤ◌, ◌-ℤ◌, ◌≤ℤ◌}
use Rattle.std.proofs.lemmas.Int.{ints, clamps}
use Rattle.std.specs.List.{AllZip}
use Rattle.std.proofs.lemmas.Bool.{cases_eq}
use Rattle.std.proofs.lemmas.Bool.Decides.{nat_tests}
use Rattle.std.proofs.lemmas.Option.{get_or_from_slice_get, slice_get-get_or}
use Rattle.std.proofs.lemmas.List.Elements.{All-head, All-tail, All-from_get_or, All-replicate}
use Rattle.flow_graph.specs.Network.{Network, IsNetwork, IsArcAmong}
use Rattle.flow_graph.specs.Condition.{FitSpans}
use Rattle.flow_residual.specs.Flows.{nearest_within, IsKept}
use Rattle.std.proofs.lemmas.List.{drop_more, drop_all, map_more, get_or_default, length-map, length-replicate}
use Rattle.flow_cost.specs.Cost.{IsWithin}
use Rattle.flow_graph.specs.declared.arcs.Arc.{Arc}
use Rattle.flow_graph.specs.Circulation.{IsFlow, inflow, outflow, excess}
use Rattle.flow_graph.proofs.Bounded.{flow_at}
use Rattle.flow_graph.proofs.Lookups.{some_and}
use Rattle.flow_residual.specs.Excess.{arc_adds}

pub excess_cons : (i o a b : ℤ) → (a +ℤ i) -ℤ (b +ℤ o) ≡ (a -ℤ b) +ℤ (i -ℤ o)
excess_cons i o a b = omega (arith, ints)

-- the excess that the arcs from a place on leave, one arc on
pub excess_more : (arcs : List Arc) (xs : List ℤ) (a node : ℕ) (arc : Arc) (x : ℤ) → a < length arcs → a < length xs → arc ≡ get_or arcs a arc → x ≡ get_or xs a x →
    excess (drop a arcs) (drop a xs) node ≡ arc_adds arc.tail arc.head x node +ℤ excess (drop (a + 1) arcs) (drop (a + 1) xs) node
excess_more arcs xs a node arc x la lx ea ex =
    let da : drop a arcs ≡ arc ∷ drop (a + 1) arcs = drop_more arcs a arc la ∙ ap (λ z. z ∷ drop (a + 1) arcs) (sym ea) in
    let dx : drop a xs ≡ x ∷ drop (a + 1) xs = drop_more xs a x lx ∙ ap (λ z. z ∷ drop (a + 1) xs) (sym ex) in
    rw (da, dx) (excess_cons (inflow (drop (a + 1) arcs) (drop (a + 1) xs) node) (outflow (drop (a + 1) arcs) (drop (a + 1) xs) node) (if arc.head == node then x else pos 0) (if arc.tail == node then x else pos 0))

-- the arcs past the end leave none
pub excess_none : (arcs : List Arc) (xs : List ℤ) (a node : ℕ) → length arcs ≤ a → excess (drop a arcs) (drop a xs) node ≡ pos 0
excess_none arcs xs a node l = rw (drop_all a arcs l) refl

pub if_same : (a b : ℕ) (x : ℤ) → a ≡ b → (if a == b then x else pos 0) ≡ x
if_same a b x e = rw e (let t : (b == b) ≡ true = search (rules, nat_tests) in rw t refl)

pub if_other : (a b : ℕ) (x : ℤ) → a ≢ b → (if a == b then x else pos 0) ≡ pos 0
if_other a b x h = let t : (a == b) ≡ false = search (rules, nat_tests) in rw t refl

-- one number more at one place
added_at : (out : List ℤ) (place : ℕ) (x y : ℤ) → place < length out → y ≡ get_or out place (pos 0) +ℤ x → (n : ℕ) →
    get_or (set out place y) n (pos 0) ≡ get_or out n (pos 0) +ℤ (if place == n then x else pos 0)
added_at out place x y l e n = elim (cases_eq place n) [
  | inl q ↦ (let i = if_same place n x q in
      let r : get_or (set out place y) n (pos 0) ≡ y = subst (λ z. get_or (set out place y) z (pos 0) ≡ y) q (get_or-set_same out place y (pos 0) l) in
      let o : get_or out place (pos 0) ≡ get_or out n (pos 0) = ap (λ z. get_or out z (pos 0)) q in
      omega (arith, ints, i, r, e, o))
  | inr q ↦ (let i = if_other place n x q in
      let r : get_or (set out place y) n (pos 0) ≡ get_or out n (pos 0) = get_or-set_other out place n y (pos 0) (λ z. q (sym z)) in
      omega (arith, ints, i, r))
]

less_at : (out : List ℤ) (place : ℕ) (x y : ℤ) → place < length out → y ≡ get_or out place (pos 0) -ℤ x → (n : ℕ) →
    get_or (set out place y) n (pos 0) ≡ get_or out n (pos 0) -ℤ (if place == n then x else pos 0)
less_at out place x y l e n = elim (cases_eq place n) [
  | inl q ↦ (let i = if_same place n x q in
      let r : get_or (set out place y) n (pos 0) ≡ y = subst (λ z. get_or (set out place y) z (pos 0) ≡ y) q (get_or-set_same out place y (pos 0) l) in
      let o : get_or out place (pos 0) ≡ get_or out n (pos 0) = ap (λ z. get_or out z (pos 0)) q in
      omega (arith, ints, i, r, e, o))
  | inr q ↦ (let i = if_other place n x q in
      let r : get_or (set out place y) n (pos 0) ≡ get_or out n (pos 0) = get_or-set_other out place n y (pos 0) (λ z. q (sym z)) in
      omega (arith, ints, i, r))
]

pub carried_once : (out : List ℤ) (tail head : ℕ) (x more less : ℤ) → tail < length out → head < length out → more ≡ get_or out head (pos 0) +ℤ x → less ≡ get_or (set out head more) tail (pos 0) -ℤ x →
    (n : ℕ) → get_or (set (set out head more) tail less) n (pos 0) ≡ get_or out n (pos 0) +ℤ arc_adds tail head x n
carried_once out tail head x more less lt lh em el n =
    let a = added_at out head x more lh em n in
    let b = less_at (set out head more) tail x less (omega (arith, lt, length-set out head more)) el n in
    omega (arith, ints, a, b)

pub zip_length : (arcs : List Arc) (xs : List ℤ) → AllZip IsFlow arcs xs → length xs ≡ length arcs
zip_length [] [] z = refl
zip_length [] (x ∷ xs) z = elim z [ ]
zip_length (b ∷ bs) [] z = elim z [ ]
zip_length (b ∷ bs) (x ∷ xs) z = ap suc (zip_length bs xs z.1)

pub first_more : (arcs : List Arc) (flows new : List ℤ) (a : ℕ) (lo hi x : ℤ) → a < length arcs → flows ≡ map (λ arc. nearest_within arc.lo arc.hi (pos 0)) (take a arcs) →
    IsSomeAnd (slice_get arcs a) (λ arc. (lo ≡ arc.lo) × (hi ≡ arc.hi)) → x ≡ nearest_within lo hi (pos 0) → new ≡ flows ++ x ∷ [] →
    new ≡ map (λ arc. nearest_within arc.lo arc.hi (pos 0)) (take (a + 1) arcs)
first_more arcs flows new a lo hi x l ef b ex en =
    let p = some_and (slice_get arcs a) (λ arc. (lo ≡ arc.lo) × (hi ≡ arc.hi)) b in
    let m = map_more (λ (arc : Arc). nearest_within arc.lo arc.hi (pos 0)) arcs a p.0 l in
    let at : get_or arcs a p.0 ≡ p.0 = get_or_from_slice_get arcs a p.0 p.0 p.1 in
    let v : x ≡ nearest_within (get_or arcs a p.0).lo (get_or arcs a p.0).hi (pos 0) =
    ex ∙ ap (λ z. nearest_within z hi (pos 0)) (p.2.0 ∙ ap (λ z. z.lo) (sym at)) ∙ ap (λ z. nearest_within (get_or arcs a p.0).lo z (pos 0)) (p.2.1 ∙ ap (λ z. z.hi) (sym at)) in
    en ∙ ap (λ z. z ++ x ∷ []) ef ∙ ap (λ z. map (λ arc. nearest_within arc.lo arc.hi (pos 0)) (take a arcs) ++ z ∷ []) v ∙ sym m

nearest_is_flow : (arc : Arc) → arc.lo ≤ℤ arc.hi → IsFlow arc (nearest_within arc.lo arc.hi (pos 0))
nearest_is_flow arc h = record { low = omega (arith, ints, clamps, h); high = omega (arith, ints, clamps, h) }

pub first_are_flows : (n : ℕ) (arcs : List Arc) → All (IsArcAmong n) arcs → AllZip IsFlow arcs (map (λ arc. nearest_within arc.lo arc.hi (pos 0)) arcs)
first_are_flows n [] h = tt
first_are_flows n (b ∷ bs) h = (nearest_is_flow b (All-head (IsArcAmong n) b bs h).bounds.ordered, first_are_flows n bs (All-tail (IsArcAmong n) b bs h))

pub no_arc : Arc
no_arc = record { tail = 0; head = 0; lo = pos 0; hi = pos 0 }

pub flow_small : (n : ℕ) (arcs : List Arc) (xs : List ℤ) (a : ℕ) → All (IsArcAmong n) arcs → AllZip IsFlow arcs xs → a < length arcs → IsWithin (pos (2 ^ 60)) (get_or xs a (pos 0))
flow_small n arcs xs a fit z l =
    let e = slice_get-get_or xs a (pos 0) (omega (arith, l, zip_length arcs xs z)) in
    let f = flow_at arcs xs a (get_or arcs a no_arc) (get_or xs a (pos 0)) z (slice_get-get_or arcs a no_arc l) e in
    let b = (fit a no_arc l).bounds in
    record { low = omega (arith, ints, b.low, f.low); high = omega (arith, ints, b.high, f.high) }

if_within : (t : Bool) (m x : ℤ) → IsWithin m x → pos 0 ≤ℤ m → IsWithin m (if t then x else pos 0)
if_within true m x w p = w
if_within false m x w p = record { low = omega (arith, ints, p); high = p }

pub adds_small : (tail head : ℕ) (x : ℤ) (n : ℕ) → IsWithin (pos (2 ^ 60)) x → IsWithin (pos (2 ^ 61)) (arc_adds tail head x n)
adds_small tail head x n w =
    let a = if_within (head == n) (pos (2 ^ 60)) x w (omega (arith, ints)) in
    let b = if_within (tail == n) (pos (2 ^ 60)) x w (omega (arith, ints)) in
    record { low = omega (arith, ints, a.low, b.high); high = omega (arith, ints, a.high, b.low) }

pub next_small : (a tail head n : ℕ) (x was now : ℤ) → IsWithin (pos (2 ^ 60)) x → IsWithin (pos (a * 2 ^ 62)) was → now ≡ was +ℤ arc_adds tail head x n → IsWithin (pos ((a + 1) * 2 ^ 62)) now
next_small a tail head n x was now w k e =
    let s = adds_small tail head x n w in
    record { low = omega (arith, ints, k.low, s.low, e); high = omega (arith, ints, k.high, s.high, e) }

pub next_excess : (arcs : List Arc) (flows : List ℤ) (a n tail head : ℕ) (x was now : ℤ) → a < length arcs → a < length flows →
    IsSomeAnd (slice_get arcs a) (λ arc. (tail ≡ arc.tail) × (head ≡ arc.head)) → x ≡ get_or flows a (pos 0) → now ≡ was +ℤ arc_adds tail head x n →
    was +ℤ excess (drop a arcs) (drop a flows) n ≡ excess arcs flows n → now +ℤ excess (drop (a + 1) arcs) (drop (a + 1) flows) n ≡ excess arcs flows n
next_excess arcs flows a n tail head x was now la lf ends ex en each =
    let p = some_and (slice_get arcs a) (λ arc. (tail ≡ arc.tail) × (head ≡ arc.head)) ends in
    let m = excess_more arcs flows a n p.0 x la lf (sym (get_or_from_slice_get arcs a p.0 p.0 p.1)) (ex ∙ get_or_default flows a (pos 0) x lf) in
    let s : arc_adds tail head x n ≡ arc_adds p.0.tail p.0.head x n = ap (λ z. arc_adds z head x n) p.2.0 ∙ ap (λ z. arc_adds p.0.tail z x n) p.2.1 in
    omega (arith, ints, m, s, en, each)

pub all_small : (out : List ℤ) (a nodes : ℕ) → length out ≡ nodes → a ≤ 524_288 → ((n : ℕ) → n < nodes → IsWithin (pos (a * 2 ^ 62)) (get_or out n (pos 0))) → All (IsWithin (pos (2 ^ 90))) out
all_small out a nodes e l h = All-from_get_or (IsWithin (pos (2 ^ 90))) out (pos 0) (λ i k. let w = h i (omega (arith, e, k)) in record { low = omega (arith, ints, w.low, l); high = omega (arith, ints, w.high, l) })

pub all_wider : (out : List ℤ) → All (IsWithin (pos (2 ^ 90))) out → All (IsWithin (pos (2 ^ 91))) out
all_wider out h k d l = let w = h k d l in record { low = omega (arith, ints, w.low); high = omega (arith, ints, w.high) }

-- the first state keeps what every state keeps
pub kept_at_first : {N A C : Type 0} (node_eq : N → N → Bool) (arc_eq : A → A → Bool) (span : C → ℤ) (g : Network N A) (costs : List C) (flows potentials excesses read : List ℤ) (n : ℕ) →
    IsNetwork node_eq arc_eq g → FitSpans span g.arcs costs → flows ≡ map (λ arc. nearest_within arc.lo arc.hi (pos 0)) g.arcs → potentials ≡ replicate n (pos 0) → n ≡ length g.nodes → read ≡ flows →
    length excesses ≡ length g.nodes → ((k : ℕ) → k < length g.nodes → get_or excesses k (pos 0) ≡ excess g.arcs read k) →
    IsKept node_eq arc_eq span (record { graph = g; costs = costs; flows = flows; potentials = potentials }) excesses
kept_at_first node_eq arc_eq span g costs flows potentials excesses read n net spans ef ep en er counted each = record {
  flow = record {
    network = net;
    spans = spans;
    counted = rw ef (length-map g.arcs (λ (arc : Arc). nearest_within arc.lo arc.hi (pos 0)));
    bounded = rw ef (first_are_flows (length g.nodes) g.arcs net.arcs_fit);
    potentials = record {
      counted = rw ep (length-replicate n (pos 0) ∙ en);
      within = rw ep (All-replicate (IsWithin (pos (10 ^ 24))) n (pos 0) (record { low = omega (arith, ints); high = omega (arith, ints) }));
    };
  };
  counted = counted;
  each = λ k l. slice_get-get_or excesses k (pos 0) (omega (arith, l, counted)) ∙ ap Some (each k l ∙ ap (λ z. excess g.arcs z k) er);
}
