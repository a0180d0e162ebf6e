-- A path followed back from its end, one arc after another.
use Rattle.std.proofs.Common.{◌≡◌, ◌≢◌, ℕ, zero, suc, ◌+◌, ◌<◌, ◌≤◌, Bool, true, false, ◌==◌, eqb, if◌then◌else◌, List, [], ◌∷◌, length, set, get_or, slice_get, Option, Some, None, IsSomeAnd, All, AllPairs, ◌⊎◌, inl, inr, refl, ap, sym, subst, ◌∙◌, arith, rules, ℤ, pos, ◌+ℤ◌, ◌-ℤ◌, neg_ℤ, ◌≤ℤ◌, get_or-set_other}
use Rattle.std.specs.List.{AllByRecursion, AllZip, list_any}
use Rattle.std.proofs.lemmas.Int.{ints}
use Rattle.std.proofs.lemmas.Bool.{or_cases, eqb-true}
use Rattle.std.proofs.lemmas.Bool.Decides.{nat_tests, Decides-eqb}
use Rattle.std.proofs.lemmas.List.Elements.{recursion_from_All}
use Rattle.std.proofs.lemmas.Option.{get_or_from_slice_get, slice_get_within, none-some}
use Rattle.std.proofs.lemmas.Map.Made.{IsDistinct-from_AllPairs}
use Rattle.std.proofs.lemmas.Map.Steps.{length-le_from_distinct_below}
use Rattle.flow_graph.specs.declared.arcs.Arc.{Arc}
use Rattle.flow_graph.specs.declared.arcs.ArcId.{ArcId}
use Rattle.flow_graph.specs.Circulation.{IsFlow}
use Rattle.flow_graph.specs.Network.{IsArcAmong}
use Rattle.flow_graph.proofs.Bounded.{flow_at}
use Rattle.flow_graph.proofs.Grown.{among_at}
use Rattle.flow_graph.proofs.Lookups.{read_once, some_and}
use Rattle.flow_residual.specs.Flows.{Flow}
use Rattle.flow_residual.specs.Path.{Move, Joins, Leads, IsOpen, IsPath, after_moves}
use Rattle.flow_residual.specs.declared.rooms.Room.{Room}
use Rattle.flow_residual.specs.Rooms.{ReachedBy, HoldsPath}
use Rattle.flow_residual.proofs.Kept.{same_length_read}

-- one move of a path, and the node that it enters
pub record Leg : Type 0 where
  pub move : Move
  pub to : ℕ

-- by how much a move changes its arc's number
abbrev pub amount : ℤ → Bool → ℤ
amount step up = if up then step else neg_ℤ step

-- where a path ends that is followed back: its last leg comes first
abbrev pub end_of : ℕ → List Leg → ℕ
end_of source [] = source
end_of source (h ∷ hs) = h.to

-- no leg goes along the arc
abbrev pub Spares : ℕ → List Leg → Type 0
Spares a [] = Unit {0}
Spares a (h ∷ hs) = (h.move.arc ≢ a) × Spares a hs

-- the legs do not meet the node
abbrev pub Misses : ℕ → ℕ → List Leg → Type 0
Misses n source [] = n ≢ source
Misses n source (h ∷ hs) = (n ≢ h.to) × Misses n source hs

-- the numbers after a step along each leg
abbrev pub after_legs : ℤ → List Leg → List ℤ → List ℤ
after_legs step [] xs = xs
after_legs step (h ∷ hs) xs = after_legs step hs (set xs h.move.arc (get_or xs h.move.arc (pos 0) +ℤ amount step h.move.up))

-- an arc with room for the move, by which its end was reached
pub record IsLeg (arcs : List Arc) (flows : List ℤ) (step : ℤ) (by : List (Option ArcId)) (source from : ℕ) (m : Move) (to : ℕ) : Type 0 where
  pub arc : Arc
  pub arc_is : slice_get arcs m.arc ≡ Some arc
  pub from_is : from ≡ (if m.up then arc.tail else arc.head)
  pub to_is : to ≡ (if m.up then arc.head else arc.tail)
  pub apart : to ≢ from
  pub fresh : to ≢ source
  pub by_is : slice_get by to ≡ Some (Some (record { 0 = m.arc }))
  pub fits : IsFlow arc (get_or flows m.arc (pos 0) +ℤ amount step m.up)

abbrev pub IsWayBack : List Arc → List ℤ → ℤ → List (Option ArcId) → ℕ → List Leg → Type 0
IsWayBack arcs flows step by source [] = Unit {0}
IsWayBack arcs flows step by source (h ∷ hs) =
    IsLeg arcs flows step by source (end_of source hs) h.move h.to × Spares h.move.arc hs × IsWayBack arcs flows step by source hs

-- the path, last leg first, before legs that are there
abbrev pub turned_round : List Move → List ℕ → List Leg → List Leg
turned_round (m ∷ ms) (n ∷ ns) hs = turned_round ms ns (record { move = m; to = n } ∷ hs)
turned_round ms ns hs = hs

-- ---- one arc has two ends
pub ends_shared : (u p q tail head : ℕ) (b c : Bool) → u ≡ (if b then tail else head) → p ≡ (if c then tail else head) → q ≡ (if c then head else tail) → (u ≡ p) ⊎ (u ≡ q)
ends_shared u p q tail head true true h k l = inl (h ∙ sym k)
ends_shared u p q tail head true false h k l = inr (h ∙ sym l)
ends_shared u p q tail head false true h k l = inr (h ∙ sym l)
ends_shared u p q tail head false false h k l = inl (h ∙ sym k)

-- a node that no leg meets is no end of a leg's arc
spares_from : (arcs : List Arc) (flows : List ℤ) (step : ℤ) (by : List (Option ArcId)) (source n : ℕ) (m : Move) (arc : Arc) (hs : List Leg) →
    slice_get arcs m.arc ≡ Some arc → n ≡ (if m.up then arc.head else arc.tail) → Misses n source hs → IsWayBack arcs flows step by source hs → Spares m.arc hs
spares_from arcs flows step by source n m arc [] e f miss way = tt
spares_from arcs flows step by source n m arc (h ∷ hs) e f miss way = (differs, spares_from arcs flows step by source n m arc hs e f miss.1 way.2)
  where
    misses_end : (ls : List Leg) → Misses n source ls → n ≢ end_of source ls
    misses_end [] g = g
    misses_end (l ∷ ls) g = g.0

    differs : h.move.arc ≢ m.arc
    differs q =
        let same : way.0.arc ≡ arc = read_once arcs m.arc way.0.arc arc (subst (λ z. slice_get arcs z ≡ Some way.0.arc) q way.0.arc_is) e in
        let from : h.to ≡ (if h.move.up then arc.head else arc.tail) = rw (← same) way.0.to_is in
        let back : end_of source hs ≡ (if h.move.up then arc.tail else arc.head) = rw (← same) way.0.from_is in
        elim (ends_shared n h.to (end_of source hs) arc.head arc.tail m.up h.move.up f from back) [
          | inl k ↦ miss.0 k
          | inr k ↦ misses_end hs miss.1 k
        ]

-- the room for a move keeps its arc's number within the bounds
pub fits_from : (up : Bool) (step x : ℤ) (arc : Arc) → pos 1 ≤ℤ step → IsFlow arc x → (if up then x +ℤ step else arc.lo) ≤ℤ (if up then arc.hi else x -ℤ step) → IsFlow arc (x +ℤ amount step up)
fits_from true step x arc l f o = record { low = omega (arith, ints, f.low, l); high = o }
fits_from false step x arc l f o = record { low = omega (arith, ints, o); high = omega (arith, ints, f.high, l) }

module _ {N A C : Type 0} (s : Flow N A C) (step : ℤ) where
  after_turned : (source to : ℕ) (ms : List Move) (ns : List ℕ) (hs : List Leg) (xs : List ℤ) → Leads s ms ns source to → after_legs step (turned_round ms ns hs) xs ≡ after_legs step hs (after_moves step ms xs)
  after_turned source to [] [] hs xs l = refl
  after_turned source to [] (n ∷ ns) hs xs l = elim l [ ]
  after_turned source to (m ∷ ms) [] hs xs l = elim l [ ]
  after_turned source to (m ∷ ms) (n ∷ ns) hs xs l = after_turned n to ms ns (record { move = m; to = n } ∷ hs) xs l.1

  end_turned : (source to : ℕ) (ms : List Move) (ns : List ℕ) (hs : List Leg) → Leads s ms ns (end_of source hs) to → end_of source (turned_round ms ns hs) ≡ to
  end_turned source to [] [] hs l = l
  end_turned source to [] (n ∷ ns) hs l = elim l [ ]
  end_turned source to (m ∷ ms) [] hs l = elim l [ ]
  end_turned source to (m ∷ ms) (n ∷ ns) hs l = end_turned source to ms ns (record { move = m; to = n } ∷ hs) l.1

  length_turned : (source to : ℕ) (ms : List Move) (ns : List ℕ) (hs : List Leg) → Leads s ms ns source to → length (turned_round ms ns hs) ≡ length ms + length hs
  length_turned source to [] [] hs l = omega arith
  length_turned source to [] (n ∷ ns) hs l = elim l [ ]
  length_turned source to (m ∷ ms) [] hs l = elim l [ ]
  length_turned source to (m ∷ ms) (n ∷ ns) hs l = let k = length_turned n to ms ns (record { move = m; to = n } ∷ hs) l.1 in omega (arith, k)

  pub leads_length : (source to : ℕ) (ms : List Move) (ns : List ℕ) → Leads s ms ns source to → length ns ≡ length ms
  leads_length source to [] [] l = refl
  leads_length source to [] (n ∷ ns) l = elim l [ ]
  leads_length source to (m ∷ ms) [] l = elim l [ ]
  leads_length source to (m ∷ ms) (n ∷ ns) l = ap suc (leads_length n to ms ns l.1)

  -- each node on the way is one
  ends_below : (nodes tail head n : ℕ) (up : Bool) → tail < nodes → head < nodes → n ≡ (if up then head else tail) → n < nodes
  ends_below nodes tail head n true lt lh e = rw e lh
  ends_below nodes tail head n false lt lh e = rw e lt

  nodes_below : (source to : ℕ) (ms : List Move) (ns : List ℕ) → All (IsArcAmong (length s.graph.nodes)) s.graph.arcs → Leads s ms ns source to → AllByRecursion (λ n. n < length s.graph.nodes) ns
  nodes_below source to [] [] fit l = tt
  nodes_below source to [] (n ∷ ns) fit l = elim l [ ]
  nodes_below source to (m ∷ ms) [] fit l = elim l [ ]
  nodes_below source to (m ∷ ms) (n ∷ ns) fit l =
      let f = among_at (length s.graph.nodes) s.graph.arcs m.arc l.0.arc fit l.0.arc_is in
      (ends_below (length s.graph.nodes) l.0.arc.tail l.0.arc.head n m.up f.tail f.head l.0.to_is, nodes_below n to ms ns fit l.1)

  -- the nodes of the way differ from one another, and from those met before
  abbrev AreFresh : ℕ → List ℕ → List Leg → Type 0
  AreFresh source [] hs = Unit {0}
  AreFresh source (n ∷ ns) hs = Misses n source hs × AllByRecursion (λ k. n ≢ k) ns × AreFresh source ns hs

  misses_more : (source : ℕ) (n : ℕ) (m : Move) (ns : List ℕ) (hs : List Leg) → AllByRecursion (λ k. n ≢ k) ns → AreFresh source ns hs → AreFresh source ns (record { move = m; to = n } ∷ hs)
  misses_more source n m [] hs a f = tt
  misses_more source n m (k ∷ ns) hs a f = ((λ e. a.0 (sym e), f.0), f.1, misses_more source n m ns hs a.1 f.2)

  -- what is asked of the moves of a way
  abbrev AreOpen : List Move → Type 0
  AreOpen [] = Unit {0}
  AreOpen (m ∷ ms) = IsOpen s step m × AreOpen ms

  module _ (room : Room) (source to : ℕ) (low : pos 1 ≤ℤ step) (counted : length s.flows ≡ length s.graph.arcs) (priced : length s.costs ≡ length s.graph.arcs) (bounded : AllZip IsFlow s.graph.arcs s.flows) where
    abbrev IsBack : List Leg → Type 0
    IsBack hs = IsWayBack s.graph.arcs s.flows step room.by.items source hs

    misses_end : (n : ℕ) (ls : List Leg) → Misses n source ls → n ≢ end_of source ls
    misses_end n [] g = g
    misses_end n (l ∷ ls) g = g.0

    misses_source : (n : ℕ) (ls : List Leg) → Misses n source ls → n ≢ source
    misses_source n [] g = g
    misses_source n (l ∷ ls) g = misses_source n ls g.1

    one_leg : (m : Move) (n : ℕ) (hs : List Leg) → Joins s m (end_of source hs) n → Misses n source hs → slice_get room.by.items n ≡ Some (Some (record { 0 = m.arc })) → IsOpen s step m →
        IsLeg s.graph.arcs s.flows step room.by.items source (end_of source hs) m n
    one_leg m n hs j miss by o =
        let c = same_length_read s.costs s.graph.arcs m.arc j.arc priced j.arc_is in
        let x = same_length_read s.flows s.graph.arcs m.arc j.arc counted j.arc_is in
        let f = flow_at s.graph.arcs s.flows m.arc j.arc x.0 bounded j.arc_is x.1 in
        let fit = fits_from m.up step x.0 j.arc low f (o j.arc c.0 x.0 (record { arc_is = j.arc_is; cost_is = c.1; number_is = x.1 })) in
        record {
          arc = j.arc;
          arc_is = j.arc_is;
          from_is = j.from_is;
          to_is = j.to_is;
          apart = misses_end n hs miss;
          fresh = misses_source n hs miss;
          by_is = by;
          fits = rw (get_or_from_slice_get s.flows m.arc x.0 (pos 0) x.1) fit;
        }

    way_turned : (ms : List Move) (ns : List ℕ) (hs : List Leg) → Leads s ms ns (end_of source hs) to → ReachedBy room ms ns → AreFresh source ns hs → AreOpen ms → IsBack hs → IsBack (turned_round ms ns hs)
    way_turned [] [] hs l r f o w = w
    way_turned [] (n ∷ ns) hs l r f o w = elim l [ ]
    way_turned (m ∷ ms) [] hs l r f o w = elim l [ ]
    way_turned (m ∷ ms) (n ∷ ns) hs l r f o w =
        way_turned ms ns (record { move = m; to = n } ∷ hs) l.1 r.1 (misses_more source n m ns hs f.1 f.2) o.1
        (one_leg m n hs l.0 f.0 r.0 o.0, spares_from s.graph.arcs s.flows step room.by.items source n m l.0.arc hs l.0.arc_is l.0.to_is f.0 w, w)

  -- ---- from a path that the room holds
  pairs_head : (x : ℕ) (xs : List ℕ) → AllPairs ◌≢◌ (x ∷ xs) → AllByRecursion (λ k. x ≢ k) xs
  pairs_head x xs h = recursion_from_All (λ k. x ≢ k) xs (λ k d l. h zero (suc k) d (omega arith) (omega (arith, l)))

  pairs_tail : (x : ℕ) (xs : List ℕ) → AllPairs ◌≢◌ (x ∷ xs) → AllPairs ◌≢◌ xs
  pairs_tail x xs h = λ i j d l k. h (suc i) (suc j) d (omega (arith, l)) (omega (arith, k))

  fresh_from : (source : ℕ) (ns : List ℕ) → AllByRecursion (λ k. source ≢ k) ns → AllPairs ◌≢◌ ns → AreFresh source ns []
  fresh_from source [] a h = tt
  fresh_from source (n ∷ ns) a h = (λ e. a.0 (sym e), pairs_head n ns h, fresh_from source ns a.1 (pairs_tail n ns h))

  open_from : (ms : List Move) → AllByRecursion (IsOpen s step) ms → AreOpen ms
  open_from [] h = tt
  open_from (m ∷ ms) h = (h.0, open_from ms h.1)

  below_from : (ns : List ℕ) (nodes q : ℕ) → AllByRecursion (λ n. n < nodes) ns → list_any (eqb q) ns ≡ true → q < nodes
  below_from [] nodes q h e = absurd (cc)
  below_from (n ∷ ns) nodes q h e = elim (or_cases (eqb q n) (list_any (eqb q) ns) e) [
    | inl k ↦ (let same : q ≡ n = eqb-true q n k in rw same (h.0))
    | inr k ↦ below_from ns nodes q h.1 k
  ]

  -- a path is no longer than the nodes are many
  pub path_short : (source to : ℕ) (ms : List Move) → All (IsArcAmong (length s.graph.nodes)) s.graph.arcs → IsPath s step source to ms → length ms ≤ length s.graph.nodes
  path_short source to ms fit p =
      let d = IsDistinct-from_AllPairs {eq = eqb} Decides-eqb p.by_way_of (pairs_tail source p.by_way_of p.once) in
      let l = length-le_from_distinct_below p.by_way_of (length s.graph.nodes) d (λ q e. below_from p.by_way_of (length s.graph.nodes) q (nodes_below source to ms p.by_way_of fit p.leads) e) in
      omega (arith, l, leads_length source to ms p.by_way_of p.leads)

-- what is left to do of a path: the legs, with room for each, and what a step along them makes of the numbers
pub record IsLeft {N A C : Type 0} (s old : Flow N A C) (step : ℤ) (room : Room) (ms : List Move) (to made : ℕ) : Type 0 where
  pub legs : List Leg
  pub way : IsWayBack s.graph.arcs s.flows step room.by.items room.source.0 legs
  pub ends : end_of room.source.0 legs ≡ to
  pub result_is : after_legs step legs s.flows ≡ after_moves step ms old.flows
  pub counted : length legs + made ≡ length ms

pub left_at_first : {N A C : Type 0} (s : Flow N A C) (step : ℤ) (room : Room) (ms : List Move) → pos 1 ≤ℤ step → length s.flows ≡ length s.graph.arcs → length s.costs ≡ length s.graph.arcs → AllZip IsFlow s.graph.arcs s.flows →
    HoldsPath s step room ms → IsLeft s s step room ms room.last.0 0
left_at_first s step room ms low counted priced bounded h =
    let p = h.path in
    let source = room.source.0 in
    record {
      legs = turned_round ms p.by_way_of [];
      way = way_turned s step room source room.last.0 low counted priced bounded ms p.by_way_of [] p.leads h.held
          (fresh_from s step source p.by_way_of (pairs_head s step source p.by_way_of p.once) (pairs_tail s step source p.by_way_of p.once))
          (open_from s step ms (recursion_from_All (IsOpen s step) ms p.moves_open)) tt;
      ends = end_turned s step source room.last.0 ms p.by_way_of [] p.leads;
      result_is = after_turned s step source room.last.0 ms p.by_way_of [] s.flows p.leads;
      counted = let k = length_turned s step source room.last.0 ms p.by_way_of [] p.leads in omega (arith, k);
    }

pub legs_at_first : {N A C : Type 0} (s : Flow N A C) (step : ℤ) (room : Room) (ms : List Move) (low : pos 1 ≤ℤ step) (counted : length s.flows ≡ length s.graph.arcs) (priced : length s.costs ≡ length s.graph.arcs) (bounded : AllZip IsFlow s.graph.arcs s.flows) →
    (h : HoldsPath s step room ms) → (left_at_first s step room ms low counted priced bounded h).legs ≡ turned_round ms h.path.by_way_of []
unfolding left_at_first
legs_at_first s step room ms low counted priced bounded h = refl

-- where a path is followed to its source, or the leg that comes next
pub record IsNext {N A C : Type 0} (s old : Flow N A C) (step : ℤ) (room : Room) (ms : List Move) (to made : ℕ) : Type 0 where
  pub move : Move
  pub rest : List Leg
  pub leg : IsLeg s.graph.arcs s.flows step room.by.items room.source.0 (end_of room.source.0 rest) move to
  pub spares : Spares move.arc rest
  pub way : IsWayBack s.graph.arcs s.flows step room.by.items room.source.0 rest
  pub result_is : after_legs step rest (set s.flows move.arc (get_or s.flows move.arc (pos 0) +ℤ amount step move.up)) ≡ after_moves step ms old.flows
  pub counted : suc (length rest) + made ≡ length ms

-- the path is done
pub record IsThrough {N A C : Type 0} (s old : Flow N A C) (step : ℤ) (room : Room) (ms : List Move) (to : ℕ) : Type 0 where
  pub at_source : room.source.0 ≡ to
  pub result_is : s.flows ≡ after_moves step ms old.flows

module _ {N A C : Type 0} (s old : Flow N A C) (step : ℤ) (room : Room) (ms : List Move) (to made : ℕ) where
  next_of : (hs : List Leg) → IsWayBack s.graph.arcs s.flows step room.by.items room.source.0 hs → end_of room.source.0 hs ≡ to → after_legs step hs s.flows ≡ after_moves step ms old.flows → length hs + made ≡ length ms →
      IsThrough s old step room ms to ⊎ IsNext s old step room ms to made
  next_of [] way ends result counted = inl (record { at_source = ends; result_is = result })
  next_of (h ∷ hs) way ends result counted = inr (record {
    move = h.move;
    rest = hs;
    leg = subst (λ z. IsLeg s.graph.arcs s.flows step room.by.items room.source.0 (end_of room.source.0 hs) h.move z) ends way.0;
    spares = way.1;
    way = way.2;
    result_is = result;
    counted = counted;
  })

  pub left_next : IsLeft s old step room ms to made → IsThrough s old step room ms to ⊎ IsNext s old step room ms to made
  left_next l = next_of l.legs l.way l.ends l.result_is l.counted

  pub hop_there : IsLeft s old step room ms to made → (to ≡ room.source.0 → ⊥) → to < length room.by.items
  hop_there l h = elim (left_next l) [
    | inl t ↦ absurd (h (sym t.at_source))
    | inr n ↦ slice_get_within room.by.items to _ n.leg.by_is
  ]

  -- no arc to follow: the path is done
  pub hop_none : IsLeft s old step room ms to made → None ≡ (if to == room.source.0 then None else get_or room.by.items to None) → s.flows ≡ after_moves step ms old.flows
  hop_none l e = elim (left_next l) [
    | inl t ↦ t.result_is
    | inr n ↦ (let f : (to == room.source.0) ≡ false = (let d = n.leg.fresh in search (rules, nat_tests)) in
        let r = rw (f, get_or_from_slice_get room.by.items to (Some (record { 0 = n.move.arc })) None n.leg.by_is) at e in
        absurd (none-some _ r))
  ]

  -- an arc to follow is that of the next leg
  pub hop_some : (a : ArcId) → IsLeft s old step room ms to made → Some a ≡ (if to == room.source.0 then None else get_or room.by.items to None) → (n : IsNext s old step room ms to made) × (n.move.arc ≡ a.0)
  hop_some a l e = elim (left_next l) [
    | inl t ↦ (let f : (to == room.source.0) ≡ true = (let d = sym t.at_source in search (rules, nat_tests)) in
        let r = rw f at e in absurd (none-some _ (sym r)))
    | inr n ↦ (let f : (to == room.source.0) ≡ false = (let d = n.leg.fresh in search (rules, nat_tests)) in
        let r = rw (f, get_or_from_slice_get room.by.items to (Some (record { 0 = n.move.arc })) None n.leg.by_is) at e in
        (n, cc))
  ]

-- the direction of a leg shows at its end
toward : (up : Bool) (tail head from to : ℕ) → from ≡ (if up then tail else head) → to ≡ (if up then head else tail) → to ≢ from → (head == to) ≡ up
toward true tail head from to f t h = let e = sym t in search (rules, nat_tests)
toward false tail head from to f t h = let e : head ≢ to = λ q. h (sym q ∙ sym f) in search (rules, nat_tests)

pub way_kept : (arcs : List Arc) (flows : List ℤ) (step : ℤ) (by : List (Option ArcId)) (source a : ℕ) (y : ℤ) (hs : List Leg) → Spares a hs → IsWayBack arcs flows step by source hs → IsWayBack arcs (set flows a y) step by source hs
way_kept arcs flows step by source a y [] sp w = tt
way_kept arcs flows step by source a y (h ∷ hs) sp w = (
  record {
    arc = w.0.arc;
    arc_is = w.0.arc_is;
    from_is = w.0.from_is;
    to_is = w.0.to_is;
    apart = w.0.apart;
    fresh = w.0.fresh;
    by_is = w.0.by_is;
    fits = rw (get_or-set_other flows a h.move.arc y (pos 0) sp.0) w.0.fits;
  },
  w.1,
  way_kept arcs flows step by source a y hs sp.1 w.2,
)

module _ {N A C : Type 0} (s old : Flow N A C) (step : ℤ) (room : Room) (ms : List Move) (to made a : ℕ) (n : IsNext s old step room ms to made) (same : n.move.arc ≡ a) where
  leg_arc : slice_get s.graph.arcs a ≡ Some n.leg.arc
  leg_arc = subst (λ z. slice_get s.graph.arcs z ≡ Some n.leg.arc) same n.leg.arc_is

  leg_up : (n.leg.arc.head == to) ≡ n.move.up
  leg_up = toward n.move.up n.leg.arc.tail n.leg.arc.head (end_of room.source.0 n.rest) to n.leg.from_is n.leg.to_is n.leg.apart

  pub arc_there : a < length s.graph.arcs
  arc_there = slice_get_within s.graph.arcs a n.leg.arc leg_arc

  -- there is room for the step along the arc
  pub push_fits : IsSomeAnd (slice_get s.graph.arcs a) (λ arc. IsFlow arc (get_or s.flows a (pos 0) +ℤ (if arc.head == to then step else neg_ℤ step)))
  push_fits = rw (leg_arc, leg_up) (subst (λ z. IsFlow n.leg.arc (get_or s.flows z (pos 0) +ℤ amount step n.move.up)) same n.leg.fits)

  -- one leg less is left
  pub left_more : (new : Flow N A C) (from : ℕ) →
      IsSomeAnd (slice_get s.graph.arcs a) (λ arc. new ≡ record s { flows = set s.flows a (get_or s.flows a (pos 0) +ℤ (if arc.head == to then step else neg_ℤ step)) }) →
      IsSomeAnd (slice_get s.graph.arcs a) (λ arc. from ≡ (if arc.head == to then arc.tail else arc.head)) →
      IsLeft new old step room ms from (made + 1)
  left_more new from pushed back =
      let p = rw (leg_arc, leg_up) at pushed in
      let q = rw (leg_arc, leg_up) at back in
      let y = get_or s.flows a (pos 0) +ℤ amount step n.move.up in
      let spares : Spares a n.rest = subst (λ z. Spares z n.rest) same n.spares in
      subst (λ z. IsLeft z old step room ms from (made + 1)) (sym p) (record {
        legs = n.rest;
        way = way_kept s.graph.arcs s.flows step room.by.items room.source.0 a y n.rest spares n.way;
        ends = n.leg.from_is ∙ sym q;
        result_is = subst (λ z. after_legs step n.rest (set s.flows z (get_or s.flows z (pos 0) +ℤ amount step n.move.up)) ≡ after_moves step ms old.flows) same n.result_is;
        counted = let k = n.counted in omega (arith, k);
      })

-- after as many legs as there are nodes nothing is left
pub left_none : {N A C : Type 0} (s old : Flow N A C) (step : ℤ) (room : Room) (ms : List Move) (to made : ℕ) → IsLeft s old step room ms to made → length ms ≤ made → s.flows ≡ after_moves step ms old.flows
left_none s old step room ms to made l short = elim (left_next s old step room ms to made l) [
  | inl t ↦ t.result_is
  | inr n ↦ (let k = n.counted in absurd (omega (arith, k, short)))
]

abbrev with_flows : {N A C : Type 0} → Flow N A C → List ℤ → Flow N A C
with_flows s xs = record s { flows = xs }

-- nothing but the flows changes
pub rest_more : {N A C : Type 0} (s old new : Flow N A C) (o : Option Arc) (f : Arc → List ℤ) → IsSomeAnd o (λ arc. new ≡ record s { flows = f arc }) → s ≡ record old { flows = s.flows } → new ≡ record old { flows = new.flows }
rest_more {N = N} {A = A} {C = C} s old new o f h rest =
    let p = some_and o (λ arc. new ≡ record s { flows = f arc }) h in
    let flows_are : new.flows ≡ f p.0 = ap (λ (z : Flow N A C). z.flows) p.2 in
    let outer : record s { flows = f p.0 } ≡ record old { flows = f p.0 } = ap (λ (z : Flow N A C). with_flows z (f p.0)) rest in
    let inner : with_flows old (f p.0) ≡ with_flows old new.flows = ap (λ z. with_flows old z) (sym flows_are) in
    p.2 ∙ outer ∙ inner

pub rest_with : {N A C : Type 0} (s old : Flow N A C) (xs : List ℤ) → s ≡ record old { flows = s.flows } → s.flows ≡ xs → s ≡ record old { flows = xs }
rest_with {N = N} {A = A} {C = C} s old xs rest e =
    let inner : with_flows old s.flows ≡ with_flows old xs = ap (λ z. with_flows old z) e in
    rest ∙ inner
