-- What a search starts from, and what it shows where it ends.
use Rattle.std.proofs.Common.{◌≡◌, ◌≢◌, ℕ, ◌+◌, ◌*◌, ◌^◌, ◌<◌, ◌≤◌, Bool, true, false, cond, List, [], ◌∷◌, length, set, replicate, get_or, Some, slice_get, inl, inr, refl, ap, sym, subst, ◌∙◌, arith, ℤ, pos, negsuc, ◌+ℤ◌, ◌-ℤ◌, neg_ℤ, ◌≤ℤ◌, ◌<ℤ◌, count_by, All, AllPairs, length-set, get_or-set_same, get_or-set_other}
use Rattle.std.specs.List.{sum_by}
use Rattle.std.proofs.lemmas.Int.{ints, by_lt_z}
use Rattle.std.proofs.lemmas.Bool.{cases_eq, cases_lt}
use Rattle.std.proofs.lemmas.List.{get_or_past, get_or-replicate, length-replicate}
use Rattle.std.proofs.lemmas.Option.{get_or_from_slice_get, slice_get_within, slice_get_cases}
use Rattle.flow_graph.specs.Network.{IsArcAmong}
use Rattle.std.proofs.lemmas.List.Folds.{sum_by-replicate}
use Rattle.std.proofs.lemmas.List.Elements.{All-nil, All-cons, All-head, All-tail}
use Rattle.std.proofs.lemmas.List.Kept.{AllPairs-cons}
use mir.Syntax.{w128}
use mir.Val.{to_z, of_z}
use Rattle.flow_cost.specs.Cost.{IsWithin}
use Rattle.flow_cost.specs.Condition.{slope_up, slope_down}
use Rattle.flow_graph.specs.declared.arcs.Arc.{Arc}
use Rattle.flow_graph.specs.Contradiction.{in_set}
use Rattle.flow_graph.specs.Condition.{ArePotentials}
use Rattle.flow_graph.proofs.Lookups.{read_once}
use Rattle.std.proofs.lemmas.List.Sums.{count_by-le-length}
use Rattle.flow_residual.specs.declared.rooms.Room.{Room}
use Rattle.flow_residual.specs.Flows.{Flow, HasArc, MeetsAll}
use Rattle.flow_residual.specs.Path.{Move, Joins, Leads, IsOpen, IsTight, IsPath, Reaches}
use Rattle.flow_residual.specs.Rooms.{ReachedBy}
use Rattle.flow_residual.specs.Edges.{price_of, potential_at, length_of, IsEdge}
use Rattle.flow_search.specs.Labels.{Labels, IsFrontier, distance, IsReached, IsDone, limit_of, Hop, end_of, Avoids, IsHop, IsTrail, HasTrail, cost_to, IsExplored, RelaxesAll, IsRelaxing, IsSearched, labels_of}
use Rattle.flow_search.specs.Frontier.{at_start, IsGain}
use Rattle.flow_search.proofs.Labelled.{false_or_true}

-- ---- the start
all_alike : {X : Type 0} (n i : ℕ) (x : X) → get_or (replicate n x) i x ≡ x
all_alike n i x = elim (cases_lt i n) [
  | inl l ↦ get_or-replicate n i x x l
  | inr l ↦ get_or_past (replicate n x) i x (omega (arith, length-replicate n x))
]

-- ---- gains
gain_top : (d top g : ℤ) → pos 0 ≤ℤ top → IsGain d top g → g ≤ℤ top
gain_top d top g h (inl e) = omega (arith, ints, e.0)
gain_top d top g h (inr e) = omega (arith, ints, e.0, e.2)

gain_near : (d top g : ℤ) → pos 0 ≤ℤ d → IsGain d top g → g ≤ℤ d
gain_near d top g h (inl (e, inl k)) = absurd (omega (arith, ints, h, k))
gain_near d top g h (inl (e, inr k)) = omega (arith, ints, e, k)
gain_near d top g h (inr e) = omega (arith, ints, e.0)

gain_exact : (d top g : ℤ) → IsGain d top g → pos 0 ≤ℤ d → d ≤ℤ top → g ≡ d
gain_exact d top g (inl (e, inl k)) h l = absurd (omega (arith, ints, h, k))
gain_exact d top g (inl (e, inr k)) h l = absurd (omega (arith, ints, l, k))
gain_exact d top g (inr e) h l = e.0

-- along an edge the gain rises at most by the length
gain_step : (du dv top gu gv len : ℤ) → IsGain du top gu → IsGain dv top gv → pos 0 ≤ℤ len → pos 0 ≤ℤ top →
    (pos 0 ≤ℤ du → du <ℤ top → (pos 0 ≤ℤ dv) × (dv ≤ℤ (du +ℤ len))) → gv ≤ℤ (gu +ℤ len)
gain_step du dv top gu gv len (inl e) h long low near = let k = gain_top dv top gv low h in omega (arith, ints, k, e.0, long)
gain_step du dv top gu gv len (inr e) h long low near = by_lt_z du top
    (λ l. let k = near e.1 l in let j = gain_near dv top gv k.0 h in omega (arith, ints, j, k.1, e.0))
    (λ l. let k = gain_top dv top gv low h in omega (arith, ints, k, l, e.0, long))

-- ---- arcs
arc_among : (arcs : List Arc) (a : ℕ) (arc : Arc) (n : ℕ) → All (IsArcAmong n) arcs → slice_get arcs a ≡ Some arc → IsArcAmong n arc
arc_among arcs a arc n fit e = subst (λ z. IsArcAmong n z) (get_or_from_slice_get arcs a arc arc e) (fit a arc (slice_get_within arcs a arc e))

module _ {N A C : Type 0} (value : C → ℤ → ℤ) (step : ℤ) (s : Flow N A C) where
  module _ (n source : ℕ) (there : source < n) where
    start_near : distance (at_start n source) source ≡ pos 0
    start_near = get_or-set_same (replicate n (negsuc 0)) source (pos 0) (negsuc 0) (omega (arith, length-replicate n (negsuc 0)))

    start_far : (v : ℕ) → v ≢ source → distance (at_start n source) v ≡ negsuc 0
    start_far v h = get_or-set_other (replicate n (negsuc 0)) source v (pos 0) (negsuc 0) h ∙ all_alike n v (negsuc 0)

    only_source : (v : ℕ) → IsReached (at_start n source) v → v ≡ source
    only_source v r = elim (cases_eq v source) [
      | inl q ↦ q
      | inr q ↦ (let e = start_far v q in absurd (omega (arith, ints, e, r.nonneg)))
    ]

    none_done : (v : ℕ) → IsDone (at_start n source) v → ⊥
    none_done v d = let e = all_alike n v false in cc

    no_limit : limit_of (at_start n source) ≡ pos 0
    no_limit = let e : sum_by (λ (b : Bool). cond b 1 0) (replicate n false) ≡ n * 0 = sum_by-replicate (λ (b : Bool). cond b 1 0) n false in omega (arith, ints, e)

    pub started : n ≡ length s.graph.nodes → IsSearched value step s (at_start n source)
    started sized = record {
      horizon = pos 0;
      explored = record {
        frontier = record {
          set = length-replicate n false ∙ sized;
          dist = length-set (replicate n (negsuc 0)) source (pos 0) ∙ length-replicate n (negsuc 0) ∙ sized;
          by = length-replicate n _ ∙ sized;
          source = omega (arith, sized, there);
        };
        source_at = start_near;
        trails = λ v r. record { hops = []; ends = sym (only_source v r); trail = tt };
        near = λ v d. absurd (none_done v d);
        far = λ v r f. r.nonneg;
        small = λ v r. subst (λ z. IsWithin (limit_of (at_start n source)) (cost_to value step s (at_start n source) z)) (sym (only_source v r))
            (record { low = omega (arith, ints, no_limit, start_near); high = omega (arith, ints, no_limit, start_near) });
      };
      relaxed = λ v d. absurd (none_done v d);
      no_sink = λ v d. absurd (none_done v d);
    }

  -- ---- edges, and the condition
  edge_longer : (up : Bool) (a u v : ℕ) (price : ℤ) → MeetsAll value step s → IsEdge value step s (record { arc = a; up = up }) u v price → pos 0 ≤ℤ length_of s u v price
  edge_longer true a u v price meets e =
      let k = (meets a e.arc e.cost e.number e.has).up e.room in
      rw (e.from_is, e.to_is) (omega (arith, ints, k, e.price_is))
  edge_longer false a u v price meets e =
      let k = (meets a e.arc e.cost e.number e.has).down e.room in
      rw (e.from_is, e.to_is) (omega (arith, ints, k, e.price_is))

  pub edge_long : (m : Move) (u v : ℕ) (price : ℤ) → MeetsAll value step s → IsEdge value step s m u v price → pos 0 ≤ℤ length_of s u v price
  edge_long m u v price meets e = edge_longer m.up m.arc u v price meets e

  -- with other potentials
  module _ (ps : List ℤ) where
    abbrev raised : Flow N A C
    raised = record { graph = s.graph; costs = s.costs; flows = s.flows; potentials = ps }

    pub condition_from_edges : ((m : Move) (u v : ℕ) (price : ℤ) → IsEdge value step s m u v price → (get_or ps v (pos 0) -ℤ get_or ps u (pos 0)) ≤ℤ price) → MeetsAll value step raised
    condition_from_edges h a arc c x k =
        let up = λ (room : (x +ℤ step) ≤ℤ arc.hi). h (record { arc = a; up = true }) arc.tail arc.head (slope_up (value c) step x)
        (record { arc = arc; cost = c; number = x; has = k; from_is = refl; to_is = refl; room = room; price_is = refl }) in
        let down = λ (room : arc.lo ≤ℤ (x -ℤ step)). h (record { arc = a; up = false }) arc.head arc.tail (neg_ℤ (slope_down (value c) step x))
        (record { arc = arc; cost = c; number = x; has = k; from_is = refl; to_is = refl; room = room; price_is = refl }) in
        record { up = up; down = λ room. omega (arith, ints, down room) }

    tight_edge : (up : Bool) (a u v : ℕ) (price : ℤ) → IsEdge value step s (record { arc = a; up = up }) u v price →
        (get_or ps v (pos 0) -ℤ get_or ps u (pos 0)) ≡ price → IsTight raised value step (record { arc = a; up = up })
    tight_edge true a u v price e t arc c x k =
        let i : e.arc ≡ arc = read_once s.graph.arcs a e.arc arc e.has.arc_is k.arc_is in
        let j : e.cost ≡ c = read_once s.costs a e.cost c e.has.cost_is k.cost_is in
        let n : e.number ≡ x = read_once s.flows a e.number x e.has.number_is k.number_is in
        rw (← i, ← j, ← n) (sym (rw (e.from_is, e.to_is, e.price_is) at t))
    tight_edge false a u v price e t arc c x k =
        let i : e.arc ≡ arc = read_once s.graph.arcs a e.arc arc e.has.arc_is k.arc_is in
        let j : e.cost ≡ c = read_once s.costs a e.cost c e.has.cost_is k.cost_is in
        let n : e.number ≡ x = read_once s.flows a e.number x e.has.number_is k.number_is in
        let r = rw (e.from_is, e.to_is, e.price_is) at t in
        rw (← i, ← j, ← n) (omega (arith, ints, r))

    pub tight_from_edge : (m : Move) (u v : ℕ) (price : ℤ) → IsEdge value step s m u v price → (get_or ps v (pos 0) -ℤ get_or ps u (pos 0)) ≡ price → IsTight raised value step m
    tight_from_edge m u v price e t = tight_edge m.up m.arc u v price e t

    pub open_from_edge : (m : Move) (u v : ℕ) (price : ℤ) → IsEdge value step s m u v price → IsOpen raised step m
    open_from_edge m u v price e arc c x k =
        let i : e.arc ≡ arc = read_once s.graph.arcs m.arc e.arc arc e.has.arc_is k.arc_is in
        let n : e.number ≡ x = read_once s.flows m.arc e.number x e.has.number_is k.number_is in
        rw (← i, ← n) e.room

    pub joins_from_edge : (m : Move) (u v : ℕ) (price : ℤ) → IsEdge value step s m u v price → Joins raised m u v
    joins_from_edge m u v price e = record { arc = e.arc; arc_is = e.has.arc_is; from_is = e.from_is; to_is = e.to_is }

    -- ---- the way read from its end to its start, as a path
    -- no node of the way is among these
    Clear : ℕ → List Hop → List ℕ → Type 0
    Clear source [] ns = All (λ k. source ≢ k) ns
    Clear source (h ∷ hs) ns = All (λ k. h.to ≢ k) ns × Clear source hs ns

    clear_none : (source : ℕ) (hs : List Hop) → Clear source hs []
    unfolding Clear
    clear_none source [] = All-nil (λ k. source ≢ k)
    clear_none source (h ∷ hs) = (All-nil (λ k. h.to ≢ k), clear_none source hs)

    clear_more : (source v : ℕ) (hs : List Hop) (ns : List ℕ) → Avoids v source hs → Clear source hs ns → Clear source hs (v ∷ ns)
    unfolding Clear
    clear_more source v [] ns a c = All-cons (λ k. source ≢ k) v ns a c
    clear_more source v (h ∷ hs) ns a c = (All-cons (λ k. h.to ≢ k) v ns a.0 c.0, clear_more source v hs ns a.1 c.1)

    clear_rest : (source : ℕ) (h : Hop) (hs : List Hop) (ns : List ℕ) → Clear source (h ∷ hs) ns → Clear source hs ns
    unfolding Clear
    clear_rest source h hs ns c = c.1

    clear_end : (source : ℕ) (hs : List Hop) (ns : List ℕ) → Clear source hs ns → All (λ k. end_of source hs ≢ k) ns
    unfolding Clear
    clear_end source [] ns c = c
    clear_end source (h ∷ hs) ns c = c.0

    -- the moves and nodes of a path that `by` holds, each move with a property
    pub record IsFound (P : Move → Type 0) (room : Room) (from last : ℕ) : Type 0 where
      pub moves : List Move
      pub path : IsPath raised step from last moves
      pub held : ReachedBy room moves path.by_way_of
      pub all : All P moves

    unwind : (P : Move → Type 0) (room : Room) (hs : List Hop) → IsTrail value step s (labels_of room) hs →
        ((from : ℕ) (h : Hop) → IsHop value step s (labels_of room) from h → IsDone (labels_of room) h.to → P h.move) → IsDone (labels_of room) (end_of room.source.0 hs) →
        (ms : List Move) (ns : List ℕ) (last : ℕ) → Leads raised ms ns (end_of room.source.0 hs) last → ReachedBy room ms ns → All (IsOpen raised step) ms → All P ms →
        AllPairs ◌≢◌ (end_of room.source.0 hs ∷ ns) → Clear room.source.0 hs ns → IsFound P room room.source.0 last
    unwind P room [] t p done ms ns last leads held opened all once clear = record {
      moves = ms;
      path = record { by_way_of = ns; leads = leads; once = once; moves_open = opened };
      held = held;
      all = all;
    }
    unwind P room (h ∷ hs) t p done ms ns last leads held opened all once clear =
        let from = end_of room.source.0 hs in
        let c : Clear room.source.0 hs (h.to ∷ ns) = clear_more room.source.0 h.to hs ns t.1 (clear_rest room.source.0 h hs ns clear) in
        unwind P room hs t.2 p t.0.done (h.move ∷ ms) (h.to ∷ ns) last
        (joins_from_edge h.move from h.to t.0.price t.0.edge, leads)
        (t.0.by_is, held)
        (All-cons (IsOpen raised step) h.move ms (open_from_edge h.move from h.to t.0.price t.0.edge) opened)
        (All-cons P h.move ms (p from h t.0 done) all)
        (AllPairs-cons ◌≢◌ from (h.to ∷ ns) (clear_end room.source.0 hs (h.to ∷ ns) c) once)
        c

    -- the path to a settled node
    pub path_to : (P : Move → Type 0) (room : Room) (t : ℕ) → HasTrail value step s (labels_of room) t → IsDone (labels_of room) t →
        ((from : ℕ) (h : Hop) → IsHop value step s (labels_of room) from h → IsDone (labels_of room) h.to → P h.move) → IsFound P room room.source.0 t
    path_to P room t w done p =
        unwind P room w.hops w.trail p (subst (λ n. IsDone (labels_of room) n) (sym w.ends) done) [] [] t w.ends tt
        (All-nil (IsOpen raised step)) (All-nil P) (AllPairs-cons ◌≢◌ (end_of room.source.0 w.hops) [] (All-nil (λ k. end_of room.source.0 w.hops ≢ k)) (λ i j d l h. absurd (omega arith)))
        (clear_none room.source.0 w.hops)

  -- ---- the new potentials
  edge_ends_of : (up : Bool) (a u v : ℕ) (price : ℤ) → All (IsArcAmong (length s.graph.nodes)) s.graph.arcs → IsEdge value step s (record { arc = a; up = up }) u v price → (u < length s.graph.nodes) × (v < length s.graph.nodes)
  edge_ends_of true a u v price fit e =
      let g = arc_among s.graph.arcs a e.arc (length s.graph.nodes) fit e.has.arc_is in
      (rw e.from_is g.tail, rw e.to_is g.head)
  edge_ends_of false a u v price fit e =
      let g = arc_among s.graph.arcs a e.arc (length s.graph.nodes) fit e.has.arc_is in
      (rw e.from_is g.head, rw e.to_is g.tail)

  pub edge_ends : (m : Move) (u v : ℕ) (price : ℤ) → All (IsArcAmong (length s.graph.nodes)) s.graph.arcs → IsEdge value step s m u v price → (u < length s.graph.nodes) × (v < length s.graph.nodes)
  edge_ends m u v price fit e = edge_ends_of m.up m.arc u v price fit e

  -- at the end of a search: the node t is the nearest that lacks the step
  module _ (l : Labels) (t : ℕ) (ps : List ℤ) (fit : All (IsArcAmong (length s.graph.nodes)) s.graph.arcs) (meets : MeetsAll value step s)
      (x : IsRelaxing value step s l t) (others : (v : ℕ) → IsDone l v → v ≢ t → RelaxesAll value step s l v)
      (gains : (v : ℕ) → v < length s.graph.nodes → IsGain (distance l v) (distance l t) (get_or ps v (pos 0) -ℤ potential_at s v)) where
    top_nonneg : pos 0 ≤ℤ distance l t
    top_nonneg = (x.explored.near t x.done).0.nonneg

    near_edge : (m : Move) (u v : ℕ) (price : ℤ) → IsEdge value step s m u v price → pos 0 ≤ℤ distance l u → distance l u <ℤ distance l t →
        (pos 0 ≤ℤ distance l v) × (distance l v ≤ℤ (distance l u +ℤ length_of s u v price))
    near_edge m u v price e r h = elim (false_or_true (in_set l.set u)) [
      | inl f ↦ (let k = x.explored.far u (record { nonneg = r }) f in absurd (omega (arith, ints, k, h)))
      | inr d ↦ (let q = others u d (λ z. let w = subst (λ n. distance l n <ℤ distance l t) z h in omega (arith, ints, w)) m v price e in (q.reached.nonneg, q.short))
    ]

    pub new_condition : MeetsAll value step (raised ps)
    new_condition = condition_from_edges ps (λ m u v price e.
        let n = edge_ends m u v price fit e in
        let g = gain_step (distance l u) (distance l v) (distance l t) (get_or ps u (pos 0) -ℤ potential_at s u) (get_or ps v (pos 0) -ℤ potential_at s v) (length_of s u v price)
        (gains u n.0) (gains v n.1) (edge_long m u v price meets e) top_nonneg (near_edge m u v price e) in
        omega (arith, ints, g))

    new_tight : (from : ℕ) (h : Hop) → IsHop value step s l from h → IsDone l h.to → IsTight (raised ps) value step h.move
    new_tight from h p done =
        let n = edge_ends h.move from h.to p.price fit p.edge in
        let a = x.explored.near from p.done in
        let b = x.explored.near h.to done in
        let i = gain_exact (distance l from) (distance l t) (get_or ps from (pos 0) -ℤ potential_at s from) (gains from n.0) a.0.nonneg a.1 in
        let j = gain_exact (distance l h.to) (distance l t) (get_or ps h.to (pos 0) -ℤ potential_at s h.to) (gains h.to n.1) b.0.nonneg b.1 in
        let k = p.distance_is in
        tight_from_edge ps h.move from h.to p.price p.edge (omega (arith, ints, i, j, k))

  -- the path that the room holds, tight under the new potentials
  pub held_path : (room : Room) (t : ℕ) (ps : List ℤ) → All (IsArcAmong (length s.graph.nodes)) s.graph.arcs → MeetsAll value step s → IsRelaxing value step s (labels_of room) t →
      ((v : ℕ) → IsDone (labels_of room) v → v ≢ t → RelaxesAll value step s (labels_of room) v) →
      ((v : ℕ) → v < length s.graph.nodes → IsGain (distance (labels_of room) v) (distance (labels_of room) t) (get_or ps v (pos 0) -ℤ potential_at s v)) →
      IsFound ps (IsTight (raised ps) value step) room room.source.0 t
  held_path room t ps fit meets x others gains =
      path_to ps (IsTight (raised ps) value step) room t (x.explored.trails t (x.explored.near t x.done).0) x.done (new_tight (labels_of room) t ps fit meets x others gains)

  -- ---- where nothing is left to settle
  edge_from_open : length s.costs ≡ length s.graph.arcs → length s.flows ≡ length s.graph.arcs → (m : Move) (u v : ℕ) → Joins s m u v → IsOpen s step m →
      (price : ℤ) × IsEdge value step s m u v price
  edge_from_open lc lf m u v j o =
      let in' : m.arc < length s.graph.arcs = slice_get_within s.graph.arcs m.arc j.arc j.arc_is in
      elim (slice_get_cases s.costs m.arc).1 [
        | inr z ↦ absurd (omega (arith, z.0, lc))
        | inl c ↦ elim (slice_get_cases s.flows m.arc).1 [
          | inr z ↦ absurd (omega (arith, z.0, lf))
          | inl n ↦ (let k : HasArc s m.arc j.arc c.0 n.0 = record { arc_is = j.arc_is; cost_is = c.2; number_is = n.2 } in (
            price_of (value c.0) step m.up n.0,
            record { arc = j.arc; cost = c.0; number = n.0; has = k; from_is = j.from_is; to_is = j.to_is; room = o j.arc c.0 n.0 k; price_is = refl },
          ))
        ]
      ]

  reach_done : (l : Labels) → length s.costs ≡ length s.graph.arcs → length s.flows ≡ length s.graph.arcs → IsSearched value step s l → ((v : ℕ) → IsReached l v → IsDone l v) →
      (ms : List Move) (ns : List ℕ) (u v : ℕ) → Leads s ms ns u v → All (IsOpen s step) ms → IsDone l u → IsDone l v
  reach_done l lc lf x all [] [] u v h o d = subst (λ n. IsDone l n) h d
  reach_done l lc lf x all [] (n ∷ ns) u v h o d = elim h [ ]
  reach_done l lc lf x all (m ∷ ms) [] u v h o d = elim h [ ]
  reach_done l lc lf x all (m ∷ ms) (n ∷ ns) u v h o d =
      let e = edge_from_open lc lf m u n h.0 (All-head (IsOpen s step) m ms o) in
      reach_done l lc lf x all ms ns n v h.1 (All-tail (IsOpen s step) m ms o) (all n (x.relaxed u d m n e.0 e.1).reached)

  pub done_from_reach : (l : Labels) → length s.costs ≡ length s.graph.arcs → length s.flows ≡ length s.graph.arcs → IsSearched value step s l → ((v : ℕ) → IsReached l v → IsDone l v) →
      (v : ℕ) → Reaches s step l.source v → IsDone l v
  done_from_reach l lc lf x all v r =
      reach_done l lc lf x all r.0 r.1.by_way_of l.source v r.1.leads r.1.moves_open (all l.source (record { nonneg = omega (arith, ints, x.explored.source_at) }))

  pub reach_from_done : (room : Room) (v : ℕ) → HasTrail value step s (labels_of room) v → IsDone (labels_of room) v → Reaches s step room.source.0 v
  reach_from_done room v w d = let f = path_to s.potentials (λ m. Unit {0}) room v w d (λ from h p k. tt) in (f.moves, f.path)

-- ---- reads of the state
pub small_potential : {N A C : Type 0} (s : Flow N A C) (v : ℕ) (p : ℤ) → ArePotentials (pos (2 * 10 ^ 22)) (length s.graph.nodes) s.potentials → v < length s.graph.nodes →
    slice_get s.potentials v ≡ Some p → IsWithin (pos (2 * 10 ^ 22)) p × (p ≡ potential_at s v)
small_potential s v p h l e =
    let same : get_or s.potentials v (pos 0) ≡ p = get_or_from_slice_get s.potentials v p (pos 0) e in
    (subst (λ z. IsWithin (pos (2 * 10 ^ 22)) z) same (h.within v (pos 0) (omega (arith, h.counted))), sym same)

-- the distance of a reached node is small
pub small_distance : {N A C : Type 0} (value : C → ℤ → ℤ) (step : ℤ) (s : Flow N A C) (horizon : ℤ) (l : Labels) (v : ℕ) → IsExplored value step s horizon (limit_of l) l →
    ArePotentials (pos (2 * 10 ^ 22)) (length s.graph.nodes) s.potentials → length s.graph.nodes ≤ 262_144 → v < length s.graph.nodes → IsReached l v → IsWithin (pos (10 ^ 23)) (distance l v)
small_distance value step s horizon l v x h few there r =
    let a = h.within v (pos 0) (omega (arith, h.counted)) in
    let b = h.within l.source (pos 0) (omega (arith, h.counted, x.frontier.source)) in
    let k = x.small v r in
    let n : count_by (λ b. b) l.set ≤ length l.set = count_by-le-length (λ b. b) l.set in
    record {
      low = omega (arith, ints, a.low, a.high, b.low, b.high, k.low, k.high, n, x.frontier.set, few);
      high = omega (arith, ints, a.low, a.high, b.low, b.high, k.low, k.high, n, x.frontier.set, few);
    }

pub reached_in : (l : Labels) (n v : ℕ) → IsFrontier n l → IsReached l v → v < n
reached_in l n v f r = elim (cases_lt v n) [
  | inl h ↦ h
  | inr h ↦ (let e : distance l v ≡ negsuc 0 = get_or_past l.dist v (negsuc 0) (omega (arith, h, f.dist)) in absurd (omega (arith, ints, e, r.nonneg)))
]

not_last : (k v : ℕ) → k < v + 1 → k ≢ v → k < v
not_last k v h q = elim (cases_lt k v) [
  | inl l ↦ l
  | inr l ↦ absurd (let e : k ≡ v = omega arith in q e)
]

-- ---- the pass that raises the potentials
pub gain_range : (d top g : ℤ) → pos 0 ≤ℤ top → IsGain d top g → (pos 0 ≤ℤ g) × (g ≤ℤ top)
gain_range d top g h (inl e) = (omega (arith, ints, e.0, h), omega (arith, ints, e.0))
gain_range d top g h (inr e) = (omega (arith, ints, e.0, e.1), omega (arith, ints, e.0, e.2))

abbrev pub with_potentials : {N A C : Type 0} → Flow N A C → List ℤ → Flow N A C
with_potentials s ps = record { graph = s.graph; costs = s.costs; flows = s.flows; potentials = ps }

module _ {N A C : Type 0} where
  -- the nodes below v have been raised
  pub record IsRaised (l : Labels) (top : ℤ) (old now : Flow N A C) (v : ℕ) : Type 0 where
    pub rest : now ≡ record old { potentials = now.potentials }
    pub sized : length now.potentials ≡ length old.potentials
    pub done : (k : ℕ) → k < v → IsGain (distance l k) top (potential_at now k -ℤ potential_at old k)
    pub other : (k : ℕ) → v ≤ k → potential_at now k ≡ potential_at old k

  pub raised_more : (l : Labels) (top : ℤ) (old now new : Flow N A C) (v : ℕ) (p up : ℤ) → IsRaised l top old now v → v < length old.potentials → slice_get now.potentials v ≡ Some p →
      IsGain (distance l v) top up → new ≡ record now { potentials = set now.potentials v (p +ℤ up) } → IsRaised l top old new (v + 1)
  raised_more l top old now new v p up r there read gain e =
      let is_p : potential_at now v ≡ p = get_or_from_slice_get now.potentials v p (pos 0) read in
      let was : potential_at now v ≡ potential_at old v = r.other v (omega arith) in
      let at_v : get_or (set now.potentials v (p +ℤ up)) v (pos 0) ≡ p +ℤ up = get_or-set_same now.potentials v (p +ℤ up) (pos 0) (omega (arith, r.sized, there)) in
      let diff : get_or (set now.potentials v (p +ℤ up)) v (pos 0) -ℤ potential_at old v ≡ up = omega (arith, ints, at_v, is_p, was) in
      let off : (k : ℕ) → k ≢ v → get_or (set now.potentials v (p +ℤ up)) k (pos 0) ≡ potential_at now k = λ k q. get_or-set_other now.potentials v k (p +ℤ up) (pos 0) q in
      rw e
      (record {
        rest = ap (λ z. with_potentials z (set now.potentials v (p +ℤ up))) r.rest;
        sized = length-set now.potentials v (p +ℤ up) ∙ r.sized;
        done = λ k h. elim (cases_eq k v) [
          | inl q ↦ subst (λ z. IsGain (distance l z) top (get_or (set now.potentials v (p +ℤ up)) z (pos 0) -ℤ potential_at old z)) (sym q) (subst (λ z. IsGain (distance l v) top z) (sym diff) gain)
          | inr q ↦ subst (λ z. IsGain (distance l k) top (z -ℤ potential_at old k)) (sym (off k q)) (r.done k (not_last k v h q))
        ];
        other = λ k h. off k (λ q. omega (arith, q, h)) ∙ r.other k (omega (arith, h));
      })

pub sum_in_range : (p up top : ℤ) → IsWithin (pos (2 * 10 ^ 22)) p → pos 0 ≤ℤ up → up ≤ℤ top → top ≤ℤ pos (10 ^ 23) →
    IsWithin (pos (10 ^ 24)) (to_z w128 (of_z w128 (to_z w128 (of_z w128 p) +ℤ to_z w128 (of_z w128 up)))) × (to_z w128 (of_z w128 (to_z w128 (of_z w128 p) +ℤ to_z w128 (of_z w128 up))) ≡ p +ℤ up)
sum_in_range p up top w l h t =
    let p' : to_z w128 (of_z w128 p) ≡ p = omega (arith, ints, w.low, w.high) in
    let u' : to_z w128 (of_z w128 up) ≡ up = omega (arith, ints, l, h, t) in
    let s' : to_z w128 (of_z w128 (p +ℤ up)) ≡ p +ℤ up = omega (arith, ints, w.low, w.high, l, h, t) in
    rw (p', u', s') (record { low = omega (arith, ints, w.low, l); high = omega (arith, ints, w.high, h, t) }, refl)
