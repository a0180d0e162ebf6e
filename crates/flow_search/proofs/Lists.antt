-- What is known of the heap and of the ready nodes as nodes are reached, come nearer and are taken.
use Rattle.std.proofs.Common.{◌≡◌, ◌≢◌, ℕ, ◌+◌, ◌-◌, ◌<◌, ◌≤◌, Bool, true, false, cond, List, length, get_or, set, Option, Some, None, ◌⊎◌, inl, inr, refl, ap, sym, subst, ◌∙◌, arith, ℤ, pos, negsuc, ◌≤ℤ◌, ◌<ℤ◌, count_by, length-set, get_or-set_same, get_or-set_other}
use Rattle.std.specs.Prelude.{replicate, MatchOption}
use Rattle.std.proofs.lemmas.Int.{ints}
use Rattle.std.proofs.lemmas.Bool.{cases_eq, cases_lt}
use Rattle.std.proofs.lemmas.List.{length-replicate, get_or-replicate, get_or_past}
use Rattle.std.proofs.lemmas.List.Sums.{sum_by-set, count_by-le-length}
use Rattle.flow_graph.specs.declared.arcs.NodeId.{NodeId}
use Rattle.flow_graph.specs.Contradiction.{in_set}
use Rattle.flow_residual.specs.Gaps.{node_at}
use Rattle.flow_search.specs.declared.frontier.Waiting.{Waiting}
use Rattle.flow_search.specs.Heap.{parent, key_at, IsHeap, IsHeapButAt, IsQueue, IsAmong, IsReordered}
use Rattle.flow_search.specs.Frontier.{is_reached, ready_at, IsAmongReady, AreReady, AreKept, IsListed, AreListed, HasListed, IsWaiting, IsReachedWithin}

-- ---- the list of ready nodes
ready_last : (nodes : List NodeId) (r : ℕ) → 0 < r → ready_at nodes (r - 1) ≡ node_at nodes (length nodes - r)
ready_last nodes r l = ap (node_at nodes) (let e : length nodes - ((r - 1) + 1) ≡ length nodes - r = omega (arith, l) in e)

pub last_within : (nodes : List NodeId) (r n m : ℕ) → 0 < r → r ≤ n → ((j : ℕ) → j < n → ready_at nodes j < m) → node_at nodes (length nodes - r) < m
last_within nodes r n m l k h = subst (λ z. z < m) (ready_last nodes r l) (h (r - 1) (omega (arith, l, k)))

pub last_among : (nodes : List NodeId) (r n : ℕ) → 0 < r → r ≤ n → IsAmongReady nodes n (node_at nodes (length nodes - r))
last_among nodes r n l k = (r - 1, omega (arith, l, k), ready_last nodes r l)

-- a node is added before the last ready one
module _ (xs ys : List NodeId) (r v : ℕ) (e : length ys ≡ length xs) (h : r < length xs) (some : 0 < r)
    (here : node_at ys (length xs - r - 1) ≡ node_at xs (length xs - r)) (next : node_at ys (length xs - r) ≡ v)
    (other : (i : ℕ) → i ≢ length xs - r - 1 → i ≢ length xs - r → node_at ys i ≡ node_at xs i) where
  before_ready : (j : ℕ) → j < r → j ≢ r - 1 → ready_at ys j ≡ ready_at xs j
  before_ready j l q =
      other (length ys - (j + 1)) (λ z. omega (arith, z, e, l, h)) (λ z. omega (arith, z, e, l, h, q, some))
      ∙ ap (node_at xs) (let z : length ys - (j + 1) ≡ length xs - (j + 1) = omega (arith, e) in z)

  before_kept : (w : ℕ) → IsAmongReady xs r w ⊎ (w ≡ v) → IsAmongReady ys (r + 1) w
  before_kept w (inl m) = elim (cases_eq m.0 (r - 1)) [
    | inl q ↦ (r, omega arith, ap (node_at ys) (let z : length ys - (r + 1) ≡ length xs - r - 1 = omega (arith, e, h) in z) ∙ here ∙ sym (ready_last xs r some) ∙ sym (ap (ready_at xs) q) ∙ m.2)
    | inr q ↦ (m.0, (let l = m.1 in omega (arith, l)), before_ready m.0 m.1 q ∙ m.2)
  ]
  before_kept w (inr q) = (r - 1, omega (arith, some), ready_last ys r some ∙ ap (node_at ys) (let z : length ys - r ≡ length xs - r = omega (arith, e) in z) ∙ next ∙ sym q)

pub pushed_before : (xs : List NodeId) (r : ℕ) (v : NodeId) → r < length xs → 0 < r → (w : ℕ) → IsAmongReady xs r w ⊎ (w ≡ v.0) →
    IsAmongReady (set (set xs (length xs - r - 1) (get_or xs (length xs - r) (record { 0 = 0 }))) (length xs - r) v) (r + 1) w
pushed_before xs r v h some =
    let x : NodeId = get_or xs (length xs - r) (record { 0 = 0 }) in
    let ys : List NodeId = set xs (length xs - r - 1) x in
    let long : length ys ≡ length xs = length-set xs (length xs - r - 1) x in
    before_kept xs (set ys (length xs - r) v) r v.0 (length-set ys (length xs - r) v ∙ long) h some
    (ap (λ (k : NodeId). k.0) (get_or-set_other ys (length xs - r) (length xs - r - 1) v (record { 0 = 0 }) (λ z. omega (arith, z, h, some)) ∙ get_or-set_same xs (length xs - r - 1) x (record { 0 = 0 }) (omega (arith, h))))
    (ap (λ (k : NodeId). k.0) (get_or-set_same ys (length xs - r) v (record { 0 = 0 }) (omega (arith, long, some, h))))
    (λ i p q. ap (λ (k : NodeId). k.0) (get_or-set_other ys (length xs - r) i v (record { 0 = 0 }) q ∙ get_or-set_other xs (length xs - r - 1) i x (record { 0 = 0 }) p))

-- ---- counts of the reached nodes
-- 1 where it holds
abbrev one_if : Bool → ℕ
one_if b = cond b 1 0

reached_from : (d : ℤ) → pos 0 ≤ℤ d → is_reached d ≡ true
reached_from (pos n) h = refl
reached_from (negsuc n) h = absurd (omega (arith, ints, h))

not_reached_from : (d : ℤ) → d <ℤ pos 0 → is_reached d ≡ false
not_reached_from (pos n) h = absurd (omega (arith, ints, h))
not_reached_from (negsuc n) h = refl

-- one more node is reached
reached_more : (dist : List ℤ) (v : ℕ) (d : ℤ) → v < length dist → get_or dist v (negsuc 0) <ℤ pos 0 → pos 0 ≤ℤ d → count_by is_reached (set dist v d) ≡ count_by is_reached dist + 1
reached_more dist v d l h k =
    let e = sum_by-set (λ x. one_if (is_reached x)) dist v d (negsuc 0) l in
    let f : one_if (is_reached (get_or dist v (negsuc 0))) ≡ 0 = ap one_if (not_reached_from (get_or dist v (negsuc 0)) h) in
    let g : one_if (is_reached d) ≡ 1 = ap one_if (reached_from d k) in
    omega (arith, e, f, g)

-- a reached node stays one
reached_again : (dist : List ℤ) (v : ℕ) (d : ℤ) → v < length dist → pos 0 ≤ℤ get_or dist v (negsuc 0) → pos 0 ≤ℤ d → count_by is_reached (set dist v d) ≡ count_by is_reached dist
reached_again dist v d l h k =
    let e = sum_by-set (λ x. one_if (is_reached x)) dist v d (negsuc 0) l in
    let f : one_if (is_reached (get_or dist v (negsuc 0))) ≡ 1 = ap one_if (reached_from (get_or dist v (negsuc 0)) h) in
    let g : one_if (is_reached d) ≡ 1 = ap one_if (reached_from d k) in
    omega (arith, e, f, g)

-- the lists never meet
room_kept : (dist : List ℤ) (nodes : List NodeId) (places : List ℕ) (w : Waiting) (at : ℤ) → AreKept dist nodes places w at → w.heaped + w.ready ≤ length nodes
room_kept dist nodes places w at h = let k = count_by-le-length is_reached dist in omega (arith, k, h.added, h.sized)

-- ---- one node at a time
-- what is known of a ready node
pub record IsReadyAt (dist : List ℤ) (at : ℤ) (v : ℕ) : Type 0 where
  pub within : v < length dist
  pub near : IsReachedWithin at (get_or dist v (negsuc 0))

ready_one : (dist : List ℤ) (nodes : List NodeId) (r : ℕ) (at : ℤ) (v : ℕ) → AreReady dist nodes r at → IsAmongReady nodes r v → IsReadyAt dist at v
ready_one dist nodes r at v h m = subst (λ z. IsReadyAt dist at z) m.2 (record { within = h.within m.0 m.1; near = h.near m.0 m.1 })

ready_all : (dist : List ℤ) (nodes : List NodeId) (r : ℕ) (at : ℤ) → r ≤ length nodes → ((v : ℕ) → IsAmongReady nodes r v → IsReadyAt dist at v) → AreReady dist nodes r at
ready_all dist nodes r at l h = record {
  counted = l;
  within = λ j k. (h (ready_at nodes j) (j, k, refl)).within;
  near = λ j k. (h (ready_at nodes j) (j, k, refl)).near;
}

heaped_one : (dist : List ℤ) (nodes : List NodeId) (n v : ℕ) → ((i : ℕ) → i < n → pos 0 ≤ℤ key_at dist nodes i) → IsAmong nodes n v → pos 0 ≤ℤ get_or dist v (negsuc 0)
heaped_one dist nodes n v h m = subst (λ z. pos 0 ≤ℤ get_or dist z (negsuc 0)) m.2 (h m.0 m.1)

heaped_within : (dist : List ℤ) (nodes : List NodeId) (ps : List ℕ) (n v : ℕ) → IsQueue dist nodes ps n → IsAmong nodes n v → v < length ps
heaped_within dist nodes ps n v h m = subst (λ z. z < length ps) m.2 (h.placed.within m.0 m.1)

-- a list that agrees on the heap's places
queue_same : (dist : List ℤ) (xs ys : List NodeId) (ps : List ℕ) (n : ℕ) → ((i : ℕ) → i < n → node_at ys i ≡ node_at xs i) → IsQueue dist xs ps n → IsQueue dist ys ps n
queue_same dist xs ys ps n e h = record {
  placed = record {
    within = λ i l. subst (λ z. z < length ps) (sym (e i l)) (h.placed.within i l);
    told = λ i l. ap (λ z. get_or ps z 0) (e i l) ∙ h.placed.told i l;
  };
  heap = record {
    ascends = λ i p l.
        let m : parent i < n = omega (arith, p, l) in
        let a : key_at dist ys (parent i) ≡ key_at dist xs (parent i) = ap (λ z. get_or dist z (negsuc 0)) (e (parent i) m) in
        let b : key_at dist ys i ≡ key_at dist xs i = ap (λ z. get_or dist z (negsuc 0)) (e i l) in
        let k = h.heap.ascends i p l in
        omega (arith, ints, a, b, k);
  };
}

-- distances that agree on the heap's nodes
heap_same : (old new : List ℤ) (xs : List NodeId) (n : ℕ) → ((i : ℕ) → i < n → key_at new xs i ≡ key_at old xs i) → IsHeap (key_at old xs) n → IsHeap (key_at new xs) n
heap_same old new xs n e h = record {
  ascends = λ i p l.
      let m : parent i < n = omega (arith, p, l) in
      let a = e (parent i) m in
      let b = e i l in
      let k = h.ascends i p l in
      omega (arith, ints, a, b, k);
}

-- ---- the start
pub started_lists : (n last : ℕ) (nodes : List NodeId) (places : List ℕ) (v : NodeId) → last + 1 ≡ n → length nodes ≡ n → length places ≡ n → v.0 < n →
    HasListed (replicate n false) (set (replicate n (negsuc 0)) v.0 (pos 0)) (set nodes last v) places (record { heaped = 0; ready = 1 })
started_lists n last nodes places v g e f l =
    let none : List ℤ = replicate n (negsuc 0) in
    let blank : length none ≡ n = length-replicate n (negsuc 0) in
    let there : v.0 < length none = omega (arith, blank, l) in
    let long : length (set none v.0 (pos 0)) ≡ n = length-set none v.0 (pos 0) ∙ blank in
    let here : get_or (set none v.0 (pos 0)) v.0 (negsuc 0) ≡ pos 0 = get_or-set_same none v.0 (pos 0) (negsuc 0) there in
    let longer : length (set nodes last v) ≡ n = length-set nodes last v ∙ e in
    let top : ready_at (set nodes last v) 0 ≡ v.0 =
    ap (node_at (set nodes last v)) (let z : length (set nodes last v) - (0 + 1) ≡ last = omega (arith, longer, g) in z)
    ∙ ap (λ (k : NodeId). k.0) (get_or-set_same nodes last v (record { 0 = 0 }) (omega (arith, e, g))) in
    let more = reached_more none v.0 (pos 0) there (let z = get_or-replicate n v.0 (negsuc 0) (negsuc 0) l in omega (arith, ints, z)) (omega (arith, ints)) in
    let only : (u : ℕ) → IsAmongReady (set nodes last v) 1 u → u ≡ v.0 = λ u m. sym m.2 ∙ ap (ready_at (set nodes last v)) (let z : m.0 ≡ 0 = (let k = m.1 in omega (arith, k)) in z) ∙ top in
    record {
      at = pos 0;
      listed = record {
        kept = record {
          sized = longer ∙ sym long;
          sized_places = f ∙ sym long;
          queue = record {
            placed = record { within = λ i k. absurd (omega (arith, k)); told = λ i k. absurd (omega (arith, k)) };
            heap = record { ascends = λ i k m. absurd (omega (arith, m)) };
          };
          reached = λ i k. absurd (omega (arith, k));
          ready = ready_all (set none v.0 (pos 0)) (set nodes last v) 1 (pos 0) (omega (arith, longer, l)) (λ u m.
              subst (λ z. IsReadyAt (set none v.0 (pos 0)) (pos 0) z) (sym (only u m))
              (record { within = omega (arith, long, l); near = record { reached = omega (arith, ints, here); near = omega (arith, ints, here) } }));
          added = omega (arith, more);
        };
        all = λ u k. elim (cases_eq u v.0) [
          | inl q ↦ inr (0, omega arith, top ∙ sym q)
          | inr q ↦ (
              let a : get_or (set none v.0 (pos 0)) u (negsuc 0) ≡ get_or none u (negsuc 0) = get_or-set_other none v.0 u (pos 0) (negsuc 0) q in
              let r = k.reached in
              elim (cases_lt u n) [
                | inl m ↦ (let b : get_or none u (negsuc 0) ≡ negsuc 0 = get_or-replicate n u (negsuc 0) (negsuc 0) m in absurd (omega (arith, ints, a, b, r)))
                | inr m ↦ (let b : get_or none u (negsuc 0) ≡ negsuc 0 = get_or_past none u (negsuc 0) (omega (arith, blank, m)) in absurd (omega (arith, ints, a, b, r)))
              ])
        ];
      };
      far = λ u k. k.reached;
    }

-- ---- a node is taken
still_waits : (done : List Bool) (dist : List ℤ) (u v : ℕ) → u < length done → IsWaiting (set done u true) dist v → (v ≢ u) × IsWaiting done dist v
still_waits done dist u v l k =
    let other : v ≢ u = λ q. (let a = k.apart in let b : in_set (set done u true) v ≡ true = ap (in_set (set done u true)) q ∙ get_or-set_same done u true false l in cc) in
    (other, record { apart = sym (get_or-set_other done u v true false other) ∙ k.apart; reached = k.reached })

-- no ready one is left
module _ (done : List Bool) (dist : List ℤ) (nodes : List NodeId) (places : List ℕ) (w : Waiting) (h : HasListed done dist nodes places w) (same : length dist ≡ length done) (r : ℕ) (fewer : r ≤ w.ready)
    (none : r ≡ 0) (rest : (v : ℕ) → in_set done v ≡ false → IsAmongReady nodes w.ready v → IsAmongReady nodes r v ⊎ (◌≡◌ {A = Option ℕ} None (Some v))) where
  all_heaped : (v : ℕ) → IsWaiting done dist v → IsAmong nodes w.heaped v
  all_heaped v q = elim (h.listed.all v q) [
    | inl a ↦ a
    | inr a ↦ elim (rest v q.apart a) [
      | inl b ↦ (let l = b.1 in absurd (omega (arith, l, none)))
      | inr e ↦ absurd (cc)
    ]
  ]

  module _ (u : ℕ) (m : IsAmong nodes w.heaped u) (apart : in_set done u ≡ false) where
    first_within : u < length done
    first_within = let k = heaped_within dist nodes places w.heaped u h.listed.kept.queue m in omega (arith, k, h.listed.kept.sized_places, same)

    heap_taken : (nodes2 : List NodeId) (places2 : List ℕ) (n : ℕ) → length nodes2 ≡ length nodes → length places2 ≡ length places → n ≤ w.heaped → IsQueue dist nodes2 places2 n →
        ((v : ℕ) → IsAmong nodes2 n v → IsAmong nodes w.heaped v) → ((v : ℕ) → in_set done v ≡ false → IsAmong nodes w.heaped v → IsAmong nodes2 n v ⊎ (Some u ≡ Some v)) →
        AreListed (set done u true) dist nodes2 places2 (record { heaped = n; ready = r }) (get_or dist u (negsuc 0))
    heap_taken nodes2 places2 n e f less queue no_more left =
        let o = h.listed.kept in
        record {
          kept = record {
            sized = e ∙ o.sized;
            sized_places = f ∙ o.sized_places;
            queue = queue;
            reached = λ i l. heaped_one dist nodes w.heaped (node_at nodes2 i) o.reached (no_more (node_at nodes2 i) (i, l, refl));
            ready = ready_all dist nodes2 r (get_or dist u (negsuc 0)) (omega (arith, none)) (λ v a. let l = a.1 in absurd (omega (arith, l, none)));
            added = omega (arith, o.added, less, fewer);
          };
          all = λ v q.
              let s = still_waits done dist u v first_within q in
              elim (left v s.1.apart (all_heaped v s.1)) [
                | inl b ↦ inl b
                | inr e ↦ absurd (s.0 (let b : v ≡ u = cc in b))
              ];
        }

  -- the first of the heap, if any
  pub taken_of : (o : Option ℕ) (nodes2 : List NodeId) (places2 : List ℕ) (n : ℕ) → length nodes2 ≡ length nodes → length places2 ≡ length places → n ≤ w.heaped → IsQueue dist nodes2 places2 n →
      ((v : ℕ) → IsAmong nodes2 n v → IsAmong nodes w.heaped v) →
      MatchOption o (n ≡ 0) (λ u. IsAmong nodes w.heaped u × (in_set done u ≡ false) × ((v : ℕ) → in_set done v ≡ false → IsAmong nodes w.heaped v → get_or dist u (negsuc 0) ≤ℤ get_or dist v (negsuc 0))) →
      ((v : ℕ) → in_set done v ≡ false → IsAmong nodes w.heaped v → IsAmong nodes2 n v ⊎ (o ≡ Some v)) →
      MatchOption o (Unit {0}) (λ u. AreListed (set done u true) dist nodes2 places2 (record { heaped = n; ready = r }) (get_or dist u (negsuc 0)))
  taken_of None nodes2 places2 n e f less queue no_more p left = tt
  taken_of (Some u) nodes2 places2 n e f less queue no_more p left = heap_taken u p.0 p.1 nodes2 places2 n e f less queue no_more left

-- ---- a node is listed
-- the ready nodes stay where the list of nodes does from a place on that is before all of them
ready_kept : (dist : List ℤ) (xs ys : List NodeId) (r n : ℕ) (at : ℤ) → length ys ≡ length xs → n + r ≤ length xs → ((i : ℕ) → n ≤ i → node_at ys i ≡ node_at xs i) → AreReady dist xs r at → AreReady dist ys r at
ready_kept dist xs ys r n at e l k h = ready_all dist ys r at (omega (arith, e, l)) (λ v m.
    let j = m.1 in
    let p : ready_at ys m.0 ≡ ready_at xs m.0 = k (length ys - (m.0 + 1)) (omega (arith, e, l, j)) ∙ ap (node_at xs) (let z : length ys - (m.0 + 1) ≡ length xs - (m.0 + 1) = omega (arith, e) in z) in
    ready_one dist xs r at v h (m.0, j, sym p ∙ m.2))

ready_among : (xs ys : List NodeId) (r n v : ℕ) → length ys ≡ length xs → n + r ≤ length xs → ((i : ℕ) → n ≤ i → node_at ys i ≡ node_at xs i) → IsAmongReady xs r v → IsAmongReady ys r v
ready_among xs ys r n v e l k m =
    let j = m.1 in
    (m.0, j, k (length ys - (m.0 + 1)) (omega (arith, e, l, j)) ∙ ap (node_at xs) (let z : length ys - (m.0 + 1) ≡ length xs - (m.0 + 1) = omega (arith, e) in z) ∙ m.2)

module _ (dist : List ℤ) (nodes nodes2 : List NodeId) (places : List ℕ) (w : Waiting) (at : ℤ) (v : ℕ) (there : v < length dist) (reached : pos 0 ≤ℤ get_or dist v (negsuc 0))
    (h : AreKept dist nodes places w at) (more : w.heaped + w.ready < count_by is_reached dist) (e : length nodes2 ≡ length nodes) where
  room_left : w.heaped + w.ready < length nodes
  room_left = let k = count_by-le-length is_reached dist in omega (arith, k, more, h.sized)

  -- as a ready one
  module _ (r : ℕ) (r_is : r ≡ w.ready + 1) (near : get_or dist v (negsuc 0) ≤ℤ at) (before : (i : ℕ) → i + r < length nodes → node_at nodes2 i ≡ node_at nodes i) where
    stays : (i : ℕ) → i < w.heaped → node_at nodes2 i ≡ node_at nodes i
    stays i l = before i (let k = room_left in omega (arith, k, l, r_is))

    pub ready_listed : ((u : ℕ) → IsAmongReady nodes2 r u → IsAmongReady nodes w.ready u ⊎ (u ≡ v)) → AreKept dist nodes2 places (record { heaped = w.heaped; ready = r }) at
    ready_listed no_more = record {
      sized = e ∙ h.sized;
      sized_places = h.sized_places;
      queue = queue_same dist nodes nodes2 places w.heaped stays h.queue;
      reached = λ i l. subst (λ z. pos 0 ≤ℤ get_or dist z (negsuc 0)) (sym (stays i l)) (h.reached i l);
      ready = ready_all dist nodes2 r at (let k = room_left in omega (arith, k, r_is, e)) (λ u m. elim (no_more u m) [
        | inl a ↦ ready_one dist nodes w.ready at u h.ready a
        | inr q ↦ subst (λ z. IsReadyAt dist at z) (sym q) (record { within = there; near = record { reached = reached; near = near } })
      ]);
      added = omega (arith, more, r_is);
    }

    pub ready_all_listed : ((u : ℕ) → IsAmongReady nodes w.ready u ⊎ (u ≡ v) → IsAmongReady nodes2 r u) → (u : ℕ) → IsListed nodes w u ⊎ (u ≡ v) → IsListed nodes2 (record { heaped = w.heaped; ready = r }) u
    ready_all_listed kept u (inl (inl m)) = inl (m.0, m.1, stays m.0 m.1 ∙ m.2)
    ready_all_listed kept u (inl (inr m)) = inr (kept u (inl m))
    ready_all_listed kept u (inr q) = inr (kept u (inr q))

  -- in the heap
  module _ (places2 : List ℕ) (n : ℕ) (n_is : n ≡ w.heaped + 1) (f : length places2 ≡ length places) (beyond : (i : ℕ) → n ≤ i → node_at nodes2 i ≡ node_at nodes i) where
    pub heap_listed : IsQueue dist nodes2 places2 n → ((u : ℕ) → IsAmong nodes2 n u → IsAmong nodes w.heaped u ⊎ (u ≡ v)) → AreKept dist nodes2 places2 (record { heaped = n; ready = w.ready }) at
    heap_listed queue no_more = record {
      sized = e ∙ h.sized;
      sized_places = f ∙ h.sized_places;
      queue = queue;
      reached = λ i l. elim (no_more (node_at nodes2 i) (i, l, refl)) [
        | inl a ↦ heaped_one dist nodes w.heaped (node_at nodes2 i) h.reached a
        | inr q ↦ subst (λ z. pos 0 ≤ℤ get_or dist z (negsuc 0)) (sym q) reached
      ];
      ready = ready_kept dist nodes nodes2 w.ready n at e (let k = room_left in omega (arith, k, n_is)) beyond h.ready;
      added = omega (arith, more, n_is);
    }

    pub heap_all_listed : ((u : ℕ) → IsAmong nodes w.heaped u ⊎ (u ≡ v) → IsAmong nodes2 n u) → (u : ℕ) → IsListed nodes w u ⊎ (u ≡ v) → IsListed nodes2 (record { heaped = n; ready = w.ready }) u
    heap_all_listed kept u (inl (inl m)) = inl (kept u (inl m))
    heap_all_listed kept u (inl (inr m)) = inr (ready_among nodes nodes2 w.ready n u e (let k = room_left in omega (arith, k, n_is)) beyond m)
    heap_all_listed kept u (inr q) = inl (kept u (inr q))

-- ---- a node comes nearer
module _ (done : List Bool) (old new : List ℤ) (nodes : List NodeId) (places : List ℕ) (w : Waiting) (at d : ℤ) (v : ℕ) (there : v < length old) (low : pos 0 ≤ℤ d)
    (new_is : new ≡ set old v d) (h : AreListed done old nodes places w at) where
  new_sized : length new ≡ length old
  new_sized = ap length new_is ∙ length-set old v d

  new_here : get_or new v (negsuc 0) ≡ d
  new_here = ap (λ z. get_or z v (negsuc 0)) new_is ∙ get_or-set_same old v d (negsuc 0) there

  new_other : (u : ℕ) → u ≢ v → get_or new u (negsuc 0) ≡ get_or old u (negsuc 0)
  new_other u q = ap (λ z. get_or z u (negsuc 0)) new_is ∙ get_or-set_other old v u d (negsuc 0) q

  old_waits : (u : ℕ) → u ≢ v → IsWaiting done new u → IsWaiting done old u
  old_waits u q k = record { apart = k.apart; reached = subst (λ z. pos 0 ≤ℤ z) (new_other u q) k.reached }

  -- one that was reached just now
  module _ (before : get_or old v (negsuc 0) <ℤ pos 0) where
    not_heaped : IsAmong nodes w.heaped v → ⊥
    not_heaped m = let k = heaped_one old nodes w.heaped v h.kept.reached m in omega (arith, ints, k, before)

    heap_apart : (i : ℕ) → i < w.heaped → node_at nodes i ≢ v
    heap_apart i l q = not_heaped (i, l, q)

    added_now : w.heaped + w.ready < count_by is_reached new
    added_now = let e = ap (count_by is_reached) new_is ∙ reached_more old v d there before low in omega (arith, e, h.kept.added)

    pub kept_now : AreKept new nodes places w at
    kept_now =
        let e = new_sized in
        let keys : (i : ℕ) → i < w.heaped → key_at new nodes i ≡ key_at old nodes i = λ i l. new_other (node_at nodes i) (heap_apart i l) in
        record {
          sized = omega (arith, e, h.kept.sized);
          sized_places = omega (arith, e, h.kept.sized_places);
          queue = record { placed = h.kept.queue.placed; heap = heap_same old new nodes w.heaped keys h.kept.queue.heap };
          reached = λ i l. subst (λ z. pos 0 ≤ℤ z) (sym (keys i l)) (h.kept.reached i l);
          ready = ready_all new nodes w.ready at h.kept.ready.counted (λ u m.
              let k = ready_one old nodes w.ready at u h.kept.ready m in
              let s = new_other u (λ q. let f = ap (λ z. get_or old z (negsuc 0)) q in let r = k.near.reached in omega (arith, ints, f, r, before)) in
              record { within = omega (arith, e, k.within); near = subst (λ z. IsReachedWithin at z) (sym s) k.near });
          added = let k = added_now in omega (arith, k);
        }

    pub listed_now : (nodes2 : List NodeId) (places2 : List ℕ) (w2 : Waiting) → AreKept new nodes2 places2 w2 at → ((u : ℕ) → IsListed nodes w u ⊎ (u ≡ v) → IsListed nodes2 w2 u) → AreListed done new nodes2 places2 w2 at
    listed_now nodes2 places2 w2 kept all = record {
      kept = kept;
      all = λ u k. elim (cases_eq u v) [
        | inl q ↦ all u (inr q)
        | inr q ↦ all u (inl (h.all u (old_waits u q k)))
      ];
    }

  -- one that was reached before
  module _ (before : pos 0 ≤ℤ get_or old v (negsuc 0)) (nearer : d <ℤ get_or old v (negsuc 0)) where
    pub heap_without : (IsAmong nodes w.heaped v → ⊥) → IsHeap (key_at new nodes) w.heaped
    heap_without none = heap_same old new nodes w.heaped (λ i l. new_other (node_at nodes i) (λ q. none (i, l, q))) h.kept.queue.heap

    pub heap_but_at : (i : ℕ) → i < w.heaped → node_at nodes i ≡ v → IsHeapButAt (key_at new nodes) w.heaped i
    heap_but_at i l q =
        let once : (j : ℕ) → j < w.heaped → j ≢ i → node_at nodes j ≢ v =
        λ j m r z. r (sym (h.kept.queue.placed.told j m) ∙ ap (λ t. get_or places t 0) (z ∙ sym q) ∙ h.kept.queue.placed.told i l) in
        let other : (j : ℕ) → j < w.heaped → j ≢ i → key_at new nodes j ≡ key_at old nodes j = λ j m r. new_other (node_at nodes j) (once j m r) in
        let here : key_at new nodes i ≡ d = ap (λ z. get_or new z (negsuc 0)) q ∙ new_here in
        let was : key_at old nodes i ≡ get_or old v (negsuc 0) = ap (λ z. get_or old z (negsuc 0)) q in
        record {
          ascends = λ j p m r.
              let b = other j m r in
              let k = h.kept.queue.heap.ascends j p m in
              elim (cases_eq (parent j) i) [
                | inl t ↦ (
                    let a : key_at new nodes (parent j) ≡ d = ap (key_at new nodes) t ∙ here in
                    let c : key_at old nodes (parent j) ≡ get_or old v (negsuc 0) = ap (key_at old nodes) t ∙ was in
                    omega (arith, ints, a, b, c, k, nearer))
                | inr t ↦ (
                    let a = other (parent j) (omega (arith, p, m)) t in
                    omega (arith, ints, a, b, k))
              ];
          across = λ j p m t s.
              let up : parent i < i = omega (arith, s) in
              let a = other (parent i) (omega (arith, up, l)) (λ z. omega (arith, z, up)) in
              let down : parent j < j = omega (arith, p) in
              let b = other j m (λ z. omega (arith, z, down, t)) in
              let k = h.kept.queue.heap.ascends j p m in
              let g = h.kept.queue.heap.ascends i s l in
              let c : key_at old nodes (parent j) ≡ key_at old nodes i = ap (key_at old nodes) t in
              omega (arith, ints, a, b, c, k, g);
        }

    pub listed_again : (nodes2 : List NodeId) (places2 : List ℕ) → length nodes2 ≡ length nodes → length places2 ≡ length places → IsQueue new nodes2 places2 w.heaped → IsReordered nodes nodes2 w.heaped →
        AreListed done new nodes2 places2 w at
    listed_again nodes2 places2 e f queue order =
        let g = new_sized in
        let room : w.heaped + w.ready ≤ length nodes = room_kept old nodes places w at h.kept in
        let still : (u : ℕ) → pos 0 ≤ℤ get_or old u (negsuc 0) → pos 0 ≤ℤ get_or new u (negsuc 0) =
        λ u k. elim (cases_eq u v) [
          | inl q ↦ (let a : get_or new u (negsuc 0) ≡ d = ap (λ z. get_or new z (negsuc 0)) q ∙ new_here in omega (arith, ints, a, low))
          | inr q ↦ (let a = new_other u q in omega (arith, ints, a, k))
        ] in
        record {
          kept = record {
            sized = omega (arith, e, g, h.kept.sized);
            sized_places = omega (arith, f, g, h.kept.sized_places);
            queue = queue;
            reached = λ i l. still (node_at nodes2 i) (heaped_one old nodes w.heaped (node_at nodes2 i) h.kept.reached (order.no_more (node_at nodes2 i) (i, l, refl)));
            ready = ready_kept new nodes nodes2 w.ready w.heaped at e room order.beyond (ready_all new nodes w.ready at h.kept.ready.counted (λ u m.
                let k = ready_one old nodes w.ready at u h.kept.ready m in
                record {
                  within = omega (arith, g, k.within);
                  near = record {
                    reached = still u k.near.reached;
                    near = elim (cases_eq u v) [
                      | inl q ↦ (
                          let a : get_or new u (negsuc 0) ≡ d = ap (λ z. get_or new z (negsuc 0)) q ∙ new_here in
                          let b : get_or old u (negsuc 0) ≡ get_or old v (negsuc 0) = ap (λ z. get_or old z (negsuc 0)) q in
                          omega (arith, ints, a, b, nearer, k.near.near))
                      | inr q ↦ (let a = new_other u q in omega (arith, ints, a, k.near.near))
                    ];
                  };
                }));
            added = let a = ap (count_by is_reached) new_is ∙ reached_again old v d there before low in omega (arith, a, h.kept.added);
          };
          all = λ u k.
              let waited : IsWaiting done old u = elim (cases_eq u v) [
                | inl q ↦ record { apart = k.apart; reached = subst (λ z. pos 0 ≤ℤ get_or old z (negsuc 0)) (sym q) before }
                | inr q ↦ old_waits u q k
              ] in
              elim (h.all u waited) [
                | inl m ↦ inl (order.kept u m)
                | inr m ↦ inr (ready_among nodes nodes2 w.ready w.heaped u e room order.beyond m)
              ];
        }

-- ---- the same lists under other names
pub moved_lists : (done done2 : List Bool) (dist dist2 : List ℤ) (nodes nodes2 : List NodeId) (places places2 : List ℕ) (w : Waiting) (at : ℤ) → done2 ≡ done → dist2 ≡ dist → nodes2 ≡ nodes → places2 ≡ places →
    AreListed done dist nodes places w at → AreListed done2 dist2 nodes2 places2 w at
moved_lists done done2 dist dist2 nodes nodes2 places places2 w at a b c d h =
    subst (λ z. AreListed z dist2 nodes2 places2 w at) (sym a)
    (subst (λ z. AreListed done z nodes2 places2 w at) (sym b) (subst (λ z. AreListed done dist z places2 w at) (sym c) (subst (λ z. AreListed done dist nodes z w at) (sym d) h)))

pub moved_start : (done done2 : List Bool) (dist dist2 : List ℤ) (nodes : List NodeId) (places : List ℕ) (w : Waiting) → done2 ≡ done → dist2 ≡ dist → HasListed done dist nodes places w → HasListed done2 dist2 nodes places w
moved_start done done2 dist dist2 nodes places w a b h = subst (λ z. HasListed z dist2 nodes places w) (sym a) (subst (λ z. HasListed done z nodes places w) (sym b) h)
