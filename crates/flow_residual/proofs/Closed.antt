-- Closing gaps between potentials: one node after another, and what it leaves of the condition.
use Rattle.std.proofs.Common.{◌≡◌, ◌≢◌, ℕ, ◌+◌, ◌*◌, ◌^◌, ◌<◌, ◌≤◌, Bool, true, false, eqb, List, length, set, get_or, slice_get, Some, All, ◌⊎◌, inl, inr, refl, ap, sym, subst, ◌∙◌, arith, ℤ, pos, ◌+ℤ◌, ◌-ℤ◌, neg_ℤ, ◌≤ℤ◌, length-set, get_or-set_same, get_or-set_other, IsPermutation}
use Rattle.std.specs.Int.{int_min}
use Rattle.std.specs.Ordering.{is_lt, int_cmp}
use Rattle.std.proofs.lemmas.Int.{ints, clamps, by_lt_z}
use Rattle.std.proofs.lemmas.Bool.{cases_eq, cases_lt, cases_order, eqb-false, ne_eqb}
use Rattle.std.proofs.lemmas.List.{get_or_default}
use Rattle.std.proofs.lemmas.List.Elements.{All-from_get_or}
use Rattle.std.proofs.lemmas.List.Sorted.{length_permutation, All-permutation, Contains-permutation}
use Rattle.std.proofs.lemmas.List.Elements.{at_from_Contains, Contains-get_or}
use Rattle.std.proofs.lemmas.Map.Keys.{IsDistinct-IsPermutation, IsDistinct-from_apart, apart_from_distinct}
use mir.Syntax.{w128}
use mir.Val.{to_z, of_z, SFits}
use Rattle.flow_cost.specs.Cost.{IsWithin, IsLawful}
use Rattle.flow_cost.specs.Condition.{slope_up, slope_down}
use Rattle.flow_cost.proofs.Convex.{between}
use Rattle.flow_graph.specs.declared.arcs.Arc.{Arc}
use Rattle.flow_graph.specs.declared.arcs.NodeId.{NodeId}
use Rattle.flow_graph.proofs.Bounded.{flow_at}
use Rattle.flow_graph.proofs.Grown.{among_at}
use Rattle.flow_residual.specs.Edges.{slope_limit}
use Rattle.flow_residual.specs.Gaps.{KeepsGap, node_at, IsOrder}
use Rattle.flow_residual.specs.Flows.{Flow, IsFlowOf, IsStep, HasArc}
use Rattle.flow_residual.specs.Path.{IsOpen, IsTight}
use Rattle.flow_residual.specs.Rooms.{KeepsShown}
use Rattle.flow_residual.proofs.Slopes.{price_up_small, price_down_small}

-- ---- gaps between two numbers
pub gap_same : (a a' : ℤ) → KeepsGap a a a' a'
gap_same a a' = record { near = λ w. omega (arith, ints); above = λ l. absurd (omega (arith, ints, l)); below = λ l. absurd (omega (arith, ints, l)) }

pub gap_flipped : (a b a' b' : ℤ) → KeepsGap a b a' b' → KeepsGap b a b' a'
gap_flipped a b a' b' k = record {
  near = λ w. let e = k.near (record { low = omega (arith, ints, w.high); high = omega (arith, ints, w.low) }) in omega (arith, ints, e);
  above = λ l. let e = k.below (omega (arith, ints, l)) in omega (arith, ints, e);
  below = λ l. let e = k.above (omega (arith, ints, l)) in omega (arith, ints, e);
}

-- the next number up, after a gap that is not wider than need be
pub gap_more : (a before p a' top next : ℤ) → KeepsGap a before a' top → a' ≤ℤ top → a ≤ℤ before → before ≤ℤ p → next ≡ top +ℤ int_min (p -ℤ before) (pos (4 * 10 ^ 16 + 1)) → KeepsGap a p a' next
gap_more a before p a' top next k low first up e =
    by_lt_z slope_limit (before -ℤ a)
    (λ l. let far = k.above l in record {
      near = λ w. absurd (omega (arith, ints, w.high, l, up));
      above = λ m. omega (arith, ints, clamps, e, far, up);
      below = λ m. absurd (omega (arith, ints, m, first, up));
    })
    (λ l. let same = k.near (record { low = omega (arith, ints, first); high = l }) in record {
      near = λ w. omega (arith, ints, clamps, e, same, w.high, first);
      above = λ m. omega (arith, ints, clamps, e, same, m, first);
      below = λ m. absurd (omega (arith, ints, m, first, up));
    })

pub top_more : (top before p next : ℤ) (i : ℕ) → pos 0 ≤ℤ top → top ≤ℤ pos (i * (4 * 10 ^ 16 + 1)) → before ≤ℤ p → next ≡ top +ℤ int_min (p -ℤ before) (pos (4 * 10 ^ 16 + 1)) → (top ≤ℤ next) × (next ≤ℤ pos ((i + 1) * (4 * 10 ^ 16 + 1)))
top_more top before p next i low high up e = (omega (arith, ints, clamps, e, up), omega (arith, ints, clamps, e, high))

-- ---- one node after another
-- the nodes before a place have their new potentials
pub record IsClosed (nodes : List NodeId) (old new : List ℤ) (before top : ℤ) (i : ℕ) : Type 0 where
  pub counted : length new ≡ length old
  pub pairs : (j k : ℕ) → j < i → k < i → KeepsGap (get_or old (node_at nodes j) (pos 0)) (get_or old (node_at nodes k) (pos 0)) (get_or new (node_at nodes j) (pos 0)) (get_or new (node_at nodes k) (pos 0))
  pub last : (j : ℕ) → j < i → KeepsGap (get_or old (node_at nodes j) (pos 0)) before (get_or new (node_at nodes j) (pos 0)) top
  pub lower : (j : ℕ) → j < i → get_or old (node_at nodes j) (pos 0) ≤ℤ before
  pub within : (j : ℕ) → j < i → (pos 0 ≤ℤ get_or new (node_at nodes j) (pos 0)) × (get_or new (node_at nodes j) (pos 0) ≤ℤ top)
  pub rest : (j : ℕ) → i ≤ j → j < length nodes → get_or new (node_at nodes j) (pos 0) ≡ get_or old (node_at nodes j) (pos 0)
  pub next : i < length nodes → before ≤ℤ get_or old (node_at nodes i) (pos 0)
  pub top_low : pos 0 ≤ℤ top
  pub top_high : top ≤ℤ pos (i * (4 * 10 ^ 16 + 1))

pub closed_at_first : (nodes : List NodeId) (old : List ℤ) (before : ℤ) → before ≡ get_or old (node_at nodes 0) (pos 0) → IsClosed nodes old old before (pos 0) 0
closed_at_first nodes old before e = record {
  counted = refl;
  pairs = λ j k l m. absurd (omega (arith, l));
  last = λ j l. absurd (omega (arith, l));
  lower = λ j l. absurd (omega (arith, l));
  within = λ j l. absurd (omega (arith, l));
  rest = λ j l m. refl;
  next = λ l. omega (arith, ints, e);
  top_low = omega (arith, ints);
  top_high = omega (arith, ints);
}

module _ (nodes : List NodeId) (old new : List ℤ) (before top p next : ℤ) (i : ℕ) (order : IsOrder nodes old) (c : IsClosed nodes old new before top i) (there : i < length nodes)
    (p_is : p ≡ get_or old (node_at nodes i) (pos 0)) (next_is : next ≡ top +ℤ int_min (p -ℤ before) (pos (4 * 10 ^ 16 + 1))) where
  up : before ≤ℤ p
  up = rw p_is (c.next there)

  written : get_or (set new (node_at nodes i) next) (node_at nodes i) (pos 0) ≡ next
  written = get_or-set_same new (node_at nodes i) next (pos 0) (omega (arith, c.counted, order.within i there))

  others : (j : ℕ) → j ≢ i → j < length nodes → get_or (set new (node_at nodes i) next) (node_at nodes j) (pos 0) ≡ get_or new (node_at nodes j) (pos 0)
  others j h l = get_or-set_other new (node_at nodes i) (node_at nodes j) next (pos 0) (elim (cases_order j i) [
    | inl e ↦ absurd (h e)
    | inr (inl m) ↦ order.apart j i m there
    | inr (inr m) ↦ (λ e. order.apart i j m l (sym e))
  ])

  earlier : (j : ℕ) → j < i → get_or (set new (node_at nodes i) next) (node_at nodes j) (pos 0) ≡ get_or new (node_at nodes j) (pos 0)
  earlier j l = others j (λ e. omega (arith, e, l)) (omega (arith, l, there))

  is_last : (j : ℕ) → j < i + 1 → (j < i) ⊎ (j ≡ i)
  is_last j l = elim (cases_lt j i) [ inl m ↦ inl m | inr m ↦ inr (omega (arith, l, m)) ]

  gap_to_next : (j : ℕ) → j < i → KeepsGap (get_or old (node_at nodes j) (pos 0)) p (get_or new (node_at nodes j) (pos 0)) next
  gap_to_next j l = gap_more (get_or old (node_at nodes j) (pos 0)) before p (get_or new (node_at nodes j) (pos 0)) top next (c.last j l) ((c.within j l).1) (c.lower j l) up next_is

  last_more : (j : ℕ) → j < i + 1 → KeepsGap (get_or old (node_at nodes j) (pos 0)) p (get_or (set new (node_at nodes i) next) (node_at nodes j) (pos 0)) next
  last_more j l = elim (is_last j l) [
    | inl m ↦ rw (earlier j m) (gap_to_next j m)
    | inr e ↦ subst (λ z. KeepsGap (get_or old (node_at nodes z) (pos 0)) p (get_or (set new (node_at nodes i) next) (node_at nodes z) (pos 0)) next) (sym e) (rw (written, ← p_is) (gap_same p next))
  ]

  pairs_more : (j k : ℕ) → j < i + 1 → k < i + 1 → KeepsGap (get_or old (node_at nodes j) (pos 0)) (get_or old (node_at nodes k) (pos 0)) (get_or (set new (node_at nodes i) next) (node_at nodes j) (pos 0)) (get_or (set new (node_at nodes i) next) (node_at nodes k) (pos 0))
  pairs_more j k l m = elim (is_last k m) [
    | inr e ↦ subst (λ z. KeepsGap (get_or old (node_at nodes j) (pos 0)) (get_or old (node_at nodes z) (pos 0)) (get_or (set new (node_at nodes i) next) (node_at nodes j) (pos 0)) (get_or (set new (node_at nodes i) next) (node_at nodes z) (pos 0))) (sym e)
        (rw (written, ← p_is) (last_more j l))
    | inl n ↦ elim (is_last j l) [
      | inr e ↦ subst (λ z. KeepsGap (get_or old (node_at nodes z) (pos 0)) (get_or old (node_at nodes k) (pos 0)) (get_or (set new (node_at nodes i) next) (node_at nodes z) (pos 0)) (get_or (set new (node_at nodes i) next) (node_at nodes k) (pos 0))) (sym e)
          (gap_flipped _ _ _ _ (rw (written, ← p_is) (last_more k m)))
      | inl q ↦ rw (earlier j q, earlier k n) (c.pairs j k q n)
    ]
  ]

  pub closed_more : IsClosed nodes old (set new (node_at nodes i) next) p next (i + 1)
  closed_more =
      let t = top_more top before p next i c.top_low c.top_high up next_is in
      record {
        counted = length-set new (node_at nodes i) next ∙ c.counted;
        pairs = pairs_more;
        last = last_more;
        lower = λ j l. elim (is_last j l) [
          | inl m ↦ (let e = c.lower j m in omega (arith, ints, e, up))
          | inr e ↦ subst (λ z. get_or old (node_at nodes z) (pos 0) ≤ℤ p) (sym e) (omega (arith, ints, p_is))
        ];
        within = λ j l. elim (is_last j l) [
          | inl m ↦ (let e = c.within j m in rw (earlier j m) (e.0, omega (arith, ints, e.1, t.0)))
          | inr e ↦ subst (λ z. (pos 0 ≤ℤ get_or (set new (node_at nodes i) next) (node_at nodes z) (pos 0)) × (get_or (set new (node_at nodes i) next) (node_at nodes z) (pos 0) ≤ℤ next)) (sym e)
              (rw written (omega (arith, ints, c.top_low, t.0), omega (arith, ints)))
        ];
        rest = λ j l m. others j (λ e. omega (arith, e, l)) m ∙ c.rest j (omega (arith, l)) m;
        next = λ l. rw p_is (order.ascending i l);
        top_low = omega (arith, ints, c.top_low, t.0);
        top_high = t.1;
      }

-- at the end every pair of nodes keeps its gap, and all potentials are in range
module _ (nodes : List NodeId) (old new : List ℤ) (before top : ℤ) (i : ℕ) (order : IsOrder nodes old) (c : IsClosed nodes old new before top i) (done : length nodes ≤ i) where
  pub all_kept : (u v : ℕ) → u < length old → v < length old → KeepsGap (get_or old u (pos 0)) (get_or old v (pos 0)) (get_or new u (pos 0)) (get_or new v (pos 0))
  all_kept u v l m =
      let a = order.all u l in
      let b = order.all v m in
      subst (λ z. KeepsGap (get_or old z (pos 0)) (get_or old v (pos 0)) (get_or new z (pos 0)) (get_or new v (pos 0))) a.2
      (subst (λ z. KeepsGap (get_or old (node_at nodes a.0) (pos 0)) (get_or old z (pos 0)) (get_or new (node_at nodes a.0) (pos 0)) (get_or new z (pos 0))) b.2
      (c.pairs a.0 b.0 (omega (arith, a.1, done)) (omega (arith, b.1, done))))

  pub all_in_range : i ≤ 262_144 → All (λ p. (pos 0 ≤ℤ p) × (p ≤ℤ pos (2 * 10 ^ 22))) new
  all_in_range small = All-from_get_or (λ p. (pos 0 ≤ℤ p) × (p ≤ℤ pos (2 * 10 ^ 22))) new (pos 0) (λ u l.
      let a = order.all u (omega (arith, l, c.counted)) in
      let w = c.within a.0 (omega (arith, a.1, done)) in
      subst (λ z. (pos 0 ≤ℤ get_or new z (pos 0)) × (get_or new z (pos 0) ≤ℤ pos (2 * 10 ^ 22))) a.2 (w.0, omega (arith, ints, w.1, c.top_high, small)))

-- ---- the order
pub at_most_from_sorted : (x y : ℤ) → is_lt (int_cmp x y) ≡ false → y ≤ℤ x
at_most_from_sorted x y h = by_lt_z x y (λ l. absurd (grind (arith, ints))) (λ l. l)

same_nodes : NodeId → NodeId → Bool
same_nodes a b = eqb a.0 b.0

eqb_flips : (a b : ℕ) → eqb a b ≡ eqb b a
eqb_flips a b = elim (cases_eq a b) [
  | inl e ↦ rw e refl
  | inr n ↦ ne_eqb a b n ∙ sym (ne_eqb b a (λ e. n (sym e)))
]

module _ (first nodes : List NodeId) (potentials : List ℤ) (numbered : (j : ℕ) → j < length first → node_at first j ≡ j) (permuted : IsPermutation first nodes) (counted : length first ≡ length potentials) where
  nodes_counted : length nodes ≡ length potentials
  nodes_counted = length_permutation first nodes permuted ∙ counted

  node_read : (xs : List NodeId) (j : ℕ) (d : NodeId) → j < length xs → (get_or xs j d).0 ≡ node_at xs j
  node_read xs j d l = ap (λ z. z.0) (get_or_default xs j d (record { 0 = 0 }) l)

  all_there : (u : ℕ) → u < length potentials → (j : ℕ) × (j < length nodes) × (node_at nodes j ≡ u)
  all_there u l =
      let there : u < length first = omega (arith, l, counted) in
      let here = Contains-permutation first nodes (get_or first u (record { 0 = 0 })) permuted (Contains-get_or first u (record { 0 = 0 }) there) in
      let at = at_from_Contains nodes (get_or first u (record { 0 = 0 })) here in
      (at.0, at.1, ap (λ z. z.0) (at.2 (record { 0 = 0 })) ∙ numbered u there)

  all_apart : (j k : ℕ) → j < k → k < length nodes → node_at nodes j ≢ node_at nodes k
  all_apart j k l m =
      let d = IsDistinct-from_apart (λ (a : NodeId) (b : NodeId). eqb a.0 b.0) first (λ i h e s t. ne_eqb _ _ (λ q.
      let x = node_read first i e (omega (arith, s, t)) in
      let y = node_read first h e t in
      let z = numbered i (omega (arith, s, t)) in
      let w = numbered h t in
      omega (arith, x, y, z, w, q, s))) in
      let f = IsDistinct-IsPermutation (λ (a : NodeId) (b : NodeId). eqb a.0 b.0) (λ x y. eqb_flips x.0 y.0) first nodes permuted d in
      let t = apart_from_distinct (λ (a : NodeId) (b : NodeId). eqb a.0 b.0) nodes j k (record { 0 = 0 }) f l m in
      eqb-false _ _ t

  all_within : (j : ℕ) → j < length nodes → node_at nodes j < length potentials
  all_within j l = All-permutation (λ n. n.0 < length potentials) first nodes permuted (λ k d m. rw (node_read first k d m, numbered k m) (omega (arith, m, counted))) j (record { 0 = 0 }) l

  pub order_from : ((j : ℕ) → j + 1 < length nodes → get_or potentials (node_at nodes j) (pos 0) ≤ℤ get_or potentials (node_at nodes (j + 1)) (pos 0)) → IsOrder nodes potentials
  order_from asc = record { counted = nodes_counted; within = all_within; all = all_there; apart = all_apart; ascending = asc }

-- ---- what is right stays right
at_most_kept : (a b a' b' q : ℤ) → KeepsGap a b a' b' → IsWithin slope_limit q → (b -ℤ a) ≤ℤ q → (b' -ℤ a') ≤ℤ q
at_most_kept a b a' b' q k w h = by_lt_z (b -ℤ a) (neg_ℤ slope_limit)
    (λ l. let e = k.below l in omega (arith, ints, e, w.low))
    (λ l. let e = k.near (record { low = l; high = omega (arith, ints, h, w.high) }) in omega (arith, ints, e, h))

at_least_kept : (a b a' b' q : ℤ) → KeepsGap a b a' b' → IsWithin slope_limit q → q ≤ℤ (b -ℤ a) → q ≤ℤ (b' -ℤ a')
at_least_kept a b a' b' q k w h = by_lt_z slope_limit (b -ℤ a)
    (λ l. let e = k.above l in omega (arith, ints, e, w.high))
    (λ l. let e = k.near (record { low = omega (arith, ints, h, w.low); high = l }) in omega (arith, ints, e, h))

same_kept : (a b a' b' q : ℤ) → KeepsGap a b a' b' → IsWithin slope_limit q → q ≡ b -ℤ a → q ≡ b' -ℤ a'
same_kept a b a' b' q k w h = let e = k.near (record { low = omega (arith, ints, h, w.low); high = omega (arith, ints, h, w.high) }) in omega (arith, ints, e, h)

module _ {N A C : Type 0} (node_eq : N → N → Bool) (arc_eq : A → A → Bool) (value : C → ℤ → ℤ) (span : C → ℤ) (law : (c : C) → IsLawful (value c) (span c)) (old : Flow N A C) (potentials : List ℤ)
    (kept : IsFlowOf node_eq arc_eq span old)
    (gaps : (u v : ℕ) → u < length old.potentials → v < length old.potentials → KeepsGap (get_or old.potentials u (pos 0)) (get_or old.potentials v (pos 0)) (get_or potentials u (pos 0)) (get_or potentials v (pos 0))) where
  gap_of : (a : ℕ) (arc : Arc) → slice_get old.graph.arcs a ≡ Some arc → KeepsGap (get_or old.potentials arc.tail (pos 0)) (get_or old.potentials arc.head (pos 0)) (get_or potentials arc.tail (pos 0)) (get_or potentials arc.head (pos 0))
  gap_of a arc e =
      let f = among_at (length old.graph.nodes) old.graph.arcs a arc kept.network.arcs_fit e in
      gaps arc.tail arc.head (omega (arith, f.tail, kept.potentials.counted)) (omega (arith, f.head, kept.potentials.counted))

  up_small : (step : ℤ) → IsStep step → (a : ℕ) (arc : Arc) (c : C) (x : ℤ) → HasArc old a arc c x → (x +ℤ step) ≤ℤ arc.hi → IsWithin slope_limit (slope_up (value c) step x)
  up_small step s a arc c x h room =
      let f = flow_at old.graph.arcs old.flows a arc x kept.bounded h.arc_is h.number_is in
      let w = kept.spans.within a arc c h.arc_is h.cost_is in
      price_up_small (value c) (span c) (law c) step x s.low (between (span c) arc.lo arc.hi x w.0 w.1 f.low f.high)
      (between (span c) arc.lo arc.hi (x +ℤ step) w.0 w.1 (omega (arith, ints, f.low, s.low)) room)

  down_small : (step : ℤ) → IsStep step → (a : ℕ) (arc : Arc) (c : C) (x : ℤ) → HasArc old a arc c x → arc.lo ≤ℤ (x -ℤ step) → IsWithin slope_limit (slope_down (value c) step x)
  down_small step s a arc c x h room =
      let f = flow_at old.graph.arcs old.flows a arc x kept.bounded h.arc_is h.number_is in
      let w = kept.spans.within a arc c h.arc_is h.cost_is in
      price_down_small (value c) (span c) (law c) step x s.low (between (span c) arc.lo arc.hi x w.0 w.1 f.low f.high)
      (between (span c) arc.lo arc.hi (x -ℤ step) w.0 w.1 room (omega (arith, ints, f.high, s.low)))

  tight_kept : (step : ℤ) → IsStep step → (up : Bool) (a : ℕ) → IsOpen old step (record { arc = a; up = up }) → IsTight old value step (record { arc = a; up = up }) → IsTight (record old { potentials = potentials }) value step (record { arc = a; up = up })
  tight_kept step s true a o t arc c x h = same_kept _ _ _ _ _ (gap_of a arc h.arc_is) (up_small step s a arc c x h (o arc c x h)) (t arc c x h)
  tight_kept step s false a o t arc c x h = same_kept _ _ _ _ _ (gap_of a arc h.arc_is) (down_small step s a arc c x h (o arc c x h)) (t arc c x h)

  pub shown_kept : KeepsShown value old (record old { potentials = potentials })
  shown_kept = record {
    condition = λ step s a arc c x h m. record {
      up = λ room. at_most_kept _ _ _ _ _ (gap_of a arc h.arc_is) (up_small step s a arc c x h room) (m.up room);
      down = λ room. at_least_kept _ _ _ _ _ (gap_of a arc h.arc_is) (down_small step s a arc c x h room) (m.down room);
    };
    tight = λ step s m o t. tight_kept step s m.up m.arc o t;
  }

-- ---- the code's sums
pub narrowed_range : (n p before : ℤ) → n ≡ int_min (p -ℤ before) (pos (4 * 10 ^ 16 + 1)) → before ≤ℤ p → (pos 0 ≤ℤ n) × (n ≤ℤ pos (4 * 10 ^ 16 + 1))
narrowed_range n p before e l = (omega (arith, ints, clamps, e, l), omega (arith, ints, clamps, e, l))

module _ (top n : ℤ) (i : ℕ) (low : pos 0 ≤ℤ top) (high : top ≤ℤ pos (i * (4 * 10 ^ 16 + 1))) (small : i ≤ 262_144) (r : (pos 0 ≤ℤ n) × (n ≤ℤ pos (4 * 10 ^ 16 + 1))) where
  cast_same : to_z w128 (of_z w128 n) ≡ n
  cast_same = omega (arith, ints, r.0, r.1)

  pub top_fits : SFits w128 (top +ℤ to_z w128 (of_z w128 n))
  top_fits = rw cast_same (omega (arith, ints, r.0, r.1, low, high, small))

  pub top_is : to_z w128 (of_z w128 (top +ℤ to_z w128 (of_z w128 n))) ≡ top +ℤ n
  top_is = rw cast_same (omega (arith, ints, r.0, r.1, low, high, small))
