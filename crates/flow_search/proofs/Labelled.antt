-- How what is known of the labels follows them as a node is offered, settled and relaxed.
use Rattle.std.proofs.Common.{◌≡◌, ◌≢◌, ℕ, zero, suc, ◌+◌, ◌<◌, Bool, true, false, cond, List, [], ◌∷◌, length, set, Some, slice_get, ◌⊎◌, inl, inr, refl, ap, sym, subst, ◌∙◌, arith, ℤ, pos, negsuc, ◌+ℤ◌, ◌-ℤ◌, neg_ℤ, ◌≤ℤ◌, ◌<ℤ◌, count_by, Option, Contains, length-set, get_or-set_same, get_or-set_other}
use Rattle.std.proofs.lemmas.Int.{ints}
use Rattle.std.proofs.lemmas.Bool.{cases_eq}
use Rattle.std.proofs.lemmas.List.Sums.{sum_by-set}
use Rattle.flow_cost.specs.Cost.{IsWithin}
use Rattle.flow_graph.specs.declared.arcs.ArcId.{ArcId}
use Rattle.flow_graph.specs.Contradiction.{in_set}
use Rattle.flow_graph.proofs.Lookups.{read_once, slice_get-set_other, slice_get-set_same}
use Rattle.flow_residual.specs.Flows.{Flow}
use Rattle.flow_residual.specs.Path.{Move, IsSink}
use Rattle.flow_residual.specs.Edges.{slope_limit, potential_at, length_of, IsEdge}
use Rattle.flow_search.specs.Labels.{Labels, distance, IsReached, IsDone, limit_of, Hop, end_of, Avoids, IsHop, IsTrail, HasTrail, cost_to, IsExplored, IsRelaxed, RelaxesMove, RelaxesAll, IsLowered, IsRelaxing, IsSearched}
use Rattle.flow_search.specs.Frontier.{with_settled, with_offer, Takes, Accepts, Declines}
use Rattle.flow_cost.specs.Condition.{slope_up, slope_down}

pub false_or_true : (b : Bool) → (b ≡ false) ⊎ (b ≡ true)
false_or_true true = inr refl
false_or_true false = inl refl

-- a node that is marked is not one that is not
pub apart : (set : List Bool) (u v : ℕ) → in_set set u ≡ true → in_set set v ≡ false → u ≢ v
apart set u v h k e = let f : in_set set u ≡ in_set set v = ap (in_set set) e in cc

-- 1 where it holds
abbrev one_if : Bool → ℕ
one_if b = cond b 1 0

-- the labels but for the source
abbrev changed : Labels → List Bool → List ℤ → List (Option ArcId) → Labels
changed l set dist by = record { source = l.source; set = set; dist = dist; by = by }

-- the node's own entries stay
record Stays (l m : Labels) (v : ℕ) : Type 0 where
  pub distance_is : distance m v ≡ distance l v
  pub by_is : slice_get m.by v ≡ slice_get l.by v

module _ {N A C : Type 0} (value : C → ℤ → ℤ) (step : ℤ) (s : Flow N A C) where
  -- a way stays where its nodes' entries do
  keeps_trail : (l : Labels) (set : List Bool) (dist : List ℤ) (by : List (Option ArcId)) →
      ((v : ℕ) → IsDone l v → in_set set v ≡ true) → ((v : ℕ) → IsDone l v → Stays l (changed l set dist by) v) →
      (hs : List Hop) → Stays l (changed l set dist by) (end_of l.source hs) → IsTrail value step s l hs → IsTrail value step s (changed l set dist by) hs
  keeps_trail l set dist by more stays [] k t = tt
  keeps_trail l set dist by more stays (h ∷ hs) k t =
      let j = stays (end_of l.source hs) t.0.done in (
        record {
          price = t.0.price;
          edge = t.0.edge;
          done = more _ t.0.done;
          by_is = k.by_is ∙ t.0.by_is;
          distance_is = k.distance_is ∙ t.0.distance_is ∙ ap (λ d. d +ℤ length_of s (end_of l.source hs) h.to t.0.price) (sym j.distance_is);
        },
        t.1,
        keeps_trail l set dist by more stays hs j t.2,
      )

  -- the way to a settled node meets no node that is not settled
  done_avoids : (l : Labels) (v : ℕ) → in_set l.set v ≡ false → (hs : List Hop) → IsDone l (end_of l.source hs) → IsTrail value step s l hs → Avoids v l.source hs
  done_avoids l v f [] d t = apart l.set _ v d f
  done_avoids l v f (h ∷ hs) d t = (apart l.set _ v d f, done_avoids l v f hs t.0.done t.2)

  -- a way to a settled node, with an edge to a node that is not settled
  longer_trail : (l : Labels) (u v : ℕ) (m : Move) (price : ℤ) → HasTrail value step s l u → IsDone l u → in_set l.set v ≡ false → IsEdge value step s m u v price →
      slice_get l.by v ≡ Some (Some (record { 0 = m.arc })) → distance l v ≡ distance l u +ℤ length_of s u v price → HasTrail value step s l v
  longer_trail l u v m price t d f e b k =
      let back : u ≡ end_of l.source t.hops = sym t.ends in
      let hop : IsHop value step s l (end_of l.source t.hops) (record { move = m; to = v }) =
      record {
        price = price;
        edge = subst (λ n. IsEdge value step s m n v price) back e;
        done = subst (λ n. IsDone l n) back d;
        by_is = b;
        distance_is = subst (λ n. distance l v ≡ distance l n +ℤ length_of s n v price) back k;
      } in
      record {
        hops = record { move = m; to = v } ∷ t.hops;
        ends = refl;
        trail = (hop, done_avoids l v f t.hops (subst (λ n. IsDone l n) back d) t.trail, t.trail);
      }

  -- what the way to a node costs, once more
  further_cost : (du pu pv ps price lim : ℤ) → IsWithin (lim -ℤ slope_limit) ((du +ℤ pu) -ℤ ps) → IsWithin slope_limit price →
      IsWithin lim (((du +ℤ (price -ℤ (pv -ℤ pu))) +ℤ pv) -ℤ ps)
  further_cost du pu pv ps price lim h k = record { low = omega (arith, ints, h.low, k.low); high = omega (arith, ints, h.high, k.high) }

  -- the offer of a settled node's edge to a node that it brings nearer
  module _ (l : Labels) (u v : ℕ) (m : Move) (price d horizon limit : ℤ)
      (x : IsExplored value step s horizon limit l) (at : horizon ≡ distance l u) (done : IsDone l u) (small : IsWithin (limit -ℤ slope_limit) (cost_to value step s l u))
      (there : v < length s.graph.nodes) (e : IsEdge value step s m u v price) (cheap : IsWithin slope_limit price)
      (dis : d ≡ distance l u +ℤ length_of s u v price) (long : pos 0 ≤ℤ length_of s u v price) (further : IsReached l v → d <ℤ distance l v) where
    fresh : Labels
    fresh = with_offer l v d (record { 0 = m.arc })

    offered_far : horizon ≤ℤ d
    offered_far = omega (arith, ints, at, dis, long)

    offered_nonneg : pos 0 ≤ℤ d
    offered_nonneg = omega (arith, ints, dis, long, (x.near u done).0.nonneg)

    not_done : in_set l.set v ≡ false
    not_done = elim (false_or_true (in_set l.set v)) [
      | inl f ↦ f
      | inr t ↦ (let n = x.near v t in absurd (omega (arith, ints, further n.0, n.1, offered_far)))
    ]

    new_distance : distance fresh v ≡ d
    unfolding fresh
    new_distance = get_or-set_same l.dist v d (negsuc 0) (omega (arith, x.frontier.dist))

    other_distance : (w : ℕ) → w ≢ v → distance fresh w ≡ distance l w
    unfolding fresh
    other_distance w h = get_or-set_other l.dist v w d (negsuc 0) h

    done_other : (w : ℕ) → IsDone l w → w ≢ v
    done_other w h = apart l.set w v h not_done

    other_stays : (w : ℕ) → w ≢ v → Stays l fresh w
    unfolding fresh
    other_stays w h = record { distance_is = other_distance w h; by_is = slice_get-set_other l.by v w _ h }

    old_reached : (w : ℕ) → w ≢ v → IsReached fresh w → IsReached l w
    old_reached w h r = record { nonneg = subst (λ t. pos 0 ≤ℤ t) (other_distance w h) r.nonneg }

    old_trail : (w : ℕ) → w ≢ v → HasTrail value step s l w → HasTrail value step s fresh w
    unfolding fresh
    old_trail w h t = record {
      hops = t.hops;
      ends = t.ends;
      trail = keeps_trail l l.set (set l.dist v d) (set l.by v (Some (record { 0 = m.arc }))) (λ n k. k) (λ n k. other_stays n (done_other n k)) t.hops
          (other_stays (end_of l.source t.hops) (subst (λ n. n ≢ v) (sym t.ends) h)) t.trail;
    }

    new_trail : HasTrail value step s fresh v
    unfolding fresh
    new_trail = longer_trail fresh u v m price (old_trail u (done_other u done) (x.trails u (x.near u done).0)) done not_done e
        (slice_get-set_same l.by v _ (omega (arith, x.frontier.by)))
        (new_distance ∙ dis ∙ ap (λ t. t +ℤ length_of s u v price) (sym (other_distance u (done_other u done))))

    source_other : l.source ≢ v
    source_other h =
        let r : IsReached l v = record { nonneg = subst (λ n. pos 0 ≤ℤ distance l n) h (omega (arith, ints, x.source_at)) } in
        let z : distance l v ≡ pos 0 = subst (λ n. distance l n ≡ pos 0) h x.source_at in
        omega (arith, ints, further r, z, offered_nonneg)

    offered_explored : IsExplored value step s horizon limit fresh
    unfolding fresh
    offered_explored = record {
      frontier = record {
        set = x.frontier.set;
        dist = length-set l.dist v d ∙ x.frontier.dist;
        by = length-set l.by v _ ∙ x.frontier.by;
        source = x.frontier.source;
      };
      source_at = other_distance l.source source_other ∙ x.source_at;
      trails = λ w r. elim (cases_eq w v) [
        | inl q ↦ subst (λ n. HasTrail value step s fresh n) (sym q) new_trail
        | inr q ↦ old_trail w q (x.trails w (old_reached w q r))
      ];
      near = λ w h.
          let n = x.near w h in
          let k = other_distance w (done_other w h) in
          (record { nonneg = omega (arith, ints, n.0.nonneg, k) }, omega (arith, ints, n.1, k));
      far = λ w r h. elim (cases_eq w v) [
        | inl q ↦ (let k = subst (λ n. distance fresh n ≡ d) (sym q) new_distance in omega (arith, ints, k, offered_far))
        | inr q ↦ (let k = other_distance w q in omega (arith, ints, k, x.far w (old_reached w q r) h))
      ];
      small = λ w r. elim (cases_eq w v) [
        | inl q ↦ subst (λ n. IsWithin limit (cost_to value step s fresh n)) (sym q)
            (subst (λ t. IsWithin limit ((t +ℤ potential_at s v) -ℤ potential_at s l.source)) (sym (new_distance ∙ dis))
            (further_cost (distance l u) (potential_at s u) (potential_at s v) (potential_at s l.source) price limit small cheap))
        | inr q ↦ subst (λ t. IsWithin limit ((t +ℤ potential_at s w) -ℤ potential_at s l.source)) (sym (other_distance w q)) (x.small w (old_reached w q r))
      ];
    }

    offered_lowered : IsLowered l fresh
    unfolding fresh
    offered_lowered = record {
      source = refl;
      set = refl;
      done = λ w h. other_distance w (done_other w h);
      reached = λ w r. elim (cases_eq w v) [
        | inl q ↦ (let k = subst (λ n. distance fresh n ≡ d) (sym q) new_distance in
            let b : d <ℤ distance l w = subst (λ n. d <ℤ distance l n) (sym q) (further (subst (λ n. IsReached l n) q r)) in
            (record { nonneg = omega (arith, ints, k, offered_nonneg) }, omega (arith, ints, k, b)))
        | inr q ↦ (let k = other_distance w q in (record { nonneg = omega (arith, ints, k, r.nonneg) }, omega (arith, ints, k)))
      ];
    }

    offered_relaxed : IsRelaxed value step s fresh u v price
    offered_relaxed =
        let k = other_distance u (done_other u done) in
        record {
          reached = record { nonneg = omega (arith, ints, new_distance, offered_nonneg) };
          short = omega (arith, ints, new_distance, k, dis);
        }

  -- ---- one edge of the node that is being relaxed
  same_horizon : (l m : Labels) (u : ℕ) → distance m u ≡ distance l u → IsExplored value step s (distance l u) (limit_of l) m → IsExplored value step s (distance m u) (limit_of l) m
  same_horizon l m u e x = subst (λ h. IsExplored value step s h (limit_of l) m) (sym e) x

  pub accepted : (l : Labels) (u v : ℕ) (m : Move) (price d : ℤ) → IsRelaxing value step s l u → v < length s.graph.nodes → IsEdge value step s m u v price →
      IsWithin slope_limit price → d ≡ distance l u +ℤ length_of s u v price → pos 0 ≤ℤ length_of s u v price → (n : Labels) → Accepts l n v d (record { 0 = m.arc }) →
      IsRelaxing value step s n u × IsLowered l n × IsRelaxed value step s n u v price
  unfolding fresh
  accepted l u v m price d r there e cheap dis long n a =
      let k = other_distance l u v m price d (distance l u) (limit_of l) r.explored refl r.done r.small there e cheap dis long a.further u (done_other l u v m price d (distance l u) (limit_of l) r.explored refl r.done r.small there e cheap dis long a.further u r.done) in
      let x = offered_explored l u v m price d (distance l u) (limit_of l) r.explored refl r.done r.small there e cheap dis long a.further in
      let low = offered_lowered l u v m price d (distance l u) (limit_of l) r.explored refl r.done r.small there e cheap dis long a.further in
      let rel = offered_relaxed l u v m price d (distance l u) (limit_of l) r.explored refl r.done r.small there e cheap dis long a.further in
      rw a.new_is (
        record {
          explored = same_horizon l (with_offer l v d (record { 0 = m.arc })) u k x;
          done = r.done;
          small = subst (λ t. IsWithin (limit_of l -ℤ slope_limit) ((t +ℤ potential_at s u) -ℤ potential_at s l.source)) (sym k) r.small;
        },
        low,
        rel,
      )

  pub same_lowered : (l : Labels) → IsLowered l l
  same_lowered l = record { source = refl; set = refl; done = λ v h. refl; reached = λ v r. (r, omega (arith, ints)) }

  pub declined : (l : Labels) (u v : ℕ) (price d : ℤ) → IsRelaxing value step s l u → d ≡ distance l u +ℤ length_of s u v price → (n : Labels) → Declines l n v d →
      IsRelaxing value step s n u × IsLowered l n × IsRelaxed value step s n u v price
  declined l u v price d r dis n a = rw a.new_is (r, same_lowered l, record { reached = a.reached; short = omega (arith, ints, a.nearer, dis) })

  pub lowered_twice : (l m n : Labels) → IsLowered l m → IsLowered m n → IsLowered l n
  lowered_twice l m n h k = record {
    source = k.source ∙ h.source;
    set = k.set ∙ h.set;
    done = λ v d. k.done v (ap (λ t. in_set t v) h.set ∙ d) ∙ h.done v d;
    reached = λ v r. let i = h.reached v r in let j = k.reached v i.0 in (j.0, omega (arith, ints, i.1, j.1));
  }

  pub still_relaxed : (l m : Labels) (u v : ℕ) (price : ℤ) → IsLowered l m → IsDone l u → IsRelaxed value step s l u v price → IsRelaxed value step s m u v price
  still_relaxed l m u v price h d r =
      let i = h.reached v r.reached in
      let j = h.done u d in
      record { reached = i.0; short = omega (arith, ints, i.1, j, r.short) }

  -- ---- a node is settled
  counted : (l : Labels) (u : ℕ) → u < length l.set → in_set l.set u ≡ false → limit_of (with_settled l u) ≡ limit_of l +ℤ slope_limit
  counted l u h f =
      let e = sum_by-set one_if l.set u true false h in
      let g = ap one_if f in
      omega (arith, ints, e, g)

  wider : (n m x : ℤ) → n ≤ℤ m → IsWithin n x → IsWithin m x
  wider n m x h k = record { low = omega (arith, ints, k.low); high = omega (arith, ints, k.high) }

  pub taken : (l m : Labels) (u : ℕ) → u < length s.graph.nodes → IsSearched value step s l → Takes l m u → IsRelaxing value step s m u
  taken l m u there x t =
      let in' : u < length l.set = omega (arith, x.explored.frontier.set) in
      let now_done : (v : ℕ) → IsDone l v → in_set (set l.set u true) v ≡ true =
      λ v d. elim (cases_eq v u) [
        | inl q ↦ subst (λ n. in_set (set l.set u true) n ≡ true) (sym q) (get_or-set_same l.set u true false in')
        | inr q ↦ get_or-set_other l.set u v true false q ∙ d
      ] in
      let more : limit_of (with_settled l u) ≡ limit_of l +ℤ slope_limit = counted l u in' t.waiting in
      let horizon_on : x.horizon ≤ℤ distance l u = x.explored.far u t.reached t.waiting in
      let explored : IsExplored value step s (distance l u) (limit_of (with_settled l u)) (with_settled l u) =
      record {
        frontier = record {
          set = length-set l.set u true ∙ x.explored.frontier.set;
          dist = x.explored.frontier.dist;
          by = x.explored.frontier.by;
          source = x.explored.frontier.source;
        };
        source_at = x.explored.source_at;
        trails = λ v r.
            let w = x.explored.trails v (record { nonneg = r.nonneg }) in
            record {
              hops = w.hops;
              ends = w.ends;
              trail = keeps_trail l (set l.set u true) l.dist l.by now_done (λ n k. record { distance_is = refl; by_is = refl }) w.hops (record { distance_is = refl; by_is = refl }) w.trail;
            };
        near = λ v d. elim (cases_eq v u) [
          | inl q ↦ (record { nonneg = subst (λ n. pos 0 ≤ℤ distance l n) (sym q) t.reached.nonneg }, subst (λ n. distance l n ≤ℤ distance l u) (sym q) (omega (arith, ints)))
          | inr q ↦ (let n = x.explored.near v (sym (get_or-set_other l.set u v true false q) ∙ d) in
              (record { nonneg = n.0.nonneg }, omega (arith, ints, n.1, horizon_on)))
        ];
        far = λ v r f. elim (cases_eq v u) [
          | inl q ↦ absurd (let e = subst (λ n. in_set (set l.set u true) n ≡ false) q f in let g = get_or-set_same l.set u true false in' in cc)
          | inr q ↦ t.nearest v (record { nonneg = r.nonneg }) (sym (get_or-set_other l.set u v true false q) ∙ f)
        ];
        small = λ v r. wider (limit_of l) (limit_of (with_settled l u)) (cost_to value step s l v) (omega (arith, ints, more)) (x.explored.small v (record { nonneg = r.nonneg }));
      } in
      rw t.new_is
      (record {
        explored = explored;
        done = get_or-set_same l.set u true false in';
        small = wider (limit_of l) (limit_of (with_settled l u) -ℤ slope_limit) (cost_to value step s l u) (omega (arith, ints, more)) (x.explored.small u t.reached);
      })

  -- each other settled node is still relaxed, and no sink
  pub others_relaxed : (l m : Labels) (u v : ℕ) → IsSearched value step s l → Takes l m u → IsDone m v → v ≢ u → RelaxesAll value step s m v
  others_relaxed l m u v x t d h =
      let d' : in_set (set l.set u true) v ≡ true = subst (λ n. IsDone n v) t.new_is d in
      let r = x.relaxed v (sym (get_or-set_other l.set u v true false h) ∙ d') in
      rw t.new_is (λ m w price e. let k = r m w price e in record { reached = record { nonneg = k.reached.nonneg }; short = k.short })

  pub others_no_sink : (l m : Labels) (u v : ℕ) → IsSearched value step s l → Takes l m u → IsDone m v → v ≢ u → IsSink s step v → ⊥
  others_no_sink l m u v x t d h k =
      let d' : in_set (set l.set u true) v ≡ true = subst (λ n. IsDone n v) t.new_is d in
      x.no_sink v (sym (get_or-set_other l.set u v true false h) ∙ d') k

  -- the node has been relaxed too
  pub searched_on : (l m n : Labels) (u : ℕ) → IsSearched value step s l → Takes l m u → (IsSink s step u → ⊥) → IsRelaxing value step s n u → IsLowered m n → RelaxesAll value step s n u →
      IsSearched value step s n
  searched_on l m n u x t dry r low all =
      let back : (v : ℕ) → IsDone n v → IsDone m v = λ v d. ap (λ z. in_set z v) (sym low.set) ∙ d in
      record {
        horizon = distance n u;
        explored = r.explored;
        relaxed = λ v d. elim (cases_eq v u) [
          | inl q ↦ subst (λ z. RelaxesAll value step s n z) (sym q) all
          | inr q ↦ (let o = others_relaxed l m u v x t (back v d) q in λ k w price e. still_relaxed m n v w price low (back v d) (o k w price e))
        ];
        no_sink = λ v d k. elim (cases_eq v u) [
          | inl q ↦ dry (subst (λ z. IsSink s step z) q k)
          | inr q ↦ others_no_sink l m u v x t (back v d) q k
        ];
      }

  -- ---- a move of the node that is being relaxed
  edge_alone : (up : Bool) (a u v w : ℕ) (p q : ℤ) → IsEdge value step s (record { arc = a; up = up }) u v p → IsEdge value step s (record { arc = a; up = up }) u w q → (v ≡ w) × (p ≡ q)
  edge_alone true a u v w p q e f =
      let i : e.arc ≡ f.arc = read_once s.graph.arcs a e.arc f.arc e.has.arc_is f.has.arc_is in
      let j : e.cost ≡ f.cost = read_once s.costs a e.cost f.cost e.has.cost_is f.has.cost_is in
      let n : e.number ≡ f.number = read_once s.flows a e.number f.number e.has.number_is f.has.number_is in
      (e.to_is ∙ ap (λ z. z.head) i ∙ sym f.to_is, e.price_is ∙ ap (λ z. slope_up (value z) step e.number) j ∙ ap (λ z. slope_up (value f.cost) step z) n ∙ sym f.price_is)
  edge_alone false a u v w p q e f =
      let i : e.arc ≡ f.arc = read_once s.graph.arcs a e.arc f.arc e.has.arc_is f.has.arc_is in
      let j : e.cost ≡ f.cost = read_once s.costs a e.cost f.cost e.has.cost_is f.has.cost_is in
      let n : e.number ≡ f.number = read_once s.flows a e.number f.number e.has.number_is f.has.number_is in
      (e.to_is ∙ ap (λ z. z.tail) i ∙ sym f.to_is, e.price_is ∙ ap (λ z. neg_ℤ (slope_down (value z) step e.number)) j ∙ ap (λ z. neg_ℤ (slope_down (value f.cost) step z)) n ∙ sym f.price_is)

  all_of_move : (n : Labels) (u v : ℕ) (m : Move) (price : ℤ) → IsEdge value step s m u v price → IsRelaxed value step s n u v price → RelaxesMove value step s n u m
  all_of_move n u v m price e r w q f =
      let k = edge_alone m.up m.arc u v w price q e f in
      subst (λ z. IsRelaxed value step s n u z q) k.0 (subst (λ z. IsRelaxed value step s n u v z) k.1 r)

  pub relaxed_move : (l : Labels) (u v : ℕ) (m : Move) (price d : ℤ) → IsRelaxing value step s l u → v < length s.graph.nodes → IsEdge value step s m u v price →
      IsWithin slope_limit price → d ≡ distance l u +ℤ length_of s u v price → pos 0 ≤ℤ length_of s u v price → (n : Labels) →
      Declines l n v d ⊎ Accepts l n v d (record { 0 = m.arc }) → IsRelaxing value step s n u × IsLowered l n × RelaxesMove value step s n u m
  relaxed_move l u v m price d r there e cheap dis long n (inl a) =
      let k = declined l u v price d r dis n a in (k.0, k.1, all_of_move n u v m price e k.2)
  relaxed_move l u v m price d r there e cheap dis long n (inr a) =
      let k = accepted l u v m price d r there e cheap dis long n a in (k.0, k.1, all_of_move n u v m price e k.2)

  -- ---- both moves of the next arc
  first_or_later : (a : ArcId) (xs : List ArcId) (y : ArcId) → Contains (a ∷ xs) y → (a ≡ y) ⊎ Contains xs y
  first_or_later a xs y (zero, l, e) = inl e
  first_or_later a xs y (suc k, l, e) = inr (k, omega (arith, l), e)

  relaxes_same : (n : Labels) (u a : ℕ) (up : Bool) (m : Move) → a ≡ m.arc → up ≡ m.up → RelaxesMove value step s n u (record { arc = a; up = up }) → RelaxesMove value step s n u m
  relaxes_same n u a up m e f r =
      subst (λ z. RelaxesMove value step s n u (record { arc = m.arc; up = z })) f (subst (λ z. RelaxesMove value step s n u (record { arc = z; up = up })) e r)

  pub next_edges : (l m n : Labels) (u : ℕ) (all : List ArcId) (a : ArcId) (rest : List ArcId) → all ≡ a ∷ rest → IsDone l u → IsDone m u → IsLowered l m → IsLowered m n →
      RelaxesMove value step s m u (record { arc = a.0; up = true }) → RelaxesMove value step s n u (record { arc = a.0; up = false }) →
      ((k : Move) (v : ℕ) (price : ℤ) → IsEdge value step s k u v price → Contains all (record { 0 = k.arc }) ⊎ IsRelaxed value step s l u v price) →
      (k : Move) (v : ℕ) (price : ℤ) → IsEdge value step s k u v price → Contains rest (record { 0 = k.arc }) ⊎ IsRelaxed value step s n u v price
  next_edges l m n u all a rest e dl dm low low2 up down before k v price edge = elim (before k v price edge) [
    | inr r ↦ inr (still_relaxed l n u v price (lowered_twice l m n low low2) dl r)
    | inl c ↦ elim (first_or_later a rest (record { 0 = k.arc }) (subst (λ z. Contains z (record { 0 = k.arc })) e c)) [
      | inr w ↦ inl w
      | inl w ↦ elim (false_or_true k.up) [
        | inl f ↦ inr (relaxes_same n u a.0 false k (ap (λ z. z.0) w) (sym f) down v price edge)
        | inr t ↦ inr (still_relaxed m n u v price low2 dm (relaxes_same m u a.0 true k (ap (λ z. z.0) w) (sym t) up v price edge))
      ]
    ]
  ]

  -- ---- the measure
  pub more_settled : (l m : Labels) (u : ℕ) → u < length l.set → Takes l m u → count_by (λ b. b) m.set ≡ count_by (λ b. b) l.set + 1
  more_settled l m u h t =
      let e = sum_by-set one_if l.set u true false h in
      let f = ap one_if t.waiting in
      let g : m.set ≡ set l.set u true = ap (λ z. z.set) t.new_is in
      rw g (omega (arith, e, f))
