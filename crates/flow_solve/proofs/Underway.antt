-- What many steps leave, one after another.
use Rattle.std.proofs.Common.{◌≡◌, ◌↔◌, true, ℕ, ◌+◌, ◌-◌, ◌<◌, Bool, List, length, slice_get, Some, refl, ap, sym, subst, ◌∙◌, arith, add-one, ℤ, pos, negsuc, ◌+ℤ◌, ◌-ℤ◌, ◌*ℤ◌, ◌≤ℤ◌, ◌<ℤ◌}
use Rattle.std.specs.Prelude.{unsigned_abs}
use Rattle.std.proofs.Math.IntN.{suc_ℤ-*ℤ}
use Rattle.std.proofs.lemmas.Int.{ints}
use Rattle.flow_cost.specs.Cost.{IsWithin, IsLawful}
use Rattle.flow_cost.specs.Integers.{mul-one}
use Rattle.flow_graph.specs.Circulation.{excess}
use Rattle.flow_graph.specs.Condition.{ShowsLeast}
use Rattle.flow_graph.proofs.Lookups.{read_once}
use Rattle.flow_residual.specs.declared.rooms.Room.{Room}
use Rattle.flow_residual.specs.Flows.{Flow, IsFlowOf, IsStep, MeetsAll, SettlesTo, excess_of, only_at}
use Rattle.flow_residual.specs.Path.{Move, IsSink, Reaches, after_moves}
use Rattle.flow_residual.specs.Rooms.{HoldsPath, KeepsShown}
use Rattle.flow_residual.proofs.Kept.{same_length_read}
use Rattle.flow_residual.proofs.Augmented.{flows_near, length_after, path_excess}
use Rattle.flow_solve.specs.Bounds.{surplus_below, StaysWithin, surplus, FewTicks, NearSettled}
use Rattle.flow_solve.specs.Progress.{Augments, Stays, IsUnderway, IsClosedOff}
use Rattle.flow_solve.specs.Scales.{IsShut}
use Rattle.flow_solve.proofs.Shut.{shut_after, shut_priced}
use Rattle.flow_solve.proofs.Sums.{surplus_low, surplus_falls, source_falls, still_spent, all_balanced}
use Rattle.flow_solve.proofs.Unique.{settles_alone}

-- ---- numbers
abs_within : (e d : ℤ) → pos (unsigned_abs d) ≤ℤ e → IsWithin e d
abs_within e (pos n) h = record { low = omega (arith, ints, h); high = h }
abs_within e (negsuc n) h = record { low = omega (arith, ints, h); high = omega (arith, ints, h) }

within_abs : (e d : ℤ) → IsWithin e d → pos (unsigned_abs d) ≤ℤ e
within_abs e (pos n) w = w.high
within_abs e (negsuc n) w = omega (arith, ints, w.low)

count_more : (k : ℕ) (step : ℤ) → pos (k + 1) *ℤ step ≡ pos k *ℤ step +ℤ step
count_more k step = rw add-one (omega (arith, ints, suc_ℤ-*ℤ (pos k) step))

-- an excess that falls by the step is nearer to 0
pub abs_less : (e f step : ℤ) → pos 1 ≤ℤ step → step ≤ℤ e → f ≡ e -ℤ step → unsigned_abs f < unsigned_abs e
abs_less (pos m) (pos k) step l h e = omega (arith, ints, l, h, e)
abs_less (pos m) (negsuc k) step l h e = absurd (omega (arith, ints, l, h, e))
abs_less (negsuc m) f step l h e = absurd (omega (arith, ints, l, h))

-- ---- flows that stay near
near_none : (xs : List ℤ) (d : ℤ) → d ≡ pos 0 → StaysWithin d xs xs
near_none xs d e a x y h k = let q = read_once xs a x y h k in within_abs d (y -ℤ x) (record { low = omega (arith, ints, q, e); high = omega (arith, ints, q, e) })

near_more : (xs ys zs : List ℤ) (d e f : ℤ) → length ys ≡ length xs → f ≡ d +ℤ e → StaysWithin d xs ys → StaysWithin e ys zs → StaysWithin f xs zs
near_more xs ys zs d e f counted sum h k a x z hx hz =
    let y = same_length_read ys xs a x counted hx in
    let p = abs_within d (y.0 -ℤ x) (h a x y.0 hx y.1) in
    let q = abs_within e (z -ℤ y.0) (k a y.0 z y.1 hz) in
    within_abs f (z -ℤ x) (record { low = omega (arith, ints, p.low, q.low, sum); high = omega (arith, ints, p.high, q.high, sum) })

near_wider : (xs ys : List ℤ) (d e : ℤ) → d ≤ℤ e → StaysWithin d xs ys → StaysWithin e xs ys
near_wider xs ys d e l h a x y hx hy = let p = h a x y hx hy in omega (arith, ints, p, l)

module _ {N A C : Type 0} where
  abbrev changed : Flow N A C → List ℤ → List ℤ → Flow N A C
  changed s flows potentials = record s { flows = flows; potentials = potentials }

  -- nothing but flows and potentials changed, twice
  pub rest_on : (a b c : Flow N A C) → b ≡ record a { flows = b.flows; potentials = b.potentials } → c ≡ record b { flows = c.flows; potentials = c.potentials } → c ≡ record a { flows = c.flows; potentials = c.potentials }
  rest_on a b c p q = q ∙ ap (λ (z : Flow N A C). changed z c.flows c.potentials) p

  pub rest_flows : (a b : Flow N A C) → b ≡ record a { flows = b.flows } → b ≡ record a { flows = b.flows; potentials = b.potentials }
  rest_flows a b p = subst (λ z. b ≡ record a { flows = b.flows; potentials = z }) (sym (ap (λ (z : Flow N A C). z.potentials) p)) p

module _ {N A C : Type 0} (value : C → ℤ → ℤ) (step : ℤ) where
  pub underway_none : (s : Flow N A C) (t : ℕ) → MeetsAll value step s → IsUnderway value step s s t t
  underway_none s t m = record {
    rest = refl;
    counted = refl;
    condition = m;
    counts_up = omega arith;
    balance = refl;
    near = near_none s.flows (pos t *ℤ step -ℤ pos t *ℤ step) (omega (arith, ints));
    spent = λ n l h. h;
    shut = λ set h. h;
  }

  pub underway_stays : (s now : Flow N A C) (t : ℕ) → Stays value step s now → IsUnderway value step s now t t
  underway_stays s now t h = subst (λ z. MeetsAll value step z → IsUnderway value step s z t t) (sym h.rest) (λ m. record {
    rest = refl;
    counted = refl;
    condition = m;
    counts_up = omega arith;
    balance = refl;
    near = near_none s.flows (pos t *ℤ step -ℤ pos t *ℤ step) (omega (arith, ints));
    spent = λ n l k. k;
    shut = λ set k. shut_priced step s now.potentials set k;
  }) h.condition

  -- one step
  module _ (s : Flow N A C) (source t : ℕ) (low : pos 1 ≤ℤ step) (there : source < length s.graph.nodes) (enough : step ≤ℤ excess_of s source) where
    one_step : (flows potentials : List ℤ) → Augments value step s (changed s flows potentials) source → IsUnderway value step s (changed s flows potentials) t (t + 1)
    one_step flows potentials h =
        let m = count_more t step in
        let f = surplus_falls s.graph.arcs s.flows flows (length s.graph.nodes) source h.last step low there enough h.sink h.excess in
        record {
          rest = refl;
          counted = h.counted;
          condition = h.condition;
          counts_up = omega arith;
          balance = omega (arith, ints, m, f);
          near = near_wider s.flows flows step _ (omega (arith, ints, m)) h.near;
          spent = still_spent s.graph.arcs s.flows flows (length s.graph.nodes) source h.last step low there enough h.sink h.excess;
          shut = h.shut;
        }

    pub underway_step : (now : Flow N A C) → Augments value step s now source → IsUnderway value step s now t (t + 1)
    underway_step now h = subst (λ z. Augments value step s z source → IsUnderway value step s z t (t + 1)) (sym h.rest) (one_step now.flows now.potentials) h

    less : (flows potentials : List ℤ) → Augments value step s (changed s flows potentials) source → unsigned_abs (excess_of (changed s flows potentials) source) < unsigned_abs (excess_of s source)
    less flows potentials h = abs_less (excess_of s source) (excess s.graph.arcs flows source) step low enough
        (source_falls s.graph.arcs s.flows flows (length s.graph.nodes) source h.last step low there enough h.sink h.excess)

    -- the measure of the loop
    pub excess_less : (now : Flow N A C) → Augments value step s now source → unsigned_abs (excess_of now source) < unsigned_abs (excess_of s source)
    excess_less now h = subst (λ z. Augments value step s z source → unsigned_abs (excess_of z source) < unsigned_abs (excess_of s source)) (sym h.rest) (less now.flows now.potentials) h

  -- the graph stays
  pub same_graph : (s now : Flow N A C) (t u : ℕ) → IsUnderway value step s now t u → now.graph ≡ s.graph
  same_graph s now t u h = ap (λ (z : Flow N A C). z.graph) h.rest

  pub same_nodes : (s now : Flow N A C) (t u : ℕ) → IsUnderway value step s now t u → length now.graph.nodes ≡ length s.graph.nodes
  same_nodes s now t u h = ap (λ (z : Flow N A C). length z.graph.nodes) h.rest

  pub underway_on : (a b c : Flow N A C) (t u v : ℕ) → IsUnderway value step a b t u → IsUnderway value step b c u v → IsUnderway value step a c t v
  underway_on a b c t u v h k = record {
    rest = rest_on a b c h.rest k.rest;
    counted = k.counted ∙ h.counted;
    condition = k.condition;
    counts_up = omega (arith, h.counts_up, k.counts_up);
    balance = let p = h.balance in let q = k.balance in omega (arith, ints, p, q);
    near = near_more a.flows b.flows c.flows (pos u *ℤ step -ℤ pos t *ℤ step) (pos v *ℤ step -ℤ pos u *ℤ step) (pos v *ℤ step -ℤ pos t *ℤ step) h.counted (omega (arith, ints)) h.near k.near;
    spent = λ n l m. k.spent n (let e = same_nodes a b t u h in omega (arith, e, l)) (h.spent n l m);
    shut = λ set m. k.shut set (h.shut set m);
  }

  -- ---- what the calls did together
  pub stays_from : (s near now : Flow N A C) → near ≡ record s { potentials = near.potentials } → now ≡ near → MeetsAll value step now → Stays value step s now
  stays_from s near now p q m = record { rest = subst (λ z. z ≡ record s { potentials = z.potentials }) (sym q) p; condition = m }

-- closing gaps keeps the condition at every step
pub shown_meets : {N A C : Type 0} (value : C → ℤ → ℤ) (old new : Flow N A C) → KeepsShown value old new → new ≡ record old { potentials = new.potentials } → (step : ℤ) → IsStep step → MeetsAll value step old → MeetsAll value step new
shown_meets value old new k rest step st m = subst (λ z. KeepsShown value old z → MeetsAll value step z) (sym rest) (λ shown a arc c x h. shown.condition step st a arc c x h (m a arc c x h)) k

-- a search from a state whose potentials alone have changed, and a step along its path
pub augments_from : {N A C : Type 0} (node_eq : N → N → Bool) (arc_eq : A → A → Bool) (span : C → ℤ) (value : C → ℤ → ℤ) (step : ℤ) (s near found now : Flow N A C) (source : ℕ) (room : Room) →
    pos 1 ≤ℤ step → near ≡ record s { potentials = near.potentials } → found ≡ record near { potentials = found.potentials } → (ms : List Move) → HoldsPath found step room ms →
    room.source.0 ≡ source → room.last.0 < length found.graph.nodes → IsSink found step room.last.0 → now ≡ record found { flows = after_moves step ms found.flows } →
    MeetsAll value step now → IsFlowOf node_eq arc_eq span found → Augments value step s now source
augments_from {N = N} {A = A} {C = C} node_eq arc_eq span value step s near found now source room low p q ms h es there sink r m kept' =
    let same : found ≡ record s { potentials = found.potentials } = q ∙ ap (λ (z : Flow N A C). record z { potentials = found.potentials }) p in
    let flows_are : found.flows ≡ s.flows = ap (λ (z : Flow N A C). z.flows) same in
    let arcs_are : found.graph ≡ s.graph = ap (λ (z : Flow N A C). z.graph) same in
    let excess_are : (n : ℕ) → excess_of found n ≡ excess_of s n = λ n. ap (λ (z : Flow N A C). excess_of z n) same in
    let now_flows : now.flows ≡ after_moves step ms found.flows = ap (λ (z : Flow N A C). z.flows) r in
    record {
      last = room.last.0;
      there = subst (λ z. room.last.0 < length z.nodes) arcs_are there;
      sink = let e = excess_are room.last.0 in omega (arith, ints, e, sink);
      rest = now_is s found now (after_moves step ms found.flows) same r;
      counted = ap length now_flows ∙ length_after found step ms found.flows ∙ ap length flows_are;
      excess = λ n l.
          let e : excess_of now n ≡ excess found.graph.arcs (after_moves step ms found.flows) n = ap (λ (z : Flow N A C). excess_of z n) r in
          let f = path_excess found step room.source.0 room.last.0 ms h.path.by_way_of found.flows n kept'.counted h.path.leads in
          let k = excess_are n in
          subst (λ z. excess_of now n ≡ (excess_of s n -ℤ only_at z step n) +ℤ only_at room.last.0 step n) es (omega (arith, ints, e, f, k));
      near = λ a x y hx hy. within_abs step (y -ℤ x)
          (flows_near node_eq arc_eq span step found room ms kept' low h a x y (subst (λ z. slice_get z a ≡ Some x) (sym flows_are) hx) (subst (λ z. slice_get z a ≡ Some y) now_flows hy));
      condition = m;
      shut = λ set k. subst (λ z. IsShut step z set) (sym r)
          (shut_after node_eq arc_eq span step found set room.source.0 room.last.0 ms kept' h.path there sink (subst (λ z. IsShut step z set) (sym same) (shut_priced step s found.potentials set k)));
    }
  where
    now_is : {N A C : Type 0} (s found now : Flow N A C) (xs : List ℤ) → found ≡ record s { potentials = found.potentials } → now ≡ record found { flows = xs } → now ≡ record s { flows = now.flows; potentials = now.potentials }
    now_is {N = N} {A = A} {C = C} s found now xs p r =
        let outer : now ≡ record s { flows = xs; potentials = found.potentials } = r ∙ ap (λ (z : Flow N A C). record z { flows = xs }) p in
        let f : now.flows ≡ xs = ap (λ (z : Flow N A C). z.flows) r in
        let g : now.potentials ≡ found.potentials = ap (λ (z : Flow N A C). z.potentials) r in
        subst (λ u. now ≡ record s { flows = u; potentials = now.potentials }) (sym f) (subst (λ u. now ≡ record s { flows = xs; potentials = u }) (sym g) outer)

-- a search that ends with no path, from a state whose potentials alone have changed
pub closed_from : {N A C : Type 0} (step : ℤ) (s near found : Flow N A C) (source : ℕ) (set : List Bool) → near ≡ record s { potentials = near.potentials } → found ≡ near → source < length s.graph.nodes → step ≤ℤ excess_of s source →
    ((n : ℕ) → n < length near.graph.nodes → (slice_get set n ≡ Some true) ↔ Reaches near step source n) → ((n : ℕ) → n < length near.graph.nodes → IsSink near step n → Reaches near step source n → ⊥) → IsClosedOff step found source set
closed_from {N = N} {A = A} {C = C} step s near found source set p q there enough members no_sink =
    let nodes_are : length near.graph.nodes ≡ length s.graph.nodes = ap (λ (z : Flow N A C). length z.graph.nodes) p in
    let excess_is : excess_of near source ≡ excess_of s source = ap (λ (z : Flow N A C). excess_of z source) p in
    subst (λ z. IsClosedOff step z source set) (sym q) (record { there = omega (arith, nodes_are, there); excess = omega (arith, ints, excess_is, enough); members = members; no_sink = no_sink })

-- ---- at the end
-- where no excess is left, the flows are least
pub least_from : {N A C : Type 0} (node_eq : N → N → Bool) (arc_eq : A → A → Bool) (span : C → ℤ) (value : C → ℤ → ℤ) (start now : Flow N A C) (t u : ℕ) → IsUnderway value (pos 1) start now t u → IsFlowOf node_eq arc_eq span now →
    ((n : ℕ) → n < length now.graph.nodes → excess_of now n <ℤ pos 1) → ShowsLeast value (length now.graph.nodes) now.graph.arcs now.costs now.flows now.potentials
least_from node_eq arc_eq span value start now t u h k spent = record { circulation = record { bounded = k.bounded; balanced = all_balanced (length now.graph.nodes) now.graph.arcs now.flows k.network.arcs_fit spent }; condition = h.condition }

-- a state that was left alone
pub underway_from : {N A C : Type 0} (value : C → ℤ → ℤ) (settled middle now : Flow N A C) (before between after : ℕ) → (surplus settled settled.flows ≤ℤ pos 4_096 → (middle ≡ settled) × (between ≡ before)) → IsUnderway value (pos 1) middle now between after →
    surplus settled settled.flows ≤ℤ pos 4_096 → IsUnderway value (pos 1) settled now before after
underway_from value settled middle now before between after stays u few =
    let e = stays few in
    subst (λ t. IsUnderway value (pos 1) settled now t after) e.1 (subst (λ z. IsUnderway value (pos 1) z now between after) e.0 u)

module _ {N A C : Type 0} (node_eq : N → N → Bool) (arc_eq : A → A → Bool) (span : C → ℤ) (value : C → ℤ → ℤ) (law : (c : C) → IsLawful (value c) (span c)) (old settled now : Flow N A C) (before after : ℕ)
    (kept_old : IsFlowOf node_eq arc_eq span old) (settles : SettlesTo value (pos 1) old settled.flows) (settled_is : settled ≡ record old { flows = settled.flows }) where
  pub surplus_is : (xs : List ℤ) → SettlesTo value (pos 1) old xs → surplus settled settled.flows ≡ surplus old xs
  surplus_is xs h =
      let e = settles_alone node_eq arc_eq value span old settled.flows xs law kept_old settles h in
      let g : settled.graph ≡ old.graph = ap (λ (z : Flow N A C). z.graph) settled_is in
      ap (λ z. surplus_below z.arcs settled.flows (length z.nodes)) g ∙ ap (λ z. surplus_below old.graph.arcs z (length old.graph.nodes)) e

  spent_is : IsUnderway value (pos 1) settled now before after → pos (after - before) ≤ℤ surplus settled settled.flows
  spent_is u =
      let b = u.balance in
      let p = mul-one (pos after) in
      let q = mul-one (pos before) in
      let l = surplus_low now.graph.arcs now.flows (length now.graph.nodes) in
      omega (arith, ints, b, p, q, l, u.counts_up)

  module _ (few_steps : surplus settled settled.flows ≤ℤ pos 4_096 → IsUnderway value (pos 1) settled now before after) where
    few_at : (xs : List ℤ) → SettlesTo value (pos 1) old xs → surplus old xs ≤ℤ pos 4_096 → IsUnderway value (pos 1) settled now before after
    few_at xs h few = few_steps (let k = surplus_is xs h in omega (arith, ints, k, few))

    pub few_from : FewTicks value old (after - before)
    few_from xs h few = subst (λ z. pos (after - before) ≤ℤ z) (surplus_is xs h) (spent_is (few_at xs h few))

    pub near_from : NearSettled value old now.flows
    near_from xs h few =
        let u = few_at xs h few in
        let e = settles_alone node_eq arc_eq value span old settled.flows xs law kept_old settles h in
        let p = mul-one (pos after) in
        let q = mul-one (pos before) in
        let s = spent_is u in
        subst (λ z. StaysWithin (surplus old xs) z now.flows) e
        (near_wider settled.flows now.flows (pos after *ℤ pos 1 -ℤ pos before *ℤ pos 1) (surplus old xs) (let k = surplus_is xs h in omega (arith, ints, p, q, s, k, u.counts_up)) u.near)
