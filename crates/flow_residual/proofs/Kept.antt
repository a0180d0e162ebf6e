-- What every state keeps, where flows, one arc or potentials change.
use Rattle.std.proofs.Common.{◌≡◌, ℕ, zero, suc, ◌*◌, ◌^◌, ◌<◌, ◌≤◌, Bool, ◌==◌, if◌then◌else◌, List, length, set, get_or, slice_get, Some, All, inl, inr, refl, ap, sym, subst, ◌∙◌, arith, ℤ, pos, negsuc, ◌+ℤ◌, ◌-ℤ◌, neg_ℤ, ◌≤ℤ◌, length-set, IsSomeAnd}
use Rattle.std.proofs.lemmas.Int.{ints, clamps}
use Rattle.std.proofs.lemmas.Bool.{cases_eq}
use Rattle.std.specs.List.{AllZip}
use Rattle.std.proofs.lemmas.List.Elements.{recursion_from_All, All-from_get_or, All-set}
use Rattle.std.proofs.lemmas.List.{get_or_read}
use Rattle.std.proofs.lemmas.Option.{slice_get-get_or, get_or_from_slice_get, slice_get_within, slice_get_cases, slice_get_read}
use Rattle.flow_cost.specs.Cost.{IsWithin, IsLawful}
use Rattle.flow_cost.specs.Settle.{IsSettled}
use Rattle.flow_cost.specs.Condition.{MeetsCondition}
use Rattle.flow_cost.proofs.Rounding.{settled_meets}
use Rattle.flow_graph.specs.declared.arcs.Arc.{Arc}
use Rattle.flow_graph.specs.Network.{Network, IsNetwork, IsArcAmong, AreBounds}
use Rattle.flow_graph.specs.Updates.{SetsBounds}
use Rattle.flow_graph.specs.Circulation.{IsFlow, excess}
use Rattle.flow_graph.specs.Condition.{rise, FitSpans}
use Rattle.flow_graph.proofs.Bounded.{all_flows, flow_at}
use Rattle.flow_graph.proofs.Grown.{among_at}
use Rattle.flow_graph.proofs.Lookups.{read_once, slice_get-set_other, slice_get-set_same, some_and}
use Rattle.flow_residual.specs.Flows.{Flow, IsFlowOf, IsKept, MeetsAll, SettlesTo, nearest_within}
use Rattle.flow_residual.specs.Excess.{arc_adds}
use Rattle.flow_residual.proofs.Excesses.{zip_length}
use Rattle.flow_residual.proofs.Changes.{excess_set, excess_bounds, excess_small}

pub small_range : (n : ℕ) (x : ℤ) → n ≤ 524_288 → IsWithin (pos (n * 2 ^ 61)) x → IsWithin (pos (2 ^ 90)) x
small_range n x l w = record { low = omega (arith, ints, w.low, l); high = omega (arith, ints, w.high, l) }

-- what is read within a list
pub read_at : {X : Type 0} (xs : List X) (i n : ℕ) → length xs ≡ n → i < n → (x : X) × (slice_get xs i ≡ Some x)
read_at xs i n e l = elim (slice_get_cases xs i).1 [
  | inl h ↦ (h.0, h.2)
  | inr h ↦ absurd (omega (arith, e, l, h.0))
]

pub same_length_read : {X Y : Type 0} (xs : List X) (ys : List Y) (i : ℕ) (y : Y) → length xs ≡ length ys → slice_get ys i ≡ Some y → (x : X) × (slice_get xs i ≡ Some x)
same_length_read xs ys i y e h = read_at xs i (length ys) e (slice_get_within ys i y h)

module _ {N A C : Type 0} (node_eq : N → N → Bool) (arc_eq : A → A → Bool) (span : C → ℤ) where
  pub excesses_small : (s : Flow N A C) (excesses : List ℤ) → IsKept node_eq arc_eq span s excesses → All (IsWithin (pos (2 ^ 90))) excesses
  excesses_small s excesses k = All-from_get_or (IsWithin (pos (2 ^ 90))) excesses (pos 0) (λ i l.
      let there : i < length s.graph.nodes = omega (arith, l, k.counted) in
      let e = get_or_from_slice_get excesses i (excess s.graph.arcs s.flows i) (pos 0) (k.each i there) in
      let w = excess_small (length s.graph.nodes) s.graph.arcs s.flows i (recursion_from_All (IsArcAmong (length s.graph.nodes)) s.graph.arcs k.flow.network.arcs_fit) k.flow.bounded in
      subst (λ z. IsWithin (pos (2 ^ 90)) z) (sym e) (small_range (length s.graph.arcs) _ k.flow.network.arc_limit w))

  -- flows within their bounds, with the excesses that they leave
  pub kept_flows : (s : Flow N A C) (flows excesses : List ℤ) → IsFlowOf node_eq arc_eq span s → length flows ≡ length s.graph.arcs → AllZip IsFlow s.graph.arcs flows →
      length excesses ≡ length s.graph.nodes → ((n : ℕ) → n < length s.graph.nodes → get_or excesses n (pos 0) ≡ excess s.graph.arcs flows n) →
      IsKept node_eq arc_eq span (record s { flows = flows }) excesses
  kept_flows s flows excesses k e bounded counted each = record {
    flow = record { network = k.network; spans = k.spans; counted = e; bounded = bounded; potentials = k.potentials };
    counted = counted;
    each = λ n l. slice_get-get_or excesses n (pos 0) (omega (arith, l, counted)) ∙ ap Some (each n l);
  }

  -- other potentials in range
  pub kept_potentials : (s : Flow N A C) (excesses potentials : List ℤ) → IsKept node_eq arc_eq span s excesses → length potentials ≡ length s.potentials → All (IsWithin (pos (10 ^ 24))) potentials →
      IsKept node_eq arc_eq span (record s { potentials = potentials }) excesses
  kept_potentials s excesses potentials k e w = record {
    flow = record { network = k.flow.network; spans = k.flow.spans; counted = k.flow.counted; bounded = k.flow.bounded; potentials = record { counted = e ∙ k.flow.potentials.counted; within = w } };
    counted = k.counted;
    each = k.each;
  }

-- one flow changes, within its arc's bounds
pub zip_set : (arcs : List Arc) (flows : List ℤ) (a : ℕ) (arc : Arc) (x y : ℤ) → slice_get arcs a ≡ Some arc → slice_get flows a ≡ Some x → AllZip IsFlow arcs flows → IsFlow arc y → AllZip IsFlow arcs (set flows a y)
zip_set arcs flows a arc x y arc_is flow_is z f = all_flows arcs (set flows a y) (length-set flows a y ∙ zip_length arcs flows z) (λ b other v h k. elim (cases_eq b a) [
  | inl q ↦ (let i : arc ≡ other = read_once arcs a arc other arc_is (subst (λ n. slice_get arcs n ≡ Some other) q h) in
      let j : y ≡ v = read_once (set flows a y) a y v (slice_get-set_same flows a y (slice_get_within flows a x flow_is)) (subst (λ n. slice_get (set flows a y) n ≡ Some v) q k) in
      rw (← i, ← j) f)
  | inr q ↦ flow_at arcs flows b other v z h (sym (slice_get-set_other flows a b y q) ∙ k)
])

-- the same, where the bounds change too
pub zip_set_both : (arcs : List Arc) (flows : List ℤ) (a : ℕ) (arc new : Arc) (x y : ℤ) → slice_get arcs a ≡ Some arc → slice_get flows a ≡ Some x → AllZip IsFlow arcs flows → IsFlow new y → AllZip IsFlow (set arcs a new) (set flows a y)
zip_set_both arcs flows a arc new x y arc_is flow_is z f = all_flows (set arcs a new) (set flows a y) (length-set flows a y ∙ zip_length arcs flows z ∙ sym (length-set arcs a new)) (λ b other v h k. elim (cases_eq b a) [
  | inl q ↦ (let i : new ≡ other = read_once (set arcs a new) a new other (slice_get-set_same arcs a new (slice_get_within arcs a arc arc_is)) (subst (λ n. slice_get (set arcs a new) n ≡ Some other) q h) in
      let j : y ≡ v = read_once (set flows a y) a y v (slice_get-set_same flows a y (slice_get_within flows a x flow_is)) (subst (λ n. slice_get (set flows a y) n ≡ Some v) q k) in
      rw (← i, ← j) f)
  | inr q ↦ flow_at arcs flows b other v z (sym (slice_get-set_other arcs a b new q) ∙ h) (sym (slice_get-set_other flows a b y q) ∙ k)
])

module _ {N A C : Type 0} (node_eq : N → N → Bool) (arc_eq : A → A → Bool) (span : C → ℤ) (s : Flow N A C) (excesses new_excesses : List ℤ) (a : ℕ) (arc : Arc) (x y : ℤ)
    (kept : IsKept node_eq arc_eq span s excesses) (arc_is : slice_get s.graph.arcs a ≡ Some arc) (flow_is : slice_get s.flows a ≡ Some x)
    (counted : length new_excesses ≡ length excesses)
    (carried : (n : ℕ) → n < length excesses → get_or new_excesses n (pos 0) ≡ get_or excesses n (pos 0) +ℤ arc_adds arc.tail arc.head (y -ℤ x) n) where
  excess_then : (n : ℕ) → n < length s.graph.nodes → get_or new_excesses n (pos 0) ≡ excess s.graph.arcs (set s.flows a y) n
  excess_then n l =
      carried n (omega (arith, l, kept.counted))
      ∙ ap (λ z. z +ℤ arc_adds arc.tail arc.head (y -ℤ x) n) (get_or_from_slice_get excesses n (excess s.graph.arcs s.flows n) (pos 0) (kept.each n l))
      ∙ sym (excess_set s.graph.arcs s.flows a arc x y n arc_is flow_is)

  -- the flow of one arc moves
  pub kept_flow : IsFlow arc y → IsKept node_eq arc_eq span (record s { flows = set s.flows a y }) new_excesses
  kept_flow f = kept_flows node_eq arc_eq span s (set s.flows a y) new_excesses kept.flow (length-set s.flows a y ∙ kept.flow.counted)
      (zip_set s.graph.arcs s.flows a arc x y arc_is flow_is kept.flow.bounded f) (counted ∙ kept.counted) excess_then

  module _ (c : C) (lo hi : ℤ) where
    abbrev new_arc : Arc
    new_arc = record arc { lo = lo; hi = hi }

    spans_then : IsWithin (span c) lo → IsWithin (span c) hi → FitSpans span (set s.graph.arcs a new_arc) (set s.costs a c)
    spans_then wl wh = record {
      counted = length-set s.costs a c ∙ kept.flow.spans.counted ∙ sym (length-set s.graph.arcs a new_arc);
      within = λ b other d h k. elim (cases_eq b a) [
        | inl q ↦ (let i : new_arc ≡ other = read_once (set s.graph.arcs a new_arc) a new_arc other (slice_get-set_same s.graph.arcs a new_arc (slice_get_within s.graph.arcs a arc arc_is)) (subst (λ n. slice_get (set s.graph.arcs a new_arc) n ≡ Some other) q h) in
            let there : a < length s.costs = omega (arith, kept.flow.spans.counted, slice_get_within s.graph.arcs a arc arc_is) in
            let j : c ≡ d = read_once (set s.costs a c) a c d (slice_get-set_same s.costs a c there) (subst (λ n. slice_get (set s.costs a c) n ≡ Some d) q k) in
            rw (← i, ← j) (wl, wh))
        | inr q ↦ kept.flow.spans.within b other d (sym (slice_get-set_other s.graph.arcs a b new_arc q) ∙ h) (sym (slice_get-set_other s.costs a b c q) ∙ k)
      ];
    }

    -- one arc gets another cost and other bounds, and a number within them
    pub kept_arc : (g : Network N A) → g ≡ record s.graph { arcs = set s.graph.arcs a new_arc } → IsNetwork node_eq arc_eq g → IsWithin (span c) lo → IsWithin (span c) hi → lo ≤ℤ y → y ≤ℤ hi →
        IsKept node_eq arc_eq span (record { graph = g; costs = set s.costs a c; flows = set s.flows a y; potentials = s.potentials }) new_excesses
    kept_arc g e net wl wh low high = subst (λ z. IsKept node_eq arc_eq span (record { graph = z; costs = set s.costs a c; flows = set s.flows a y; potentials = s.potentials }) new_excesses) (sym e) (record {
      flow = record {
        network = subst (λ z. IsNetwork node_eq arc_eq z) e net;
        spans = spans_then wl wh;
        counted = length-set s.flows a y ∙ kept.flow.counted ∙ sym (length-set s.graph.arcs a new_arc);
        bounded = zip_set_both s.graph.arcs s.flows a arc new_arc x y arc_is flow_is kept.flow.bounded (record { low = low; high = high });
        potentials = kept.flow.potentials;
      };
      counted = counted ∙ kept.counted;
      each = λ n l. slice_get-get_or new_excesses n (pos 0) (omega (arith, l, counted, kept.counted)) ∙ ap Some (excess_then n l ∙ sym (excess_bounds s.graph.arcs (set s.flows a y) a arc lo hi n arc_is));
    })

-- ---- settling
pub meets_from_settled : (value : ℤ → ℤ) (lo hi y p step : ℤ) → pos 1 ≤ℤ step → IsSettled value lo hi step p y → MeetsCondition value lo hi step y p
meets_from_settled value lo hi y p (pos zero) l h = absurd (omega (arith, ints))
meets_from_settled value lo hi y p (pos (suc n)) l h = settled_meets value lo hi y p n h
meets_from_settled value lo hi y p (negsuc n) l h = absurd (omega (arith, ints))

module _ {N A C : Type 0} (value : C → ℤ → ℤ) (step : ℤ) (s : Flow N A C) (flows : List ℤ) (t : SettlesTo value step s flows) where
  -- what settles lies within the bounds
  pub settled_within : length s.flows ≡ length s.graph.arcs → length s.costs ≡ length s.graph.arcs → AllZip IsFlow s.graph.arcs flows
  settled_within counted priced = all_flows s.graph.arcs flows (t.counted ∙ counted) (λ a arc y h k.
      let c = same_length_read s.costs s.graph.arcs a arc priced h in
      let x = same_length_read s.flows s.graph.arcs a arc counted h in
      let n = t.each a arc c.0 x.0 y (record { arc_is = h; cost_is = c.1; number_is = x.1 }) k in
      record { low = n.place.above; high = n.place.below })

  pub settled_all_meet : pos 1 ≤ℤ step → MeetsAll value step (record s { flows = flows })
  settled_all_meet l a arc c y h =
      let x = same_length_read s.flows flows a y (sym t.counted) h.number_is in
      let n = t.each a arc c x.0 y (record { arc_is = h.arc_is; cost_is = h.cost_is; number_is = x.1 }) h.number_is in
      meets_from_settled (value c) arc.lo arc.hi y (rise s.potentials arc) step l n.settled

-- ---- changing one arc
pub bounds_from_span : (value : ℤ → ℤ) (span lo hi : ℤ) → IsLawful value span → IsWithin span lo → IsWithin span hi → lo ≤ℤ hi → AreBounds lo hi
bounds_from_span value span lo hi law wl wh l = record {
  low = omega (arith, ints, law.span_high, wl.low);
  ordered = l;
  high = omega (arith, ints, law.span_high, wh.high);
}

pub nearest_low : (lo hi x : ℤ) → lo ≤ℤ nearest_within lo hi x
nearest_low lo hi x = omega (arith, ints, clamps)

pub nearest_high : (lo hi x : ℤ) → lo ≤ℤ hi → nearest_within lo hi x ≤ℤ hi
nearest_high lo hi x l = omega (arith, ints, clamps, l)

pub bounded_small : (lo hi x : ℤ) → AreBounds lo hi → lo ≤ℤ x → x ≤ℤ hi → IsWithin (pos (2 ^ 60)) x
bounded_small lo hi x b l h = record { low = omega (arith, ints, b.low, l); high = omega (arith, ints, b.high, h) }

pub nearest_small : (lo hi x y : ℤ) → AreBounds lo hi → y ≡ nearest_within lo hi x → IsWithin (pos (2 ^ 60)) y
nearest_small lo hi x y b e = bounded_small lo hi y b (rw e (nearest_low lo hi x)) (rw e (nearest_high lo hi x b.ordered))

pub difference_small : (x y d : ℤ) → IsWithin (pos (2 ^ 60)) x → IsWithin (pos (2 ^ 60)) y → d ≡ y -ℤ x → IsWithin (pos (2 ^ 61)) d
difference_small x y d wx wy e = record { low = omega (arith, ints, wx.low, wx.high, wy.low, wy.high, e); high = omega (arith, ints, wx.low, wx.high, wy.low, wy.high, e) }

module _ {N A C : Type 0} (node_eq : N → N → Bool) (arc_eq : A → A → Bool) (span : C → ℤ) (s : Flow N A C) (kept : IsFlowOf node_eq arc_eq span s) (a : ℕ) (there : a < length s.graph.arcs) where
  pub flow_read : (x : ℤ) → x ≡ get_or s.flows a x → slice_get s.flows a ≡ Some x
  flow_read x e = slice_get_read s.flows (length s.flows) a x refl (omega (arith, there, kept.counted)) e

  pub read_small : (x : ℤ) → x ≡ get_or s.flows a x → IsWithin (pos (2 ^ 60)) x
  read_small x e =
      let p = read_at s.graph.arcs a (length s.graph.arcs) refl there in
      let b = (among_at (length s.graph.nodes) s.graph.arcs a p.0 kept.network.arcs_fit p.1).bounds in
      let f = flow_at s.graph.arcs s.flows a p.0 x kept.bounded p.1 (flow_read x e) in
      bounded_small p.0.lo p.0.hi x b f.low f.high

  network_then : (arc : Arc) (lo hi : ℤ) → slice_get s.graph.arcs a ≡ Some arc → AreBounds lo hi → IsNetwork node_eq arc_eq (record s.graph { arcs = set s.graph.arcs a (record arc { lo = lo; hi = hi }) })
  network_then arc lo hi e b =
      let n = kept.network in
      let f = among_at (length s.graph.nodes) s.graph.arcs a arc n.arcs_fit e in
      record {
        node_limit = n.node_limit;
        arc_limit = rw (length-set s.graph.arcs a (record arc { lo = lo; hi = hi })) n.arc_limit;
        named = n.named ∙ sym (length-set s.graph.arcs a (record arc { lo = lo; hi = hi }));
        nodes_apart = n.nodes_apart;
        names_apart = n.names_apart;
        arcs_fit = All-set (IsArcAmong (length s.graph.nodes)) s.graph.arcs a (record arc { lo = lo; hi = hi }) (record { tail = f.tail; head = f.head; bounds = b }) n.arcs_fit;
      }

-- an arc gets another cost and other bounds, and its flow the nearest number within them
pub arc_then : {N A C : Type 0} (node_eq : N → N → Bool) (arc_eq : A → A → Bool) (span : C → ℤ) (s : Flow N A C) (excesses new_excesses : List ℤ) (g : Network N A) (a tail head : ℕ) (c : C) (lo hi x y : ℤ) →
    IsKept node_eq arc_eq span s excesses → a < length s.graph.arcs → IsSomeAnd (slice_get s.graph.arcs a) (λ arc. (tail ≡ arc.tail) × (head ≡ arc.head)) → x ≡ get_or s.flows a x →
    SetsBounds s.graph g a lo hi → AreBounds lo hi → IsWithin (span c) lo → IsWithin (span c) hi → y ≡ nearest_within lo hi x →
    length new_excesses ≡ length excesses → ((n : ℕ) → n < length excesses → get_or new_excesses n (pos 0) ≡ get_or excesses n (pos 0) +ℤ arc_adds tail head (y -ℤ x) n) →
    IsKept node_eq arc_eq span (record { graph = g; costs = set s.costs a c; flows = set s.flows a y; potentials = s.potentials }) new_excesses
arc_then node_eq arc_eq span s excesses new_excesses g a tail head c lo hi x y kept there ends ex sets b wl wh ey counted carried =
    let p = some_and (slice_get s.graph.arcs a) (λ arc. (tail ≡ arc.tail) × (head ≡ arc.head)) ends in
    let q = some_and (slice_get s.graph.arcs a) (λ arc. g ≡ record s.graph { arcs = set s.graph.arcs a (record arc { lo = lo; hi = hi }) }) sets in
    let same : q.0 ≡ p.0 = read_once s.graph.arcs a q.0 p.0 q.1 p.1 in
    let flow_is = flow_read node_eq arc_eq span s kept.flow a there x ex in
    let g_is : g ≡ record s.graph { arcs = set s.graph.arcs a (record p.0 { lo = lo; hi = hi }) } = subst (λ z. g ≡ record s.graph { arcs = set s.graph.arcs a (record z { lo = lo; hi = hi }) }) same q.2 in
    let net = subst (λ z. IsNetwork node_eq arc_eq z) (sym g_is) (network_then node_eq arc_eq span s kept.flow a there p.0 lo hi p.1 b) in
    let adds : (n : ℕ) → n < length excesses → get_or new_excesses n (pos 0) ≡ get_or excesses n (pos 0) +ℤ arc_adds p.0.tail p.0.head (y -ℤ x) n =
    λ n l. rw (← p.2.0, ← p.2.1) (carried n l) in
    kept_arc node_eq arc_eq span s excesses new_excesses a p.0 x y kept p.1 flow_is counted adds c lo hi g g_is net wl wh (rw ey (nearest_low lo hi x)) (rw ey (nearest_high lo hi x b.ordered))

-- the flow of one arc moves by an amount, within the arc's bounds
pub flow_then : {N A C : Type 0} (node_eq : N → N → Bool) (arc_eq : A → A → Bool) (span : C → ℤ) (s : Flow N A C) (excesses new_excesses : List ℤ) (a tail head : ℕ) (x y by : ℤ) →
    IsKept node_eq arc_eq span s excesses → a < length s.graph.arcs → IsSomeAnd (slice_get s.graph.arcs a) (λ arc. (tail ≡ arc.tail) × (head ≡ arc.head)) → x ≡ get_or s.flows a x →
    IsSomeAnd (slice_get s.graph.arcs a) (λ arc. IsFlow arc y) → by ≡ y -ℤ x →
    length new_excesses ≡ length excesses → ((n : ℕ) → n < length excesses → get_or new_excesses n (pos 0) ≡ get_or excesses n (pos 0) +ℤ arc_adds tail head by n) →
    IsKept node_eq arc_eq span (record s { flows = set s.flows a y }) new_excesses
flow_then node_eq arc_eq span s excesses new_excesses a tail head x y by kept there ends ex within eb counted carried =
    let p = some_and (slice_get s.graph.arcs a) (λ arc. (tail ≡ arc.tail) × (head ≡ arc.head)) ends in
    let q = some_and (slice_get s.graph.arcs a) (λ arc. IsFlow arc y) within in
    let same : q.0 ≡ p.0 = read_once s.graph.arcs a q.0 p.0 q.1 p.1 in
    let flow_is = flow_read node_eq arc_eq span s kept.flow a there x ex in
    let adds : (n : ℕ) → n < length excesses → get_or new_excesses n (pos 0) ≡ get_or excesses n (pos 0) +ℤ arc_adds p.0.tail p.0.head (y -ℤ x) n =
    λ n l. rw (← p.2.0, ← p.2.1, ← eb) (carried n l) in
    kept_flow node_eq arc_eq span s excesses new_excesses a p.0 x y kept p.1 flow_is counted adds (subst (λ z. IsFlow z y) same q.2)

-- ---- a step along one arc
pub wide : (by : ℤ) → IsWithin (pos (2 ^ 40)) by → IsWithin (pos (2 ^ 61)) by
wide by w = record { low = omega (arith, ints, w.low); high = omega (arith, ints, w.high) }

module _ {N A C : Type 0} (s : Flow N A C) (a tail head to : ℕ) (step x by v : ℤ) (there : a < length s.flows) (ends : IsSomeAnd (slice_get s.graph.arcs a) (λ arc. (tail ≡ arc.tail) × (head ≡ arc.head)))
    (ex : x ≡ get_or s.flows a x) (eb : by ≡ (if head == to then step else neg_ℤ step)) (ev : v ≡ x +ℤ by) where
  push_value : (arc : Arc) → slice_get s.graph.arcs a ≡ Some arc → v ≡ get_or s.flows a (pos 0) +ℤ (if arc.head == to then step else neg_ℤ step)
  push_value arc e =
      let p = some_and (slice_get s.graph.arcs a) (λ b. (tail ≡ b.tail) × (head ≡ b.head)) ends in
      let same : p.0 ≡ arc = read_once s.graph.arcs a p.0 arc p.1 e in
      let h : head ≡ arc.head = p.2.1 ∙ ap (λ z. z.head) same in
      ev ∙ ap (λ z. z +ℤ by) (get_or_read s.flows a x there ex (pos 0)) ∙ ap (λ z. get_or s.flows a (pos 0) +ℤ z) (eb ∙ ap (λ z. if z == to then step else neg_ℤ step) h)

  pub push_within : IsSomeAnd (slice_get s.graph.arcs a) (λ arc. IsFlow arc (get_or s.flows a (pos 0) +ℤ (if arc.head == to then step else neg_ℤ step))) → IsSomeAnd (slice_get s.graph.arcs a) (λ arc. IsFlow arc v)
  push_within room =
      let q = some_and (slice_get s.graph.arcs a) (λ arc. IsFlow arc (get_or s.flows a (pos 0) +ℤ (if arc.head == to then step else neg_ℤ step))) room in
      rw (q.1) (subst (λ z. IsFlow q.0 z) (sym (push_value q.0 q.1)) q.2)

  pub push_is : IsSomeAnd (slice_get s.graph.arcs a) (λ arc. record s { flows = set s.flows a v } ≡ record s { flows = set s.flows a (get_or s.flows a (pos 0) +ℤ (if arc.head == to then step else neg_ℤ step)) })
  push_is =
      let p = some_and (slice_get s.graph.arcs a) (λ b. (tail ≡ b.tail) × (head ≡ b.head)) ends in
      rw (p.1) (ap (λ z. record s { flows = set s.flows a z }) (push_value p.0 p.1))

-- the number within an arc's bounds that is nearest to another may be its flow
pub nearest_flows : (arcs : List Arc) (a : ℕ) (lo hi x y : ℤ) → IsSomeAnd (slice_get arcs a) (λ arc. (lo ≡ arc.lo) × (hi ≡ arc.hi)) → AreBounds lo hi → y ≡ nearest_within lo hi x →
    IsSomeAnd (slice_get arcs a) (λ arc. IsFlow arc y)
nearest_flows arcs a lo hi x y ends b e =
    let p = some_and (slice_get arcs a) (λ arc. (lo ≡ arc.lo) × (hi ≡ arc.hi)) ends in
    let f : IsFlow p.0 y = record {
      low = subst (λ z. z ≤ℤ y) p.2.0 (rw e (nearest_low lo hi x));
      high = subst (λ z. y ≤ℤ z) p.2.1 (rw e (nearest_high lo hi x b.ordered));
    } in
    rw (p.1) f
