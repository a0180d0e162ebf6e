-- What a step along a path makes of the excesses, and of the condition.
use Rattle.std.proofs.Common.{◌≡◌, ℕ, zero, suc, ◌<◌, Bool, true, false, ◌==◌, if◌then◌else◌, List, [], ◌∷◌, length, set, get_or, slice_get, Option, Some, All, ◌⊎◌, inl, inr, refl, ap, sym, subst, ◌∙◌, arith, ℤ, pos, negsuc, ◌+ℤ◌, ◌-ℤ◌, neg_ℤ, ◌≤ℤ◌, length-set}
use Rattle.std.specs.List.{AllByRecursion}
use Rattle.std.proofs.lemmas.Int.{ints}
use Rattle.std.proofs.lemmas.Bool.{cases_eq}
use Rattle.std.proofs.lemmas.List.Elements.{recursion_from_All}
use Rattle.std.proofs.lemmas.Option.{slice_get-get_or, get_or_from_slice_get, slice_get_within}
use Rattle.flow_cost.specs.Cost.{IsWithin, IsLawful}
use Rattle.flow_cost.specs.Condition.{slope_up, slope_down, MeetsCondition}
use Rattle.flow_cost.proofs.Pushed.{pushed_up, pushed_down}
use Rattle.flow_graph.specs.declared.arcs.Arc.{Arc}
use Rattle.flow_graph.specs.declared.arcs.ArcId.{ArcId}
use Rattle.flow_graph.specs.Circulation.{excess}
use Rattle.flow_graph.specs.Condition.{rise}
use Rattle.flow_graph.proofs.Bounded.{flow_at}
use Rattle.flow_graph.proofs.Lookups.{read_once, slice_get-set_other, slice_get-set_same}
use Rattle.flow_residual.specs.declared.rooms.Room.{Room}
use Rattle.flow_residual.specs.Excess.{arc_adds}
use Rattle.flow_residual.specs.Flows.{Flow, IsFlowOf, HasArc, MeetsAll, only_at}
use Rattle.flow_residual.specs.Path.{Move, Leads, IsOpen, IsTight, after_moves}
use Rattle.flow_residual.specs.Rooms.{HoldsPath}
use Rattle.flow_residual.proofs.Changes.{excess_set}
use Rattle.flow_residual.proofs.Kept.{same_length_read}
use Rattle.flow_residual.proofs.Along.{Leg, amount, Spares, IsWayBack, after_legs, turned_round, way_kept, left_at_first, legs_at_first}

-- ---- the excesses
hop_adds : (up h t : Bool) (step x y : ℤ) → y ≡ x +ℤ amount step up →
    (if h then (y -ℤ x) else pos 0) -ℤ (if t then (y -ℤ x) else pos 0) ≡ (if (if up then h else t) then step else pos 0) -ℤ (if (if up then t else h) then step else pos 0)
hop_adds true true true step x y e = omega (arith, ints)
hop_adds true true false step x y e = omega (arith, ints, e)
hop_adds true false true step x y e = omega (arith, ints, e)
hop_adds true false false step x y e = refl
hop_adds false true true step x y e = omega (arith, ints)
hop_adds false true false step x y e = omega (arith, ints, e)
hop_adds false false true step x y e = omega (arith, ints, e)
hop_adds false false false step x y e = refl

-- a step along one move goes from the node that it leaves to the one that it enters
one_hop : (up : Bool) (tail head from mid : ℕ) (step x y : ℤ) (n : ℕ) → from ≡ (if up then tail else head) → mid ≡ (if up then head else tail) → y ≡ x +ℤ amount step up →
    arc_adds tail head (y -ℤ x) n ≡ only_at mid step n -ℤ only_at from step n
one_hop true tail head from mid step x y n f m e = rw (f, m) (hop_adds true (head == n) (tail == n) step x y e)
one_hop false tail head from mid step x y n f m e = rw (f, m) (hop_adds false (head == n) (tail == n) step x y e)

joined_up : (e₀ e₁ e₂ adds f m t : ℤ) → e₂ ≡ e₁ +ℤ adds → adds ≡ m -ℤ f → e₁ ≡ (e₀ -ℤ m) +ℤ t → e₂ ≡ (e₀ -ℤ f) +ℤ t
joined_up e₀ e₁ e₂ adds f m t a b c = omega (arith, ints, a, b, c)

module _ {N A C : Type 0} (s : Flow N A C) (step : ℤ) where
  pub length_after : (ms : List Move) (xs : List ℤ) → length (after_moves step ms xs) ≡ length xs
  length_after [] xs = refl
  length_after (m ∷ ms) xs = length-set (after_moves step ms xs) m.arc _ ∙ length_after ms xs

  pub path_excess : (from to : ℕ) (ms : List Move) (ns : List ℕ) (xs : List ℤ) (n : ℕ) → length xs ≡ length s.graph.arcs → Leads s ms ns from to →
      excess s.graph.arcs (after_moves step ms xs) n ≡ (excess s.graph.arcs xs n -ℤ only_at from step n) +ℤ only_at to step n
  path_excess from to [] [] xs n e l = rw l (omega (arith, ints))
  path_excess from to [] (k ∷ ns) xs n e l = elim l [ ]
  path_excess from to (m ∷ ms) [] xs n e l = elim l [ ]
  path_excess from to (m ∷ ms) (k ∷ ns) xs n e l =
      let rest = after_moves step ms xs in
      let there : m.arc < length rest = omega (arith, slice_get_within s.graph.arcs m.arc l.0.arc l.0.arc_is, e, length_after ms xs) in
      let x = get_or rest m.arc (pos 0) in
      joined_up (excess s.graph.arcs xs n) (excess s.graph.arcs rest n) _ (arc_adds l.0.arc.tail l.0.arc.head ((x +ℤ amount step m.up) -ℤ x) n) (only_at from step n) (only_at k step n) (only_at to step n)
      (excess_set s.graph.arcs rest m.arc l.0.arc x (x +ℤ amount step m.up) n l.0.arc_is (slice_get-get_or rest m.arc (pos 0) there))
      (one_hop m.up l.0.arc.tail l.0.arc.head from k step x (x +ℤ amount step m.up) n l.0.from_is l.0.to_is refl)
      (path_excess k to ms ns xs n e l.1)

-- ---- the condition
abbrev AllLegs : (Move → Type 0) → List Leg → Type 0
AllLegs P [] = Unit {0}
AllLegs P (h ∷ hs) = P h.move × AllLegs P hs

all_turned : (P : Move → Type 0) (ms : List Move) (ns : List ℕ) (hs : List Leg) → AllByRecursion P ms → AllLegs P hs → AllLegs P (turned_round ms ns hs)
all_turned P [] ns hs h k = k
all_turned P (m ∷ ms) [] hs h k = k
all_turned P (m ∷ ms) (n ∷ ns) hs h k = all_turned P ms ns (record { move = m; to = n } ∷ hs) h.1 (h.0, k)

after_spared : (step : ℤ) (a : ℕ) (hs : List Leg) (xs : List ℤ) → Spares a hs → slice_get (after_legs step hs xs) a ≡ slice_get xs a
after_spared step a [] xs sp = refl
after_spared step a (h ∷ hs) xs sp = after_spared step a hs _ sp.1 ∙ slice_get-set_other xs h.move.arc a _ (λ e. sp.0 (sym e))

-- a number stays, or moves by one leg
pub record IsMoved (P : Move → Type 0) (step : ℤ) (a : ℕ) (x y : ℤ) : Type 0 where
  pub move : Move
  pub along : P move
  pub arc_is : move.arc ≡ a
  pub moved : y ≡ x +ℤ amount step move.up

moved_or_not : (P : Move → Type 0) (arcs : List Arc) (flows : List ℤ) (step : ℤ) (by : List (Option ArcId)) (source a : ℕ) (x y : ℤ) (hs : List Leg) → IsWayBack arcs flows step by source hs → AllLegs P hs → length flows ≡ length arcs →
    slice_get flows a ≡ Some x → slice_get (after_legs step hs flows) a ≡ Some y → (x ≡ y) ⊎ IsMoved P step a x y
moved_or_not P arcs flows step by source a x y [] w p e h k = inl (read_once flows a x y h k)
moved_or_not P arcs flows step by source a x y (l ∷ hs) w p e h k =
    let z = get_or flows l.move.arc (pos 0) +ℤ amount step l.move.up in
    elim (cases_eq a l.move.arc) [
      | inl q ↦ (let there : l.move.arc < length flows = omega (arith, e, slice_get_within arcs l.move.arc w.0.arc w.0.arc_is) in
          let stays = after_spared step l.move.arc hs (set flows l.move.arc z) w.1 ∙ slice_get-set_same flows l.move.arc z there in
          let i : z ≡ y = read_once (after_legs step (l ∷ hs) flows) l.move.arc z y stays (subst (λ n. slice_get (after_legs step (l ∷ hs) flows) n ≡ Some y) q k) in
          let j : get_or flows l.move.arc (pos 0) ≡ x = get_or_from_slice_get flows l.move.arc x (pos 0) (subst (λ n. slice_get flows n ≡ Some x) q h) in
          inr (record { move = l.move; along = p.0; arc_is = sym q; moved = sym i ∙ ap (λ n. n +ℤ amount step l.move.up) j }))
      | inr q ↦ moved_or_not P arcs (set flows l.move.arc z) step by source a x y hs (way_kept arcs flows step by source l.move.arc z hs w.1 w.2) p.1
          (length-set flows l.move.arc z ∙ e) (slice_get-set_other flows l.move.arc a z q ∙ h) k
    ]

-- a tight move keeps the condition, in either direction
pushed_either : (value : ℤ → ℤ) (span : ℤ) → IsLawful value span → (lo hi x p step : ℤ) (up : Bool) → pos 1 ≤ℤ step → lo ≤ℤ x → x ≤ℤ hi → IsWithin span lo → IsWithin span hi →
    (if up then x +ℤ step else lo) ≤ℤ (if up then hi else x -ℤ step) → (if up then slope_up value step x else slope_down value step x) ≡ p → MeetsCondition value lo hi step (x +ℤ amount step up) p
pushed_either value span law lo hi x p (pos zero) up l lx xh wl wh room tight = absurd (omega (arith, ints))
pushed_either value span law lo hi x p (negsuc n) up l lx xh wl wh room tight = absurd (omega (arith, ints))
pushed_either value span law lo hi x p (pos (suc n)) true l lx xh wl wh room tight = pushed_up value span law lo hi x p n lx xh wl wh room tight
pushed_either value span law lo hi x p (pos (suc n)) false l lx xh wl wh room tight =
    let e : x -ℤ pos (suc n) ≡ x +ℤ neg_ℤ (pos (suc n)) = omega (arith, ints) in
    subst (λ z. MeetsCondition value lo hi (pos (suc n)) z p) e (pushed_down value span law lo hi x p n lx xh wl wh room tight)

-- the condition after a step along a tight path
pub meets_after : {N A C : Type 0} (node_eq : N → N → Bool) (arc_eq : A → A → Bool) (value : C → ℤ → ℤ) (span : C → ℤ) (step : ℤ) (s : Flow N A C) (room : Room) (ms : List Move) →
    ((c : C) → IsLawful (value c) (span c)) → IsFlowOf node_eq arc_eq span s → pos 1 ≤ℤ step → HoldsPath s step room ms → All (IsTight s value step) ms →
    MeetsAll value step s → MeetsAll value step (record s { flows = after_moves step ms s.flows })
meets_after node_eq arc_eq value span step s room ms law kept low h tight meets a arc c y has =
    let left = left_at_first s step room ms low kept.counted kept.spans.counted kept.bounded h in
    let P : Move → Type 0 = λ m. IsOpen s step m × IsTight s value step m in
    let both : (k : List Move) → AllByRecursion (IsOpen s step) k → AllByRecursion (IsTight s value step) k → AllByRecursion (λ m. IsOpen s step m × IsTight s value step m) k = zipped s value step in
    let turned = legs_at_first s step room ms low kept.counted kept.spans.counted kept.bounded h in
    let legs = subst (λ z. AllLegs P z) (sym turned) (all_turned P ms h.path.by_way_of [] (both ms (recursion_from_All (IsOpen s step) ms h.path.moves_open) (recursion_from_All (IsTight s value step) ms tight)) tt) in
    let x = same_length_read s.flows s.graph.arcs a arc kept.counted has.arc_is in
    let old : HasArc s a arc c x.0 = record { arc_is = has.arc_is; cost_is = has.cost_is; number_is = x.1 } in
    let f = flow_at s.graph.arcs s.flows a arc x.0 kept.bounded has.arc_is x.1 in
    let w = kept.spans.within a arc c has.arc_is has.cost_is in
    elim (moved_or_not P s.graph.arcs s.flows step room.by.items room.source.0 a x.0 y left.legs left.way legs kept.counted x.1 (subst (λ z. slice_get z a ≡ Some y) (sym left.result_is) has.number_is)) [
      | inl e ↦ subst (λ z. MeetsCondition (value c) arc.lo arc.hi step z (rise s.potentials arc)) e (meets a arc c x.0 old)
      | inr m ↦ (let here : HasArc s m.move.arc arc c x.0 = subst (λ z. HasArc s z arc c x.0) (sym m.arc_is) old in
          subst (λ z. MeetsCondition (value c) arc.lo arc.hi step z (rise s.potentials arc)) (sym m.moved)
          (pushed_either (value c) (span c) (law c) arc.lo arc.hi x.0 (rise s.potentials arc) step m.move.up low f.low f.high w.0 w.1 (m.along.0 arc c x.0 here) (m.along.1 arc c x.0 here)))
    ]
  where
    zipped : {N A C : Type 0} (s : Flow N A C) (value : C → ℤ → ℤ) (step : ℤ) (k : List Move) → AllByRecursion (IsOpen s step) k → AllByRecursion (IsTight s value step) k → AllByRecursion (λ m. IsOpen s step m × IsTight s value step m) k
    zipped s value step [] o t = tt
    zipped s value step (m ∷ k) o t = ((o.0, t.0), zipped s value step k o.1 t.1)

-- a step along a path moves each flow by the step at most
amount_small : (up : Bool) (step x y : ℤ) → pos 1 ≤ℤ step → y ≡ x +ℤ amount step up → IsWithin step (y -ℤ x)
amount_small true step x y l e = record { low = omega (arith, ints, l, e); high = omega (arith, ints, l, e) }
amount_small false step x y l e = record { low = omega (arith, ints, l, e); high = omega (arith, ints, l, e) }

pub flows_near : {N A C : Type 0} (node_eq : N → N → Bool) (arc_eq : A → A → Bool) (span : C → ℤ) (step : ℤ) (s : Flow N A C) (room : Room) (ms : List Move) → IsFlowOf node_eq arc_eq span s → pos 1 ≤ℤ step → HoldsPath s step room ms →
    (a : ℕ) (x y : ℤ) → slice_get s.flows a ≡ Some x → slice_get (after_moves step ms s.flows) a ≡ Some y → IsWithin step (y -ℤ x)
flows_near node_eq arc_eq span step s room ms kept low h a x y e f =
    let left = left_at_first s step room ms low kept.counted kept.spans.counted kept.bounded h in
    let turned = legs_at_first s step room ms low kept.counted kept.spans.counted kept.bounded h in
    let P : Move → Type 0 = IsOpen s step in
    let legs = subst (λ z. AllLegs P z) (sym turned) (all_turned P ms h.path.by_way_of [] (recursion_from_All (IsOpen s step) ms h.path.moves_open) tt) in
    elim (moved_or_not P s.graph.arcs s.flows step room.by.items room.source.0 a x y left.legs left.way legs kept.counted e (subst (λ z. slice_get z a ≡ Some y) (sym left.result_is) f)) [
      | inl q ↦ record { low = omega (arith, ints, q, low); high = omega (arith, ints, q, low) }
      | inr m ↦ amount_small m.move.up step x y low m.moved
    ]
