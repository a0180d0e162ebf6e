-- Sets that are shut: a step along a path leaves them so, a search that ends without a path finds one, and two make one.
use Rattle.std.proofs.Common.{◌≡◌, ◌≢◌, ℕ, ◌<◌, Bool, true, false, ◌||◌, if◌then◌else◌, List, [], ◌∷◌, length, slice_get, Some, All, ◌⊎◌, inl, inr, refl, ap, sym, subst, ◌∙◌, arith, ℤ, ◌+ℤ◌, ◌-ℤ◌, ◌≤ℤ◌, ◌<ℤ◌}
use Rattle.std.specs.List.{AllByRecursion}
use Rattle.std.proofs.lemmas.Int.{ints, by_lt_z}
use Rattle.std.proofs.lemmas.Bool.{cases_Bool, or_cases, or_parts}
use Rattle.std.proofs.lemmas.List.{get_or_past, get_or_default}
use Rattle.std.proofs.lemmas.List.Elements.{recursion_from_All}
use Rattle.std.proofs.lemmas.Option.{get_or_from_slice_get, slice_get_cases}
use Rattle.flow_graph.specs.declared.arcs.Arc.{Arc}
use Rattle.flow_graph.specs.Contradiction.{in_set}
use Rattle.flow_graph.specs.Network.{IsArcAmong}
use Rattle.flow_graph.proofs.Grown.{among_at}
use Rattle.flow_graph.proofs.Lookups.{read_once, slice_get-set_other}
use Rattle.flow_residual.specs.Flows.{Flow, IsFlowOf}
use Rattle.flow_residual.specs.Path.{Move, Joins, Leads, IsOpen, IsPath, IsSink, Reaches, after_moves}
use Rattle.flow_residual.proofs.Augmented.{path_excess}
use Rattle.flow_residual.proofs.Excesses.{if_other}
use Rattle.flow_residual.proofs.Kept.{same_length_read}
use Rattle.flow_solve.specs.Progress.{IsClosedOff}
use Rattle.flow_solve.specs.Scales.{IsShut}
use Rattle.flow_solve.proofs.Reached.{reaches_on, reaches_self}

-- ---- a step along a path
-- a move that is open leaves no set that is shut
across : (step lo hi x : ℤ) (up tail head from to : Bool) → (tail ≡ true → head ≡ false → hi <ℤ (x +ℤ step)) → (head ≡ true → tail ≡ false → (x -ℤ step) <ℤ lo) →
    from ≡ (if up then tail else head) → to ≡ (if up then head else tail) → (if up then x +ℤ step else lo) ≤ℤ (if up then hi else x -ℤ step) → to ≡ false → from ≡ false
across step lo hi x true tail head from to l e f t o h = elim (cases_Bool from) [
  | inl q ↦ (let k = l (sym f ∙ q) (sym t ∙ h) in absurd (omega (arith, ints, k, o)))
  | inr q ↦ q
]
across step lo hi x false tail head from to l e f t o h = elim (cases_Bool from) [
  | inl q ↦ (let k = e (sym f ∙ q) (sym t ∙ h) in absurd (omega (arith, ints, k, o)))
  | inr q ↦ q
]

in_either : (set : ℕ → Bool) (up : Bool) (a b : ℕ) → set (if up then a else b) ≡ (if up then set a else set b)
in_either set true a b = refl
in_either set false a b = refl

both_out : (up tail head from to : Bool) → from ≡ (if up then tail else head) → to ≡ (if up then head else tail) → from ≡ false → to ≡ false → (tail ≡ false) × (head ≡ false)
both_out true tail head from to f t p q = (sym f ∙ p, sym t ∙ q)
both_out false tail head from to f t p q = (sym t ∙ q, sym f ∙ p)

module _ {N A C : Type 0} (step : ℤ) (s : Flow N A C) (set : ℕ → Bool) where
  -- both ends of the move's arc are outside
  abbrev IsOutside : Move → Type 0
  IsOutside m = (arc : Arc) → slice_get s.graph.arcs m.arc ≡ Some arc → (set arc.tail ≡ false) × (set arc.head ≡ false)

  module _ (shut : IsShut step s set) (counted : length s.flows ≡ length s.graph.arcs) (priced : length s.costs ≡ length s.graph.arcs) where
    from_outside : (m : Move) (from to : ℕ) → Joins s m from to → IsOpen s step m → set to ≡ false → (set from ≡ false) × IsOutside m
    from_outside m from to j o h =
        let c = same_length_read s.costs s.graph.arcs m.arc j.arc priced j.arc_is in
        let x = same_length_read s.flows s.graph.arcs m.arc j.arc counted j.arc_is in
        let f = ap set j.from_is ∙ in_either set m.up j.arc.tail j.arc.head in
        let t = ap set j.to_is ∙ in_either set m.up j.arc.head j.arc.tail in
        let out = across step j.arc.lo j.arc.hi x.0 m.up (set j.arc.tail) (set j.arc.head) (set from) (set to) (shut.leaving m.arc j.arc x.0 j.arc_is x.1) (shut.entering m.arc j.arc x.0 j.arc_is x.1)
        f t (o j.arc c.0 x.0 (record { arc_is = j.arc_is; cost_is = c.1; number_is = x.1 })) h in
        (out, λ arc e. subst (λ (z : Arc). (set z.tail ≡ false) × (set z.head ≡ false)) (read_once s.graph.arcs m.arc j.arc arc j.arc_is e) (both_out m.up (set j.arc.tail) (set j.arc.head) (set from) (set to) f t out h))

    -- a path that ends outside lies outside
    way_outside : (from to : ℕ) (ms : List Move) (ns : List ℕ) → Leads s ms ns from to → AllByRecursion (IsOpen s step) ms → set to ≡ false → (set from ≡ false) × AllByRecursion IsOutside ms
    way_outside from to [] [] l o h = (ap set l ∙ h, tt)
    way_outside from to [] (n ∷ ns) l o h = elim l [ ]
    way_outside from to (m ∷ ms) [] l o h = elim l [ ]
    way_outside from to (m ∷ ms) (n ∷ ns) l o h =
        let rest = way_outside n to ms ns l.1 o.1 h in
        let here = from_outside m from n l.0 o.0 rest.0 in
        (here.0, (here.1, rest.1))

  -- an arc with an end inside keeps its number
  stays_inside : (ms : List Move) (a : ℕ) (arc : Arc) → AllByRecursion IsOutside ms → slice_get s.graph.arcs a ≡ Some arc → (set arc.tail ≡ true) ⊎ (set arc.head ≡ true) → slice_get (after_moves step ms s.flows) a ≡ slice_get s.flows a
  stays_inside [] a arc o e h = refl
  stays_inside (m ∷ ms) a arc o e h =
      let other : m.arc ≢ a = λ q.
      let out = o.0 arc (subst (λ z. slice_get s.graph.arcs z ≡ Some arc) (sym q) e) in
      elim h [ inl t ↦ (let u = out.0 in absurd (cc)) | inr t ↦ (let u = out.1 in absurd (cc)) ] in
      slice_get-set_other (after_moves step ms s.flows) m.arc a _ (λ q. other (sym q)) ∙ stays_inside ms a arc o.1 e h

-- a step along a path to a node that lacks it leaves a set shut
pub shut_after : {N A C : Type 0} (node_eq : N → N → Bool) (arc_eq : A → A → Bool) (span : C → ℤ) (step : ℤ) (s : Flow N A C) (set : ℕ → Bool) (from to : ℕ) (ms : List Move) → IsFlowOf node_eq arc_eq span s → IsPath s step from to ms →
    to < length s.graph.nodes → IsSink s step to → IsShut step s set → IsShut step (record s { flows = after_moves step ms s.flows }) set
shut_after {N = N} {A = A} {C = C} node_eq arc_eq span step s set from to ms kept path there sink shut =
    let ends : set to ≡ false = elim (cases_Bool (set to)) [ inl q ↦ absurd (shut.no_sink to there q sink) | inr q ↦ q ] in
    let out = way_outside step s set shut kept.counted kept.spans.counted from to ms path.by_way_of path.leads (recursion_from_All (IsOpen s step) ms path.moves_open) ends in
    let apart : (k n : ℕ) → set k ≡ false → set n ≡ true → k ≢ n = λ k n p q e. let r = ap set e in absurd (cc) in
    record {
      leaving = λ a arc x e f t h. shut.leaving a arc x e (sym (stays_inside step s set ms a arc out.1 e (inl t)) ∙ f) t h;
      entering = λ a arc x e f h t. shut.entering a arc x e (sym (stays_inside step s set ms a arc out.1 e (inr h)) ∙ f) h t;
      no_sink = λ n l q k.
          let p = path_excess s step from to ms path.by_way_of s.flows n kept.counted path.leads in
          let f = if_other from n step (apart from n out.0 q) in
          let t = if_other to n step (apart to n ends q) in
          shut.no_sink n l q (omega (arith, ints, p, f, t, k));
    }

-- ---- a search that ends without a path
module _ {N A C : Type 0} (step : ℤ) (s : Flow N A C) (set : List Bool) (source : ℕ) (fit : All (IsArcAmong (length s.graph.nodes)) s.graph.arcs) (c : IsClosedOff step s source set) where
  member : (n : ℕ) → n < length s.graph.nodes → Reaches s step source n → in_set set n ≡ true
  member n l r = get_or_from_slice_get set n true false ((c.members n l).1 r)

  reached : (n : ℕ) → n < length s.graph.nodes → in_set set n ≡ true → Reaches s step source n
  reached n l e = elim (slice_get_cases set n).1 [
    | inl h ↦ (let same : h.0 ≡ true = sym h.3 ∙ get_or_default set n h.0 false h.1 ∙ e in (c.members n l).0 (h.2 ∙ ap Some same))
    | inr h ↦ (let f = get_or_past set n false h.0 in absurd (cc))
  ]

  -- no open move leads out of the set
  move_stays : (a u v : ℕ) (arc : Arc) (x : ℤ) (up : Bool) → slice_get s.graph.arcs a ≡ Some arc → slice_get s.flows a ≡ Some x → u ≡ (if up then arc.tail else arc.head) → v ≡ (if up then arc.head else arc.tail) →
      u < length s.graph.nodes → v < length s.graph.nodes → in_set set u ≡ true → (if up then x +ℤ step else arc.lo) ≤ℤ (if up then arc.hi else x -ℤ step) → in_set set v ≡ true
  move_stays a u v arc x up ea ex eu ev lu lv iu o = member v lv (reaches_on s step source u v (record { arc = a; up = up }) (reached u lu iu)
      (record { arc = arc; arc_is = ea; from_is = eu; to_is = ev })
      (λ b d y h. let i : arc ≡ b = read_once s.graph.arcs a arc b ea h.arc_is in let j : x ≡ y = read_once s.flows a x y ex h.number_is in rw (← i, ← j) o))

  pub closed_is_shut : IsShut step s (in_set set)
  closed_is_shut = record {
    leaving = λ a arc x ea ex t h.
        let w = among_at (length s.graph.nodes) s.graph.arcs a arc fit ea in
        by_lt_z arc.hi (x +ℤ step) (λ l. l) (λ l. let q = move_stays a arc.tail arc.head arc x true ea ex refl refl w.tail w.head t l in absurd (cc));
    entering = λ a arc x ea ex h t.
        let w = among_at (length s.graph.nodes) s.graph.arcs a arc fit ea in
        by_lt_z (x -ℤ step) arc.lo (λ l. l) (λ l. let q = move_stays a arc.head arc.tail arc x false ea ex refl refl w.head w.tail h l in absurd (cc));
    no_sink = λ n l e k. c.no_sink n l k (reached n l e);
  }

  -- the node that the search began at is in the set
  pub source_inside : in_set set source ≡ true
  source_inside = member source c.there (reaches_self s step source)

-- ---- sets in one
pub shut_both : {N A C : Type 0} (step : ℤ) (s : Flow N A C) (p q : ℕ → Bool) → IsShut step s p → IsShut step s q → IsShut step s (λ n. p n || q n)
shut_both step s p q h k = record {
  leaving = λ a arc x ea ex t o. let f = or_parts (p arc.head) (q arc.head) o in elim (or_cases (p arc.tail) (q arc.tail) t) [
    | inl i ↦ h.leaving a arc x ea ex i f.0
    | inr i ↦ k.leaving a arc x ea ex i f.1
  ];
  entering = λ a arc x ea ex i o. let f = or_parts (p arc.tail) (q arc.tail) o in elim (or_cases (p arc.head) (q arc.head) i) [
    | inl j ↦ h.entering a arc x ea ex j f.0
    | inr j ↦ k.entering a arc x ea ex j f.1
  ];
  no_sink = λ n l e. elim (or_cases (p n) (q n) e) [ inl i ↦ h.no_sink n l i | inr i ↦ k.no_sink n l i ];
}

-- potentials don't matter
pub shut_priced : {N A C : Type 0} (step : ℤ) (s : Flow N A C) (potentials : List ℤ) (set : ℕ → Bool) → IsShut step s set → IsShut step (record s { potentials = potentials }) set
shut_priced step s potentials set h = record { leaving = h.leaving; entering = h.entering; no_sink = h.no_sink }

-- it matters alone which nodes are in the set
pub shut_same : {N A C : Type 0} (step : ℤ) (s : Flow N A C) (p q : ℕ → Bool) → ((n : ℕ) → q n ≡ p n) → IsShut step s p → IsShut step s q
shut_same step s p q e h = record {
  leaving = λ a arc x ea ex t o. h.leaving a arc x ea ex (sym (e arc.tail) ∙ t) (sym (e arc.head) ∙ o);
  entering = λ a arc x ea ex i o. h.entering a arc x ea ex (sym (e arc.head) ∙ i) (sym (e arc.tail) ∙ o);
  no_sink = λ n l i. h.no_sink n l (sym (e n) ∙ i);
}

-- a set without nodes
pub shut_none : {N A C : Type 0} (step : ℤ) (s : Flow N A C) (set : ℕ → Bool) → ((n : ℕ) → set n ≡ false) → IsShut step s set
shut_none step s set none = record {
  leaving = λ a arc x ea ex t h. let k = none arc.tail in absurd (cc);
  entering = λ a arc x ea ex h t. let k = none arc.head in absurd (cc);
  no_sink = λ n l e. let k = none n in absurd (cc);
}
