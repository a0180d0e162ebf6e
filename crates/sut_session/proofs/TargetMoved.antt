-- The numbers and potentials of a table, on the circuit of the problem in which one target moved: where the numbers settle,
-- and the surplus that is left there.
use Rattle.std.proofs.Common.{◌≡◌, ◌≢◌, ℕ, zero, suc, ◌+◌, ◌*◌, ◌<◌, ◌≤◌, ◌==◌, List, [], ◌∷◌, length, map, Option, Some, None, Bool, true, false, ℤ, pos, ◌+ℤ◌, ◌-ℤ◌, ◌≤ℤ◌, unsigned_abs, inl, inr, rules, refl, sym, ◌∙◌, ap, subst, arith, length-set}
use Rattle.std.specs.Prelude.{All, MatchOption, if◌then◌else◌, get_or, slice_get, slice_set}
use Rattle.std.specs.List.{filter_map, flat_map}
use Rattle.std.proofs.lemmas.List.{length-map}
use Rattle.std.proofs.lemmas.Bool.{cases_eq}
use Rattle.std.proofs.lemmas.Bool.Decides.{nat_tests}
use Rattle.std.proofs.lemmas.Int.{ints}
use Rattle.std.proofs.lemmas.List.Elements.{All-nil, All-cons, All-head, All-tail}
use Rattle.std.proofs.lemmas.Option.{slice_get-get_or, slice_get_within}
use Rattle.sut_measures.specs.Keys.{account_key, measure_key}
use Rattle.sut_measures.specs.Ends.{left, entered}
use Rattle.sut_measures.specs.declared.measures.Measure.{Measure}
use Rattle.sut_tables.specs.Changes.{is_of, row_replaced}
use Rattle.sut_tables.specs.Costs.{IsAdmissible, IsWithin, loss, term}
use Rattle.sut_tables.specs.InOrder.{same_key, in_order}
use Rattle.sut_tables.specs.LiveRule.{is_live}
use Rattle.sut_tables.specs.ProblemFacts.{ProblemFacts}
use Rattle.sut_tables.specs.ProblemRules.{IsKept}
use Rattle.sut_tables.specs.Problems.{cell_of, groups, live_accounts, live_measures, row_at}
use Rattle.sut_tables.specs.RowFacts.{RowFacts}
use Rattle.sut_tables.specs.TableFacts.{TableFacts}
use Rattle.sut_tables.specs.Values.{value_of}
use Rattle.sut_tables.proofs.Conservation.{live-sorted}
use Rattle.sut_tables.proofs.Kept.{put, put-measure}
use Rattle.sut_tables.proofs.Ordered.{same-flip, same-refl}
use Rattle.sut_cert.specs.Certificates.{MeasureIsShown, RowIsShown}
use Rattle.sut_cert.specs.Certificates.{rise as account_rise}
use Rattle.sut_cert.proofs.Convex.{term-convex}
use Rattle.flow_cost.specs.Integers.{abs_at_most, abs_high, abs_low}
use Rattle.flow_cost.specs.Settle.{IsNearestSettled}
use Rattle.flow_graph.specs.declared.arcs.Arc.{Arc}
use Rattle.flow_graph.specs.Circulation.{IsCirculation}
use Rattle.flow_graph.specs.Condition.{rise}
use Rattle.flow_graph.proofs.Lookups.{read_once, read_within, slice_get-set_other, slice_get-set_same}
use Rattle.flow_residual.specs.Flows.{HasArc, SettlesTo}
use Rattle.flow_residual.proofs.Settles.{same_settled}
use Rattle.flow_solve.specs.Bounds.{FewTicks, NearSettled, surplus}
use Rattle.sut_circuit.specs.Circuit.{by_account, cost_of, flows_of, high_of, low_of, IsArcOf, IsCostOf}
use Rattle.sut_circuit.specs.IsCircuit.{IsCircuit}
use Rattle.sut_circuit.specs.RowCosts.{ArcCost, cost_at}
use Rattle.sut_circuit.specs.declared.circuits.Circuit.{Circuit}
use Rattle.sut_circuit.proofs.Circulations.{accounts-sorted, flows-circulate, found-has, values-in_bounds}
use Rattle.sut_circuit.proofs.LiveStays.{live-replaced}
use Rattle.sut_circuit.proofs.Places.{All-at, places-same, some-same, zip-length}
use Rattle.sut_circuit.proofs.PotentialsBack.{rise-is}
use Rattle.sut_circuit.proofs.RowsFound.{found-replaced, instead, row_key}
use Rattle.sut_circuit.proofs.Zips.{zip-at}
use Rattle.sut_session.specs.SessionFacts.{KeptNumbers}
use Rattle.sut_session.specs.SmallSets.{IsNear, IsSmallSet, ShowKept}
use Rattle.sut_session.proofs.Moved.{Grows, Rests, RestsNear, rests-here, rests-moved, settles}
use Rattle.sut_session.proofs.Steps.{live-place, row-live}
use Rattle.sut_session.proofs.OneMoved.{surplus-moved}

-- ---- a row found, and a list of rows replaced

cells-replaced : (r : RowFacts) (rows : List RowFacts) → filter_map (λ (s : RowFacts). cell_of s.measure) (map (put r) rows) ≡ filter_map (λ (s : RowFacts). cell_of s.measure) rows
cells-replaced r [] = refl
cells-replaced r (s ∷ rows) = rw (ap cell_of (put-measure r s), cells-replaced r rows) refl

all-replaced : (P : RowFacts → Type 0) (r : RowFacts) (rows : List RowFacts) → P r → All P rows → All P (map (put r) rows)
all-replaced P r [] h a = All-nil P
all-replaced P r (s ∷ rows) h a = All-cons P (put r s) (map (put r) rows) (by (is_of r.measure s)) (all-replaced P r rows h (All-tail P s rows a))
  where
    by : (b : Bool) → P (if b then r else s)
    by true = h
    by false = All-head P s rows a

-- ---- the slopes of a row's cost

abbrev slopes_of : Option RowFacts → ℤ → ℤ
slopes_of o z = cost_of o (z +ℤ pos 1) -ℤ cost_of o z

slopes-grow : (r : RowFacts) → Grows (slopes_of (Some r))
slopes-grow r z =
    let e : (z +ℤ pos 1) +ℤ pos 1 ≡ z +ℤ pos 2 = omega (arith, ints) in
    rw e (bent (term r z) (term r (z +ℤ pos 1)) (term r (z +ℤ pos 2)) (term-convex r z))
  where
    bent : (a b c : ℕ) → 2 * b ≤ a + c → (pos b -ℤ pos a) ≤ℤ (pos c -ℤ pos b)
    bent a b c h = omega (arith, ints)

-- what is shown rests
shown-rests : (o : Option RowFacts) (x p : ℤ) → low_of o ≤ℤ x → x ≤ℤ high_of o → MatchOption o (p ≡ pos 0) (λ r. RowIsShown r x p) → Rests (slopes_of o) (low_of o) (high_of o) p x
shown-rests None x p l h e = record { low = l; high = h; up = λ _. omega (arith, ints, e); down = λ _. omega (arith, ints, e) }
shown-rests (Some r) x p l h s = record {
  low = l;
  high = h;
  up = s.up;
  down = λ k. let i : (x -ℤ pos 1) +ℤ pos 1 ≡ x = omega (arith, ints) in subst (λ z. (pos (term r z) -ℤ pos (term r (x -ℤ pos 1))) ≤ℤ p) (sym i) (s.down k);
}

-- a target that moves takes the cost along
term-moved : (r : RowFacts) (from to : ℤ) → r.target ≡ Some from → (x : ℤ) → term (record r { target = Some to }) x ≡ term r (x -ℤ (to -ℤ from))
term-moved r from to e x =
    let i : (x -ℤ (to -ℤ from)) -ℤ from ≡ x -ℤ to = omega (arith, ints) in
    rw e (ap (λ d. r.weight * loss r.penalty (unsigned_abs d)) (sym i))

slopes-moved : (r : RowFacts) (from to : ℤ) → r.target ≡ Some from → (z : ℤ) → slopes_of (Some (record r { target = Some to })) z ≡ slopes_of (Some r) (z -ℤ (to -ℤ from))
slopes-moved r from to e z =
    let i : (z +ℤ pos 1) -ℤ (to -ℤ from) ≡ (z -ℤ (to -ℤ from)) +ℤ pos 1 = omega (arith, ints) in
    rw (term-moved r from to e (z +ℤ pos 1), term-moved r from to e z, i) refl

-- ---- one number of a list

map-at : {X Y : Type 0} (f : X → Y) (xs : List X) (k : ℕ) (x : X) → slice_get xs k ≡ Some x → slice_get (map f xs) k ≡ Some (f x)
map-at f [] k x e = absurd cc
map-at f (y ∷ ys) zero x e = ap (λ z. Some (f z)) (some-same y x e)
map-at f (y ∷ ys) (suc k) x e = map-at f ys k x e

-- ---- distances, and places that are the same or not

at-most-of : (n d : ℕ) (e : ℤ) → pos n ≤ℤ e → e ≤ℤ pos d → n ≤ d
at-most-of n d e h k = omega (arith, ints)

twice-near : (t y x : ℤ) (d : ℕ) → unsigned_abs (t -ℤ y) ≤ d → unsigned_abs (y -ℤ x) ≤ d → unsigned_abs (t -ℤ x) ≤ 2 * d
twice-near t y x d h k =
    let a = abs_low (t -ℤ y) d h in
    let b = abs_high (t -ℤ y) d h in
    let e = abs_low (y -ℤ x) d k in
    let f = abs_high (y -ℤ x) d k in
    abs_at_most (t -ℤ x) (2 * d) (omega (arith, ints, a, e)) (omega (arith, ints, b, f))

is-same : (a b : ℕ) → a ≡ b → (a == b) ≡ true
is-same a b e = search (rules, nat_tests)

not-same : (a b : ℕ) → a ≢ b → (a == b) ≡ false
not-same a b h = search (rules, nat_tests)

module _ (q : ProblemFacts) (r old : RowFacts) (from to : ℤ) (was : row_at q r.measure ≡ Some old) (target : old.target ≡ Some from) (moved : r ≡ record old { target = Some to })
    (u : TableFacts) (k : KeptNumbers) (shows : ShowKept q u k) where
  abbrev p : ProblemFacts
  p = row_replaced q r

  live : live_measures p ≡ live_measures q
  live = live-replaced q r

  accounts : live_accounts p ≡ live_accounts q
  accounts = ap (λ ms. in_order account_key (flat_map (λ m. left (groups q) m ∷ entered (groups q) m ∷ []) ms)) live

  found : (n : Measure) → row_at p n ≡ (if same_key (row_key r) (measure_key n) then Some r else row_at q n)
  found n = found-replaced r q.rows n ∙ ap (λ o. if same_key (row_key r) (measure_key n) then instead r o else row_at q n) was

  at-edited : row_at p r.measure ≡ Some r
  at-edited = found r.measure ∙ rw (same-refl (row_key r)) refl

  elsewhere : (n : Measure) → same_key (row_key r) (measure_key n) ≡ false → row_at p n ≡ row_at q n
  elsewhere n d = found n ∙ rw d refl

  within-new : IsWithin u r
  within-new =
      let has = found-has (IsWithin u) (is_of r.measure) q.rows old shows.shown.admissible.bounds was in
      subst (IsWithin u) (sym moved) (record { above = has.0.above; below = has.0.below })

  -- the table is admissible for the problem after the edit
  pub still-admissible : IsAdmissible p u
  still-admissible = record {
    of_problem = record {
      cells = shows.shown.admissible.of_problem.cells ∙ sym (cells-replaced r q.rows);
      groups = shows.shown.admissible.of_problem.groups;
    };
    identities = shows.shown.admissible.identities;
    bounds = all-replaced (IsWithin u) r q.rows within-new shows.shown.admissible.bounds;
  }

  live-edited : is_live p r.measure ≡ true
  live-edited = row-live p r.measure r at-edited

  module _ (ok : IsKept p) (c : Circuit) (circuit : IsCircuit p c) (flows : c.state.flows ≡ k.numbers) (potentials : c.state.potentials ≡ k.potentials) where
    abbrev arcs : List Arc
    arcs = c.state.graph.arcs

    -- the flows are the table's values
    flows-are : c.state.flows ≡ map (value_of u) (live_measures p)
    flows-are = flows ∙ sym shows.numbers ∙ ap (map (value_of u)) (sym live)

    circulates : IsCirculation (length c.state.graph.nodes) arcs c.state.flows
    circulates = subst (IsCirculation (length c.state.graph.nodes) arcs) (sym flows-are)
        (flows-circulate cost_at p ok.problem c.state.graph c.state.costs circuit.circuit ok.limits u still-admissible)

    in_bounds : (m : Measure) (a : ℕ) → slice_get (live_measures p) a ≡ Some m → (low_of (row_at p m) ≤ℤ value_of u m) × (value_of u m ≤ℤ high_of (row_at p m))
    in_bounds m a at =
        All-at (λ m. (low_of (row_at p m) ≤ℤ value_of u m) × (value_of u m ≤ℤ high_of (row_at p m))) (live_measures p) a m
        (values-in_bounds cost_at p ok.problem c.state.graph c.state.costs circuit.circuit ok.limits u still-admissible) at

    -- where the edited measure's arc stands
    abbrev place : ℕ
    place = (live-place p c circuit r.measure live-edited).0

    place-in : slice_get (live_measures p) place ≡ Some r.measure
    place-in = subst (λ ms. slice_get ms place ≡ Some r.measure) circuit.circuit.measures (live-place p c circuit r.measure live-edited).1

    -- an arc that carries a number, with its measure
    measure-of : (a : ℕ) (arc : Arc) (cost : ArcCost) (x : ℤ) → HasArc c.state a arc cost x
        → (m : Measure) × (slice_get (live_measures p) a ≡ Some m) × (x ≡ value_of u m) × IsArcOf p (live_accounts p) m arc × IsCostOf cost_at p m cost
    measure-of a arc cost x has =
        let there : a < length (live_measures p) =
        omega (arith, slice_get_within c.state.flows a x has.number_is, ap length flows-are, length-map (live_measures p) (value_of u)) in
        let m = read_within (live_measures p) a there in (
          m.0,
          m.1,
          some-same x (value_of u m.0) (sym has.number_is ∙ ap (λ xs. slice_get xs a) flows-are ∙ map-at (value_of u) (live_measures p) a m.0 m.1),
          zip-at (IsArcOf p (live_accounts p)) (live_measures p) arcs a m.0 arc circuit.circuit.arcs m.1 has.arc_is,
          zip-at (IsCostOf cost_at p) (live_measures p) c.state.costs a m.0 cost circuit.circuit.terms m.1 has.cost_is,
        )

    -- what the potentials show of a measure of the problem before
    shown-at : (a : ℕ) (m : Measure) (arc : Arc) → slice_get (live_measures p) a ≡ Some m → IsArcOf p (live_accounts p) m arc
        → MatchOption (row_at q m) (rise c.state.potentials arc ≡ pos 0) (λ s. RowIsShown s (value_of u m) (rise c.state.potentials arc))
    shown-at a m arc at is =
        let ps = by_account (live_accounts q) k.potentials in
        let h : MeasureIsShown q u ps m = All-at (MeasureIsShown q u ps) (live_measures q) a m shows.shown.measures (subst (λ ms. slice_get ms a ≡ Some m) live at) in
        let e : rise c.state.potentials arc ≡ account_rise (groups q) ps m =
        rise-is p (live_accounts p) c.state.potentials (accounts-sorted p) m arc is
        ∙ ap (λ ys. account_rise (groups q) (by_account (live_accounts p) ys) m) potentials
        ∙ ap (λ nodes. account_rise (groups q) (by_account nodes k.potentials) m) accounts in
        subst (λ z. MatchOption (row_at q m) (z ≡ pos 0) (λ s. RowIsShown s (value_of u m) z)) (sym e) h

    -- a number that rests on the slopes of its measure's row settles there
    arc-settles : (m : Measure) (arc : Arc) (cost : ArcCost) (x z : ℤ) (n : ℕ) → IsArcOf p (live_accounts p) m arc → IsCostOf cost_at p m cost
        → (rests : RestsNear (slopes_of (row_at p m)) (low_of (row_at p m)) (high_of (row_at p m)) z x n)
        → IsNearestSettled (cost_at cost) x arc.lo arc.hi (pos 1) z rests.y × (unsigned_abs (rests.y -ℤ x) ≤ n)
    arc-settles m arc cost x z n is costs rests =
        let s = settles (cost_at cost) (slopes_of (row_at p m)) (low_of (row_at p m)) (high_of (row_at p m)) z x n
        (λ w l h. rw (costs (w +ℤ pos 1) (omega (arith, ints, l)) (omega (arith, ints, h)), costs w l (omega (arith, ints, h))) refl) rests in (
          subst (λ b. IsNearestSettled (cost_at cost) x b arc.hi (pos 1) z rests.y) (sym is.low)
              (subst (λ b. IsNearestSettled (cost_at cost) x (low_of (row_at p m)) b (pos 1) z rests.y) (sym is.high) s.0),
          s.1,
        )

    -- the number of another measure stays where it is
    other-settles : (a : ℕ) (m : Measure) (arc : Arc) (cost : ArcCost) → slice_get (live_measures p) a ≡ Some m → IsArcOf p (live_accounts p) m arc → IsCostOf cost_at p m cost
        → same_key (row_key r) (measure_key m) ≡ false → IsNearestSettled (cost_at cost) (value_of u m) arc.lo arc.hi (pos 1) (rise c.state.potentials arc) (value_of u m)
    other-settles a m arc cost at is costs apart =
        let b = in_bounds m a at in
        let shown = subst (λ o. MatchOption o (rise c.state.potentials arc ≡ pos 0) (λ s. RowIsShown s (value_of u m) (rise c.state.potentials arc))) (sym (elsewhere m apart)) (shown-at a m arc at is) in
        (arc-settles m arc cost (value_of u m) (rise c.state.potentials arc) 0 is costs
        (rests-here (slopes_of (row_at p m)) (low_of (row_at p m)) (high_of (row_at p m)) (rise c.state.potentials arc) (value_of u m)
        (shown-rests (row_at p m) (value_of u m) (rise c.state.potentials arc) b.0 b.1 shown))).0

    abbrev by_far : ℕ
    by_far = unsigned_abs (to -ℤ from)

    -- where the number of the edited measure rests
    edited-rests : (arc : Arc) → IsArcOf p (live_accounts p) r.measure arc
        → RestsNear (slopes_of (row_at p r.measure)) (low_of (row_at p r.measure)) (high_of (row_at p r.measure)) (rise c.state.potentials arc) (value_of u r.measure) by_far
    edited-rests arc is =
        let z = rise c.state.potentials arc in
        let x = value_of u r.measure in
        let b = in_bounds r.measure place place-in in
        let shown = subst (λ o. MatchOption o (z ≡ pos 0) (λ s. RowIsShown s x z)) was (shown-at place r.measure arc place-in is) in
        let low : old.lower ≤ℤ x = subst (λ (s : RowFacts). s.lower ≤ℤ x) moved (subst (λ o. low_of o ≤ℤ x) at-edited b.0) in
        let high : x ≤ℤ old.upper = subst (λ (s : RowFacts). x ≤ℤ s.upper) moved (subst (λ o. x ≤ℤ high_of o) at-edited b.1) in
        let rests = rests-moved (slopes_of (Some old)) (slopes_of (Some (record old { target = Some to }))) (slopes-grow old) (to -ℤ from) (slopes-moved old from to target) old.lower old.upper z x
        (shown-rests (Some old) x z low high shown) in
        subst (λ o. RestsNear (slopes_of o) (low_of o) (high_of o) z x by_far) (sym (at-edited ∙ ap Some moved)) rests

    -- the edited measure's arc, with its cost
    edited : (arc : Arc) × (cost : ArcCost) × HasArc c.state place arc cost (value_of u r.measure) × IsArcOf p (live_accounts p) r.measure arc × IsCostOf cost_at p r.measure cost
    edited =
        let there = slice_get_within (live_measures p) place r.measure place-in in
        let arc = read_within arcs place (omega (arith, there, zip-length (IsArcOf p (live_accounts p)) (live_measures p) arcs circuit.circuit.arcs)) in
        let cost = read_within c.state.costs place (omega (arith, there, zip-length (IsCostOf cost_at p) (live_measures p) c.state.costs circuit.circuit.terms)) in (
          arc.0,
          cost.0,
          record {
            arc_is = arc.1;
            cost_is = cost.1;
            number_is = ap (λ xs. slice_get xs place) flows-are ∙ map-at (value_of u) (live_measures p) place r.measure place-in;
          },
          zip-at (IsArcOf p (live_accounts p)) (live_measures p) arcs place r.measure arc.0 circuit.circuit.arcs place-in arc.1,
          zip-at (IsCostOf cost_at p) (live_measures p) c.state.costs place r.measure cost.0 circuit.circuit.terms place-in cost.1,
        )

    -- where the edited measure's number settles
    abbrev new-number : ℤ
    new-number = (edited-rests edited.0 edited.3).y

    new-settles : IsNearestSettled (cost_at edited.1) (value_of u r.measure) edited.0.lo edited.0.hi (pos 1) (rise c.state.potentials edited.0) new-number × (unsigned_abs (new-number -ℤ value_of u r.measure) ≤ by_far)
    new-settles = arc-settles r.measure edited.0 edited.1 (value_of u r.measure) (rise c.state.potentials edited.0) by_far edited.3 edited.4 (edited-rests edited.0 edited.3)

    abbrev settled : List ℤ
    settled = slice_set c.state.flows place new-number

    place-within : place < length c.state.flows
    place-within = slice_get_within c.state.flows place (value_of u r.measure) edited.2.number_is

    settled-here : slice_get settled place ≡ Some new-number
    settled-here = slice_get-set_same c.state.flows place new-number place-within

    settled-else : (a : ℕ) → a ≢ place → slice_get settled a ≡ slice_get c.state.flows a
    settled-else a h = slice_get-set_other c.state.flows place a new-number h

    -- two measures are the same exactly where their places are
    same-place : (a : ℕ) (m : Measure) → slice_get (live_measures p) a ≡ Some m → (place == a) ≡ same_key (row_key r) (measure_key m)
    same-place a m at = places-same measure_key (live_measures p) (live-sorted p) place a r.measure m place-in at

    all-settle : SettlesTo cost_at (pos 1) c.state settled
    all-settle = record {
      counted = length-set c.state.flows place new-number;
      each = λ a arc cost x y has there. elim (cases_eq a place) [
        | inl e ↦ (let now = subst (λ b. HasArc c.state b arc cost x) e has in
            let same-arc : edited.0 ≡ arc = read_once arcs place edited.0 arc edited.2.arc_is now.arc_is in
            let same-cost : edited.1 ≡ cost = read_once c.state.costs place edited.1 cost edited.2.cost_is now.cost_is in
            let same-x : value_of u r.measure ≡ x = read_once c.state.flows place (value_of u r.measure) x edited.2.number_is now.number_is in
            let same-y : new-number ≡ y = read_once settled place new-number y settled-here (subst (λ b. slice_get settled b ≡ Some y) e there) in
            same_settled cost_at edited.1 cost (value_of u r.measure) x edited.0.lo arc.lo edited.0.hi arc.hi (pos 1) (pos 1) (rise c.state.potentials edited.0) (rise c.state.potentials arc) new-number y
            same-cost same-x (ap (λ (b : Arc). b.lo) same-arc) (ap (λ (b : Arc). b.hi) same-arc) refl (ap (rise c.state.potentials) same-arc) same-y new-settles.0)
        | inr h ↦ (let m = measure-of a arc cost x has in
            let same-y : x ≡ y = read_once c.state.flows a x y has.number_is (sym (settled-else a h) ∙ there) in
            let apart : same_key (row_key r) (measure_key m.0) ≡ false = sym (same-place a m.0 m.1) ∙ not-same place a (λ e. h (sym e)) in
            same_settled cost_at cost cost (value_of u m.0) x arc.lo arc.lo arc.hi arc.hi (pos 1) (pos 1) (rise c.state.potentials arc) (rise c.state.potentials arc) (value_of u m.0) y
            refl (sym m.2) refl refl refl refl (sym m.2 ∙ same-y) (other-settles a m.0 arc cost m.1 m.3 m.4 apart))
      ];
    }

    surplus-small : surplus c.state settled ≤ℤ pos by_far
    surplus-small =
        let s = surplus-moved arcs c.state.flows (length c.state.graph.nodes) circulates.balanced place edited.0 (value_of u r.measure) new-number edited.2.arc_is edited.2.number_is in
        omega (arith, ints, s, new-settles.1)

    -- a surplus of at most the move
    pub ticks-few : by_far ≤ 4096 → (ticks : ℕ) → FewTicks cost_at c.state ticks → ticks ≤ by_far
    ticks-few few ticks at_most =
        let s = surplus-small in
        let h = at_most settled all-settle (omega (arith, ints, s, few)) in
        omega (arith, ints, s, h)

    -- flows near to where the old ones settle are near to the old values
    pub stays-near : by_far ≤ 4096 → (t : TableFacts) (new : List ℤ) → flows_of p t ≡ new → NearSettled cost_at c.state new → IsNear p t u r.measure by_far
    stays-near few t new is near = λ i dflt h.
        let m = get_or (live_measures p) i dflt in
        let at : slice_get (live_measures p) i ≡ Some m = slice_get-get_or (live_measures p) i dflt h in
        let now : slice_get new i ≡ Some (value_of t m) = ap (λ xs. slice_get xs i) (sym is) ∙ map-at (value_of t) (live_measures p) i m at in
        let s = surplus-small in
        let within = near settled all-settle (omega (arith, ints, s, few)) in
        let flip : same_key (measure_key m) (row_key r) ≡ (place == i) = same-flip (measure_key m) (row_key r) ∙ sym (same-place i m at) in
        elim (cases_eq i place) [
          | inl e ↦ (let same : r.measure ≡ m = some-same r.measure m (sym place-in ∙ subst (λ b. slice_get (live_measures p) b ≡ Some m) e at) in
              let close = within i new-number (value_of t m) (subst (λ b. slice_get settled b ≡ Some new-number) (sym e) settled-here) now in
              let true-here : same_key (measure_key m) (row_key r) ≡ true = flip ∙ is-same place i (sym e) in
              rw true-here (subst (λ n. unsigned_abs (value_of t m -ℤ value_of u n) ≤ 2 * by_far) same
              (twice-near (value_of t m) new-number (value_of u r.measure) by_far (at-most-of (unsigned_abs (value_of t m -ℤ new-number)) by_far (surplus c.state settled) close s) new-settles.1)))
          | inr k ↦ (let old : slice_get settled i ≡ Some (value_of u m) = settled-else i k ∙ ap (λ xs. slice_get xs i) flows-are ∙ map-at (value_of u) (live_measures p) i m at in
              let close = within i (value_of u m) (value_of t m) old now in
              let false-here : same_key (measure_key m) (row_key r) ≡ false = flip ∙ not-same place i (λ e. k (sym e)) in
              rw false-here (at-most-of (unsigned_abs (value_of t m -ℤ value_of u m)) by_far (surplus c.state settled) close s))
        ]

-- ---- after a small set

module _ (before after : ProblemFacts) (k : KeptNumbers) (t : TableFacts) (shows : ShowKept before t k) (r : RowFacts) (d : ℕ) (small : IsSmallSet before after r d) where
  pub set-admissible : IsAdmissible after t
  set-admissible = subst (λ p. IsAdmissible p t) (sym small.rows) (still-admissible before r small.old small.from small.to small.was small.target small.moved t k shows)

  module _ (ok : IsKept after) (c : Circuit) (circuit : IsCircuit after c) (flows : c.state.flows ≡ k.numbers) (potentials : c.state.potentials ≡ k.potentials) where
    few : unsigned_abs (small.to -ℤ small.from) ≤ 4096
    few = subst (λ n. n ≤ 4096) small.by small.few

    pub set-ticks : (ticks : ℕ) → FewTicks cost_at c.state ticks → ticks ≤ d
    set-ticks ticks at_most =
        subst (λ n. ticks ≤ n) (sym small.by)
        (ticks-few before r small.old small.from small.to small.was small.target small.moved t k shows (subst IsKept small.rows ok) c (subst (λ p. IsCircuit p c) small.rows circuit) flows potentials few ticks at_most)

    pub set-near : (u : TableFacts) (new : List ℤ) → flows_of after u ≡ new → NearSettled cost_at c.state new → IsNear after u t r.measure d
    set-near u new is near =
        subst (λ n. IsNear after u t r.measure n) (sym small.by)
        (subst (λ p. IsNear p u t r.measure (unsigned_abs (small.to -ℤ small.from))) (sym small.rows)
        (stays-near before r small.old small.from small.to small.was small.target small.moved t k shows (subst IsKept small.rows ok) c (subst (λ p. IsCircuit p c) small.rows circuit) flows potentials few u new
        (subst (λ p. flows_of p u ≡ new) small.rows is) near))
