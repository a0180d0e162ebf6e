-- A circuit with one arc changed is that of the problem with one row changed.
use Rattle.std.proofs.Common.{◌≡◌, ℕ, zero, suc, ◌^◌, ◌<◌, List, [], ◌∷◌, length, Option, Some, None, true, false, not, map, ℤ, pos, neg_ℤ, ◌≤ℤ◌, refl, sym, ◌∙◌, ap, subst, arith}
use Rattle.std.specs.Prelude.{if◌then◌else◌, filter, slice_get, slice_set, slice_index_or, All}
use Rattle.std.specs.List.{AllZip, flat_map, list_any, position}
use Rattle.std.proofs.lemmas.Bool.{eqb-true}
use Rattle.std.proofs.lemmas.Int.{ints, clamps}
use Rattle.std.proofs.lemmas.Option.{get_or_from_slice_get}
use Rattle.sut_measures.specs.Keys.{account_key, measure_key}
use Rattle.sut_measures.specs.Ends.{left, entered}
use Rattle.sut_measures.specs.declared.accounts.Account.{Account}
use Rattle.sut_measures.specs.declared.measures.Measure.{Measure}
use Rattle.sut_measures.specs.declared.measures.Measure.TheVariants as measure
use Rattle.sut_measures.specs.declared.measures.Total.{Total}
use Rattle.sut_measures.proofs.KeyLemmas.{measure_key-injective}
use Rattle.sut_tables.specs.Changes.{is_of, row_removed}
use Rattle.sut_tables.specs.Costs.{term}
use Rattle.sut_tables.specs.InOrder.{same_key, in_order, put_in_order}
use Rattle.sut_tables.specs.LiveRule.{is_live, is_part_of}
use Rattle.sut_tables.specs.ProblemFacts.{ProblemFacts}
use Rattle.sut_tables.specs.Problems.{groups, row_at, live_measures, live_accounts}
use Rattle.sut_tables.specs.RowFacts.{RowFacts}
use Rattle.sut_tables.proofs.Conservation.{live-sorted}
use Rattle.sut_tables.proofs.Kept.{put}
use Rattle.sut_tables.proofs.LiveMeasures.{live-is}
use Rattle.sut_tables.proofs.Ordered.{same-refl}
use Rattle.flow_graph.specs.declared.arcs.Arc.{Arc}
use Rattle.flow_graph.specs.Circulation.{IsFlow}
use Rattle.flow_graph.specs.Network.{Network, IsArcAmong}
use Rattle.flow_graph.specs.Updates.{SetsBounds}
use Rattle.flow_graph.proofs.Lookups.{read_within, some_and}
use Rattle.flow_residual.specs.Flows.{nearest_within}
use Rattle.sut_circuit.specs.Circuit.{IsArcOf, IsCircuitOf, IsCostOf, cost_of, high_of, low_of, wide}
use Rattle.sut_circuit.specs.RowChanges.{row_put}
use Rattle.sut_circuit.specs.RowCosts.{ArcCost, cost_at}
use Rattle.sut_circuit.proofs.LiveStays.{live-put, live-removed, live-replaced}
use Rattle.sut_circuit.proofs.Names.{any-among, found-at, measure-same, same_measure}
use Rattle.sut_circuit.proofs.Places.{places-same, All-at}
use Rattle.sut_circuit.proofs.RowsFound.{found-put, found-removed, found-replaced, instead, row_key}
use Rattle.sut_circuit.proofs.Zips.{zip-at, zip-set}

-- ---- rows alone change, and only one measure's row

module _ (p : ProblemFacts) (rows : List RowFacts) (m : Measure) (o : Option RowFacts)
    (found : (n : Measure) → row_at (record p { rows = rows }) n ≡ (if same_key (measure_key m) (measure_key n) then o else row_at p n))
    (live : live_measures (record p { rows = rows }) ≡ live_measures p) where
  abbrev after : ProblemFacts
  after = record p { rows = rows }

  at-measure : row_at after m ≡ o
  at-measure = found m ∙ rw (same-refl (measure_key m)) refl

  elsewhere : (n : Measure) → same_key (measure_key m) (measure_key n) ≡ false → row_at p n ≡ row_at after n
  elsewhere n d = sym (found n ∙ rw d refl)

  accounts : live_accounts after ≡ live_accounts p
  accounts = ap (λ ms. in_order account_key (flat_map (λ m. left (groups p) m ∷ entered (groups p) m ∷ []) ms)) live

  abbrev arc_at : List Account → Measure → Arc → Type 0
  arc_at nodes n arc = IsArcOf after nodes n arc

  other-arc : (n : Measure) (arc : Arc) → same_key (measure_key m) (measure_key n) ≡ false → IsArcOf p (live_accounts p) n arc → IsArcOf after (live_accounts p) n arc
  other-arc n arc d h = record {
    tail = h.tail;
    head = h.head;
    low = h.low ∙ ap low_of (elsewhere n d);
    high = h.high ∙ ap high_of (elsewhere n d);
  }

  other-cost : (n : Measure) (c : ArcCost) → same_key (measure_key m) (measure_key n) ≡ false → IsCostOf cost_at p n c → IsCostOf cost_at after n c
  other-cost n c d h =
      let Q : Option RowFacts → Type 0 = λ o. (x : ℤ) → low_of o ≤ℤ x → x ≤ℤ high_of o → cost_at c x ≡ cost_of o x in subst Q (elsewhere n d) h

  this-cost : (c : ArcCost) → ((x : ℤ) → low_of o ≤ℤ x → x ≤ℤ high_of o → cost_at c x ≡ cost_of o x) → IsCostOf cost_at after m c
  this-cost c h =
      let Q : Option RowFacts → Type 0 = λ o. (x : ℤ) → low_of o ≤ℤ x → x ≤ℤ high_of o → cost_at c x ≡ cost_of o x in subst Q (sym at-measure) h

  pub circuit-changed : (g h : Network Account Measure) (costs new : List ArcCost) (a : ℕ) (lo hi : ℤ) (c : ArcCost) → IsCircuitOf cost_at p g costs
      → slice_get g.names a ≡ Some m → lo ≡ low_of o → hi ≡ high_of o → ((x : ℤ) → low_of o ≤ℤ x → x ≤ℤ high_of o → cost_at c x ≡ cost_of o x)
      → SetsBounds g h a lo hi → new ≡ slice_set costs a c → IsCircuitOf cost_at after h new
  circuit-changed g h costs new a lo hi c circuit there low high cheap sets is =
      let old = some_and (slice_get g.arcs a) (λ arc. h ≡ record g { arcs = slice_set g.arcs a (record arc { lo = lo; hi = hi }) }) sets in
      let at : slice_get (live_measures p) a ≡ Some m = subst (λ ms. slice_get ms a ≡ Some m) circuit.measures there in
      let was = zip-at (IsArcOf p (live_accounts p)) (live_measures p) g.arcs a m old.0 circuit.arcs at old.1 in
      let here : IsArcOf after (live_accounts p) m (record old.0 { lo = lo; hi = hi }) = record {
        tail = was.tail;
        head = was.head;
        low = low ∙ ap low_of (sym at-measure);
        high = high ∙ ap high_of (sym at-measure);
      } in
      let arcs = zip-set (IsArcOf p (live_accounts p)) (IsArcOf after (live_accounts p)) measure_key (live_measures p) g.arcs (live-sorted p) a m (record old.0 { lo = lo; hi = hi }) at circuit.arcs here other-arc in
      let terms = zip-set (IsCostOf cost_at p) (IsCostOf cost_at after) measure_key (live_measures p) costs (live-sorted p) a m c at circuit.terms (this-cost c cheap) other-cost in
      record {
        accounts = ap (λ (z : Network Account Measure). z.nodes) old.2 ∙ circuit.accounts ∙ sym accounts;
        measures = ap (λ (z : Network Account Measure). z.names) old.2 ∙ circuit.measures ∙ sym live;
        arcs = subst (λ zs. AllZip (IsArcOf after (live_accounts after)) (live_measures after) zs) (sym (ap (λ (z : Network Account Measure). z.arcs) old.2))
            (subst (λ nodes. AllZip (IsArcOf after nodes) (live_measures after) (slice_set g.arcs a (record old.0 { lo = lo; hi = hi }))) (sym accounts)
            (subst (λ ms. AllZip (IsArcOf after (live_accounts p)) ms (slice_set g.arcs a (record old.0 { lo = lo; hi = hi }))) (sym live) arcs));
        terms = subst (λ cs. AllZip (IsCostOf cost_at after) (live_measures after) cs) (sym is) (subst (λ ms. AllZip (IsCostOf cost_at after) ms (slice_set costs a c)) (sym live) terms);
      }

-- ---- a row put in

abbrev Change : ProblemFacts → List RowFacts → Measure → Option RowFacts → Type 0
Change p rows m o =
    ((n : Measure) → row_at (record p { rows = rows }) n ≡ (if same_key (measure_key m) (measure_key n) then o else row_at p n))
    × (live_measures (record p { rows = rows }) ≡ live_measures p)

put-there : (p : ProblemFacts) (r s : RowFacts) → row_at p r.measure ≡ Some s → Change p (map (put r) p.rows) r.measure (Some r)
put-there p r s e = (
  (λ n. found-replaced r p.rows n ∙ ap (λ o. if same_key (row_key r) (measure_key n) then instead r o else row_at p n) e),
  live-replaced p r,
)

put-new : (p : ProblemFacts) (r : RowFacts) → row_at p r.measure ≡ None → is_live p r.measure ≡ true → Change p (put_in_order row_key r p.rows) r.measure (Some r)
put-new p r e live = ((λ n. found-put r p.rows e n), live-put p r e live)

pub row-put : (p : ProblemFacts) (r : RowFacts) → is_live p r.measure ≡ true → (g h : Network Account Measure) (costs new : List ArcCost) (a : ℕ) (c : ArcCost) → IsCircuitOf cost_at p g costs
    → slice_get g.names a ≡ Some r.measure → ((x : ℤ) → cost_at c x ≡ pos (term r x)) → SetsBounds g h a r.lower r.upper → new ≡ slice_set costs a c
    → IsCircuitOf cost_at (row_put p r) h new × (live_accounts (row_put p r) ≡ live_accounts p)
row-put p r live g h costs new a c circuit there cheap sets is = by (row_at p r.measure) refl
  where
    by : (o : Option RowFacts) → row_at p r.measure ≡ o
        → IsCircuitOf cost_at (row_put p r) h new × (live_accounts (row_put p r) ≡ live_accounts p)
    by None e =
        let change = put-new p r e live in
        rw e (
          circuit-changed p (put_in_order row_key r p.rows) r.measure (Some r) change.0 change.1 g h costs new a r.lower r.upper c circuit there refl refl (λ x l k. cheap x) sets is,
          accounts p (put_in_order row_key r p.rows) r.measure (Some r) change.0 change.1,
        )
    by (Some s) e =
        let change = put-there p r s e in
        rw e (
          circuit-changed p (map (put r) p.rows) r.measure (Some r) change.0 change.1 g h costs new a r.lower r.upper c circuit there refl refl (λ x l k. cheap x) sets is,
          accounts p (map (put r) p.rows) r.measure (Some r) change.0 change.1,
        )

-- ---- the row of a total taken out

pub total-freed : (p : ProblemFacts) (u : Total) → list_any (λ (r : RowFacts). is_part_of (groups p) r.measure (measure.Total u)) p.rows ≡ true
    → (g h : Network Account Measure) (costs new : List ArcCost) (a : ℕ) (c : ArcCost) → IsCircuitOf cost_at p g costs
    → slice_get g.names a ≡ Some (measure.Total u) → ((x : ℤ) → cost_at c x ≡ pos 0) → SetsBounds g h a (neg_ℤ wide) wide → new ≡ slice_set costs a c
    → IsCircuitOf cost_at (row_removed p (measure.Total u)) h new × (live_accounts (row_removed p (measure.Total u)) ≡ live_accounts p)
total-freed p u part g h costs new a c circuit there cheap sets is = (
  circuit-changed p (filter (λ s. not (is_of (measure.Total u) s)) p.rows) (measure.Total u) None (found-removed (measure.Total u) p.rows) (live-removed p u part)
      g h costs new a (neg_ℤ wide) wide c circuit there refl refl (λ x l k. cheap x) sets is,
  accounts p (filter (λ s. not (is_of (measure.Total u) s)) p.rows) (measure.Total u) None (found-removed (measure.Total u) p.rows) (live-removed p u part),
)

-- ---- the arc of a measure

-- a live measure has an arc
pub arc-there : (p : ProblemFacts) (names : List Measure) (m : Measure) → names ≡ live_measures p → is_live p m ≡ true → list_any (same_measure m) names ≡ true
arc-there p names m e live =
    subst (λ ms. list_any (same_measure m) ms ≡ true) (sym e) (any-among measure_key same_measure measure-same m (live_measures p) (live-is p m ∙ live))

-- and only one
pub one-arc : (p : ProblemFacts) (names : List Measure) (m : Measure) (a b : ℕ) → names ≡ live_measures p → slice_get names a ≡ Some m → slice_get names b ≡ Some m → a ≡ b
one-arc p names m a b e f g =
    eqb-true a b
    (places-same measure_key (live_measures p) (live-sorted p) a b m m (subst (λ ms. slice_get ms a ≡ Some m) e f) (subst (λ ms. slice_get ms b ≡ Some m) e g) ∙ same-refl (measure_key m))

-- at its place
pub arc-place : (names : List Measure) (m : Measure) (a : ℕ) → position (same_measure m) names ≡ Some a → slice_get names a ≡ Some m
arc-place names m a e = found-at measure_key same_measure measure-same measure_key-injective m names a e

-- ---- a flow within wide bounds stays

-- what stands at a place put there again
pub set-same : {X : Type 0} (xs : List X) (a : ℕ) (x : X) → slice_get xs a ≡ Some x → slice_set xs a x ≡ xs
set-same [] a x e = absurd cc
set-same (y ∷ ys) zero x e = ap (λ z. z ∷ ys) (some y x e)
  where
    some : {X : Type 0} (y x : X) → Some y ≡ Some x → x ≡ y
    some y x e = cc
set-same (y ∷ ys) (suc a) x e = ap (λ zs. y ∷ zs) (set-same ys a x e)

pub flow-stays : (nodes : ℕ) (arcs : List Arc) (flows : List ℤ) (a : ℕ) → All (IsArcAmong nodes) arcs → AllZip IsFlow arcs flows → a < length flows → length flows ≡ length arcs
    → slice_set flows a (nearest_within (neg_ℤ (pos (2 ^ 60))) (pos (2 ^ 60)) (slice_index_or flows a (pos 0))) ≡ flows
flow-stays nodes arcs flows a fit bounded there counted =
    let arc = read_within arcs a (omega (arith, there, counted)) in
    let flow = read_within flows a there in
    let among = All-at (IsArcAmong nodes) arcs a arc.0 fit arc.1 in
    let is = zip-at IsFlow arcs flows a arc.0 flow.0 bounded arc.1 flow.1 in
    let same : nearest_within (neg_ℤ (pos (2 ^ 60))) (pos (2 ^ 60)) flow.0 ≡ flow.0 = omega (arith, ints, clamps, among.bounds.low, among.bounds.high, is.low, is.high) in
    ap (λ z. slice_set flows a (nearest_within (neg_ℤ (pos (2 ^ 60))) (pos (2 ^ 60)) z)) (get_or_from_slice_get flows a flow.0 (pos 0) flow.1)
    ∙ ap (λ z. slice_set flows a z) same ∙ set-same flows a flow.0 flow.1
