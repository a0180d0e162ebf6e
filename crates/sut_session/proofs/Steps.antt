-- What an edit's step says of the rows, and where the arc of a live measure stands.
use Rattle.std.proofs.Common.{◌≡◌, ℕ, List, [], ◌∷◌, Option, Some, None, Bool, true, false, not, cond, ◌||◌, refl, sym, ◌∙◌, ap, subst}
use Rattle.std.specs.Prelude.{Result, Ok, Err, filter, find, if◌then◌else◌, is_some, option_map, slice_get}
use Rattle.std.specs.List.{list_any, position, position_or_len}
use Rattle.flow_graph.specs.declared.arcs.ArcId.{ArcId}
use Rattle.sut_measures.specs.Keys.{measure_key}
use Rattle.sut_measures.specs.declared.measures.Total.{Total}
use Rattle.sut_measures.specs.declared.measures.Measure.{Measure}
use Rattle.sut_measures.specs.declared.measures.Measure.TheVariants as measure
use Rattle.sut_tables.specs.Changes.{has_room, is_of, row_removed, row_replaced, with_row}
use Rattle.sut_tables.specs.LiveRule.{is_live, is_part_of}
use Rattle.sut_tables.specs.ProblemFacts.{ProblemFacts}
use Rattle.sut_tables.specs.Problems.{groups, live_measures, row_at}
use Rattle.sut_tables.specs.RowFacts.{RowFacts}
use Rattle.sut_tables.proofs.Converse.{live-among}
use Rattle.sut_tables.proofs.LiveMeasures.{live-is}
use Rattle.sut_tables.proofs.Ordered.{among, or_true}
use Rattle.sut_circuit.specs.IsCircuit.{IsCircuit}
use Rattle.sut_circuit.specs.RowChanges.{row_put}
use Rattle.sut_circuit.specs.declared.circuits.Circuit.{Circuit}
use Rattle.sut_circuit.proofs.Changed.{arc-place, arc-there}
use Rattle.sut_circuit.proofs.Names.{place-there, same_measure}
use Rattle.sut_circuit.proofs.Places.{All-at}
use Rattle.sut_edits.specs.Edits.{edited}
use Rattle.sut_edits.specs.declared.edits.Edit.TheVariants as edit
use Rattle.sut_edits.specs.declared.faults.EditFault.{EditFault}
use Rattle.sut_edits.specs.declared.faults.EditFault.TheVariants as fault

-- ---- the parts of a total

-- what passes a test among some of a list passes it in the list
pub any-filtered : {X : Type 0} (t f : X → Bool) (xs : List X) → list_any t (filter f xs) ≡ true → list_any t xs ≡ true
any-filtered t f [] h = h
any-filtered t f (x ∷ xs) h = by (f x) h (any-filtered t f xs)
  where
    later : (b : Bool) → list_any t xs ≡ true → (b || list_any t xs) ≡ true
    later b e = rw e (or_true b)

    first : (b d e : Bool) → (d ≡ true → e ≡ true) → (b || d) ≡ true → (b || e) ≡ true
    first true d e rest h = refl
    first false d e rest h = rest h

    by : (b : Bool) → list_any t (cond b (x ∷ filter f xs) (filter f xs)) ≡ true → (list_any t (filter f xs) ≡ true → list_any t xs ≡ true) → (t x || list_any t xs) ≡ true
    by true g rest = first (t x) (list_any t (filter f xs)) (list_any t xs) rest g
    by false g rest = later (t x) (rest g)

-- an element less, and one that passes
pub any-more : {X : Type 0} (t : X → Bool) (x : X) (rest all : List X) → all ≡ x ∷ rest → t x ≡ false → list_any t all ≡ list_any t rest
any-more t x rest all e f = ap (list_any t) e ∙ ap (λ b. b || list_any t rest) f

-- a part that is among the rows after one was taken out was among them before
pub part-before : (q p : ProblemFacts) (m : Measure) (t : Total) → p ≡ row_removed q m → list_any (λ (r : RowFacts). is_part_of (groups p) r.measure (measure.Total t)) p.rows ≡ true
    → list_any (λ (r : RowFacts). is_part_of (groups q) r.measure (measure.Total t)) q.rows ≡ true
part-before q p m t e h =
    any-filtered (λ (r : RowFacts). is_part_of (groups q) r.measure (measure.Total t)) (λ s. not (is_of m s)) q.rows
    (subst (λ (z : ProblemFacts). list_any (λ (r : RowFacts). is_part_of (groups z) r.measure (measure.Total t)) z.rows ≡ true) e h)

-- ---- the steps of edits

-- a row that is found makes its measure live
found-live : (t l : RowFacts → Bool) (rows : List RowFacts) (r : RowFacts) → find t rows ≡ Some r → list_any (λ s. t s || l s) rows ≡ true
found-live t l [] r e = absurd cc
found-live t l (s ∷ rows) r e = by (t s) e (found-live t l rows r)
  where
    by : (b : Bool) → (if b then Some s else find t rows) ≡ Some r → (find t rows ≡ Some r → list_any (λ s. t s || l s) rows ≡ true) → ((b || l s) || list_any (λ s. t s || l s) rows) ≡ true
    by true f rest = refl
    by false f rest = rw (rest f) (or_true (l s))

pub row-live : (p : ProblemFacts) (m : Measure) (r : RowFacts) → row_at p m ≡ Some r → is_live p m ≡ true
row-live p m r e = found-live (is_of m) (λ s. is_part_of (groups p) s.measure m) p.rows r e

pub ok-same : (p q : ProblemFacts) (r : Result ProblemFacts EditFault) → r ≡ Ok p → r ≡ Ok q → p ≡ q
ok-same p q r e f = cc

pub set-step : (q p : ProblemFacts) (r : RowFacts) → edited q (edit.Set r) ≡ Ok p → (is_live q r.measure ≡ true) × (row_put q r ≡ p)
set-step q p r e = by (row_at q r.measure) refl e
  where
    by : (o : Option RowFacts) → row_at q r.measure ≡ o → (if is_some o then Ok (row_replaced q r) else Err fault.NoRow) ≡ Ok p → (is_live q r.measure ≡ true) × (row_put q r ≡ p)
    by None f g = absurd cc
    by (Some s) f g = (row-live q r.measure s f, rw f (ok-same (row_replaced q r) p (Ok (row_replaced q r)) refl g))

pub add-step : (q p : ProblemFacts) (r : RowFacts) → edited q (edit.Add r) ≡ Ok p → row_put q r ≡ p
add-step q p r e = by (row_at q r.measure) refl (has_room q r.measure) e
  where
    by : (o : Option RowFacts) → row_at q r.measure ≡ o → (b : Bool) → (if is_some o then Err fault.RowThere else if b then Ok (with_row q r) else Err fault.Full) ≡ Ok p → row_put q r ≡ p
    by (Some s) f b g = absurd cc
    by None f true g = rw f (ok-same (with_row q r) p (Ok (with_row q r)) refl g)
    by None f false g = absurd cc

pub drop-step : (q p : ProblemFacts) (m : Measure) → edited q (edit.Drop m) ≡ Ok p → p ≡ row_removed q m
drop-step q p m e = by (is_some (row_at q m)) e
  where
    by : (b : Bool) → (if b then Ok (row_removed q m) else Err fault.NoRow) ≡ Ok p → p ≡ row_removed q m
    by true g = ok-same p (row_removed q m) (Ok (row_removed q m)) g refl
    by false g = absurd cc

-- ---- arcs of live measures

pub live-place : (p : ProblemFacts) (c : Circuit) → IsCircuit p c → (m : Measure) → is_live p m ≡ true → (a : ℕ) × (slice_get c.state.graph.names a ≡ Some m)
live-place p c circuit m live =
    let names = c.state.graph.names in (
      position_or_len (same_measure m) names,
      arc-place names m (position_or_len (same_measure m) names) (place-there (same_measure m) names (arc-there p names m circuit.circuit.measures live)),
    )

-- a measure with an arc is live
pub arc-live : (p : ProblemFacts) (c : Circuit) → IsCircuit p c → (m : Measure) (a : ℕ) → slice_get c.state.graph.names a ≡ Some m → is_live p m ≡ true
arc-live p c circuit m a at =
    sym (live-is p m)
    ∙ All-at (λ m. among measure_key (measure_key m) (live_measures p) ≡ true) (live_measures p) a m (live-among p)
    (subst (λ ms. slice_get ms a ≡ Some m) circuit.circuit.measures at)

-- so a measure whose arc a look-up finds is live
pub found-live-arc : (q : ProblemFacts) (c : Circuit) → IsCircuit q c → (names : List Measure) (m n : Measure) (o : Option ArcId) → names ≡ c.state.graph.names → m ≡ n
    → option_map (λ (id : ArcId). id.0) o ≡ position (same_measure m) names → is_some o ≡ true → is_live q n ≡ true
found-live-arc q c circuit names m n None e f look some = absurd cc
found-live-arc q c circuit names m n (Some id) e f look some =
    arc-live q c circuit n id.0
    (subst (λ ns. slice_get ns id.0 ≡ Some n) e (subst (λ z. slice_get names id.0 ≡ Some z) f (arc-place names m id.0 (sym look))))
