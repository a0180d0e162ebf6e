-- The table of a circulation, flow by flow.
use Rattle.std.proofs.Common.{◌≡◌, ℕ, zero, suc, ℤ, pos, ◌+◌, ◌<◌, ◌≤◌, List, [], ◌∷◌, ◌++◌, length, take, map, set, Some, Bool, true, false, ◌||◌, refl, arith, sym, ◌∙◌, ap, subst, add-one}
use Rattle.std.specs.Prelude.{if◌then◌else◌, slice_get, All, option_map}
use Rattle.std.proofs.lemmas.List.Elements.{All-head, All-tail, All-weaker}
use Rattle.std.proofs.lemmas.Option.{slice_get-map, slice_get_within, get_or_from_slice_get}
use Rattle.sut_measures.specs.Keys.{cell_key, measure_key}
use Rattle.sut_measures.specs.Sums.{same_cell}
use Rattle.sut_measures.specs.declared.measures.Cell.{Cell}
use Rattle.sut_measures.specs.declared.measures.Measure.{Measure}
use Rattle.sut_measures.specs.declared.measures.Measure.TheVariants as measure
use Rattle.sut_tables.specs.declared.tables.Held.{Held}
use Rattle.sut_tables.specs.Flows.{held, table_of}
use Rattle.sut_tables.specs.InOrder.{IsAscending, same_key}
use Rattle.sut_tables.specs.ProblemFacts.{ProblemFacts}
use Rattle.sut_tables.specs.Problems.{IsProblem, IsTableOf, cell_rows, live_measures}
use Rattle.sut_tables.specs.Rows.{InRange}
use Rattle.sut_tables.specs.TableFacts.{TableFacts}
use Rattle.sut_tables.specs.Tables.{put_number}
use Rattle.sut_tables.specs.Values.{number_at, value_of}
use Rattle.sut_tables.proofs.Conservation.{Sorted-from_ascending, live-sorted, total-cell}
use Rattle.sut_tables.proofs.Converse.{live-among}
use Rattle.sut_tables.proofs.Undo.{table_of-same, table_of-values}
use Rattle.sut_tables.proofs.HeldCells.{key_of, put_in, put-set}
use Rattle.sut_tables.proofs.Lists.{After-differ}
use Rattle.std.proofs.lemmas.List.{map-append, take_more_set}
use Rattle.sut_tables.proofs.LiveCounts.{take-all, take-more}
use Rattle.sut_tables.proofs.Ordered.{Sorted, among, same-eq, same-refl, same-flip}
use Rattle.sut_tables.proofs.Wide.{numbers-in_range, zero-in_range}
use Rattle.flow_graph.specs.Circulation.{IsCirculation}
use Rattle.flow_graph.specs.Network.{Network}
use Rattle.sut_measures.specs.declared.accounts.Account.{Account}
use Rattle.sut_circuit.specs.Circuit.{IsCircuitOf, number_in, table_from}
use Rattle.sut_circuit.specs.TableFlows.{FitsIn, put_flow}
use Rattle.sut_circuit.proofs.Changed.{set-same}
use Rattle.sut_circuit.proofs.Circulations.{flows-back, table-admissible}
use Rattle.sut_circuit.proofs.Places.{some-same, All-at}

-- ---- the number of a measure among the first so many, and else what another function tells

abbrev pub number_over : (Measure → ℤ) → List Measure → List ℤ → Measure → ℤ
number_over f (m ∷ ms) (x ∷ xs) n = if same_key (measure_key m) (measure_key n) then x else number_over f ms xs n
number_over f ms xs n = f n

over-more : (f : Measure → ℤ) (ms : List Measure) (xs : List ℤ) → Sorted measure_key ms → (k : ℕ) (m : Measure) (x : ℤ) → slice_get ms k ≡ Some m → slice_get xs k ≡ Some x → (n : Measure)
    → number_over f (take (suc k) ms) (take (suc k) xs) n ≡ (if same_key (measure_key m) (measure_key n) then x else number_over f (take k ms) (take k xs) n)
over-more f [] xs s k m x e g n = absurd cc
over-more f (w ∷ ws) [] s k m x e g n = absurd cc
over-more f (w ∷ ws) (y ∷ ys) s zero m x e g n = rw (some-same w m e, some-same y x g) refl
over-more f (w ∷ ws) (y ∷ ys) s (suc k) m x e g n =
    by (same_key (measure_key w) (measure_key n)) (same_key (measure_key m) (measure_key n)) refl refl (over-more f ws ys s.1 k m x e g n)
  where
    differ : same_key (measure_key w) (measure_key m) ≡ false
    differ = All-at (λ z. same_key (measure_key w) (measure_key z) ≡ false) ws k m (After-differ measure_key (measure_key w) ws s.0) e

    both : same_key (measure_key w) (measure_key n) ≡ true → same_key (measure_key m) (measure_key n) ≡ true → ⊥
    both h l =
        absurd (apart (sym (subst (λ z. same_key (measure_key w) z ≡ true) (same-eq (measure_key w) (measure_key n) h ∙ sym (same-eq (measure_key m) (measure_key n) l)) (same-refl (measure_key w))) ∙ differ))
      where
        apart : true ≡ false → ⊥
        apart e = cc

    by : (b d : Bool) → same_key (measure_key w) (measure_key n) ≡ b → same_key (measure_key m) (measure_key n) ≡ d
        → number_over f (take (suc k) ws) (take (suc k) ys) n ≡ (if same_key (measure_key m) (measure_key n) then x else number_over f (take k ws) (take k ys) n)
        → (if b then y else number_over f (take (suc k) ws) (take (suc k) ys) n) ≡ (if d then x else (if b then y else number_over f (take k ws) (take k ys) n))
    by true true h l rest = absurd (both h l)
    by true false h l rest = refl
    by false true h l rest = rest ∙ rw l refl
    by false false h l rest = rest ∙ rw l refl

over-all : (f : Measure → ℤ) (ms : List Measure) (xs : List ℤ) → length ms ≤ length xs → (n : Measure) → among measure_key (measure_key n) ms ≡ true
    → number_over f ms xs n ≡ number_in ms xs n
over-all f [] xs l n h = absurd cc
over-all f (m ∷ ms) [] l n h = absurd (omega arith)
over-all f (m ∷ ms) (x ∷ xs) l n h = by (same_key (measure_key m) (measure_key n)) h (over-all f ms xs (omega arith) n)
  where
    by : (b : Bool) → (b || among measure_key (measure_key n) ms) ≡ true → (among measure_key (measure_key n) ms ≡ true → number_over f ms xs n ≡ number_in ms xs n)
        → (if b then x else number_over f ms xs n) ≡ (if b then x else number_in ms xs n)
    by true h rest = refl
    by false h rest = rest h

-- ---- one more flow

held-more : (c : Cell) (x : ℤ) (f g : Measure → ℤ) → ((n : Measure) → g n ≡ (if same_key (cell_key c) (measure_key n) then x else f n)) → (cs : List Cell)
    → map (put_in c x) (map (held f) cs) ≡ map (held g) cs
held-more c x f g same [] = refl
held-more c x f g same (d ∷ cs) = rw (held-more c x f g same cs, same (measure.Cell d), same-flip (cell_key c) (cell_key d)) (by (same_cell d c))
  where
    by : (b : Bool)
        → (if b then (record { cell = d; number = x }) else (record { cell = d; number = f (measure.Cell d) })) ∷ map (held g) cs
        ≡ (record { cell = d; number = (if b then x else f (measure.Cell d)) }) ∷ map (held g) cs
    by true = refl
    by false = refl

held-same : (f g : Measure → ℤ) → ((d : Cell) → g (measure.Cell d) ≡ f (measure.Cell d)) → (cs : List Cell) → map (held f) cs ≡ map (held g) cs
held-same f g same [] = refl
held-same f g same (d ∷ cs) = rw (held-same f g same cs, same d) refl

-- a table with the first flows written over its numbers
abbrev pub written_upto : ProblemFacts → TableFacts → List ℤ → ℕ → TableFacts
written_upto p t xs k = table_of p (number_over (value_of t) (take k (live_measures p)) (take k xs))

put-more : (p : ProblemFacts) (t : TableFacts) (xs : List ℤ) (k : ℕ) (m : Measure) (x : ℤ) → slice_get (live_measures p) k ≡ Some m → slice_get xs k ≡ Some x
    → put_flow (written_upto p t xs k) m x ≡ written_upto p t xs (suc k)
put-more p t xs k m x e f = by m e (over-more (value_of t) (live_measures p) xs (live-sorted p) k m x e f)
  where
    before : Measure → ℤ
    before = number_over (value_of t) (take k (live_measures p)) (take k xs)

    after : Measure → ℤ
    after = number_over (value_of t) (take (suc k) (live_measures p)) (take (suc k) xs)

    by : (m : Measure) → slice_get (live_measures p) k ≡ Some m → ((n : Measure) → after n ≡ (if same_key (measure_key m) (measure_key n) then x else before n))
        → put_flow (written_upto p t xs k) m x ≡ written_upto p t xs (suc k)
    by (measure.Cell c) e same = ap (λ hs. record (written_upto p t xs k) { cells = hs }) (held-more c x before after same (cell_rows p))
    by (measure.Total u) e same =
        ap (λ hs. record (written_upto p t xs k) { cells = hs }) (held-same before after (λ d. same (measure.Cell d) ∙ rw (total-cell u d) refl) (cell_rows p))

pub flow-put : (p : ProblemFacts) (t : TableFacts) (xs : List ℤ) (k : ℕ) (m : Measure) (x : ℤ) (u v : TableFacts) → slice_get (live_measures p) k ≡ Some m → slice_get xs k ≡ Some x
    → u ≡ written_upto p t xs k → v ≡ put_flow u m x → v ≡ written_upto p t xs (k + 1)
flow-put p t xs k m x u v e f g h = h ∙ ap (λ z. put_flow z m x) g ∙ put-more p t xs k m x e f ∙ ap (written_upto p t xs) (sym (add-one k))

-- at first the table is as it was
pub none-put : (p : ProblemFacts) (t : TableFacts) (xs : List ℤ) → IsProblem p → IsTableOf p t → t ≡ written_upto p t xs 0
none-put p t xs ok of = sym (table_of-values p t ok of)

-- at last the table is that of the circulation
pub all-put : (p : ProblemFacts) (t : TableFacts) (xs : List ℤ) (k : ℕ) → length (live_measures p) ≤ k → length xs ≤ k → length (live_measures p) ≤ length xs
    → written_upto p t xs k ≡ table_from p xs
all-put p t xs k h l m =
    rw (take-all (live_measures p) k h, take-all xs k l) (table_of-same p (number_over (value_of t) (live_measures p) xs) (number_in (live_measures p) xs) (All-weaker (λ n. among measure_key (measure_key n) (live_measures p) ≡ true) (λ n. number_over (value_of t) (live_measures p) xs n ≡ number_in (live_measures p) xs n) (over-all (value_of t) (live_measures p) xs m) (live_measures p) (live-among p)))

-- a number that stands at a place needs not be put
pub put-stands : (t : TableFacts) (i : ℕ) (h : Held) → IsAscending (λ (h : Held). cell_key h.cell) t.cells → slice_get t.cells i ≡ Some h → (c : Cell) (x : ℤ) → h.cell ≡ c → h.number ≡ x
    → put_number t c x ≡ t
put-stands t i h order at c x cell number =
    subst (λ d. put_number t d x ≡ t) cell (ap (λ hs. record t { cells = hs }) (subst (λ y. map (put_in h.cell y) t.cells ≡ t.cells) number all))
  where
    all : map (put_in h.cell h.number) t.cells ≡ t.cells
    all = put-set h.number t.cells (Sorted-from_ascending key_of t.cells order) i h (slice_get_within t.cells i h at) (get_or_from_slice_get t.cells i h h at) ∙ set-same t.cells i h at

-- ---- each cell's flow is in the range of tables

number-in_range : (c : Cell) (hs : List Held) → All (λ (h : Held). InRange h.number) hs → InRange (number_at hs c)
number-in_range c [] a = zero-in_range
number-in_range c (h ∷ hs) a = by (same_cell h.cell c) (number-in_range c hs (All-tail (λ (h : Held). InRange h.number) h hs a))
  where
    by : (b : Bool) → InRange (number_at hs c) → InRange (if b then h.number else number_at hs c)
    by true rest = All-head (λ (h : Held). InRange h.number) h hs a
    by false rest = rest

pub flow-fits : {C : Type 0} (value : C → ℤ → ℤ) (p : ProblemFacts) → IsProblem p → (g : Network Account Measure) (costs : List C) → IsCircuitOf value p g costs
    → (xs : List ℤ) → IsCirculation (length g.nodes) g.arcs xs → (k : ℕ) (m : Measure) (x : ℤ) → slice_get (live_measures p) k ≡ Some m → slice_get xs k ≡ Some x → FitsIn m x
flow-fits value p ok g costs circuit xs circulation k m x e f = by m e
  where
    is : (m : Measure) → slice_get (live_measures p) k ≡ Some m → value_of (table_from p xs) m ≡ x
    is m e =
        some-same (value_of (table_from p xs) m) x
        (ap (option_map (value_of (table_from p xs))) (sym e) ∙ sym (slice_get-map (value_of (table_from p xs)) (live_measures p) k) ∙ ap (λ ys. slice_get ys k) (flows-back value p ok g costs circuit xs circulation) ∙ f)

    by : (m : Measure) → slice_get (live_measures p) k ≡ Some m → FitsIn m x
    by (measure.Cell c) e =
        subst InRange (is (measure.Cell c) e)
        (number-in_range c (table_from p xs).cells (numbers-in_range p (table_from p xs) ok (table-admissible value p ok g costs circuit xs circulation)))
    by (measure.Total u) e = tt

-- ---- the values written so far, and one more

pub values-more : (f : Measure → ℤ) (names : List Measure) (out new : List ℤ) (k : ℕ) (m : Measure) (y : ℤ) → slice_get names k ≡ Some m → y ≡ f m → k < length out
    → take k out ≡ map f (take k names) → new ≡ set out k y → take (k + 1) new ≡ map f (take (k + 1) names)
values-more f names out new k m y e is l before next =
    ap (take (k + 1)) next
    ∙ take_more_set out k y l
    ∙ ap (λ ys. ys ++ y ∷ []) before
    ∙ ap (λ z. map f (take k names) ++ z ∷ []) is
    ∙ sym (map-append f (take k names) (m ∷ []))
    ∙ ap (map f) (sym (take-more names k m e))
