-- What is live stays so where a live measure's row is put in, and where a total with live cells loses its row.
use Rattle.std.proofs.Common.{◌≡◌, List, [], ◌∷◌, map, Some, None, Bool, true, false, not, cond, ◌||◌, refl, sym, ◌∙◌, ap, subst}
use Rattle.std.specs.Prelude.{find, filter}
use Rattle.std.specs.List.{list_any}
use Rattle.std.specs.declared.cmp.Ordering.{Ordering}
use Rattle.std.specs.declared.cmp.Ordering.TheVariants.{Less, Equal, Greater}
use Rattle.std.specs.Ordering.{nat_cmp}
use Rattle.std.specs.Cmp.Lexicographic.{slice_cmp}
use Rattle.std.specs.FinMap.{slice_cmp-IsAntisymmetric, nat_cmp-IsAntisymmetric}
use Rattle.sut_classes.specs.Groups.{Groups}
use Rattle.sut_measures.specs.Keys.{measure_key, total_key}
use Rattle.sut_measures.specs.declared.measures.Cell.{Cell}
use Rattle.sut_measures.specs.declared.measures.Total.{Total}
use Rattle.sut_measures.specs.declared.measures.Measure.{Measure}
use Rattle.sut_measures.specs.declared.measures.Measure.TheVariants as measure
use Rattle.sut_measures.proofs.KeyLemmas.{measure_key-injective}
use Rattle.sut_tables.specs.Changes.{is_of, row_removed, row_replaced, with_row}
use Rattle.sut_tables.specs.InOrder.{same_key, by_order, put_in_order}
use Rattle.sut_tables.specs.LiveRule.{is_live, is_part_of}
use Rattle.sut_tables.specs.ProblemFacts.{ProblemFacts}
use Rattle.sut_tables.specs.Problems.{groups, row_at, live_measures}
use Rattle.sut_tables.specs.RowFacts.{RowFacts}
use Rattle.sut_tables.proofs.Ascending.{live-ascending}
use Rattle.sut_tables.proofs.Conservation.{cell-total}
use Rattle.sut_tables.proofs.Kept.{put, put-measure}
use Rattle.sut_tables.proofs.LiveMeasures.{live-is}
use Rattle.sut_tables.proofs.Ordered.{or_true, same-eq, same-refl}
use Rattle.sut_tables.proofs.SameList.{live-list}
use Rattle.sut_circuit.proofs.RowsFound.{row_key}

-- the row makes the measure live
abbrev makes : Groups → Measure → RowFacts → Bool
makes gs n s = same_key (row_key s) (measure_key n) || is_part_of gs s.measure n

no-part : (gs : Groups) (n : Measure) (c : Cell) → is_part_of gs n (measure.Cell c) ≡ false
no-part gs (measure.Cell d) c = refl
no-part gs (measure.Total u) c = refl

total-part : (gs : Groups) (u : Total) (n : Measure) → is_part_of gs (measure.Total u) n ≡ false
total-part gs u (measure.Cell d) = refl
total-part gs u (measure.Total w) = refl

or-false : (b : Bool) → (b || false) ≡ b
or-false true = refl
or-false false = refl

apart : {X : Type 0} → true ≡ false → X
apart e = absurd cc

-- ---- a row replaced

replaced-makes : (gs : Groups) (r : RowFacts) (rows : List RowFacts) (n : Measure) → list_any (makes gs n) (map (put r) rows) ≡ list_any (makes gs n) rows
replaced-makes gs r [] n = refl
replaced-makes gs r (s ∷ rows) n =
    rw (ap (λ m. same_key (measure_key m) (measure_key n) || is_part_of gs m n) (put-measure r s), replaced-makes gs r rows n) refl

-- ---- a row put in

put-any : (t : RowFacts → Bool) (r : RowFacts) (rows : List RowFacts) → find (is_of r.measure) rows ≡ None → list_any t (put_in_order row_key r rows) ≡ (t r || list_any t rows)
put-any t r [] e = refl
put-any t r (s ∷ rows) e = by (slice_cmp nat_cmp (row_key r) (row_key s)) refl (is_of r.measure s) refl e (put-any t r rows)
  where
    swapped : (a b c : Bool) → (a || (b || c)) ≡ (b || (a || c))
    swapped true true c = refl
    swapped true false c = refl
    swapped false true c = refl
    swapped false false c = refl

    by : (o : Ordering) → slice_cmp nat_cmp (row_key r) (row_key s) ≡ o → (b : Bool) → is_of r.measure s ≡ b → cond b (Some s) (find (is_of r.measure) rows) ≡ None
        → (find (is_of r.measure) rows ≡ None → list_any t (put_in_order row_key r rows) ≡ (t r || list_any t rows))
        → list_any t (by_order o (r ∷ s ∷ rows) (s ∷ rows) (s ∷ put_in_order row_key r rows)) ≡ (t r || (t s || list_any t rows))
    by o c true eb e rest = absurd cc
    by Less c false eb e rest = refl
    by Equal c false eb e rest =
        apart (sym (same-refl (row_key s)) ∙ ap (λ k. same_key (row_key s) k) (sym (slice_cmp-IsAntisymmetric nat_cmp-IsAntisymmetric (row_key r) (row_key s) c)) ∙ eb)
    by Greater c false eb e rest = ap (λ b. t s || b) (rest e) ∙ swapped (t s) (t r) (list_any t rows)

-- a live cell has a row
cell-has : (gs : Groups) (c : Cell) (rows : List RowFacts) → find (is_of (measure.Cell c)) rows ≡ None → list_any (makes gs (measure.Cell c)) rows ≡ false
cell-has gs c [] e = refl
cell-has gs c (s ∷ rows) e = by (is_of (measure.Cell c) s) refl e (cell-has gs c rows)
  where
    by : (b : Bool) → is_of (measure.Cell c) s ≡ b → cond b (Some s) (find (is_of (measure.Cell c)) rows) ≡ None
        → (find (is_of (measure.Cell c)) rows ≡ None → list_any (makes gs (measure.Cell c)) rows ≡ false)
        → ((is_of (measure.Cell c) s || is_part_of gs s.measure (measure.Cell c)) || list_any (makes gs (measure.Cell c)) rows) ≡ false
    by true eb e rest = absurd cc
    by false eb e rest = rw (eb, no-part gs s.measure c) (rest e)

absorb : (a l : Bool) → (a ≡ true → l ≡ true) → (a || l) ≡ l
absorb true l h = sym (h refl)
absorb false l h = refl

put-makes : (p : ProblemFacts) (r : RowFacts) → row_at p r.measure ≡ None → is_live p r.measure ≡ true → (n : Measure) → is_live (with_row p r) n ≡ is_live p n
put-makes p r none live n =
    put-any (makes (groups p) n) r p.rows none ∙ absorb (makes (groups p) n r) (list_any (makes (groups p) n) p.rows) (λ e. by r.measure refl e)
  where
    by : (m : Measure) → r.measure ≡ m → (same_key (measure_key m) (measure_key n) || is_part_of (groups p) m n) ≡ true → is_live p n ≡ true
    by (measure.Cell c) is e =
        apart (sym (subst (λ m. is_live p m ≡ true) is live) ∙ cell-has (groups p) c p.rows (subst (λ m. row_at p m ≡ None) is none))
    by (measure.Total u) is e =
        let same : same_key (total_key u) (measure_key n) ≡ true = sym (ap (λ b. same_key (total_key u) (measure_key n) || b) (total-part (groups p) u n) ∙ or-false (same_key (total_key u) (measure_key n))) ∙ e in
        subst (λ m. is_live p m ≡ true) (is ∙ measure_key-injective (measure.Total u) n (same-eq (total_key u) (measure_key n) same)) live

-- ---- the row of a total taken out

module _ (gs : Groups) (u : Total) where
  abbrev part : RowFacts → Bool
  part s = is_part_of gs s.measure (measure.Total u)

  abbrev others : List RowFacts → List RowFacts
  others rows = filter (λ s. not (is_of (measure.Total u) s)) rows

  -- another measure is live by another row
  removed-other : (rows : List RowFacts) (n : Measure) → same_key (total_key u) (measure_key n) ≡ false → list_any (makes gs n) (others rows) ≡ list_any (makes gs n) rows
  removed-other [] n d = refl
  removed-other (s ∷ rows) n d = by (is_of (measure.Total u) s) refl (removed-other rows n d)
    where
      idle : (m : Measure) → m ≡ measure.Total u → (same_key (measure_key m) (measure_key n) || is_part_of gs m n) ≡ false
      idle m e = ap (λ m. same_key (measure_key m) (measure_key n) || is_part_of gs m n) e ∙ rw (d, total-part gs u n) refl

      by : (b : Bool) → is_of (measure.Total u) s ≡ b → list_any (makes gs n) (others rows) ≡ list_any (makes gs n) rows
          → list_any (makes gs n) (cond (not b) (s ∷ others rows) (others rows)) ≡ (makes gs n s || list_any (makes gs n) rows)
      by true e rest = rest ∙ rw (idle s.measure (measure_key-injective s.measure (measure.Total u) (same-eq (row_key s) (total_key u) e))) refl
      by false e rest = ap (λ b. makes gs n s || b) rest

  -- the total is live by a row of a cell, with and without its own row
  part-makes : (rows : List RowFacts) → list_any part rows ≡ true → list_any (makes gs (measure.Total u)) rows ≡ true
  part-makes [] h = h
  part-makes (s ∷ rows) h = by (part s) (is_of (measure.Total u) s) h (part-makes rows)
    where
      by : (b d : Bool) → (b || list_any part rows) ≡ true → (list_any part rows ≡ true → list_any (makes gs (measure.Total u)) rows ≡ true)
          → ((d || b) || list_any (makes gs (measure.Total u)) rows) ≡ true
      by true true h rest = refl
      by true false h rest = refl
      by false d h rest = rw (rest h) (or_true (d || false))

  part-kept : (rows : List RowFacts) → list_any part rows ≡ true → list_any part (others rows) ≡ true
  part-kept [] h = h
  part-kept (s ∷ rows) h = by (part s) (is_of (measure.Total u) s) refl refl h (part-kept rows)
    where
      no-cell : (m : Measure) → is_part_of gs m (measure.Total u) ≡ true → same_key (measure_key m) (total_key u) ≡ false
      no-cell (measure.Cell c) e = cell-total c u
      no-cell (measure.Total w) e = absurd cc

      by : (b d : Bool) → part s ≡ b → is_of (measure.Total u) s ≡ d → (b || list_any part rows) ≡ true → (list_any part rows ≡ true → list_any part (others rows) ≡ true)
          → list_any part (cond (not d) (s ∷ others rows) (others rows)) ≡ true
      by true true e f h rest = apart (sym f ∙ no-cell s.measure e)
      by true false e f h rest = rw e refl
      by false true e f h rest = rest h
      by false false e f h rest = rw e (rest h)

  removed-makes : (rows : List RowFacts) → list_any part rows ≡ true → (n : Measure) → list_any (makes gs n) (others rows) ≡ list_any (makes gs n) rows
  removed-makes rows h n = by (same_key (total_key u) (measure_key n)) refl
    where
      by : (b : Bool) → same_key (total_key u) (measure_key n) ≡ b → list_any (makes gs n) (others rows) ≡ list_any (makes gs n) rows
      by false e = removed-other rows n e
      by true e =
          subst (λ m. list_any (makes gs m) (others rows) ≡ list_any (makes gs m) rows) (measure_key-injective (measure.Total u) n (same-eq (total_key u) (measure_key n) e))
          (part-makes (others rows) (part-kept rows h) ∙ sym (part-makes rows h))

-- ---- the live measures

-- other rows that make the same measures live
stays : (p : ProblemFacts) (rows : List RowFacts) → ((n : Measure) → is_live (record p { rows = rows }) n ≡ is_live p n) → live_measures (record p { rows = rows }) ≡ live_measures p
stays p rows h =
    sym (live-list (record p { rows = rows }) (live_measures p) (live-ascending p) (λ n. live-is p n ∙ sym (h n)))

pub live-replaced : (p : ProblemFacts) (r : RowFacts) → live_measures (row_replaced p r) ≡ live_measures p
live-replaced p r = stays p (map (put r) p.rows) (replaced-makes (groups p) r p.rows)

pub live-put : (p : ProblemFacts) (r : RowFacts) → row_at p r.measure ≡ None → is_live p r.measure ≡ true → live_measures (with_row p r) ≡ live_measures p
live-put p r none live = stays p (put_in_order row_key r p.rows) (put-makes p r none live)

pub live-removed : (p : ProblemFacts) (u : Total) → list_any (λ (r : RowFacts). is_part_of (groups p) r.measure (measure.Total u)) p.rows ≡ true
    → live_measures (row_removed p (measure.Total u)) ≡ live_measures p
live-removed p u h = stays p (filter (λ s. not (is_of (measure.Total u) s)) p.rows) (removed-makes (groups p) u p.rows h)

-- the total is live
pub total-live : (p : ProblemFacts) (u : Total) → list_any (λ (r : RowFacts). is_part_of (groups p) r.measure (measure.Total u)) p.rows ≡ true → is_live p (measure.Total u) ≡ true
total-live p u h = part-makes (groups p) u p.rows h
