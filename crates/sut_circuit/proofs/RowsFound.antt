-- The row of each measure after a row is replaced, put in or taken out.
use Rattle.std.proofs.Common.{◌≡◌, ℕ, List, [], ◌∷◌, map, Option, Some, None, Bool, true, false, not, cond, refl, sym, ◌∙◌, ap}
use Rattle.std.specs.Prelude.{if◌then◌else◌, find, filter}
use Rattle.std.specs.declared.cmp.Ordering.{Ordering}
use Rattle.std.specs.declared.cmp.Ordering.TheVariants.{Less, Equal, Greater}
use Rattle.std.specs.Ordering.{nat_cmp}
use Rattle.std.specs.Cmp.Lexicographic.{slice_cmp}
use Rattle.std.specs.FinMap.{slice_cmp-IsAntisymmetric, nat_cmp-IsAntisymmetric}
use Rattle.sut_measures.specs.Keys.{measure_key}
use Rattle.sut_measures.specs.declared.measures.Measure.{Measure}
use Rattle.sut_tables.specs.Changes.{is_of}
use Rattle.sut_tables.specs.InOrder.{same_key, by_order, put_in_order}
use Rattle.sut_tables.specs.RowFacts.{RowFacts}
use Rattle.sut_tables.proofs.Kept.{put}
use Rattle.sut_tables.proofs.Ordered.{same-eq, same-refl}

abbrev pub row_key : RowFacts → List ℕ
row_key r = measure_key r.measure

-- what is like the first key is like the second, where these are the same
along : (k l j : List ℕ) → same_key k l ≡ true → same_key k j ≡ same_key l j
along k l j e = ap (λ z. same_key z j) (same-eq k l e)

along_back : (k l j : List ℕ) → same_key l j ≡ true → same_key k l ≡ same_key k j
along_back k l j e = ap (λ z. same_key k z) (same-eq l j e)

apart : {X : Type 0} → true ≡ false → X
apart e = absurd cc

-- the row found for a measure with a new row
abbrev pub instead : RowFacts → Option RowFacts → Option RowFacts
instead r None = None
instead r (Some s) = Some r

pub found-replaced : (r : RowFacts) (rows : List RowFacts) (n : Measure)
    → find (is_of n) (map (put r) rows) ≡ (if same_key (row_key r) (measure_key n) then instead r (find (is_of r.measure) rows) else find (is_of n) rows)
found-replaced r [] n = by (same_key (row_key r) (measure_key n))
  where
    by : (d : Bool) → None ≡ (if d then instead r None else None)
    by true = refl
    by false = refl
found-replaced r (s ∷ rows) n = by (is_of r.measure s) (same_key (row_key r) (measure_key n)) (is_of n s) refl refl refl (found-replaced r rows n)
  where
    by : (b d f : Bool) → is_of r.measure s ≡ b → same_key (row_key r) (measure_key n) ≡ d → is_of n s ≡ f
        → find (is_of n) (map (put r) rows) ≡ (if same_key (row_key r) (measure_key n) then instead r (find (is_of r.measure) rows) else find (is_of n) rows)
        → cond (is_of n (if b then r else s)) (Some (if b then r else s)) (find (is_of n) (map (put r) rows))
        ≡ (if d then instead r (cond b (Some s) (find (is_of r.measure) rows)) else cond f (Some s) (find (is_of n) rows))
    by true true f eb ed ef rest = rw ed refl
    by true false true eb ed ef rest = apart (sym ef ∙ along (row_key s) (row_key r) (measure_key n) eb ∙ ed)
    by true false false eb ed ef rest = rw ed (rest ∙ rw ed refl)
    by false true true eb ed ef rest = apart (sym ef ∙ sym (along_back (row_key s) (row_key r) (measure_key n) ed) ∙ eb)
    by false true false eb ed ef rest = rw ef (rest ∙ rw ed refl)
    by false false true eb ed ef rest = rw ef refl
    by false false false eb ed ef rest = rw ef (rest ∙ rw ed refl)

none-parts : (b : Bool) (s : RowFacts) (o : Option RowFacts) → cond b (Some s) o ≡ None → (b ≡ false) × (o ≡ None)
none-parts true s o e = absurd cc
none-parts false s o e = (refl, e)

pub found-put : (r : RowFacts) (rows : List RowFacts) → find (is_of r.measure) rows ≡ None → (n : Measure)
    → find (is_of n) (put_in_order row_key r rows) ≡ (if same_key (row_key r) (measure_key n) then Some r else find (is_of n) rows)
found-put r [] e n = by (same_key (row_key r) (measure_key n))
  where
    by : (d : Bool) → cond d (Some r) None ≡ (if d then Some r else None)
    by true = refl
    by false = refl
found-put r (s ∷ rows) e n = by (slice_cmp nat_cmp (row_key r) (row_key s)) refl (none-parts (is_of r.measure s) s (find (is_of r.measure) rows) e) (found-put r rows)
  where
    later : (d f : Bool) → same_key (row_key r) (measure_key n) ≡ d → is_of n s ≡ f → is_of r.measure s ≡ false
        → find (is_of n) (put_in_order row_key r rows) ≡ (if same_key (row_key r) (measure_key n) then Some r else find (is_of n) rows)
        → cond f (Some s) (find (is_of n) (put_in_order row_key r rows)) ≡ (if d then Some r else cond f (Some s) (find (is_of n) rows))
    later true true ed ef eb rest = apart (sym ef ∙ sym (along_back (row_key s) (row_key r) (measure_key n) ed) ∙ eb)
    later true false ed ef eb rest = rest ∙ rw ed refl
    later false true ed ef eb rest = refl
    later false false ed ef eb rest = rest ∙ rw ed refl

    first : (d : Bool) → cond d (Some r) (cond (is_of n s) (Some s) (find (is_of n) rows)) ≡ (if d then Some r else cond (is_of n s) (Some s) (find (is_of n) rows))
    first true = refl
    first false = refl

    by : (o : Ordering) → slice_cmp nat_cmp (row_key r) (row_key s) ≡ o → (is_of r.measure s ≡ false) × (find (is_of r.measure) rows ≡ None)
        → (find (is_of r.measure) rows ≡ None → (n : Measure) → find (is_of n) (put_in_order row_key r rows) ≡ (if same_key (row_key r) (measure_key n) then Some r else find (is_of n) rows))
        → find (is_of n) (by_order o (r ∷ s ∷ rows) (s ∷ rows) (s ∷ put_in_order row_key r rows)) ≡ (if same_key (row_key r) (measure_key n) then Some r else cond (is_of n s) (Some s) (find (is_of n) rows))
    by Less c h rest = first (same_key (row_key r) (measure_key n))
    by Equal c h rest =
        apart (sym (same-refl (row_key s)) ∙ ap (λ k. same_key (row_key s) k) (sym (slice_cmp-IsAntisymmetric nat_cmp-IsAntisymmetric (row_key r) (row_key s) c)) ∙ h.0)
    by Greater c h rest = later (same_key (row_key r) (measure_key n)) (is_of n s) refl refl h.0 (rest h.1 n)

pub found-removed : (m : Measure) (rows : List RowFacts) (n : Measure)
    → find (is_of n) (filter (λ s. not (is_of m s)) rows) ≡ (if same_key (measure_key m) (measure_key n) then None else find (is_of n) rows)
found-removed m [] n = by (same_key (measure_key m) (measure_key n))
  where
    by : (d : Bool) → find (is_of n) [] ≡ (if d then None else find (is_of n) [])
    by true = refl
    by false = refl
found-removed m (s ∷ rows) n = by (is_of m s) (same_key (measure_key m) (measure_key n)) (is_of n s) refl refl refl (found-removed m rows n)
  where
    by : (b d f : Bool) → is_of m s ≡ b → same_key (measure_key m) (measure_key n) ≡ d → is_of n s ≡ f
        → find (is_of n) (filter (λ s. not (is_of m s)) rows) ≡ (if same_key (measure_key m) (measure_key n) then None else find (is_of n) rows)
        → find (is_of n) (cond (not b) (s ∷ filter (λ s. not (is_of m s)) rows) (filter (λ s. not (is_of m s)) rows))
        ≡ (if d then None else cond f (Some s) (find (is_of n) rows))
    by true true f eb ed ef rest = rest ∙ rw ed refl
    by true false true eb ed ef rest = apart (sym ef ∙ along (row_key s) (measure_key m) (measure_key n) eb ∙ ed)
    by true false false eb ed ef rest = rest ∙ rw ed refl
    by false true true eb ed ef rest = apart (sym ef ∙ sym (along_back (row_key s) (measure_key m) (measure_key n) ed) ∙ eb)
    by false true false eb ed ef rest = rw ef (rest ∙ rw ed refl)
    by false false true eb ed ef rest = rw ef refl
    by false false false eb ed ef rest = rw ef (rest ∙ rw ed refl)
