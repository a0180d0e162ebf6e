-- What a problem keeps when a row is added, replaced or taken out.
use Rattle.std.proofs.Common.{◌≡◌, ℕ, suc, List, [], ◌∷◌, refl, sym, ap, subst, arith, Bool, true, false, not, map}
use Rattle.std.specs.Prelude.{if◌then◌else◌, IsTrue, ◌<◌, ◌≤◌, length, filter, cond}
use Rattle.std.proofs.lemmas.Bool.{ltb-true}
use Rattle.std.proofs.lemmas.List.Elements.{All-filter, All-map, All-weaker}
use Rattle.std.specs.declared.cmp.Ordering.{Ordering}
use Rattle.std.specs.declared.cmp.Ordering.TheVariants.{Less, Equal, Greater}
use Rattle.std.specs.Ordering.{nat_cmp}
use Rattle.std.specs.Cmp.Lexicographic.{slice_cmp}
use Rattle.sut_measures.specs.Keys.{measure_key}
use Rattle.sut_measures.specs.Fits.{fits}
use Rattle.sut_measures.proofs.KeyLemmas.{measure_key-injective}
use Rattle.sut_measures.specs.declared.measures.Measure.{Measure}
use Rattle.sut_measures.specs.declared.measures.Measure.TheVariants as measure
use Rattle.sut_tables.specs.RowFacts.{RowFacts}
use Rattle.sut_tables.specs.Rows.{IsRow}
use Rattle.sut_tables.specs.ProblemFacts.{ProblemFacts}
use Rattle.sut_tables.specs.InOrder.{by_order, put_in_order}
use Rattle.sut_tables.specs.Problems.{IsProblem}
use Rattle.sut_tables.specs.Changes.{is_of, is_cell, has_room, with_row, row_replaced, row_removed}
use Rattle.sut_tables.specs.Limits.{IsWithinLimits}
use Rattle.sut_tables.specs.ProblemRules.{IsKept}
use Rattle.sut_tables.proofs.Ordered.{After, Sorted, Sorted-put, same-eq}
use Rattle.sut_tables.proofs.Lists.{All-put}
use Rattle.sut_tables.proofs.Ascending.{ascending-from_sorted}
use Rattle.sut_tables.proofs.Conservation.{Sorted-from_ascending}

abbrev key : RowFacts → List ℕ
key r = measure_key r.measure

-- a row in the place of that of its measure
abbrev pub put : RowFacts → RowFacts → RowFacts
put r s = if is_of r.measure s then r else s

pub put-measure : (r s : RowFacts) → (put r s).measure ≡ s.measure
put-measure r s = by (is_of r.measure s) refl
  where
    by : (b : Bool) → is_of r.measure s ≡ b → (if b then r else s).measure ≡ s.measure
    by true e = sym (measure_key-injective s.measure r.measure (same-eq (key s) (key r) e))
    by false e = refl

-- ---- how many pass a test

count-put : (q : RowFacts → Bool) (x : RowFacts) (ys : List RowFacts) → length (filter q (put_in_order key x ys)) ≤ length (filter q (x ∷ ys))
count-put q x [] = omega arith
count-put q x (y ∷ ys) = by (slice_cmp nat_cmp (key x) (key y)) (count-put q x ys)
  where
    skipped : (b d : Bool) → length (cond d (y ∷ filter q ys) (filter q ys)) ≤ length (cond b (x ∷ cond d (y ∷ filter q ys) (filter q ys)) (cond d (y ∷ filter q ys) (filter q ys)))
    skipped true d = omega arith
    skipped false d = omega arith

    later : (b d : Bool) → length (filter q (put_in_order key x ys)) ≤ length (cond b (x ∷ filter q ys) (filter q ys))
        → length (cond d (y ∷ filter q (put_in_order key x ys)) (filter q (put_in_order key x ys))) ≤ length (cond b (x ∷ cond d (y ∷ filter q ys) (filter q ys)) (cond d (y ∷ filter q ys) (filter q ys)))
    later true true h = omega arith
    later true false h = h
    later false true h = omega arith
    later false false h = h

    by : (o : Ordering) → length (filter q (put_in_order key x ys)) ≤ length (filter q (x ∷ ys)) → length (filter q (by_order o (x ∷ y ∷ ys) (y ∷ ys) (y ∷ put_in_order key x ys))) ≤ length (filter q (x ∷ y ∷ ys))
    by Less h = omega arith
    by Equal h = skipped (q x) (q y)
    by Greater h = later (q x) (q y) h

count-filter : (q e : RowFacts → Bool) (xs : List RowFacts) → length (filter q (filter e xs)) ≤ length (filter q xs)
count-filter q e [] = omega arith
count-filter q e (x ∷ xs) = by (e x) (count-filter q e xs)
  where
    kept : (d : Bool) → length (filter q (filter e xs)) ≤ length (filter q xs) → length (cond d (x ∷ filter q (filter e xs)) (filter q (filter e xs))) ≤ length (cond d (x ∷ filter q xs) (filter q xs))
    kept true h = omega arith
    kept false h = h

    left_out : (d : Bool) → length (filter q (filter e xs)) ≤ length (filter q xs) → length (filter q (filter e xs)) ≤ length (cond d (x ∷ filter q xs) (filter q xs))
    left_out true h = omega arith
    left_out false h = h

    by : (b : Bool) → length (filter q (filter e xs)) ≤ length (filter q xs) → length (filter q (cond b (x ∷ filter e xs) (filter e xs))) ≤ length (cond (q x) (x ∷ filter q xs) (filter q xs))
    by true h = kept (q x) h
    by false h = left_out (q x) h

pub count-map : (q : RowFacts → Bool) (f : RowFacts → RowFacts) → ((s : RowFacts) → q (f s) ≡ q s) → (xs : List RowFacts) → length (filter q (map f xs)) ≡ length (filter q xs)
count-map q f e [] = refl
count-map q f e (x ∷ xs) = rw (e x) (by (q x) (count-map q f e xs))
  where
    by : (b : Bool) → length (filter q (map f xs)) ≡ length (filter q xs) → length (cond b (f x ∷ filter q (map f xs)) (filter q (map f xs))) ≡ length (cond b (x ∷ filter q xs) (filter q xs))
    by true h = ap (λ n. suc n) h
    by false h = h

-- ---- order

After-filter : (k : List ℕ) (e : RowFacts → Bool) (xs : List RowFacts) → After key k xs → After key k (filter e xs)
After-filter k e [] a = tt
After-filter k e (x ∷ xs) a = by (e x) (After-filter k e xs a.1)
  where
    by : (b : Bool) → After key k (filter e xs) → After key k (cond b (x ∷ filter e xs) (filter e xs))
    by true h = (a.0, h)
    by false h = h

Sorted-filter : (e : RowFacts → Bool) (xs : List RowFacts) → Sorted key xs → Sorted key (filter e xs)
Sorted-filter e [] s = tt
Sorted-filter e (x ∷ xs) s = by (e x) (Sorted-filter e xs s.1)
  where
    by : (b : Bool) → Sorted key (filter e xs) → Sorted key (cond b (x ∷ filter e xs) (filter e xs))
    by true h = (After-filter (key x) e xs s.0, h)
    by false h = h

After-map : (k : List ℕ) (f : RowFacts → RowFacts) → ((s : RowFacts) → key (f s) ≡ key s) → (xs : List RowFacts) → After key k xs → After key k (map f xs)
After-map k f e [] a = tt
After-map k f e (x ∷ xs) a = (subst (λ l. slice_cmp nat_cmp k l ≡ Less) (sym (e x)) a.0, After-map k f e xs a.1)

Sorted-map : (f : RowFacts → RowFacts) → ((s : RowFacts) → key (f s) ≡ key s) → (xs : List RowFacts) → Sorted key xs → Sorted key (map f xs)
Sorted-map f e [] s = tt
Sorted-map f e (x ∷ xs) s = (subst (λ k. After key k (map f xs)) (sym (e x)) (After-map (key x) f e xs s.0), Sorted-map f e xs s.1)

-- ---- a row added, replaced or taken out

sorted-rows : (p : ProblemFacts) → IsProblem p → Sorted key p.rows
sorted-rows p ok = Sorted-from_ascending key p.rows ok.in_order

-- a fitting row of which there is room
pub kept-with_row : (p : ProblemFacts) (r : RowFacts) → IsKept p → IsTrue (fits p.classes r.measure) → IsRow r → IsTrue (has_room p r.measure) → IsKept (with_row p r)
kept-with_row p r k fit row room = record {
  problem = record {
    in_order = ascending-from_sorted key (put_in_order key r p.rows) (Sorted-put key r p.rows (sorted-rows p k.problem));
    fitting = All-put (λ (s : RowFacts). IsTrue (fits p.classes s.measure)) key r p.rows fit k.problem.fitting;
    in_range = All-put IsRow key r p.rows row k.problem.in_range;
  };
  limits = by r.measure refl room;
}
  where
    one : (n m l : ℕ) → n ≤ suc m → m < l → n ≤ l
    one n m l h g = omega arith

    none : (n m l : ℕ) → n ≤ m → m ≤ l → n ≤ l
    none n m l h g = omega arith

    cells : length (filter (λ (s : RowFacts). is_cell s.measure) (put_in_order key r p.rows)) ≤ length (cond (is_cell r.measure) (r ∷ filter (λ (s : RowFacts). is_cell s.measure) p.rows) (filter (λ (s : RowFacts). is_cell s.measure) p.rows))
    cells = count-put (λ (s : RowFacts). is_cell s.measure) r p.rows

    totals : length (filter (λ (s : RowFacts). not (is_cell s.measure)) (put_in_order key r p.rows)) ≤ length (cond (not (is_cell r.measure)) (r ∷ filter (λ (s : RowFacts). not (is_cell s.measure)) p.rows) (filter (λ (s : RowFacts). not (is_cell s.measure)) p.rows))
    totals = count-put (λ (s : RowFacts). not (is_cell s.measure)) r p.rows

    by : (m : Measure) → r.measure ≡ m → IsTrue (has_room p m) → IsWithinLimits (with_row p r)
    by (measure.Cell c) e h = record {
      cells = one _ _ 131072 (subst (λ m. length (filter (λ (s : RowFacts). is_cell s.measure) (put_in_order key r p.rows)) ≤ length (cond (is_cell m) (r ∷ filter (λ (s : RowFacts). is_cell s.measure) p.rows) (filter (λ (s : RowFacts). is_cell s.measure) p.rows))) e cells) (ltb-true _ 131072 h);
      totals = none _ _ 16384 (subst (λ m. length (filter (λ (s : RowFacts). not (is_cell s.measure)) (put_in_order key r p.rows)) ≤ length (cond (not (is_cell m)) (r ∷ filter (λ (s : RowFacts). not (is_cell s.measure)) p.rows) (filter (λ (s : RowFacts). not (is_cell s.measure)) p.rows))) e totals) k.limits.totals;
    }
    by (measure.Total u) e h = record {
      cells = none _ _ 131072 (subst (λ m. length (filter (λ (s : RowFacts). is_cell s.measure) (put_in_order key r p.rows)) ≤ length (cond (is_cell m) (r ∷ filter (λ (s : RowFacts). is_cell s.measure) p.rows) (filter (λ (s : RowFacts). is_cell s.measure) p.rows))) e cells) k.limits.cells;
      totals = one _ _ 16384 (subst (λ m. length (filter (λ (s : RowFacts). not (is_cell s.measure)) (put_in_order key r p.rows)) ≤ length (cond (not (is_cell m)) (r ∷ filter (λ (s : RowFacts). not (is_cell s.measure)) p.rows) (filter (λ (s : RowFacts). not (is_cell s.measure)) p.rows))) e totals) (ltb-true _ 16384 h);
    }

pub kept-removed : (p : ProblemFacts) (m : Measure) → IsKept p → IsKept (row_removed p m)
kept-removed p m k = record {
  problem = record {
    in_order = ascending-from_sorted key (filter (λ (s : RowFacts). not (is_of m s)) p.rows) (Sorted-filter (λ (s : RowFacts). not (is_of m s)) p.rows (sorted-rows p k.problem));
    fitting = All-filter (λ (s : RowFacts). not (is_of m s)) (λ (s : RowFacts). IsTrue (fits p.classes s.measure)) p.rows k.problem.fitting;
    in_range = All-filter (λ (s : RowFacts). not (is_of m s)) IsRow p.rows k.problem.in_range;
  };
  limits = record {
    cells = fewer _ _ 131072 (count-filter (λ (s : RowFacts). is_cell s.measure) (λ (s : RowFacts). not (is_of m s)) p.rows) k.limits.cells;
    totals = fewer _ _ 16384 (count-filter (λ (s : RowFacts). not (is_cell s.measure)) (λ (s : RowFacts). not (is_of m s)) p.rows) k.limits.totals;
  };
}
  where
    fewer : (n m l : ℕ) → n ≤ m → m ≤ l → n ≤ l
    fewer n m l h g = omega arith

pub kept-replaced : (p : ProblemFacts) (r : RowFacts) → IsKept p → IsTrue (fits p.classes r.measure) → IsRow r → IsKept (row_replaced p r)
kept-replaced p r k fit row = record {
  problem = record {
    in_order = ascending-from_sorted key (map (put r) p.rows) (Sorted-map (put r) (λ s. ap measure_key (put-measure r s)) p.rows (sorted-rows p k.problem));
    fitting = All-map (λ (s : RowFacts). IsTrue (fits p.classes s.measure)) (put r) p.rows
        (All-weaker (λ (s : RowFacts). IsTrue (fits p.classes s.measure)) (λ (s : RowFacts). IsTrue (fits p.classes (put r s).measure)) (λ s h. subst (λ m. IsTrue (fits p.classes m)) (sym (put-measure r s)) h) p.rows k.problem.fitting);
    in_range = All-map IsRow (put r) p.rows (All-weaker IsRow (λ s. IsRow (put r s)) (λ s h. either (is_of r.measure s) s h) p.rows k.problem.in_range);
  };
  limits = record {
    cells = subst (λ n. n ≤ 131072) (sym (count-map (λ (s : RowFacts). is_cell s.measure) (put r) (λ s. ap is_cell (put-measure r s)) p.rows)) k.limits.cells;
    totals = subst (λ n. n ≤ 16384) (sym (count-map (λ (s : RowFacts). not (is_cell s.measure)) (put r) (λ s. ap (λ m. not (is_cell m)) (put-measure r s)) p.rows)) k.limits.totals;
  };
}
  where
    either : (b : Bool) (s : RowFacts) → IsRow s → IsRow (if b then r else s)
    either true s h = row
    either false s h = h
