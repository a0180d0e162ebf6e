-- A printed row is read as what it was, and stands behind the rows before it.
use Rattle.std.proofs.Common.{◌≡◌, ◌<◌, ◌∷◌, ◌++◌, ◌∙◌, ℕ, List, [], Bool, true, false, None, Ok, cond, length, map, filter, option_map, refl, sym, ap, arith}
use Rattle.std.specs.Prelude.{All, IsTrue, not}
use Rattle.std.specs.declared.cmp.Ordering.TheVariants.{Less, Greater}
use Rattle.std.specs.Ordering.{nat_cmp, ordering_reverse}
use Rattle.std.specs.Cmp.Lexicographic.{slice_cmp, nat_list_cmp_total}
use Rattle.std.proofs.lemmas.Bool.{lt-ltb}
use Rattle.std.proofs.lemmas.List.Elements.{All-head, All-tail}
use Rattle.sut_records.specs.Plain.{ArePlainRows, IsPlainRow}
use Rattle.sut_classes.specs.ClassLists.{ClassLists}
use Rattle.sut_classes.specs.Kept.{IsClasses}
use Rattle.sut_measures.specs.Fits.{fits}
use Rattle.sut_measures.specs.Keys.{measure_key}
use Rattle.sut_measures.specs.declared.faults.Field.TheVariants as column
use Rattle.sut_measures.specs.declared.measures.Measure.{Measure}
use Rattle.sut_measures.specs.declared.measures.Measure.TheVariants as measure
use Rattle.sut_measures.proofs.RoundTrip.{measure_of-name}
use Rattle.sut_tables.specs.Changes.{has_room, is_cell}
use Rattle.sut_tables.specs.Limits.{IsWithinLimits}
use Rattle.sut_tables.specs.RowFacts.{RowFacts}
use Rattle.sut_tables.specs.Rows.{IsRow}
use Rattle.sut_tables.proofs.Ordered.{After, Sorted, differ_back}
use Rattle.sut_settings.specs.IsSettings.{IsSettings}
use Rattle.sut_settings.specs.SettingsFacts.{SettingsFacts}
use Rattle.sut_source.specs.RowFile.{row_fields, row_in, usual_lower, usual_upper}
use Rattle.sut_source.specs.SourceFile.{RowLine, first_line, row_added, rows_of, source_line, with_row}
use Rattle.sut_source.specs.SourceText.{HasGrade, row_line}
use Rattle.sut_source.proofs.ClassFacts.{distinct-codes}
use Rattle.sut_source.proofs.PlainNames.{name-plain}
use Rattle.sut_source.proofs.PrintedGrades.{grade-back, grade-plain}
use Rattle.sut_source.proofs.PrintedNumbers.{bound-back, range-small, target-back, target-plain, whole-plain}
use Rattle.sut_source.proofs.RowLemmas.{row-good}
use Rattle.sut_source.proofs.SourceLemmas.{line-added}

abbrev row_key : RowFacts → List ℕ
row_key r = measure_key r.measure

-- what is wanted of a row that is printed
pub record IsPrinted (s : SettingsFacts) (cs : ClassLists) (r : RowFacts) : Type 0 where
  pub fit : IsTrue (fits cs r.measure)
  pub row : IsRow r
  pub grade : HasGrade s r

-- each row of a list is
abbrev pub ArePrinted : SettingsFacts → ClassLists → List RowFacts → Type 0
ArePrinted s cs [] = Unit {0}
ArePrinted s cs (r ∷ rows) = IsPrinted s cs r × ArePrinted s cs rows

pub are-printed : (s : SettingsFacts) (cs : ClassLists) (rows : List RowFacts) → All (λ (r : RowFacts). IsTrue (fits cs r.measure)) rows → All IsRow rows → All (HasGrade s) rows → ArePrinted s cs rows
are-printed s cs [] fit row grade = tt
are-printed s cs (r ∷ rows) fit row grade = (
  record { fit = All-head (λ (r : RowFacts). IsTrue (fits cs r.measure)) r rows fit; row = All-head IsRow r rows row; grade = All-head (HasGrade s) r rows grade },
  are-printed s cs rows (All-tail (λ (r : RowFacts). IsTrue (fits cs r.measure)) r rows fit) (All-tail IsRow r rows row) (All-tail (HasGrade s) r rows grade),
)

module _ (s : SettingsFacts) (cs : ClassLists) (settings : IsSettings s) (classes : IsClasses cs) where
  row-back : (r : RowFacts) → IsPrinted s cs r → row_in s cs (row_fields 0 (row_line s cs r)) ≡ Ok r
  row-back r h =
      sym (row-good s cs (row_fields 0 (row_line s cs r)) r.measure r.target (record { place = r.grade; penalty = r.penalty }) r.lower r.upper (option_map usual_upper r.target) r.weight r
      (record {
        name = measure_of-name cs (distinct-codes cs classes) r.measure h.fit;
        target = target-back r.target r.penalty r.grade r.weight h.row.aim;
        grade = grade-back s settings r.target r.penalty r.grade r.weight h.row.aim h.grade.grade;
        low = bound-back column.Lower (option_map usual_lower r.target) r.lower h.row.lower;
      })
      refl (bound-back column.Upper (option_map usual_upper r.target) r.upper h.row.upper) h.grade.weight refl h.row)

  line-plain : (r : RowFacts) → IsPrinted s cs r → IsPlainRow (row_line s cs r)
  line-plain r h =
      let name = name-plain cs classes r.measure in
      let target = target-plain r.target r.penalty r.grade r.weight h.row.aim in
      let grade = grade-plain s settings r.target r.penalty r.grade r.weight h.row.aim h.grade.grade in
      record {
        wide = omega arith;
        plain = (name.0, (name.1.0, (name.1.1.0, (name.1.1.1.0, (target, (grade, (whole-plain r.lower (range-small r.lower h.row.lower), (whole-plain r.upper (range-small r.upper h.row.upper), tt))))))));
      }

  pub lines-plain : (rows : List RowFacts) → ArePrinted s cs rows → ArePlainRows (map (row_line s cs) rows)
  lines-plain [] h = tt
  lines-plain (r ∷ rows) h = (line-plain r h.0, lines-plain rows h.1)

-- ---- a row behind all others

-- each measure is before this key
abbrev Below : List ℕ → List RowLine → Type 0
Below k [] = Unit {0}
Below k (q ∷ done) = (slice_cmp nat_cmp (row_key q.row) k ≡ Less) × Below k done

before-next : (k : List ℕ) (xs : List RowFacts) (r : RowFacts) (left : List RowFacts) → After row_key k (xs ++ r ∷ left) → slice_cmp nat_cmp k (row_key r) ≡ Less
before-next k [] r left a = a.0
before-next k (x ∷ xs) r left a = before-next k xs r left a.1

all-below : (done : List RowLine) (r : RowFacts) (left : List RowFacts) → Sorted row_key (rows_of done ++ r ∷ left) → Below (row_key r) done
all-below [] r left h = tt
all-below (q ∷ done) r left h = (before-next (row_key q.row) (rows_of done) r left h.0, all-below done r left h.1)

no-line : (m : Measure) (done : List RowLine) → Below (measure_key m) done → first_line done m ≡ None
no-line m [] h = refl
no-line m (q ∷ done) h = rw (differ_back (row_key q.row) (measure_key m) h.0) (no-line m done h.1)

put-last : (x : RowLine) (done : List RowLine) → Below (row_key x.row) done → with_row x done ≡ done ++ x ∷ []
put-last x [] h = refl
put-last x (q ∷ done) h =
    let past : slice_cmp nat_cmp (row_key x.row) (row_key q.row) ≡ Greater = nat_list_cmp_total.antisymm (row_key x.row) (row_key q.row) ∙ ap ordering_reverse h.0 in
    rw past (ap (λ l. q ∷ l) (put-last x done h.1))

fewer : (q : RowFacts → Bool) (xs : List RowFacts) (r : RowFacts) (left : List RowFacts) → q r ≡ true → length (filter q xs) < length (filter q (xs ++ r ∷ left))
fewer q [] r left e = rw e (omega arith)
fewer q (x ∷ xs) r left e = by (q x) (fewer q xs r left e)
  where
    by : (b : Bool) → length (filter q xs) < length (filter q (xs ++ r ∷ left)) → length (cond b (x ∷ filter q xs) (filter q xs)) < length (cond b (x ∷ filter q (xs ++ r ∷ left)) (filter q (xs ++ r ∷ left)))
    by true h = omega (arith, h)
    by false h = h

-- rows within the limits leave room for the next of them
room-left : (cs : ClassLists) (done : List RowFacts) (r : RowFacts) (left : List RowFacts) → IsWithinLimits (record { classes = cs; rows = done ++ r ∷ left }) → has_room (record { classes = cs; rows = done }) r.measure ≡ true
room-left cs done r left limits = by r.measure refl
  where
    by : (m : Measure) → r.measure ≡ m → has_room (record { classes = cs; rows = done }) m ≡ true
    by (measure.Cell c) e =
        let less = fewer (λ (q : RowFacts). is_cell q.measure) done r left (ap is_cell e) in
        lt-ltb (length (filter (λ (q : RowFacts). is_cell q.measure) done)) 131072 (omega (arith, less, limits.cells))
    by (measure.Total t) e =
        let less = fewer (λ (q : RowFacts). not (is_cell q.measure)) done r left (ap (λ m. not (is_cell m)) e) in
        lt-ltb (length (filter (λ (q : RowFacts). not (is_cell q.measure)) done)) 16384 (omega (arith, less, limits.totals))

row-appended : (cs : ClassLists) (n : ℕ) (done : List RowLine) (r : RowFacts) (left : List RowFacts) → Sorted row_key (rows_of done ++ r ∷ left)
    → IsWithinLimits (record { classes = cs; rows = rows_of done ++ r ∷ left }) → row_added cs n done r ≡ Ok (done ++ record { row = r; line = n } ∷ [])
unfolding row_added
row-appended cs n done r left order limits =
    let below = all-below done r left order in
    rw (no-line r.measure done below, room-left cs (rows_of done) r left limits, put-last (record { row = r; line = n }) done below) refl

pub line-appended : (s : SettingsFacts) (cs : ClassLists) (n : ℕ) (done : List RowLine) (r : RowFacts) (left : List RowFacts) → IsSettings s → IsClasses cs → IsPrinted s cs r
    → Sorted row_key (rows_of done ++ r ∷ left) → IsWithinLimits (record { classes = cs; rows = rows_of done ++ r ∷ left })
    → source_line s cs n done (row_line s cs r) ≡ Ok (done ++ record { row = r; line = n } ∷ [])
line-appended s cs n done r left settings classes printed order limits =
    line-added s cs n done (row_line s cs r) r (done ++ record { row = r; line = n } ∷ []) refl (row-back s cs settings classes r printed) (row-appended cs n done r left order limits)
