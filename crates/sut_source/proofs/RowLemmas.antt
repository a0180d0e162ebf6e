-- The steps of a row, one after the other.
use Rattle.std.proofs.Common.{◌≡◌, ◌∙◌, ℕ, ℤ, Bool, true, false, Option, Ok, Err, refl, sym, ap, subst, option_map, arith, w64, to_z, of_z}
use Rattle.std.proofs.lemmas.Int.{ints}
use Rattle.std.specs.Prelude.{int_lt, not}
use Rattle.sut_records.specs.FirstFault.{only_if}
use Rattle.sut_classes.specs.ClassLists.{ClassLists}
use Rattle.sut_measures.specs.ReadNames.{measure_of}
use Rattle.sut_measures.specs.declared.measures.Measure.{Measure}
use Rattle.sut_measures.specs.declared.faults.NameFault.{NameFault}
use Rattle.sut_measures.specs.declared.faults.Field.TheVariants as column
use Rattle.sut_tables.specs.RowFacts.{RowFacts}
use Rattle.sut_tables.specs.Rows.{InRange, IsAim, IsRow}
use Rattle.sut_tables.proofs.Tests.{lt_false, lt_is_false}
use Rattle.sut_settings.specs.SettingsFacts.{SettingsFacts}
use Rattle.sut_source.specs.RowFile.{RowFields, bound_in, grade_in, name_fault, row_in, target_in, usual_lower, usual_upper, weight_for}
use Rattle.sut_source.specs.declared.faults.RowFault.{RowFault}
use Rattle.sut_source.specs.declared.faults.RowFault.TheVariants as fault
use Rattle.sut_source.specs.declared.grades.GradeField.{GradeField}

module _ (s : SettingsFacts) (cs : ClassLists) (f : RowFields) where
  pub row-name : (e : NameFault) → measure_of cs f.kind f.a f.b f.c ≡ Err e → row_in s cs f ≡ Err (name_fault e)
  unfolding row_in
  row-name e e1 = rw e1 refl

  pub row-target : (m : Measure) (e : RowFault) → measure_of cs f.kind f.a f.b f.c ≡ Ok m → target_in f.target ≡ Err e → row_in s cs f ≡ Err e
  unfolding row_in
  row-target m e e1 e2 = rw (e1, e2) refl

  pub row-grade : (m : Measure) (t : Option ℤ) (e : RowFault) → measure_of cs f.kind f.a f.b f.c ≡ Ok m → target_in f.target ≡ Ok t
      → grade_in s t f.grade ≡ Err e → row_in s cs f ≡ Err e
  unfolding row_in
  row-grade m t e e1 e2 e3 = rw (e1, e2, e3) refl

  pub row-lower : (m : Measure) (t : Option ℤ) (g : GradeField) (usual : Option ℤ) (e : RowFault) → measure_of cs f.kind f.a f.b f.c ≡ Ok m
      → target_in f.target ≡ Ok t → grade_in s t f.grade ≡ Ok g → usual ≡ option_map usual_lower t
      → bound_in column.Lower usual f.lower ≡ Err e → row_in s cs f ≡ Err e
  unfolding row_in
  row-lower m t g usual e e1 e2 e3 eu e4 =
      let e5 : bound_in column.Lower (option_map usual_lower t) f.lower ≡ Err e = subst (λ u. bound_in column.Lower u f.lower ≡ Err e) eu e4 in
      rw (e1, e2, e3, e5) refl

  -- what the fields give where each can be read
  abbrev made : Measure → Option ℤ → GradeField → ℕ → ℤ → ℤ → RowFacts
  made m t g weight lower upper = record {
    measure = m;
    target = t;
    penalty = g.penalty;
    grade = g.place;
    weight = weight;
    lower = lower;
    upper = upper;
  }

  -- the fields were read as these, with the weight of the target
  pub record AreRead (m : Measure) (t : Option ℤ) (g : GradeField) (lower : ℤ) : Type 0 where
    pub name : measure_of cs f.kind f.a f.b f.c ≡ Ok m
    pub target : target_in f.target ≡ Ok t
    pub grade : grade_in s t f.grade ≡ Ok g
    pub low : bound_in column.Lower (option_map usual_lower t) f.lower ≡ Ok lower

  pub row-upper : (m : Measure) (t : Option ℤ) (g : GradeField) (lower : ℤ) (usual : Option ℤ) (e : RowFault) → AreRead m t g lower
      → usual ≡ option_map usual_upper t → bound_in column.Upper usual f.upper ≡ Err e → row_in s cs f ≡ Err e
  unfolding row_in
  row-upper m t g lower usual e r eu e5 =
      let e6 : bound_in column.Upper (option_map usual_upper t) f.upper ≡ Err e = subst (λ u. bound_in column.Upper u f.upper ≡ Err e) eu e5 in
      rw (r.name, r.target, r.grade, r.low, e6) refl

  row-read : (m : Measure) (t : Option ℤ) (g : GradeField) (lower upper : ℤ) → AreRead m t g lower → bound_in column.Upper (option_map usual_upper t) f.upper ≡ Ok upper
      → row_in s cs f ≡ only_if (not (int_lt upper lower)) fault.Crossed (Ok (made m t g (weight_for s t g.place) lower upper))
  unfolding row_in
  row-read m t g lower upper r e = rw (r.name, r.target, r.grade, r.low, e) refl

  pub row-good : (m : Measure) (t : Option ℤ) (g : GradeField) (lower upper : ℤ) (usual : Option ℤ) (weight : ℕ) (r : RowFacts) → AreRead m t g lower
      → usual ≡ option_map usual_upper t → bound_in column.Upper usual f.upper ≡ Ok upper → weight ≡ weight_for s t g.place
      → r ≡ made m t g weight lower upper → IsRow r → Ok r ≡ row_in s cs f
  row-good m t g lower upper usual weight r read eu e5 ew er good =
      let e6 : bound_in column.Upper (option_map usual_upper t) f.upper ≡ Ok upper = subst (λ u. bound_in column.Upper u f.upper ≡ Ok upper) eu e5 in
      let kept : IsRow (made m t g weight lower upper) = subst IsRow er good in
      let below : int_lt upper lower ≡ false = lt_is_false upper lower kept.ordered in
      let passed : only_if (not (int_lt upper lower)) fault.Crossed (Ok (made m t g (weight_for s t g.place) lower upper)) ≡ Ok (made m t g (weight_for s t g.place) lower upper) = rw below refl in
      ap Ok er ∙ ap (λ w. Ok (made m t g w lower upper)) ew ∙ sym (row-read m t g lower upper read e6 ∙ passed)

  pub row-crossed : (m : Measure) (t : Option ℤ) (g : GradeField) (lower upper : ℤ) (usual : Option ℤ) (weight : ℕ) → AreRead m t g lower
      → usual ≡ option_map usual_upper t → bound_in column.Upper usual f.upper ≡ Ok upper
      → InRange lower → InRange upper → IsAim t g.penalty g.place weight → ¬ IsRow (made m t g weight lower upper) → Err fault.Crossed ≡ row_in s cs f
  row-crossed m t g lower upper usual weight read eu e5 low high aim crossing =
      let e6 : bound_in column.Upper (option_map usual_upper t) f.upper ≡ Ok upper = subst (λ u. bound_in column.Upper u f.upper ≡ Ok upper) eu e5 in
      let crossed : int_lt upper lower ≡ true = by (int_lt upper lower) refl in
      let stopped : only_if (not (int_lt upper lower)) fault.Crossed (Ok (made m t g (weight_for s t g.place) lower upper)) ≡ Err fault.Crossed = rw crossed refl in
      sym (row-read m t g lower upper read e6 ∙ stopped)
    where
      by : (b : Bool) → int_lt upper lower ≡ b → int_lt upper lower ≡ true
      by true e = e
      by false e = absurd (crossing (record { lower = low; upper = high; ordered = lt_false upper lower e; aim = aim }))

-- a number of a source fits 64 bits
pub narrow : (z : ℤ) → InRange z → to_z w64 (of_z w64 z) ≡ z
narrow z h = omega (arith, ints, h.low, h.high)

-- fields that agree one by one
pub same-row : (f g : RowFields) → f.kind ≡ g.kind → f.a ≡ g.a → f.b ≡ g.b → f.c ≡ g.c → f.target ≡ g.target → f.grade ≡ g.grade → f.lower ≡ g.lower → f.upper ≡ g.upper → f ≡ g
same-row f g k a b c t e l u = λ i. record {
  kind = k i;
  a = a i;
  b = b i;
  c = c i;
  target = t i;
  grade = e i;
  lower = l i;
  upper = u i;
}
