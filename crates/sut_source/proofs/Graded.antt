-- What is read has grades of the settings, with their weights.
use Rattle.std.proofs.Common.{◌≡◌, ◌≢◌, ◌≤◌, ◌∷◌, ℕ, ℤ, List, [], Option, Some, None, Result, Ok, Err, length, refl, subst, sym, arith}
use Rattle.std.specs.Prelude.{◌+◌, ◌==◌, All, Bool, IfErr, IfOk, int_lt, not, option_map}
use Rattle.std.proofs.lemmas.List.Elements.{All-map, All-nil}
use Rattle.std.proofs.lemmas.Result.{IfOk-at_ok}
use Rattle.sut_records.specs.RecordList.{Fields}
use Rattle.sut_records.specs.FirstFault.{and_then, fault_as, only_if, or_fault, read_lines}
use Rattle.sut_classes.specs.ClassLists.{ClassLists}
use Rattle.sut_measures.specs.Keys.{measure_key}
use Rattle.sut_measures.specs.ReadNames.{measure_of}
use Rattle.sut_measures.specs.declared.faults.Field.TheVariants as column
use Rattle.sut_measures.specs.declared.measures.Measure.{Measure}
use Rattle.sut_measures.proofs.NameParts.{only_if-parts}
use Rattle.sut_tables.specs.Changes.{has_room}
use Rattle.sut_tables.specs.declared.rows.Penalty.TheVariants.{Square}
use Rattle.sut_tables.specs.ProblemFacts.{ProblemFacts}
use Rattle.sut_tables.specs.RowFacts.{RowFacts}
use Rattle.sut_tables.proofs.Lists.{All-put}
use Rattle.sut_settings.specs.SettingsFacts.{SettingsFacts, place_of_grade}
use Rattle.sut_source.specs.RowFile.{RowFields, before_colon, bound_in, from_colon, grade_in, name_fault, penalty_in, row_fields, row_in, target_in, usual_lower, usual_upper, weight_for}
use Rattle.sut_source.specs.SourceFile.{RowLine, first_line, problem_from, row_added, rows_of, source_in, source_line, under_header, unless_there, with_row}
use Rattle.sut_source.specs.SourceText.{HasGrade}
use Rattle.sut_source.specs.declared.faults.RowFault.{RowFault}
use Rattle.sut_source.specs.declared.faults.RowFault.TheVariants as fault
use Rattle.sut_source.specs.declared.faults.SourceFault.{SourceFault}
use Rattle.sut_source.specs.declared.grades.GradeField.{GradeField}
use Rattle.sut_source.proofs.GradeLemmas.{grade-within}

and_then-parts : {A B F : Type 0} (r : Result A F) (next : A → Result B F) (P : B → Type 0) → ((x : A) → r ≡ Ok x → IfOk (next x) P) → IfOk (and_then r next) P
and_then-parts (Ok x) next P each = each x refl
and_then-parts (Err f) next P each = tt

or_fault-parts : {A R F : Type 0} (o : Option A) (fault : F) (next : A → Result R F) (P : R → Type 0) → ((x : A) → o ≡ Some x → IfOk (next x) P) → IfOk (or_fault o fault next) P
or_fault-parts (Some x) fault next P each = each x refl
or_fault-parts None fault next P each = tt

fault_as-parts : {A F G : Type 0} (name : F → G) (r : Result A F) (P : A → Type 0) → IfOk r P → IfOk (fault_as name r) P
fault_as-parts name (Ok x) P h = h
fault_as-parts name (Err f) P h = tt

unless_there-parts : {A : Type 0} (o : Option ℕ) (next : Result A RowFault) (P : A → Type 0) → IfOk next P → IfOk (unless_there o next) P
unless_there-parts (Some line) next P h = tt
unless_there-parts None next P h = h

module _ (s : SettingsFacts) where
  grade-there : (t : Option ℤ) (text : List ℕ) → IfOk (grade_in s t text) (λ g. g.place ≤ length s.grades)
  grade-there None text = only_if-parts (length text == 0) (fault.NotEmpty column.Grade) (Ok (record { place = 0; penalty = Square })) (λ (g : GradeField). g.place ≤ length s.grades) (λ e. omega arith)
  grade-there (Some x) text =
      let next : ℕ → Result GradeField RowFault = λ place. and_then (penalty_in (from_colon text)) (λ loss. Ok (record { place = place; penalty = loss })) in
      or_fault-parts (place_of_grade s (before_colon text)) fault.UnknownGrade next (λ (g : GradeField). g.place ≤ length s.grades)
      (λ place e. and_then-parts (penalty_in (from_colon text)) (λ loss. Ok (record { place = place; penalty = loss })) (λ (g : GradeField). g.place ≤ length s.grades)
      (λ loss f. grade-within s (before_colon text) place e))

  -- the steps of a row, the last first
  module _ (f : RowFields) where
    abbrev ordered : Measure → Option ℤ → GradeField → ℤ → ℤ → Result RowFacts RowFault
    ordered m t g lower upper = only_if (not (int_lt upper lower)) fault.Crossed (Ok (record { measure = m; target = t; penalty = g.penalty; grade = g.place; weight = weight_for s t g.place; lower = lower; upper = upper }))

    abbrev with_lower : Measure → Option ℤ → GradeField → ℤ → Result RowFacts RowFault
    with_lower m t g lower = and_then (bound_in column.Upper (option_map usual_upper t) f.upper) (ordered m t g lower)

    abbrev with_grade : Measure → Option ℤ → GradeField → Result RowFacts RowFault
    with_grade m t g = and_then (bound_in column.Lower (option_map usual_lower t) f.lower) (with_lower m t g)

    abbrev with_target : Measure → Option ℤ → Result RowFacts RowFault
    with_target m t = and_then (grade_in s t f.grade) (with_grade m t)

    abbrev with_name : Measure → Result RowFacts RowFault
    with_name m = and_then (target_in f.target) (with_target m)

  pub row-graded : (cs : ClassLists) (f : RowFields) → IfOk (row_in s cs f) (HasGrade s)
  unfolding row_in
  row-graded cs f =
      and_then-parts (fault_as name_fault (measure_of cs f.kind f.a f.b f.c)) (with_name f) (HasGrade s)
      (λ m _. and_then-parts (target_in f.target) (with_target f m) (HasGrade s)
      (λ t _. and_then-parts (grade_in s t f.grade) (with_grade f m t) (HasGrade s)
      (λ g at. and_then-parts (bound_in column.Lower (option_map usual_lower t) f.lower) (with_lower f m t g) (HasGrade s)
      (λ lower _. and_then-parts (bound_in column.Upper (option_map usual_upper t) f.upper) (ordered f m t g lower) (HasGrade s)
      (λ upper _. only_if-parts (not (int_lt upper lower)) fault.Crossed (Ok (record { measure = m; target = t; penalty = g.penalty; grade = g.place; weight = weight_for s t g.place; lower = lower; upper = upper })) (HasGrade s)
      (λ _. record { grade = IfOk-at_ok (λ (g : GradeField). g.place ≤ length s.grades) at (grade-there t f.grade); weight = refl }))))))

  abbrev AllGraded : List RowLine → Type 0
  AllGraded rows = All (λ (x : RowLine). HasGrade s x.row) rows

  added-graded : (cs : ClassLists) (n : ℕ) (before : List RowLine) (row : RowFacts) → AllGraded before → HasGrade s row → IfOk (row_added cs n before row) AllGraded
  unfolding row_added
  added-graded cs n before row all here =
      let more : Result (List RowLine) RowFault = Ok (with_row (record { row = row; line = n }) before) in
      let room : Bool = has_room (record { classes = cs; rows = rows_of before }) row.measure in
      unless_there-parts (first_line before row.measure) (only_if room fault.TooMany more) AllGraded
      (only_if-parts room fault.TooMany more AllGraded (λ _. All-put (λ (x : RowLine). HasGrade s x.row) (λ (x : RowLine). measure_key x.row.measure) (record { row = row; line = n }) before here all))

  line-graded : (cs : ClassLists) (n : ℕ) (before : List RowLine) (line : Fields) → AllGraded before → IfOk (source_line s cs n before line) AllGraded
  unfolding source_line
  line-graded cs n before line all =
      let read : Result (List RowLine) RowFault = and_then (row_in s cs (row_fields 0 line)) (row_added cs n before) in
      fault_as-parts (λ cause. record { line = n; cause = cause }) (only_if (length line == 8) fault.Csv read) AllGraded
      (only_if-parts (length line == 8) fault.Csv read AllGraded
      (λ _. and_then-parts (row_in s cs (row_fields 0 line)) (row_added cs n before) AllGraded
      (λ row e. added-graded cs n before row all (IfOk-at_ok (HasGrade s) e (row-graded cs (row_fields 0 line))))))

  lines-graded : (cs : ClassLists) (lines : List Fields) (n : ℕ) (before : List RowLine) → AllGraded before → IfOk (read_lines (source_line s cs) n before lines) AllGraded
  unfolding read_lines
  lines-graded cs [] n before all = all
  lines-graded cs (line ∷ lines) n before all =
      and_then-parts (source_line s cs n before line) (λ after. read_lines (source_line s cs) (n + 1) after lines) AllGraded
      (λ after e. lines-graded cs lines (n + 1) after (IfOk-at_ok AllGraded e (line-graded cs n before line all)))

  -- the rows of what is read
  pub source-graded : (cs : ClassLists) (records : List Fields) → IfOk (source_in s cs records) (λ (p : ProblemFacts). All (HasGrade s) p.rows)
  source-graded cs records =
      let P : ProblemFacts → Type 0 = λ p. All (HasGrade s) p.rows in
      and_then-parts (under_header records) (λ lines. problem_from cs (read_lines (source_line s cs) 2 [] lines)) P
      (λ lines _. and_then-parts (read_lines (source_line s cs) 2 [] lines) (λ rows. Ok (record { classes = cs; rows = rows_of rows })) P
      (λ rows e. All-map (HasGrade s) (λ (x : RowLine). x.row) rows (IfOk-at_ok AllGraded e (lines-graded cs lines 2 [] (All-nil (λ (x : RowLine). HasGrade s x.row))))))

-- what holds of every answer of a definition holds of an answer that is the definition's, unless memory ran out
pub at-answer : {T : Type 0} (P : T → Type 0) (r is : Result T SourceFault) → (IfErr r (λ (e : SourceFault). e.cause ≢ fault.NoMemory) → r ≡ is) → IfOk is P → IfOk r P
at-answer P (Ok x) is same h = subst (λ w. IfOk w P) (sym (same tt)) h
at-answer P (Err e) is same h = tt
