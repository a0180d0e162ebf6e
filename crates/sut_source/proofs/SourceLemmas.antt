-- A line by its steps, and a file by its first record.
use Rattle.std.proofs.Common.{◌≡◌, ◌==◌, ◌∙◌, ◌∷◌, ℕ, List, [], true, false, Result, Ok, Err, length, refl, sym, ap, subst}
use Rattle.sut_records.specs.RecordList.{Fields, same_fields}
use Rattle.sut_records.specs.FirstFault.{and_then, read_lines}
use Rattle.sut_classes.specs.ClassLists.{ClassLists}
use Rattle.sut_measures.specs.declared.measures.Measure.{Measure}
use Rattle.sut_tables.specs.RowFacts.{RowFacts}
use Rattle.sut_tables.specs.ProblemFacts.{ProblemFacts}
use Rattle.sut_settings.specs.SettingsFacts.{SettingsFacts}
use Rattle.sut_source.specs.RowFile.{row_fields, row_in}
use Rattle.sut_source.specs.SourceFile.{RowLine, problem_from, row_added, rows_of, source_header, source_in, source_line, under_header}
use Rattle.sut_source.specs.LinedRows.{KeepsLines, lined_rows}
use Rattle.sut_source.specs.declared.faults.RowFault.{RowFault}
use Rattle.sut_source.specs.declared.faults.RowFault.TheVariants as fault
use Rattle.sut_source.specs.declared.faults.SourceFault.{SourceFault}
use Rattle.sut_source.proofs.LinedLemmas.{lined-empty, lined-rows-of}

module _ (s : SettingsFacts) (cs : ClassLists) (n : ℕ) (before : List RowLine) (line : Fields) where
  pub line-short : (length line == 8) ≡ false → source_line s cs n before line ≡ Err (record { line = n; cause = fault.Csv })
  unfolding source_line
  line-short e = rw e refl

  pub line-fault : (cause : RowFault) → (length line == 8) ≡ true → row_in s cs (row_fields 0 line) ≡ Err cause → source_line s cs n before line ≡ Err (record { line = n; cause = cause })
  unfolding source_line
  line-fault cause e1 e2 = rw (e1, e2) refl

  pub line-refused : (row : RowFacts) (cause : RowFault) → (length line == 8) ≡ true → row_in s cs (row_fields 0 line) ≡ Ok row → row_added cs n before row ≡ Err cause
      → source_line s cs n before line ≡ Err (record { line = n; cause = cause })
  unfolding source_line
  line-refused row cause e1 e2 e3 = rw (e1, e2, e3) refl

  pub line-added : (row : RowFacts) (after : List RowLine) → (length line == 8) ≡ true → row_in s cs (row_fields 0 line) ≡ Ok row → row_added cs n before row ≡ Ok after
      → source_line s cs n before line ≡ Ok after
  unfolding source_line
  line-added row after e1 e2 e3 = rw (e1, e2, e3) refl

pub no-record : (all : List Fields) → all ≡ [] → under_header all ≡ Err (record { line = 1; cause = fault.Header })
unfolding under_header
no-record all e = rw e refl

pub other-header : (all : List Fields) (header : Fields) (rest : List Fields) → all ≡ header ∷ rest → same_fields header source_header ≡ false
    → under_header all ≡ Err (record { line = 1; cause = fault.Header })
unfolding under_header
other-header all header rest e f = rw (e, f) refl

pub right-header : (all : List Fields) (header : Fields) (rest : List Fields) → all ≡ header ∷ rest → same_fields header source_header ≡ true
    → under_header all ≡ Ok rest
unfolding under_header
right-header all header rest e f = rw (e, f) refl

module _ (s : SettingsFacts) (cs : ClassLists) where
  -- what is read from the empty problem on
  from-empty : (records : List Fields) (p : ProblemFacts) (lines : List (Measure × ℕ)) (r : Result (List RowLine) SourceFault) → p.classes ≡ cs → p.rows ≡ []
      → read_lines (source_line s p.classes) 2 (lined_rows p.rows lines) records ≡ r → read_lines (source_line s cs) 2 [] records ≡ r
  from-empty records p lines r ec er read =
      let P : List RowLine → Type 0 = λ b. read_lines (source_line s cs) 2 b records ≡ r in
      let Q : ClassLists → Type 0 = λ c. read_lines (source_line s c) 2 (lined_rows p.rows lines) records ≡ r in
      subst P (lined-empty p.rows lines er) (subst Q ec read)

  pub read-rows : (records : List Fields) (p q : ProblemFacts) (lines more : List (Measure × ℕ)) → p.classes ≡ cs → p.rows ≡ [] → q.classes ≡ p.classes → KeepsLines q.rows more
      → read_lines (source_line s p.classes) 2 (lined_rows p.rows lines) records ≡ Ok (lined_rows q.rows more)
      → Ok q ≡ problem_from cs (read_lines (source_line s cs) 2 [] records)
  read-rows records p q lines more ec er eq keeps read =
      let whole : record { classes = cs; rows = rows_of (lined_rows q.rows more) } ≡ q = λ i. record { classes = (sym ec ∙ sym eq) i; rows = lined-rows-of q.rows more keeps i } in
      sym (ap (problem_from cs) (from-empty records p lines (Ok (lined_rows q.rows more)) ec er read) ∙ ap Ok whole)

  pub read-fault : (records : List Fields) (p : ProblemFacts) (lines : List (Measure × ℕ)) (e : SourceFault) → p.classes ≡ cs → p.rows ≡ []
      → read_lines (source_line s p.classes) 2 (lined_rows p.rows lines) records ≡ Err e
      → Err e ≡ problem_from cs (read_lines (source_line s cs) 2 [] records)
  read-fault records p lines e ec er read = sym (ap (problem_from cs) (from-empty records p lines (Err e) ec er read))

  pub file-read : (all lines : List Fields) (r : Result ProblemFacts SourceFault) → under_header all ≡ Ok lines
      → r ≡ problem_from cs (read_lines (source_line s cs) 2 [] lines) → r ≡ source_in s cs all
  file-read all lines r under read = read ∙ sym (ap (λ u. and_then u (λ lines. problem_from cs (read_lines (source_line s cs) 2 [] lines))) under)

  pub file-fault : (all : List Fields) (e : SourceFault) → under_header all ≡ Err e → Err e ≡ source_in s cs all
  file-fault all e under = sym (ap (λ u. and_then u (λ lines. problem_from cs (read_lines (source_line s cs) 2 [] lines))) under)
