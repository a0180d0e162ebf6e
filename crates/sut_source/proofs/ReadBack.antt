-- The printed rows of a problem are read as the same problem.
use Rattle.std.proofs.Common.{◌≡◌, ◌+◌, ◌∷◌, ◌++◌, ◌∙◌, ℕ, List, [], Ok, map, refl, sym, ap, subst, append_assoc, arith}
use Rattle.std.specs.Prelude.{All}
use Rattle.std.proofs.lemmas.List.{append-nil, map-append}
use Rattle.csv.specs.Reading.{strip_bom}
use Rattle.sut_text.specs.Text.{file_text}
use Rattle.sut_records.specs.Plain.{IsPlainRow}
use Rattle.sut_records.specs.FirstFault.{read_lines}
use Rattle.sut_records.specs.RecordList.{Fields, records_of}
use Rattle.sut_records.proofs.FirstFaultLemmas.{line-judged, lines-ended}
use Rattle.sut_records.proofs.PlainText.{printed-file}
use Rattle.sut_classes.specs.ClassLists.{ClassLists}
use Rattle.sut_classes.specs.Kept.{IsClasses}
use Rattle.sut_measures.specs.Keys.{measure_key}
use Rattle.sut_tables.specs.Limits.{IsWithinLimits}
use Rattle.sut_tables.specs.ProblemFacts.{ProblemFacts}
use Rattle.sut_tables.specs.ProblemRules.{IsKept}
use Rattle.sut_tables.specs.RowFacts.{RowFacts}
use Rattle.sut_tables.proofs.Conservation.{Sorted-from_ascending}
use Rattle.sut_tables.proofs.Ordered.{Sorted}
use Rattle.sut_settings.specs.IsSettings.{IsSettings}
use Rattle.sut_settings.specs.SettingsFacts.{SettingsFacts}
use Rattle.sut_source.specs.SourceFile.{RowLine, problem_from, rows_of, source_header, source_line, source_of}
use Rattle.sut_source.specs.SourceText.{HasGrade, row_line, rows_text, source_text}
use Rattle.sut_source.proofs.PrintedRows.{ArePrinted, are-printed, line-appended, lines-plain}
use Rattle.sut_source.proofs.SourceLemmas.{file-read, right-header}

abbrev row_key : RowFacts → List ℕ
row_key r = measure_key r.measure

module _ (s : SettingsFacts) (cs : ClassLists) (settings : IsSettings s) (classes : IsClasses cs) where
  -- the lines of the rows that are left, behind those of the rows before them
  rows-read : (whole : List RowFacts) → Sorted row_key whole → IsWithinLimits (record { classes = cs; rows = whole }) → (left : List RowFacts) (n : ℕ) (done : List RowLine)
      → rows_of done ++ left ≡ whole → ArePrinted s cs left → problem_from cs (read_lines (source_line s cs) n done (map (row_line s cs) left)) ≡ Ok (record { classes = cs; rows = whole })
  rows-read whole order limits [] n done e printed =
      ap (problem_from cs) (lines-ended (source_line s cs) n done [] refl) ∙ ap (λ rows. Ok (record { classes = cs; rows = rows })) (sym (append-nil (rows_of done)) ∙ e)
  rows-read whole order limits (r ∷ left) n done e printed =
      let more : List RowLine = done ++ record { row = r; line = n } ∷ [] in
      let judged : source_line s cs n done (row_line s cs r) ≡ Ok more =
      line-appended s cs n done r left settings classes printed.0 (subst (Sorted row_key) (sym e) order) (subst (λ rows. IsWithinLimits (record { classes = cs; rows = rows })) (sym e) limits) in
      let split : rows_of more ++ left ≡ whole =
      ap (λ rows. rows ++ left) (map-append (λ (q : RowLine). q.row) done (record { row = r; line = n } ∷ [])) ∙ append_assoc (rows_of done) (r ∷ []) left ∙ e in
      ap (problem_from cs) (line-judged (source_line s cs) n done (map (row_line s cs) (r ∷ left)) (row_line s cs r) (map (row_line s cs) left) (Ok more) refl judged)
      ∙ rows-read whole order limits left (n + 1) more split printed.1

header-plain : IsPlainRow source_header
header-plain = record { wide = omega arith; plain = (refl, (refl, (refl, (refl, (refl, (refl, (refl, (refl, tt)))))))) }

no-mark : (lines : List Fields) → strip_bom (file_text source_header lines) ≡ file_text source_header lines
unfolding strip_bom
no-mark lines = refl

pub printed-source : (s : SettingsFacts) (p : ProblemFacts) → IsSettings s → IsKept p → IsClasses p.classes → All (HasGrade s) p.rows → source_of s p.classes (source_text s p) ≡ Ok p
unfolding rows_text
printed-source s p settings kept classes graded =
    let lines = map (row_line s p.classes) p.rows in
    let printed = are-printed s p.classes p.rows kept.problem.fitting kept.problem.in_range graded in
    let records : records_of (file_text source_header lines) ≡ source_header ∷ lines =
    printed-file source_header lines header-plain (lines-plain s p.classes settings classes p.rows printed) (no-mark lines) in
    sym (file-read s p.classes (records_of (file_text source_header lines)) lines (Ok p) (right-header (records_of (file_text source_header lines)) source_header lines records refl)
    (sym (rows-read s p.classes settings classes p.rows (Sorted-from_ascending row_key p.rows kept.problem.in_order) kept.limits p.rows 2 [] refl printed)))
