-- A file by its first record, and a table by its lines.
use Rattle.std.proofs.Common.{◌≡◌, ◌+◌, ◌∷◌, List, [], true, false, Some, Ok, Err, length, refl, suc}
use Rattle.std.specs.Prelude.{◌==◌, ℕ}
use Rattle.std.proofs.lemmas.Bool.Decides.{nat_tests}
use Rattle.std.proofs.Common.{arith}
use Rattle.sut_records.specs.RecordList.{Fields, same_fields}
use Rattle.sut_records.specs.FirstFault.{read_lines}
use Rattle.sut_measures.specs.declared.measures.Measure.{Measure}
use Rattle.sut_tables.specs.Breaks.{first_of}
use Rattle.sut_tables.specs.ProblemFacts.{ProblemFacts}
use Rattle.sut_readback.specs.BalancedText.{balanced_header}
use Rattle.sut_readback.specs.BalancedFile.{TableSoFar, balanced_in, nothing_read, table_in, table_line, whole_table, wrong_header}
use Rattle.sut_readback.specs.declared.faults.BalancedFault.{BalancedFault}
use Rattle.sut_readback.specs.declared.faults.BalancedCause.TheVariants as fault

pub no-record : (p : ProblemFacts) (all : List Fields) → all ≡ [] → balanced_in p all ≡ Err wrong_header
unfolding balanced_in
no-record p all e = rw (e) refl

pub other-header : (p : ProblemFacts) (all : List Fields) (header : Fields) (rest : List Fields) → all ≡ header ∷ rest → same_fields header balanced_header ≡ false → balanced_in p all ≡ Err wrong_header
unfolding balanced_in
other-header p all header rest e f = rw (e, f) refl

pub under-header : (p : ProblemFacts) (all : List Fields) (header : Fields) (rest : List Fields) → all ≡ header ∷ rest → same_fields header balanced_header ≡ true → balanced_in p all ≡ table_in p rest
unfolding balanced_in
under-header p all header rest e f = rw (e, f) refl

pub table-fault : (p : ProblemFacts) (lines : List Fields) (f : BalancedFault)
    → read_lines (table_line p) 2 (nothing_read p) lines ≡ Err f
    → table_in p lines ≡ Err f
unfolding table_in
table-fault p lines f e = rw (e) refl

none-coming : (n : ℕ) → (suc n == 0) ≡ false
none-coming n = grind (arith, nat_tests)

whole-left : (n : ℕ) (so_far : TableSoFar) (ms : List Measure) (m : Measure) → so_far.coming ≡ ms → first_of ms ≡ Some m → whole_table n so_far ≡ Err (record { line = n; cause = fault.Short })
whole-left n so_far [] m is e = cc e
whole-left n so_far (x ∷ ms) m is e = rw (is, none-coming (length ms)) refl

pub table-short : (p : ProblemFacts) (lines : List Fields) (so_far : TableSoFar) (m : Measure)
    → read_lines (table_line p) 2 (nothing_read p) lines ≡ Ok so_far
    → first_of so_far.coming ≡ Some m
    → table_in p lines ≡ Err (record { line = length lines + 2; cause = fault.Short })
unfolding table_in
table-short p lines so_far m e left = rw (e) (whole-left (length lines + 2) so_far so_far.coming m refl left)

pub table-whole : (p : ProblemFacts) (lines : List Fields) (so_far : TableSoFar)
    → read_lines (table_line p) 2 (nothing_read p) lines ≡ Ok so_far
    → so_far.coming ≡ []
    → table_in p lines ≡ Ok so_far.table
unfolding table_in
table-whole p lines so_far e none = rw (e, none) refl
