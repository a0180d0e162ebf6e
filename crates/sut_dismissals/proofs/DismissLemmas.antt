-- A line by its steps, a file by its first record, and the last year.
use Rattle.std.proofs.Common.{◌≡◌, ◌==◌, ◌<◌, ◌≤◌, ◌-◌, ◌∷◌, ◌∙◌, ℕ, suc, get_or, List, [], true, false, Ok, Err, Some, None, length, refl, ap, arith}
use Rattle.std.specs.Prelude.{All, slice_get}
use Rattle.std.proofs.lemmas.Option.{get_or_from_slice_get}
use Rattle.sut_records.specs.RecordList.{Fields, field, same_fields}
use Rattle.sut_dismissals.specs.declared.dismissals.DismissLine.{DismissLine}
use Rattle.sut_dismissals.specs.declared.faults.DismissCause.{DismissCause}
use Rattle.sut_dismissals.specs.declared.faults.DismissCause.TheVariants as fault
use Rattle.sut_dismissals.specs.DismissFile.{dismiss_header, dismiss_line, last_year, line_added, under_header, year_in}
use Rattle.sut_dismissals.specs.DismissRules.{IsYearOf}

module _ (years n : ℕ) (before : List DismissLine) (line : Fields) where
  pub line-short : (length line == 2) ≡ false → dismiss_line years n before line ≡ Err (record { line = n; cause = fault.Csv })
  unfolding dismiss_line
  line-short e = rw e refl

  pub line-year : (length line == 2) ≡ true → year_in years before (field line 0) ≡ None → dismiss_line years n before line ≡ Err (record { line = n; cause = fault.WrongYear })
  unfolding dismiss_line
  line-year e f = rw (e, f) refl

  pub line-refused : (year : ℕ) (cause : DismissCause) → (length line == 2) ≡ true → year_in years before (field line 0) ≡ Some year
      → line_added n before year (field line 1) ≡ Err cause → dismiss_line years n before line ≡ Err (record { line = n; cause = cause })
  unfolding dismiss_line
  line-refused year cause e f g = rw (e, f, g) refl

  pub line-taken : (year : ℕ) (after : List DismissLine) → (length line == 2) ≡ true → year_in years before (field line 0) ≡ Some year
      → line_added n before year (field line 1) ≡ Ok after → dismiss_line years n before line ≡ Ok after
  unfolding dismiss_line
  line-taken year after e f g = rw (e, f, g) refl

pub no-record : (all : List Fields) → all ≡ [] → under_header all ≡ Err (record { line = 1; cause = fault.Header })
unfolding under_header
no-record all e = rw e refl

pub other-header : (all : List Fields) (header : Fields) (rest : List Fields) → all ≡ header ∷ rest → same_fields header dismiss_header ≡ false
    → under_header all ≡ Err (record { line = 1; cause = fault.Header })
unfolding under_header
other-header all header rest e f = rw (e, f) refl

pub right-header : (all : List Fields) (header : Fields) (rest : List Fields) → all ≡ header ∷ rest → same_fields header dismiss_header ≡ true
    → under_header all ≡ Ok rest
unfolding under_header
right-header all header rest e f = rw (e, f) refl

-- the last year is that of the line at the last place
pub last-year-at : (l : DismissLine) (lines : List DismissLine) (d : DismissLine) → last_year (l ∷ lines) ≡ (get_or (l ∷ lines) (length lines) d).year
last-year-at l [] d = refl
last-year-at l (m ∷ lines) d = last-year-at m lines d

pub last-year-got : (lines : List DismissLine) (l : DismissLine) → slice_get lines (length lines - 1) ≡ Some l → last_year lines ≡ l.year
last-year-got [] l e = cc
last-year-got (first ∷ lines) l e =
    let place : suc (length lines) - 1 ≡ length lines = omega arith in
    let at : slice_get (first ∷ lines) (length lines) ≡ Some l = rw place at e in
    last-year-at first lines l ∙ ap (λ (x : DismissLine). x.year) (get_or_from_slice_get (first ∷ lines) (length lines) l l at)

-- where each line's year is at least 1, so is the last
pub last-year-from-one : (years : ℕ) (lines : List DismissLine) → All (IsYearOf years) lines → 1 ≤ last_year lines
last-year-from-one years [] h = omega arith
last-year-from-one years (l ∷ lines) h =
    let within : length lines < suc (length lines) = omega arith in
    let year = (h (length lines) l within).0 in
    rw (last-year-at l lines l) year
