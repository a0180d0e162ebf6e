-- Reading `dismiss.csv`: how a line is judged by the lines before it.
use Rattle.std.specs.Prelude.{ℕ, ℤ, pos, ◌==◌, ◌&&◌, not, int_lt, unsigned_abs, nat_lt, if◌then◌else◌, List, [], ◌∷◌, ◌++◌, codes, length, Option, Some, None, Result, Ok, Err}
use Rattle.sut_records.specs.RecordList.{Fields, field, records_of, same_fields}
use Rattle.sut_records.specs.FirstFault.{and_then, fault_as, only_if, or_fault, read_lines}
use Rattle.sut_text.specs.Number.{whole_of}
use Rattle.sut_text.specs.declared.numbers.NumberFault.{NumberFault}
use Rattle.sut_dismissals.specs.declared.dismissals.DismissLine.{DismissLine}
use Rattle.sut_dismissals.specs.declared.faults.DismissCause.{DismissCause}
use Rattle.sut_dismissals.specs.declared.faults.DismissCause.TheVariants as fault
use Rattle.sut_dismissals.specs.declared.faults.DismissFault.{DismissFault}

-- the year of the last line, and 1 where there is none
abbrev pub last_year : List DismissLine → ℕ
last_year [] = 1
last_year (l ∷ []) = l.year
last_year (l ∷ m ∷ lines) = last_year (m ∷ lines)

-- a number from the first of these years to the last
abbrev pub year_among : ℕ → ℕ → Result ℤ NumberFault → Option ℕ
year_among first last (Ok z) = if not (int_lt z (pos first)) && not (int_lt (pos last) z) then Some (unsigned_abs z) else None
year_among first last (Err e) = None

-- a year of the series, in shortest decimal, that is not below the year of the line before
abbrev pub year_in : ℕ → List DismissLine → List ℕ → Option ℕ
year_in years before text = year_among (last_year before) years (whole_of text)

-- the lines with that of line n: at most 64 of them
abbrev pub line_added : ℕ → List DismissLine → ℕ → List ℕ → Result (List DismissLine) DismissCause
line_added n before year label =
    only_if (nat_lt (length before) 64) fault.TooMany (Ok (before ++ record { line = n; year = year; label = label } ∷ []))

-- a cause with its line
abbrev pub at_line : {A : Type 0} → ℕ → Result A DismissCause → Result A DismissFault
at_line n r = fault_as (λ cause. record { line = n; cause = cause }) r

-- line n of a series of so many years, after the lines before it
unfoldable pub dismiss_line : ℕ → ℕ → List DismissLine → Fields → Result (List DismissLine) DismissFault
dismiss_line years n before line = at_line n
    (only_if (length line == 2) fault.Csv
    (or_fault (year_in years before (field line 0)) fault.WrongYear (λ year. line_added n before year (field line 1))))

abbrev pub dismiss_header : Fields
dismiss_header = codes "year" ∷ codes "label" ∷ []

-- the records under the header
unfoldable pub under_header : List Fields → Result (List Fields) DismissFault
under_header [] = Err (record { line = 1; cause = fault.Header })
under_header (header ∷ lines) = only_if (same_fields header dismiss_header) (record { line = 1; cause = fault.Header }) (Ok lines)

-- what the records of a file give: the dismissals with their lines, or the first fault with its line
abbrev pub dismissals_in : ℕ → List Fields → Result (List DismissLine) DismissFault
dismissals_in years records = and_then (under_header records) (λ lines. read_lines (dismiss_line years) 2 [] lines)

abbrev pub dismissals_of : ℕ → List ℕ → Result (List DismissLine) DismissFault
dismissals_of years bytes = dismissals_in years (records_of bytes)
