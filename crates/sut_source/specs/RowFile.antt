-- What the eight fields of a row of a source spell, or their first fault.
use Rattle.std.specs.Prelude.{ℕ, ◌+◌, ◌==◌, ◌&&◌, not, int_lt, unsigned_abs, Bool, if◌then◌else◌, List, codes, drop, take, length, Option, Some, None, option_map, ℤ, pos, neg_ℤ, Result, Ok, Err}
use Rattle.std.specs.List.{before_first, position_or_len}
use Rattle.std.specs.Str.{bytes_eq}
use Rattle.sut_records.specs.RecordList.{Fields, field}
use Rattle.sut_records.specs.FirstFault.{and_then, fault_as, only_if, or_fault}
use Rattle.sut_text.specs.Number.{whole_of}
use Rattle.sut_text.specs.declared.numbers.NumberFault.{NumberFault}
use Rattle.sut_text.specs.declared.numbers.NumberFault.TheVariants as number
use Rattle.sut_classes.specs.ClassLists.{ClassLists}
use Rattle.sut_measures.specs.ReadNames.{measure_of}
use Rattle.sut_measures.specs.declared.faults.Field.{Field}
use Rattle.sut_measures.specs.declared.faults.Field.TheVariants as column
use Rattle.sut_measures.specs.declared.faults.NameFault.{NameFault}
use Rattle.sut_measures.specs.declared.faults.NameFault.TheVariants as name
use Rattle.sut_tables.specs.Rows.{limit}
use Rattle.sut_tables.specs.RowFacts.{RowFacts}
use Rattle.sut_tables.specs.declared.rows.Penalty.{Penalty}
use Rattle.sut_tables.specs.declared.rows.Penalty.TheVariants as penalty
use Rattle.sut_settings.specs.SettingsFacts.{SettingsFacts, number_at, place_of_grade, weight_from}
use Rattle.sut_source.specs.declared.faults.RowFault.{RowFault}
use Rattle.sut_source.specs.declared.faults.RowFault.TheVariants as fault
use Rattle.sut_source.specs.declared.grades.GradeField.{GradeField}

-- the fields of a row, each the list of its bytes
pub record RowFields : Type 0 where
  pub kind : List ℕ
  pub a : List ℕ
  pub b : List ℕ
  pub c : List ℕ
  pub target : List ℕ
  pub grade : List ℕ
  pub lower : List ℕ
  pub upper : List ℕ

-- the fields of a row that a record spells from a place on
abbrev pub row_fields : ℕ → Fields → RowFields
row_fields n line = record {
  kind = field line n;
  a = field line (n + 1);
  b = field line (n + 2);
  c = field line (n + 3);
  target = field line (n + 4);
  grade = field line (n + 5);
  lower = field line (n + 6);
  upper = field line (n + 7);
}

-- ---- numbers

abbrev pub is_small : ℤ → Bool
is_small z = not (int_lt z (neg_ℤ limit)) && not (int_lt limit z)

-- a number of a source; one that is too wide lies outside the range as well
abbrev pub source_number : Field → Result ℤ NumberFault → Result ℤ RowFault
source_number at (Ok z) = if is_small z then Ok z else Err (fault.OutOfRange at)
source_number at (Err number.TooWide) = Err (fault.OutOfRange at)
source_number at (Err _) = Err (fault.NotNumber at)

abbrev pub number_in : Field → List ℕ → Result ℤ RowFault
number_in at text = source_number at (whole_of text)

-- the target: none where the field is empty
abbrev pub target_in : List ℕ → Result (Option ℤ) RowFault
target_in text = if length text == 0 then Ok None else and_then (number_in column.Target text) (λ z. Ok (Some z))

-- the bounds of empty fields hang on the target's sign
abbrev pub usual_lower : ℤ → ℤ
usual_lower target = if int_lt target (pos 0) then neg_ℤ limit else pos 0

abbrev pub usual_upper : ℤ → ℤ
usual_upper target = if int_lt target (pos 0) then pos 0 else limit

-- a bound: that of an empty field where there is one, and there is none without a target
abbrev pub bound_in : Field → Option ℤ → List ℕ → Result ℤ RowFault
bound_in at usual text = if length text == 0 then or_fault usual fault.NoTarget Ok else number_in at text

-- ---- grades and penalties

-- a band's width, 0 to 10^12
abbrev pub band_of : Result ℤ NumberFault → Option Penalty
band_of (Ok width) = if not (int_lt width (pos 0)) && not (int_lt limit width) then Some (penalty.Band width) else None
band_of (Err e) = None

-- a penalty as it stands behind the colon
abbrev pub penalty_of : List ℕ → Option Penalty
penalty_of text =
    if bytes_eq text (codes "abs") then Some penalty.Absolute
    else if bytes_eq (codes "band:") (take 5 text) then band_of (whole_of (drop 5 text))
    else None

abbrev pub is_colon : ℕ → Bool
is_colon b = b == 58

-- what stands before the first colon, and what stands from it on, if there is one
abbrev pub before_colon : List ℕ → List ℕ
before_colon text = before_first is_colon text

abbrev pub from_colon : List ℕ → List ℕ
from_colon text = drop (position_or_len is_colon text) text

-- the penalty from the colon on; without a colon it is the square
abbrev pub penalty_in : List ℕ → Result Penalty RowFault
penalty_in rest = if length rest == 0 then Ok penalty.Square else or_fault (penalty_of (drop 1 rest)) fault.BadPenalty Ok

-- the grade before the colon and the penalty behind it; without a target the field is empty
abbrev pub grade_in : SettingsFacts → Option ℤ → List ℕ → Result GradeField RowFault
grade_in s None text = only_if (length text == 0) (fault.NotEmpty column.Grade) (Ok (record { place = 0; penalty = penalty.Square }))
grade_in s (Some target) text =
    or_fault (place_of_grade s (before_colon text)) fault.UnknownGrade (λ place.
    and_then (penalty_in (from_colon text)) (λ loss. Ok (record { place = place; penalty = loss })))

abbrev pub weight_for : SettingsFacts → Option ℤ → ℕ → ℕ
weight_for s None place = 0
weight_for s (Some target) place = weight_from s.relative (number_at s place) (unsigned_abs target)

-- ---- rows

-- a name's fault, as a row's
abbrev pub name_fault : NameFault → RowFault
name_fault name.UnknownKind = fault.UnknownKind
name_fault (name.UnknownCode at) = fault.UnknownCode at
name_fault (name.NotEmpty at) = fault.NotEmpty at
name_fault name.WrongService = fault.WrongService

-- the row of these fields, or the first fault: the name, the target, the grade, the lower bound, the upper bound, and
-- then whether the bounds cross
unfoldable pub row_in : SettingsFacts → ClassLists → RowFields → Result RowFacts RowFault
row_in s cs f =
    and_then (fault_as name_fault (measure_of cs f.kind f.a f.b f.c)) (λ m.
    and_then (target_in f.target) (λ target.
    and_then (grade_in s target f.grade) (λ grade.
    and_then (bound_in column.Lower (option_map usual_lower target) f.lower) (λ lower.
    and_then (bound_in column.Upper (option_map usual_upper target) f.upper) (λ upper.
    only_if (not (int_lt upper lower)) fault.Crossed
    (Ok (record { measure = m; target = target; penalty = grade.penalty; grade = grade.place; weight = weight_for s target grade.place; lower = lower; upper = upper })))))))
