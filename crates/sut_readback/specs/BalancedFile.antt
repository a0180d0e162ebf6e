-- Reading `balanced.csv`: how a line is judged by what the lines before it gave, and the table that a whole file gives.
use Rattle.std.specs.Prelude.{ℕ, ◌+◌, ◌==◌, ◌&&◌, not, int_lt, Bool, if◌then◌else◌, List, [], ◌∷◌, ◌++◌, drop, length, ℤ, neg_ℤ, Option, Some, None, Result, Ok, Err}
use Rattle.std.specs.Ordering.{int_eq}
use Rattle.std.specs.Str.{bytes_eq}
use Rattle.sut_text.specs.Number.{whole_of}
use Rattle.sut_text.specs.declared.numbers.NumberFault.{NumberFault}
use Rattle.sut_text.specs.declared.numbers.NumberFault.TheVariants as number
use Rattle.sut_records.specs.RecordList.{Fields, field, records_of, same_fields}
use Rattle.sut_records.specs.FirstFault.{and_then, fault_as, only_if, or_fault, read_lines}
use Rattle.sut_classes.specs.ClassLists.{ClassLists}
use Rattle.sut_measures.specs.Keys.{measure_key}
use Rattle.sut_measures.specs.ReadNames.{measure_of}
use Rattle.sut_measures.specs.declared.faults.NameFault.{NameFault}
use Rattle.sut_measures.specs.declared.measures.Cell.{Cell}
use Rattle.sut_measures.specs.declared.measures.Measure.{Measure}
use Rattle.sut_measures.specs.declared.measures.Measure.TheVariants as measure
use Rattle.sut_tables.specs.Breaks.{first_of}
use Rattle.sut_tables.specs.InOrder.{same_key}
use Rattle.sut_tables.specs.ProblemFacts.{ProblemFacts}
use Rattle.sut_tables.specs.Problems.{groups, live_measures}
use Rattle.sut_tables.specs.Rows.{limit}
use Rattle.sut_tables.specs.TableFacts.{TableFacts}
use Rattle.sut_tables.specs.Values.{total_value}
use Rattle.sut_readback.specs.BalancedText.{balanced_header, target_text}
use Rattle.sut_readback.specs.declared.faults.BalancedCause.{BalancedCause}
use Rattle.sut_readback.specs.declared.faults.BalancedCause.TheVariants as fault
use Rattle.sut_readback.specs.declared.faults.BalancedFault.{BalancedFault}

-- what the lines so far gave: a table of the cells that were read, and the live measures that are still to come
pub record TableSoFar : Type 0 where
  pub table : TableFacts
  pub coming : List Measure

abbrev pub nothing_read : ProblemFacts → TableSoFar
nothing_read p = record { table = record { groups = groups p; cells = [] }; coming = live_measures p }

-- two measures are the same where their keys are
abbrev pub same_measure : Measure → Measure → Bool
same_measure m n = same_key (measure_key m) (measure_key n)

-- the measure that a line names
abbrev pub name_in : ClassLists → Fields → Result Measure NameFault
name_in cs line = measure_of cs (field line 0) (field line 1) (field line 2) (field line 3)

-- the next live measure, where this is its name
abbrev pub next_named : Option Measure → Result Measure NameFault → Option Measure
next_named None named = None
next_named (Some next) (Err e) = None
next_named (Some next) (Ok named) = if same_measure named next then Some next else None

abbrev pub number_in : Result ℤ NumberFault → Result ℤ BalancedCause
number_in (Ok x) = Ok x
number_in (Err number.TooWide) = Err fault.OutOfRange
number_in (Err _) = Err fault.NotNumber

-- the measure and the value of a line, where the next live measure is this one
unfoldable pub value_in : ProblemFacts → Option Measure → Fields → Result (Measure × ℤ) BalancedCause
value_in p next line =
    only_if (length line == 6) fault.Csv
    (or_fault (next_named next (name_in p.classes line)) fault.WrongMeasure (λ m.
    only_if (bytes_eq (field line 4) (target_text p m)) fault.WrongTarget
    (and_then (number_in (whole_of (field line 5))) (λ x. Ok (m, x)))))

-- the value of a cell lies in -10^12 to 10^12
abbrev pub is_cell_number : ℤ → Bool
is_cell_number x = not (int_lt x (neg_ℤ limit)) && not (int_lt limit x)

-- the next measure, a cell, is read
abbrev pub with_cell : TableSoFar → Cell → ℤ → TableSoFar
with_cell before c x = record {
  table = record before.table { cells = before.table.cells ++ record { cell = c; number = x } ∷ [] };
  coming = drop 1 before.coming;
}

-- a cell takes its value; a total's value is its sum over the cells that were read
abbrev pub with_value : TableSoFar → Measure → ℤ → Result TableSoFar BalancedCause
with_value before (measure.Cell c) x = only_if (is_cell_number x) fault.OutOfRange (Ok (with_cell before c x))
with_value before (measure.Total u) x =
    only_if (int_eq x (total_value before.table u)) (fault.WrongTotal x (total_value before.table u))
    (Ok (record before { coming = drop 1 before.coming }))

-- what a line gives after the lines before it, or its first fault
unfoldable pub line_given : ProblemFacts → TableSoFar → Fields → Result TableSoFar BalancedCause
line_given p before line = and_then (value_in p (first_of before.coming) line) (λ v. with_value before v.0 v.1)

-- the fault with its line
unfoldable pub table_line : ProblemFacts → ℕ → TableSoFar → Fields → Result TableSoFar BalancedFault
table_line p n before line = fault_as (λ cause. record { line = n; cause = cause }) (line_given p before line)

-- after the last record no live measure may be left; the line is the one after it
abbrev pub whole_table : ℕ → TableSoFar → Result TableFacts BalancedFault
whole_table n so_far = only_if (length so_far.coming == 0) (record { line = n; cause = fault.Short }) (Ok so_far.table)

-- what the lines under the header give, the first of them line 2
unfoldable pub table_in : ProblemFacts → List Fields → Result TableFacts BalancedFault
table_in p lines = and_then (read_lines (table_line p) 2 (nothing_read p) lines) (whole_table (length lines + 2))

abbrev pub wrong_header : BalancedFault
wrong_header = record { line = 1; cause = fault.Header }

-- what the records of a file give: the table, or the first fault with its line
unfoldable pub balanced_in : ProblemFacts → List Fields → Result TableFacts BalancedFault
balanced_in p [] = Err wrong_header
balanced_in p (header ∷ lines) = only_if (same_fields header balanced_header) wrong_header (table_in p lines)

abbrev pub balanced_of : ProblemFacts → List ℕ → Result TableFacts BalancedFault
balanced_of p bytes = balanced_in p (records_of bytes)
