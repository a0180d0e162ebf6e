-- The steps of a line, one after the other.
use Rattle.std.proofs.Common.{◌≡◌, ℕ, ℤ, Bool, true, false, if◌then◌else◌, Option, Some, None, Result, Ok, Err, length, refl}
use Rattle.std.specs.Prelude.{◌==◌}
use Rattle.std.specs.Str.{bytes_eq}
use Rattle.sut_text.specs.Number.{whole_of}
use Rattle.sut_records.specs.RecordList.{Fields, field}
use Rattle.sut_measures.specs.declared.faults.NameFault.{NameFault}
use Rattle.sut_measures.specs.declared.measures.Measure.{Measure}
use Rattle.sut_tables.specs.Breaks.{first_of}
use Rattle.sut_tables.specs.ProblemFacts.{ProblemFacts}
use Rattle.sut_readback.specs.BalancedText.{target_text}
use Rattle.sut_readback.specs.BalancedFile.{TableSoFar, line_given, name_in, next_named, number_in, same_measure, table_line, value_in, with_value}
use Rattle.sut_readback.specs.declared.faults.BalancedCause.{BalancedCause}
use Rattle.sut_readback.specs.declared.faults.BalancedCause.TheVariants as fault

pub value-csv : (p : ProblemFacts) (next : Option Measure) (line : Fields)
    → (length line == 6) ≡ false
    → value_in p next line ≡ Err fault.Csv
unfolding value_in
value-csv p next line e1 = rw (e1) refl

pub value-measure : (p : ProblemFacts) (next : Option Measure) (line : Fields)
    → (length line == 6) ≡ true
    → next_named next (name_in p.classes line) ≡ None
    → value_in p next line ≡ Err fault.WrongMeasure
unfolding value_in
value-measure p next line e1 e2 = rw (e1, e2) refl

pub value-target : (p : ProblemFacts) (next : Option Measure) (line : Fields) (m : Measure)
    → (length line == 6) ≡ true
    → next_named next (name_in p.classes line) ≡ Some m
    → bytes_eq (field line 4) (target_text p m) ≡ false
    → value_in p next line ≡ Err fault.WrongTarget
unfolding value_in
value-target p next line m e1 e2 e3 = rw (e1, e2, e3) refl

pub value-number : (p : ProblemFacts) (next : Option Measure) (line : Fields) (m : Measure) (f : BalancedCause)
    → (length line == 6) ≡ true
    → next_named next (name_in p.classes line) ≡ Some m
    → bytes_eq (field line 4) (target_text p m) ≡ true
    → number_in (whole_of (field line 5)) ≡ Err f
    → value_in p next line ≡ Err f
unfolding value_in
value-number p next line m f e1 e2 e3 e4 = rw (e1, e2, e3, e4) refl

pub value-good : (p : ProblemFacts) (next : Option Measure) (line : Fields) (m : Measure) (x : ℤ)
    → (length line == 6) ≡ true
    → next_named next (name_in p.classes line) ≡ Some m
    → bytes_eq (field line 4) (target_text p m) ≡ true
    → number_in (whole_of (field line 5)) ≡ Ok x
    → value_in p next line ≡ Ok (m, x)
unfolding value_in
value-good p next line m x e1 e2 e3 e4 = rw (e1, e2, e3, e4) refl

chosen : (b : Bool) (n m : Measure) → (if b then Some n else None) ≡ Some m → (b ≡ true) × (n ≡ m)
chosen true n m e = (refl, cc e)
chosen false n m e = cc

-- a measure that a line names is the next one
pub next-is : (next : Option Measure) (named : Result Measure NameFault) (m : Measure) → next_named next named ≡ Some m → next ≡ Some m
next-is None named m e = cc
next-is (Some n) (Err f) m e = cc
next-is (Some n) (Ok named) m e = let same = (chosen (same_measure named n) n m e).1 in rw same refl

pub given-fault : (p : ProblemFacts) (before : TableSoFar) (line : Fields) (f : BalancedCause)
    → value_in p (first_of before.coming) line ≡ Err f
    → line_given p before line ≡ Err f
unfolding line_given
given-fault p before line f e = rw (e) refl

pub given-value : (p : ProblemFacts) (before : TableSoFar) (line : Fields) (v : Measure × ℤ) (r : Result TableSoFar BalancedCause)
    → value_in p (first_of before.coming) line ≡ Ok v
    → with_value before v.0 v.1 ≡ r
    → line_given p before line ≡ r
unfolding line_given
given-value p before line v r e given = rw (e) given

pub line-good : (p : ProblemFacts) (n : ℕ) (before after : TableSoFar) (line : Fields)
    → line_given p before line ≡ Ok after
    → table_line p n before line ≡ Ok after
unfolding table_line
line-good p n before after line e = rw (e) refl

pub line-fault : (p : ProblemFacts) (n : ℕ) (before : TableSoFar) (line : Fields) (f : BalancedCause)
    → line_given p before line ≡ Err f
    → table_line p n before line ≡ Err (record { line = n; cause = f })
unfolding table_line
line-fault p n before line f e = rw (e) refl
