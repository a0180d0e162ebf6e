-- What a line that is taken says.
use Rattle.std.proofs.Common.{◌≡◌, ℕ, ℤ, Bool, true, false, if◌then◌else◌, Option, Some, None, Result, Ok, Err, length, refl, ap, ◌∙◌}
use Rattle.std.specs.Prelude.{◌==◌}
use Rattle.std.specs.Str.{bytes_eq}
use Rattle.std.proofs.lemmas.Bool.{eqb-true}
use Rattle.std.proofs.lemmas.Slice.Eq.{bytes_eq-Decides}
use Rattle.sut_text.specs.Number.{whole_of}
use Rattle.sut_text.specs.Text.{whole_text}
use Rattle.sut_text.specs.declared.numbers.NumberFault.{NumberFault}
use Rattle.sut_text.specs.declared.numbers.NumberFault.TheVariants as number
use Rattle.sut_text.proofs.Spelling.{spelled-whole}
use Rattle.sut_records.specs.RecordList.{Fields, field}
use Rattle.sut_records.specs.FirstFault.{and_then, fault_as, only_if, or_fault}
use Rattle.sut_measures.specs.Keys.{measure_key}
use Rattle.sut_measures.specs.declared.faults.NameFault.{NameFault}
use Rattle.sut_measures.specs.declared.measures.Measure.{Measure}
use Rattle.sut_measures.proofs.KeyLemmas.{measure_key-injective}
use Rattle.sut_tables.specs.Breaks.{first_of}
use Rattle.sut_tables.specs.ProblemFacts.{ProblemFacts}
use Rattle.sut_tables.proofs.Ordered.{same-eq}
use Rattle.sut_readback.specs.BalancedText.{target_text}
use Rattle.sut_readback.specs.BalancedFile.{TableSoFar, line_given, name_in, next_named, number_in, same_measure, table_line, value_in, with_value}
use Rattle.sut_readback.specs.declared.faults.BalancedCause.{BalancedCause}
use Rattle.sut_readback.specs.declared.faults.BalancedCause.TheVariants as fault
use Rattle.sut_readback.proofs.LineLemmas.{next-is}

-- ---- results that are values

pub fault_as-ok : {A F G : Type 0} (name : F → G) (r : Result A F) (a : A) → fault_as name r ≡ Ok a → r ≡ Ok a
fault_as-ok name (Ok x) a e = cc
fault_as-ok name (Err f) a e = cc

pub and_then-ok : {A B F : Type 0} (r : Result A F) (next : A → Result B F) (b : B) → and_then r next ≡ Ok b → (x : A) × (r ≡ Ok x) × (next x ≡ Ok b)
and_then-ok (Ok x) next b e = (x, refl, e)
and_then-ok (Err f) next b e = absurd cc

pub only_if-ok : {B F : Type 0} (test : Bool) (f : F) (next : Result B F) (b : B) → only_if test f next ≡ Ok b → (test ≡ true) × (next ≡ Ok b)
only_if-ok true f next b e = (refl, e)
only_if-ok false f next b e = absurd cc

pub or_fault-ok : {A B F : Type 0} (o : Option A) (f : F) (next : A → Result B F) (b : B) → or_fault o f next ≡ Ok b → (x : A) × (o ≡ Some x) × (next x ≡ Ok b)
or_fault-ok (Some x) f next b e = (x, refl, e)
or_fault-ok None f next b e = absurd cc

number-ok : (r : Result ℤ NumberFault) (x : ℤ) → number_in r ≡ Ok x → r ≡ Ok x
number-ok (Ok y) x e = cc
number-ok (Err number.Empty) x e = cc
number-ok (Err (number.BadByte k)) x e = cc
number-ok (Err number.NotShortest) x e = cc
number-ok (Err number.TooWide) x e = cc

named-is : (next : Option Measure) (named : Result Measure NameFault) (m : Measure) → next_named next named ≡ Some m → named ≡ Ok m
named-is None named m e = cc
named-is (Some n) (Err f) m e = cc
named-is (Some n) (Ok k) m e = by (same_measure k n) refl e
  where
    by : (b : Bool) → same_measure k n ≡ b → (if b then Some n else None) ≡ Some m → ◌≡◌ {A = Result Measure NameFault} (Ok k) (Ok m)
    by true same e = let is : k ≡ n = measure_key-injective k n (same-eq (measure_key k) (measure_key n) same) in cc
    by false same e = cc

-- ---- the line

pub record IsTaken (p : ProblemFacts) (before after : TableSoFar) (line : Fields) : Type 0 where
  pub measure : Measure
  pub number : ℤ
  pub wide : length line ≡ 6
  pub next : first_of before.coming ≡ Some measure
  pub named : name_in p.classes line ≡ Ok measure
  pub target : field line 4 ≡ target_text p measure
  pub value : field line 5 ≡ whole_text number
  pub given : with_value before measure number ≡ Ok after

abbrev after_target : Fields → Measure → Result (Measure × ℤ) BalancedCause
after_target line m = and_then (number_in (whole_of (field line 5))) (λ x. Ok (m, x))

abbrev after_name : ProblemFacts → Fields → Measure → Result (Measure × ℤ) BalancedCause
after_name p line m = only_if (bytes_eq (field line 4) (target_text p m)) fault.WrongTarget (after_target line m)

-- a value that a line gives
record IsValue (p : ProblemFacts) (next : Option Measure) (line : Fields) (v : Measure × ℤ) : Type 0 where
  wide : length line ≡ 6
  named : next_named next (name_in p.classes line) ≡ Some v.0
  target : field line 4 ≡ target_text p v.0
  value : field line 5 ≡ whole_text v.1

value-said : (p : ProblemFacts) (next : Option Measure) (line : Fields) (v : Measure × ℤ) → value_in p next line ≡ Ok v → IsValue p next line v
unfolding value_in
value-said p next line v e =
    let wide = only_if-ok (length line == 6) fault.Csv (or_fault (next_named next (name_in p.classes line)) fault.WrongMeasure (after_name p line)) v e in
    let named = or_fault-ok (next_named next (name_in p.classes line)) fault.WrongMeasure (after_name p line) v wide.1 in
    let m : Measure = named.0 in
    let target = only_if-ok (bytes_eq (field line 4) (target_text p m)) fault.WrongTarget (after_target line m) v named.2 in
    let value = and_then-ok (number_in (whole_of (field line 5))) (λ x. Ok (m, x)) v target.1 in
    said v m value.0 value.2 (eqb-true (length line) 6 wide.0) named.1 ((bytes_eq-Decides (field line 4) (target_text p m)).0 target.0)
    (spelled-whole (field line 5) value.0 (number-ok (whole_of (field line 5)) value.0 value.1))
  where
    said : (v : Measure × ℤ) (m : Measure) (x : ℤ) → ◌≡◌ {A = Result (Measure × ℤ) BalancedCause} (Ok (m, x)) (Ok v) → length line ≡ 6 → next_named next (name_in p.classes line) ≡ Some m → field line 4 ≡ target_text p m → field line 5 ≡ whole_text x → IsValue p next line v
    said v m x same wide named target value =
        let is : (m, x) ≡ v = cc same in
        record { wide = wide; named = named ∙ ap (λ (w : Measure × ℤ). Some w.0) is; target = target ∙ ap (λ (w : Measure × ℤ). target_text p w.0) is; value = value ∙ ap (λ (w : Measure × ℤ). whole_text w.1) is }

pub line-taken : (p : ProblemFacts) (n : ℕ) (before after : TableSoFar) (line : Fields) → table_line p n before line ≡ Ok after → IsTaken p before after line
unfolding table_line line_given
line-taken p n before after line e =
    let given = fault_as-ok (λ cause. record { line = n; cause = cause }) (line_given p before line) after e in
    let value = and_then-ok (value_in p (first_of before.coming) line) (λ (v : Measure × ℤ). with_value before v.0 v.1) after given in
    let said = value-said p (first_of before.coming) line value.0 value.1 in
    record {
      measure = value.0.0;
      number = value.0.1;
      wide = said.wide;
      next = next-is (first_of before.coming) (name_in p.classes line) value.0.0 said.named;
      named = named-is (first_of before.coming) (name_in p.classes line) value.0.0 said.named;
      target = said.target;
      value = said.value;
      given = value.2;
    }
