-- The steps of a line, one after the other.
use Rattle.std.proofs.Common.{◌≡◌, ◌+◌, ◌<◌, ◌==◌, ◌&&◌, ◌⊎◌, inl, inr, ℕ, List, [], Bool, true, false, nat_lt, if◌then◌else◌, Option, Some, None, Ok, Err, refl, length}
use Rattle.std.specs.Prelude.{IfSome, codes, option_map}
use Rattle.std.specs.List.{position}
use Rattle.std.specs.Str.{bytes_eq}
use Rattle.std.proofs.lemmas.Bool.{cases_Bool, eqb-true, ltb-true}
use Rattle.std.proofs.lemmas.List.Quantifiers.{position-Some}
use Rattle.sut_records.specs.RecordList.{Fields, field}
use Rattle.sut_classes.specs.ClassLists.{ClassLists}
use Rattle.sut_classes.specs.Places.{count_of, place_of}
use Rattle.sut_classes.specs.Kept.{MayAdd, group_count, is_grouping}
use Rattle.sut_classes.specs.ClassFile.{axis_named, class_line, group_read, is_code_of, is_taken, kind_read, limit_of, with_code}
use Rattle.sut_classes.specs.declared.ids.Axis.{Axis}
use Rattle.sut_classes.specs.declared.ids.Axis.TheVariants as axis
use Rattle.sut_classes.specs.declared.faults.ClassFault.TheVariants as fault

pub line-csv : (n : ℕ) (cs : ClassLists) (line : Fields)
    → (length line == cs.format + 2) ≡ false
    → class_line n cs line ≡ Err (fault.Csv n)
unfolding class_line
line-csv n cs line e1 = rw (e1) refl

pub line-axis : (n : ℕ) (cs : ClassLists) (line : Fields)
    → (length line == cs.format + 2) ≡ true
    → axis_named cs.format (field line 0) ≡ None
    → class_line n cs line ≡ Err (fault.UnknownAxis n)
unfolding class_line
line-axis n cs line e1 e2 = rw (e1, e2) refl

pub line-code : (n : ℕ) (cs : ClassLists) (line : Fields) (a : Axis)
    → (length line == cs.format + 2) ≡ true
    → axis_named cs.format (field line 0) ≡ Some a
    → is_code_of a (field line 1) ≡ false
    → class_line n cs line ≡ Err (fault.BadCode n)
unfolding class_line
line-code n cs line a e1 e2 e3 = rw (e1, e2, e3) refl

pub line-kind : (n : ℕ) (cs : ClassLists) (line : Fields) (a : Axis)
    → (length line == cs.format + 2) ≡ true
    → axis_named cs.format (field line 0) ≡ Some a
    → is_code_of a (field line 1) ≡ true
    → kind_read cs a (field line 2) ≡ None
    → class_line n cs line ≡ Err (fault.UnknownKind n)
unfolding class_line
line-kind n cs line a e1 e2 e3 e4 = rw (e1, e2, e3, e4) refl

pub line-group : (n : ℕ) (cs : ClassLists) (line : Fields) (a : Axis) (kind : Option ℕ)
    → (length line == cs.format + 2) ≡ true
    → axis_named cs.format (field line 0) ≡ Some a
    → is_code_of a (field line 1) ≡ true
    → kind_read cs a (field line 2) ≡ Some kind
    → group_read cs a (field line 3) ≡ None
    → class_line n cs line ≡ Err (fault.UnknownGroup n)
unfolding class_line
line-group n cs line a kind e1 e2 e3 e4 e5 = rw (e1, e2, e3, e4, e5) refl

pub line-taken : (n : ℕ) (cs : ClassLists) (line : Fields) (a : Axis) (kind : Option ℕ) (group : Option ℕ)
    → (length line == cs.format + 2) ≡ true
    → axis_named cs.format (field line 0) ≡ Some a
    → is_code_of a (field line 1) ≡ true
    → kind_read cs a (field line 2) ≡ Some kind
    → group_read cs a (field line 3) ≡ Some group
    → is_taken cs a (field line 1) ≡ true
    → class_line n cs line ≡ Err (fault.Duplicate n)
unfolding class_line
line-taken n cs line a kind group e1 e2 e3 e4 e5 e6 = rw (e1, e2, e3, e4, e5, e6) refl

pub line-many : (n : ℕ) (cs : ClassLists) (line : Fields) (a : Axis) (kind : Option ℕ) (group : Option ℕ)
    → (length line == cs.format + 2) ≡ true
    → axis_named cs.format (field line 0) ≡ Some a
    → is_code_of a (field line 1) ≡ true
    → kind_read cs a (field line 2) ≡ Some kind
    → group_read cs a (field line 3) ≡ Some group
    → is_taken cs a (field line 1) ≡ false
    → nat_lt (count_of cs a) (limit_of a) ≡ false
    → class_line n cs line ≡ Err (fault.TooMany a)
unfolding class_line
line-many n cs line a kind group e1 e2 e3 e4 e5 e6 e7 = rw (e1, e2, e3, e4, e5, e6, e7) refl

pub line-good : (n : ℕ) (cs : ClassLists) (line : Fields) (a : Axis) (kind : Option ℕ) (group : Option ℕ)
    → (length line == cs.format + 2) ≡ true
    → axis_named cs.format (field line 0) ≡ Some a
    → is_code_of a (field line 1) ≡ true
    → kind_read cs a (field line 2) ≡ Some kind
    → group_read cs a (field line 3) ≡ Some group
    → is_taken cs a (field line 1) ≡ false
    → nat_lt (count_of cs a) (limit_of a) ≡ true
    → class_line n cs line ≡ Ok (with_code cs a (field line 1) kind group)
unfolding class_line
line-good n cs line a kind group e1 e2 e3 e4 e5 e6 e7 = rw (e1, e2, e3, e4, e5, e6, e7) refl

-- A line that passes all steps adds a code that may be added.

passed : (b : Bool) (x a : Axis) (o : Option Axis) → is_grouping x ≡ false → (if b then Some x else o) ≡ Some a → is_grouping a ≡ true → o ≡ Some a
passed true x a o plain e group = let same : x ≡ a = cc in let clash : is_grouping x ≡ true = rw same group in cc
passed false x a o plain e group = e

found : (format : ℕ) (b : Bool) (x a : Axis) (o : Option Axis) → (if (format == 2) && b then Some x else o) ≡ Some a → (format ≡ 2) ⊎ (o ≡ Some a)
found format b x a o e = elim (cases_Bool (format == 2)) [
  | inl two ↦ inl (eqb-true format 2 two)
  | inr other ↦ inr (rw other at e)
]

grouping-format : (format : ℕ) (word : List ℕ) (a : Axis) → axis_named format word ≡ Some a → is_grouping a ≡ true → format ≡ 2
grouping-format format word a e group =
    let e = passed _ axis.Product a _ refl e group in
    let e = passed _ axis.Industry a _ refl e group in
    let e = passed _ axis.Final a _ refl e group in
    let e = passed _ axis.Item a _ refl e group in
    let e = passed _ axis.Margin a _ refl e group in
    let e = passed _ axis.Tax a _ refl e group in
    elim (found format _ axis.ProductGroup a _ e) [
      | inl two ↦ two
      | inr e ↦ elim (found format _ axis.IndustryGroup a _ e) [
        | inl two ↦ two
        | inr e ↦ let gone : None ≡ Some a = e in cc
      ]
    ]

looked-up : (b : Bool) (o kind : Option ℕ) (n : ℕ) → (if b then Some None else option_map Some o) ≡ Some kind → ((k : ℕ) → o ≡ Some k → k < n) → IfSome kind (λ k. k < n)
looked-up true o kind n e within = let same : None ≡ kind = cc in rw (← same) tt
looked-up false None kind n e within = cc
looked-up false (Some k) kind n e within = let same : Some k ≡ kind = cc in rw (← same) (within k refl)

nothing-there : (b : Bool) (kind : Option ℕ) (n : ℕ) → (if b then Some None else None) ≡ Some kind → IfSome kind (λ k. k < n)
nothing-there true kind n e = let same : None ≡ kind = cc in rw (← same) tt
nothing-there false kind n e = cc

placed : (xs : List (List ℕ)) (word : List ℕ) (k : ℕ) → position (bytes_eq word) xs ≡ Some k → k < length xs
placed xs word k e = (position-Some (bytes_eq word) xs k [] e).0

kind-there : (cs : ClassLists) (a : Axis) (word : List ℕ) (kind : Option ℕ) → kind_read cs a word ≡ Some kind → IfSome kind (λ k. k < length cs.margins)
kind-there cs axis.Product word kind e = looked-up (bytes_eq word (codes "plain")) (place_of cs axis.Margin word) kind (length cs.margins) e (placed cs.margins word)
kind-there cs a word kind e = nothing-there (length word == 0) kind (length cs.margins) e

group-there : (cs : ClassLists) (a : Axis) (word : List ℕ) (group : Option ℕ) → group_read cs a word ≡ Some group → IfSome group (λ g. g < group_count cs a)
group-there cs axis.Product word group e = looked-up (length word == 0) (place_of cs axis.ProductGroup word) group (length cs.product_groups) e (placed cs.product_groups word)
group-there cs axis.Industry word group e = looked-up (length word == 0) (place_of cs axis.IndustryGroup word) group (length cs.industry_groups) e (placed cs.industry_groups word)
group-there cs a word group e = nothing-there (length word == 0) group 0 e

pub line-allowed : (cs : ClassLists) (line : Fields) (a : Axis) (kind : Option ℕ) (group : Option ℕ)
    → axis_named cs.format (field line 0) ≡ Some a
    → is_code_of a (field line 1) ≡ true
    → kind_read cs a (field line 2) ≡ Some kind
    → group_read cs a (field line 3) ≡ Some group
    → is_taken cs a (field line 1) ≡ false
    → nat_lt (count_of cs a) (limit_of a) ≡ true
    → MayAdd cs a (field line 1) kind group
line-allowed cs line a kind group named lawful of_kind in_group free room = record {
  format = grouping-format cs.format (field line 0) a named;
  lawful = lawful;
  free = free;
  room = ltb-true (count_of cs a) (limit_of a) room;
  kind = kind-there cs a (field line 2) kind of_kind;
  group = group-there cs a (field line 3) group in_group;
}
