-- Printed numbers: they need no quotes, and they are read as what they were.
use Rattle.std.proofs.Common.{◌≡◌, ◌<◌, ◌^◌, ◌∷◌, ◌||◌, ◌∙◌, ℕ, suc, ℤ, pos, negsuc, List, [], true, false, Option, Some, None, Ok, if◌then◌else◌, length, ne_eqb, refl, ap, arith}
use Rattle.std.specs.Prelude.{◌==◌, decimal, neg_ℤ}
use Rattle.std.specs.Char.{digit_value}
use Rattle.std.specs.Str.Parse.{AllDigits}
use Rattle.std.proofs.lemmas.Fmt.{decimal_is_IsNumeral_wide}
use Rattle.std.proofs.lemmas.Int.{ints}
use Rattle.std.proofs.lemmas.Str.Parse.{digit_from_value}
use lib.Signed.{mag}
use Rattle.sut_text.specs.Number.{whole_of}
use Rattle.sut_text.specs.Text.{needs_quotes, optional_text, whole_text}
use Rattle.sut_text.proofs.Spelling.{whole-spelled}
use Rattle.sut_measures.specs.declared.faults.Field.{Field}
use Rattle.sut_measures.specs.declared.faults.Field.TheVariants as column
use Rattle.sut_tables.specs.Rows.{InRange, IsAim, limit}
use Rattle.sut_tables.specs.declared.rows.Penalty.{Penalty}
use Rattle.sut_tables.proofs.Tests.{lt_is_false}
use Rattle.sut_records.specs.FirstFault.{and_then, or_fault}
use Rattle.sut_source.specs.declared.faults.RowFault.TheVariants as fault
use Rattle.sut_source.specs.RowFile.{bound_in, is_small, number_in, source_number, target_in}

plain-digit : (d : ℕ) → digit_value d < 10 → ((d == 44) || ((d == 34) || ((d == 13) || (d == 10)))) ≡ false
plain-digit d h =
    let range = digit_from_value d h in
    rw (ne_eqb d 44 (λ e. omega (arith, range)), ne_eqb d 34 (λ e. omega (arith, range)), ne_eqb d 13 (λ e. omega (arith, range)), ne_eqb d 10 (λ e. omega (arith, range))) refl

plain-digits : (ds : List ℕ) → AllDigits 10 ds → needs_quotes ds ≡ false
plain-digits [] h = refl
plain-digits (d ∷ ds) h = rw (plain-digit d h.0, plain-digits ds h.1) refl

pub whole-plain : (z : ℤ) → mag z < 2 ^ 127 → needs_quotes (whole_text z) ≡ false
whole-plain (pos n) small = plain-digits (decimal n) (decimal_is_IsNumeral_wide n (omega arith)).0.1
whole-plain (negsuc n) small = plain-digits (decimal (suc n)) (decimal_is_IsNumeral_wide (suc n) (omega arith)).0.1

pub range-small : (x : ℤ) → InRange x → mag x < 2 ^ 127
range-small (pos n) r = omega (arith, ints, r.high)
range-small (negsuc n) r = omega (arith, ints, r.low)

pub target-plain : (o : Option ℤ) (penalty : Penalty) (grade weight : ℕ) → IsAim o penalty grade weight → needs_quotes (optional_text o) ≡ false
target-plain None penalty grade weight aim = refl
target-plain (Some x) penalty grade weight aim = whole-plain x (range-small x aim.0)

-- ---- reading

-- a text that reads as a number is not empty
pub read-filled : (text : List ℕ) (z : ℤ) → whole_of text ≡ Ok z → (length text == 0) ≡ false
read-filled [] z e = cc
read-filled (b ∷ text) z e = ne_eqb (length (b ∷ text)) 0 (λ h. omega arith)

is-small : (z : ℤ) → InRange z → is_small z ≡ true
is-small z r = rw (lt_is_false z (neg_ℤ limit) r.low, lt_is_false limit z r.high) refl

pub number-back : (at : Field) (z : ℤ) → InRange z → number_in at (whole_text z) ≡ Ok z
number-back at z r = ap (source_number at) (whole-spelled z (range-small z r)) ∙ rw (is-small z r) refl

filled : (z : ℤ) → InRange z → (length (whole_text z) == 0) ≡ false
filled z r = read-filled (whole_text z) z (whole-spelled z (range-small z r))

pub bound-back : (at : Field) (usual : Option ℤ) (z : ℤ) → InRange z → bound_in at usual (whole_text z) ≡ Ok z
bound-back at usual z r = ap (λ empty. if empty then or_fault usual fault.NoTarget Ok else number_in at (whole_text z)) (filled z r) ∙ number-back at z r

pub target-back : (o : Option ℤ) (penalty : Penalty) (grade weight : ℕ) → IsAim o penalty grade weight → target_in (optional_text o) ≡ Ok o
target-back None penalty grade weight aim = refl
target-back (Some x) penalty grade weight aim =
    ap (λ empty. if empty then Ok None else and_then (number_in column.Target (whole_text x)) (λ z. Ok (Some z))) (filled x aim.0)
    ∙ ap (λ n. and_then n (λ z. Ok (Some z))) (number-back column.Target x aim.0)
