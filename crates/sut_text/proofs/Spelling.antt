-- A whole number has one spelling: what is printed for it reads back as it, and a text that reads as it is that text.
use Rattle.std.proofs.Common.{◌≡◌, ◌<◌, ◌≤◌, ◌+◌, ◌*◌, ◌/◌, ◌%◌, ◌^◌, ◌==◌, ◌∷◌, ◌++◌, ◌∙◌, ℕ, zero, suc, List, [], Bool, true, false, not, nat_lt, Option, Some, None, Ok, Err, if◌then◌else◌, length, get_or, option_map, append_assoc, arith, refl, sym, ap}
use mathlib.Core.List.{append-nil}
use borrow.Author.Tests.{eqb-true, ne_eqb, lt-ltb, ltb-true, le-leb, leb-true}
use lib.IntN.{ℤ, pos, negsuc, neg_ℤ}
use lib.Signed.{mag}
use Rattle.std.specs.Char.{digit_value, is_ascii_digit}
use Rattle.std.specs.Fmt.{decimal, signed_decimal}
use Rattle.std.specs.List.{position_or_len}
use Rattle.std.specs.Str.Parse.{AllDigits, IsNumeral, digits_value, digits_value_after}
use Rattle.std.proofs.lemmas.Fmt.{decimal_digit, decimal_step_wide, decimal_is_IsNumeral_wide, decimal_by_steps_wide}
use lib.ListN.{length-append, get_or-append}
use Rattle.std.proofs.lemmas.Str.{digit_value_digit}
use Rattle.std.proofs.lemmas.Str.Parse.{digit_from_value}
use Rattle.sut_text.specs.Number.{bad_place, digits_read, is_narrow, is_shortest, no_digit, number_of, unless_bad, whole_of, with_sign}
use Rattle.sut_text.specs.declared.numbers.NumberFault.TheVariants.{Empty, NotShortest, TooWide}
use Rattle.sut_text.proofs.NumberLemmas.{good-numeral}

ascii-digit : (d : ℕ) → digit_value d < 10 → is_ascii_digit d ≡ true
ascii-digit d h = let k = digit_from_value d h in grind arith

all-passed : (ds : List ℕ) → AllDigits 10 ds → position_or_len (λ b. not (is_ascii_digit b)) ds ≡ length ds
all-passed [] h = refl
all-passed (d ∷ ds) h = rw (ascii-digit d h.0, all-passed ds h.1) (omega arith)

none-found : (n : ℕ) (x : Option ℕ) → (if nat_lt n n then x else None) ≡ None
none-found n x = grind arith

no-bad_place : (start : ℕ) (ds : List ℕ) → IsNumeral 10 ds → bad_place start ds ≡ None
no-bad_place start [] h = absurd (omega arith)
no-bad_place start (d ∷ ds) h =
    let some : (length (d ∷ ds) == 0) ≡ false = ne_eqb (length (d ∷ ds)) 0 (λ e. omega arith) in
    let none : no_digit (d ∷ ds) ≡ None = rw (all-passed (d ∷ ds) h.1) (none-found (length (d ∷ ds)) (Some (length (d ∷ ds)))) in
    ap (λ b. if b then Some start else option_map (λ k. start + k) (no_digit (d ∷ ds))) some ∙ ap (option_map (λ k. start + k)) none

-- ---- what is printed reads back

reads : (minus : Bool) (start : ℕ) (ds : List ℕ) → IsNumeral 10 ds → is_shortest minus ds ≡ true → is_narrow minus (digits_value 10 ds) ≡ true → digits_read minus start ds ≡ Ok (with_sign minus (digits_value 10 ds))
reads minus start ds numeral short narrow = rw (no-bad_place start ds numeral, short, narrow) refl

-- the first digit: a zero stands alone
pub first-decimal : (n : ℕ) → n < 10 ^ 64 → (0 < length (decimal n)) × (48 ≤ get_or (decimal n) 0 0) × (get_or (decimal n) 0 0 < 58) × (0 < n → 48 < get_or (decimal n) 0 0)
first-decimal = decimal_by_steps_wide (λ m ds. (0 < length ds) × (48 ≤ get_or ds 0 0) × (get_or ds 0 0 < 58) × (0 < m → 48 < get_or ds 0 0))
    (λ m l. (omega arith, omega arith, omega arith, λ a. omega arith))
    (λ m ds l h.
    let same : get_or (ds ++ ((48 + m % 10) ∷ [])) 0 0 ≡ get_or ds 0 0 = get_or-append ds ((48 + m % 10) ∷ []) 0 0 h.0 in
    (omega (arith, length-append ds ((48 + m % 10) ∷ [])), omega (arith, same, h.1), omega (arith, same, h.2), λ a. omega (arith, same, h.3 (omega arith))))

shortest : (minus : Bool) (ds : List ℕ) → 48 < get_or ds 0 0 → is_shortest minus ds ≡ true
shortest minus ds h = let other : (get_or ds 0 0 == 48) ≡ false = ne_eqb _ 48 (λ e. omega arith) in rw other refl

read-natural : (n : ℕ) → n < 2 ^ 127 → digits_read false 0 (decimal n) ≡ Ok (pos n)
read-natural zero h = rw (decimal_digit 0 (omega arith)) refl
read-natural (suc n) h =
    let wide : suc n < 10 ^ 64 = omega arith in
    let numeral = decimal_is_IsNumeral_wide (suc n) wide in
    let narrow : is_narrow false (digits_value 10 (decimal (suc n))) ≡ true = lt-ltb _ _ (omega (arith, numeral.1)) in
    reads false 0 (decimal (suc n)) numeral.0 (shortest false (decimal (suc n)) ((first-decimal (suc n) wide).3 (omega arith))) narrow
    ∙ ap (λ k. Ok (pos k)) numeral.1

read-negative : (n : ℕ) → n < 2 ^ 127 → digits_read true 1 (decimal (suc n)) ≡ Ok (negsuc n)
read-negative n h =
    let wide : suc n < 10 ^ 64 = omega arith in
    let numeral = decimal_is_IsNumeral_wide (suc n) wide in
    let narrow : is_narrow true (digits_value 10 (decimal (suc n))) ≡ true = le-leb _ _ (omega (arith, numeral.1)) in
    reads true 1 (decimal (suc n)) numeral.0 (shortest true (decimal (suc n)) ((first-decimal (suc n) wide).3 (omega arith))) narrow
    ∙ ap (λ k. Ok (neg_ℤ (pos k))) numeral.1

by-digits : (ds : List ℕ) → 0 < length ds → (get_or ds 0 0 == 45) ≡ false → whole_of ds ≡ digits_read false 0 ds
by-digits ds some other = let there : (length ds == 0) ≡ false = ne_eqb _ 0 (λ e. omega arith) in rw (there, other) refl

by-minus : (ds : List ℕ) → whole_of (45 ∷ ds) ≡ digits_read true 1 ds
by-minus ds = let there : (length (45 ∷ ds) == 0) ≡ false = ne_eqb (length (45 ∷ ds)) 0 (λ e. omega arith) in ap (λ b. if b then Err Empty else digits_read true 1 ds) there

-- the text printed for a number reads as that number
pub whole-spelled : (z : ℤ) → mag z < 2 ^ 127 → whole_of (signed_decimal z) ≡ Ok z
whole-spelled (pos n) h =
    let first = first-decimal n (omega arith) in
    by-digits (decimal n) first.0 (ne_eqb _ 45 (λ e. omega arith)) ∙ read-natural n h
whole-spelled (negsuc n) h = by-minus (decimal (suc n)) ∙ read-negative n h

-- ---- a text that reads is what is printed for its number

le-value : (n : ℕ) (ds : List ℕ) → n ≤ digits_value_after 10 n ds
le-value n [] = omega arith
le-value n (c ∷ cs) = omega (arith, le-value (n * 10 + digit_value c) cs)

decimal-after : (n : ℕ) (ds : List ℕ) → 0 < n → AllDigits 10 ds → digits_value_after 10 n ds < 10 ^ 64 → decimal (digits_value_after 10 n ds) ≡ decimal n ++ ds
decimal-after n [] some d small = sym (append-nil (decimal n))
decimal-after n (c ∷ cs) some d small =
    let m : ℕ = n * 10 + digit_value c in
    let k = digit_value_digit c (digit_from_value c d.0) in
    let front : m / 10 ≡ n = omega (arith, d.0) in
    let end : 48 + m % 10 ≡ c = omega (arith, d.0) in
    decimal-after m cs (omega arith) d.1 small
    ∙ ap (λ x. x ++ cs) (decimal_step_wide m (omega arith) (omega (arith, le-value m cs)) ∙ (λ i. decimal (front i) ++ (end i ∷ [])))
    ∙ append_assoc (decimal n) (c ∷ []) cs

-- digits without a zero before another digit are what is printed for their value
pub decimal-value : (ds : List ℕ) → IsNumeral 10 ds → (get_or ds 0 0 ≡ 48 → length ds ≡ 1) → digits_value 10 ds < 10 ^ 64 → decimal (digits_value 10 ds) ≡ ds
decimal-value [] h lead small = absurd (omega arith)
decimal-value (c ∷ []) h lead small =
    let k = digit_value_digit c (digit_from_value c h.1.0) in
    decimal_digit (0 * 10 + digit_value c) (omega (arith, h.1.0)) ∙ ap (λ x. x ∷ []) (omega arith)
decimal-value (c ∷ e ∷ cs) h lead small =
    let k = digit_value_digit c (digit_from_value c h.1.0) in
    let no : c ≡ 48 → ⊥ = λ z. omega (arith, lead z) in
    let is : 48 + (0 * 10 + digit_value c) ≡ c = omega arith in
    decimal-after (0 * 10 + digit_value c) (e ∷ cs) (omega arith) h.1.1 small
    ∙ ap (λ x. x ++ (e ∷ cs)) (decimal_digit (0 * 10 + digit_value c) (omega (arith, h.1.0)) ∙ ap (λ x. x ∷ []) is)

-- what digits that read are
record Reads (minus : Bool) (ds : List ℕ) (z : ℤ) : Type 0 where
  numeral : IsNumeral 10 ds
  short : is_shortest minus ds ≡ true
  narrow : is_narrow minus (digits_value 10 ds) ≡ true
  number : z ≡ with_sign minus (digits_value 10 ds)

number-read : (minus : Bool) (ds : List ℕ) (z : ℤ) → IsNumeral 10 ds → number_of minus ds ≡ Ok z → Reads minus ds z
number-read minus ds z numeral e = by (is_shortest minus ds) refl (is_narrow minus (digits_value 10 ds)) refl e
  where
    by : (s : Bool) → is_shortest minus ds ≡ s → (n : Bool) → is_narrow minus (digits_value 10 ds) ≡ n → (if not s then Err NotShortest else if n then Ok (with_sign minus (digits_value 10 ds)) else Err TooWide) ≡ Ok z → Reads minus ds z
    by true s true n e = record { numeral = numeral; short = s; narrow = n; number = cc }
    by true s false n e = cc
    by false s n f e = cc

digits-read : (minus : Bool) (start : ℕ) (ds : List ℕ) (z : ℤ) → digits_read minus start ds ≡ Ok z → Reads minus ds z
digits-read minus start ds z e = by (bad_place start ds) refl e
  where
    by : (o : Option ℕ) → bad_place start ds ≡ o → unless_bad o (number_of minus ds) ≡ Ok z → Reads minus ds z
    by (Some place) o e = cc
    by None o e = number-read minus ds z (good-numeral start ds o) e

no-lead : (ds : List ℕ) → 0 < length ds → is_shortest false ds ≡ true → get_or ds 0 0 ≡ 48 → length ds ≡ 1
no-lead ds some short lead = grind arith

no-zero : (ds : List ℕ) → is_shortest true ds ≡ true → get_or ds 0 0 ≡ 48 → ⊥
no-zero ds short lead = grind arith

some-value : (ds : List ℕ) → IsNumeral 10 ds → (get_or ds 0 0 ≡ 48 → ⊥) → 0 < digits_value 10 ds
some-value [] h first = absurd (omega arith)
some-value (c ∷ cs) h first =
    let k = digit_value_digit c (digit_from_value c h.1.0) in
    omega (arith, le-value (0 * 10 + digit_value c) cs, first, h.1.0)

natural-spelled : (ds : List ℕ) (z : ℤ) → Reads false ds z → signed_decimal z ≡ ds
natural-spelled ds z r =
    ap signed_decimal r.number ∙ decimal-value ds r.numeral (no-lead ds r.numeral.0 r.short) (omega (arith, ltb-true _ _ r.narrow))

negative-spelled : (ds : List ℕ) (v : ℕ) → 0 < v → signed_decimal (neg_ℤ (pos v)) ≡ 45 ∷ decimal v
negative-spelled ds zero some = absurd (omega arith)
negative-spelled ds (suc v) some = refl

minus-spelled : (ds : List ℕ) (z : ℤ) → Reads true ds z → signed_decimal z ≡ 45 ∷ ds
minus-spelled ds z r =
    let first = no-zero ds r.short in
    ap signed_decimal r.number ∙ negative-spelled ds (digits_value 10 ds) (some-value ds r.numeral first)
    ∙ ap (λ t. 45 ∷ t) (decimal-value ds r.numeral (λ e. absurd (first e)) (omega (arith, leb-true _ _ r.narrow)))

-- a text that reads as a number is the text printed for it
pub spelled-whole : (bytes : List ℕ) (z : ℤ) → whole_of bytes ≡ Ok z → bytes ≡ signed_decimal z
spelled-whole [] z e = cc
spelled-whole (b ∷ bs) z e = by (b == 45) refl
  where
    some : (length (b ∷ bs) == 0) ≡ false
    some = ne_eqb (length (b ∷ bs)) 0 (λ h. omega arith)

    by : (m : Bool) → (b == 45) ≡ m → b ∷ bs ≡ signed_decimal z
    by true m =
        let read : digits_read true 1 bs ≡ Ok z = rw (some, m) at e in
        sym (minus-spelled bs z (digits-read true 1 bs z read) ∙ ap (λ c. c ∷ bs) (sym (eqb-true b 45 m)))
    by false m =
        let read : digits_read false 0 (b ∷ bs) ≡ Ok z = sym (by-digits (b ∷ bs) (omega arith) m) ∙ e in
        sym (natural-spelled (b ∷ bs) z (digits-read false 0 (b ∷ bs) z read))
