-- Codes of a letter and a number: they are codes, and each number has its own.
use Rattle.std.proofs.Common.{◌≡◌, ◌<◌, ◌≤◌, ◌+◌, ◌∷◌, ◌∙◌, ℕ, zero, suc, pos, List, [], true, false, None, Ok, map, length, refl, sym, ap, arith}
use Rattle.std.specs.Prelude.{decimal}
use Rattle.std.specs.Char.{digit_value}
use Rattle.std.specs.List.{list_all, range_with_len}
use Rattle.std.specs.Str.{bytes_eq}
use Rattle.std.specs.Str.Parse.{AllDigits}
use Rattle.std.proofs.lemmas.Bool.{false_from_ne_true, le-leb}
use Rattle.std.proofs.lemmas.Fmt.{decimal_is_IsNumeral_wide, length-decimal-le_wide}
use Rattle.std.proofs.lemmas.Slice.Eq.{bytes_eq-Decides}
use Rattle.std.proofs.lemmas.Str.Parse.{digit_from_value}
use Rattle.sut_text.specs.Fields.{numbered}
use Rattle.sut_text.specs.Number.{whole_of}
use Rattle.sut_text.proofs.Spelling.{whole-spelled}
use Rattle.sut_classes.specs.ClassFile.{is_code_byte, is_code_of, is_margin}
use Rattle.sut_classes.specs.declared.ids.Axis.{Axis}
use Rattle.sut_classes.proofs.PlaceLemmas.{place}

digit-code : (d : ℕ) → digit_value d < 10 → is_code_byte d ≡ true
digit-code d h =
    let range = digit_from_value d h in
    rw (le-leb 48 d (omega (arith, range)), le-leb d 57 (omega (arith, range))) refl

digits-code : (ds : List ℕ) → AllDigits 10 ds → list_all is_code_byte ds ≡ true
digits-code [] h = refl
digits-code (d ∷ ds) h = rw (digit-code d h.0, digits-code ds h.1) refl

pub numbered-code : (a : Axis) (letter n : ℕ) → is_margin a ≡ false → is_code_byte letter ≡ true → n < 1000 → is_code_of a (numbered letter n) ≡ true
numbered-code a letter n other good small =
    let short : length (decimal n) ≤ 3 = length-decimal-le_wide 3 n (omega arith) (omega arith) (omega arith) in
    let digits : list_all is_code_byte (decimal n) ≡ true = digits-code (decimal n) (decimal_is_IsNumeral_wide n (omega arith)).0.1 in
    rw (other, good, digits, le-leb 1 (length (numbered letter n)) (omega arith), le-leb (length (numbered letter n)) 32 (omega arith)) refl

decimal-one : (i j : ℕ) → i < 1000 → j < 1000 → decimal i ≡ decimal j → i ≡ j
decimal-one i j a b e =
    let same : Ok (pos i) ≡ Ok (pos j) = sym (whole-spelled (pos i) (omega arith)) ∙ ap whole_of e ∙ whole-spelled (pos j) (omega arith) in cc

-- two numbers have two codes
pub numbered-apart : (letter i j : ℕ) → i < j → j < 1000 → bytes_eq (numbered letter j) (numbered letter i) ≡ false
numbered-apart letter i j less small =
    false_from_ne_true (bytes_eq (numbered letter j) (numbered letter i))
    (λ e. let whole : letter ∷ decimal j ≡ letter ∷ decimal i = (bytes_eq-Decides (numbered letter j) (numbered letter i)).0 e in
    let digits : decimal j ≡ decimal i = cc in
    let same : j ≡ i = decimal-one j i small (omega arith) digits in
    omega arith)

-- a code that none of a range is has no place
pub absent : (f : ℕ → List ℕ) (x : List ℕ) (n a : ℕ) → ((i : ℕ) → i < a + n → bytes_eq x (f i) ≡ false) → place (bytes_eq x) (map f (range_with_len a n)) ≡ None
absent f x zero a h = refl
absent f x (suc n) a h = rw (h a (omega arith), absent f x n (a + 1) (λ i l. h i (omega arith))) refl
