-- A text spells a number exactly where it is the text that is printed for it.
use Rattle.std.proofs.Common.{◌≡◌, ◌<◌, ◌^◌, ◌==◌, ◌∙◌, ℕ, ℤ, List, Bool, true, false, Result, Ok, Err, eq-eqb, refl, sym, ap, to_z, of_z}
use Rattle.std.specs.Fmt.{signed_decimal}
use Rattle.std.specs.Ordering.{int_eq}
use Rattle.std.specs.Str.{bytes_eq}
use Rattle.std.proofs.lemmas.Bool.{eqb-true, false_from_ne_true, false≢true}
use Rattle.std.proofs.lemmas.Bool.Decides.{Decides-int_eq}
use Rattle.std.proofs.lemmas.Slice.Eq.{bytes_eq-Decides}
use Rattle.std.proofs.lemmas.Int.{to_z-of_z}
use lib.Signed.{mag}
use mir.Syntax.{w128}
use mir.Val.{SFits}
use Rattle.sut_text.specs.Number.{whole_of}
use Rattle.sut_text.specs.Text.{whole_text}
use Rattle.sut_text.specs.declared.numbers.NumberFault.{NumberFault}
use Rattle.sut_text.proofs.Spelling.{spelled-whole, whole-spelled}

same-number : {F : Type 0} (r : Result ℤ F) (x y : ℤ) → r ≡ Ok x → r ≡ Ok y → x ≡ y
same-number r x y e f = cc

no-number : {F : Type 0} {P : Type 0} (r : Result ℤ F) (x : ℤ) (f : F) → r ≡ Ok x → r ≡ Err f → P
no-number r x f e g = absurd (cc (e, g))

module _ (text : List ℕ) (n : ℤ) (small : mag n < 2 ^ 127) where
  printed : bytes_eq text (whole_text n) ≡ true → whole_of text ≡ Ok n
  printed same = ap whole_of ((bytes_eq-Decides text (whole_text n)).0 same) ∙ whole-spelled n small

  pub spells-read : (x : ℤ) → whole_of text ≡ Ok x → int_eq x n ≡ bytes_eq text (whole_text n)
  spells-read x read = by (int_eq x n) refl
    where
      by : (b : Bool) → int_eq x n ≡ b → int_eq x n ≡ bytes_eq text (whole_text n)
      by true e = e ∙ sym ((bytes_eq-Decides text (whole_text n)).1 (spelled-whole text x read ∙ ap signed_decimal ((Decides-int_eq x n).0 e)))
      by false e =
          e ∙ sym (false_from_ne_true (bytes_eq text (whole_text n)) (λ same. false≢true (sym e ∙ (Decides-int_eq x n).1 (same-number (whole_of text) x n read (printed same)))))

  pub spells-fault : (f : NumberFault) → whole_of text ≡ Err f → false ≡ bytes_eq text (whole_text n)
  spells-fault f bad =
      sym (false_from_ne_true (bytes_eq text (whole_text n)) (λ same. no-number (whole_of text) n f (printed same) bad))

-- numbers are compared by their bits
pub same-bits : (x y : ℤ) → SFits w128 x → SFits w128 y → (of_z w128 x == of_z w128 y) ≡ int_eq x y
same-bits x y fx fy = by (of_z w128 x == of_z w128 y) refl
  where
    by : (b : Bool) → (of_z w128 x == of_z w128 y) ≡ b → (of_z w128 x == of_z w128 y) ≡ int_eq x y
    by true e =
        e ∙ sym ((Decides-int_eq x y).1 (sym (to_z-of_z w128 x fx) ∙ ap (to_z w128) (eqb-true (of_z w128 x) (of_z w128 y) e) ∙ to_z-of_z w128 y fy))
    by false e =
        e ∙ sym (false_from_ne_true (int_eq x y) (λ same. false≢true (sym e ∙ eq-eqb (of_z w128 x) (of_z w128 y) (ap (of_z w128) ((Decides-int_eq x y).0 same)))))
