-- Words of a command.
use Rattle.std.proofs.Common.{◌≡◌, ◌≤◌, ◌<◌, ℕ, Bool, true, false, List, [], ◌∷◌, Option, None, Some, length, get_or, sym, ap, refl, subst, arith}
use Rattle.std.specs.Prelude.{codes, if◌then◌else◌}
use Rattle.std.specs.Str.{bytes_eq}
use Rattle.sut_generate.specs.Generator.{is_size}
use Rattle.sut_run.specs.declared.commands.Command.{Command}
use Rattle.sut_run.specs.declared.commands.Command.TheVariants.{Balance, Edit, Migrate, Generate}
use Rattle.sut_run.specs.Commands.{IsSized, command_of, generate_of, natural}

-- a list of one
pub one_item : {X : Type 0} (xs : List X) (x : X) → 1 ≤ length xs → length xs < 2 → x ≡ get_or xs 0 x → xs ≡ x ∷ []
one_item [] x some few is = absurd (omega arith)
one_item (y ∷ []) x some few is = ap (λ z. z ∷ []) (sym is)
one_item (y ∷ z ∷ zs) x some few is = absurd (omega arith)

-- neither one word nor four are no command
pub no-command : (words : List (List ℕ)) → (length words ≡ 1 → ⊥) → (length words ≡ 4 → ⊥) → command_of words ≡ None
no-command [] one four = refl
no-command (a ∷ []) one four = absurd (one refl)
no-command (a ∷ b ∷ []) one four = refl
no-command (a ∷ b ∷ c ∷ []) one four = refl
no-command (a ∷ b ∷ c ∷ d ∷ []) one four = absurd (four refl)
no-command (a ∷ b ∷ c ∷ d ∷ e ∷ rest) one four = refl

-- ---- a year that is named is of a size that is made

-- whether the size of the year is made, where it names one
abbrev pub has_size : Option Command → Bool
has_size None = true
has_size (Some Balance) = true
has_size (Some Edit) = true
has_size (Some Migrate) = true
has_size (Some (Generate seed products industries)) = is_size seed products industries

allowed : (x y z : ℕ) (b : Bool) → is_size x y z ≡ b → has_size (if b then Some (Generate x y z) else None) ≡ true
allowed x y z true is = is
allowed x y z false is = refl

named-sized : (b c d : Bool) → has_size (if b then Some Balance else if c then Some Edit else if d then Some Migrate else None) ≡ true
named-sized true c d = refl
named-sized false true d = refl
named-sized false false true = refl
named-sized false false false = refl

sized-sized : (b : Bool) (x y z : Option ℕ) → has_size (if b then generate_of x y z else None) ≡ true
sized-sized false x y z = refl
sized-sized true (Some x) (Some y) (Some z) = allowed x y z (is_size x y z) refl
sized-sized true (Some x) (Some y) None = refl
sized-sized true (Some x) None z = refl
sized-sized true None y z = refl

words-sized : (words : List (List ℕ)) → has_size (command_of words) ≡ true
words-sized [] = refl
words-sized (a ∷ []) = named-sized (bytes_eq a (codes "balance")) (bytes_eq a (codes "edit")) (bytes_eq a (codes "migrate"))
words-sized (a ∷ b ∷ []) = refl
words-sized (a ∷ b ∷ c ∷ []) = refl
words-sized (a ∷ b ∷ c ∷ d ∷ []) = sized-sized (bytes_eq a (codes "generate")) (natural b) (natural c) (natural d)
words-sized (a ∷ b ∷ c ∷ d ∷ e ∷ rest) = refl

sized : (c : Command) → has_size (Some c) ≡ true → IsSized c
sized Balance h = tt
sized Edit h = tt
sized Migrate h = tt
sized (Generate seed products industries) h = h

pub command-sized : (words : List (List ℕ)) (c : Command) → command_of words ≡ Some c → IsSized c
command-sized words c e = sized c (subst (λ o. has_size o ≡ true) e (words-sized words))
