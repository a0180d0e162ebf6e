-- Lists, one element further.
use Rattle.std.proofs.Common.{◌≡◌, ◌<◌, ◌+◌, ℕ, zero, suc, List, [], ◌∷◌, Some, None, length, drop, refl, ap, ◌∙◌, add-one}
use Rattle.std.specs.Prelude.{slice_get}
use Rattle.std.proofs.lemmas.Option.{slice_get_within}
use Rattle.sut_tables.specs.Breaks.{first_of}

-- the element at a place is the first of those from there on
pub get-first : {X : Type 0} (xs : List X) (k : ℕ) → slice_get xs k ≡ first_of (drop k xs)
get-first [] zero = refl
get-first [] (suc k) = refl
get-first (x ∷ xs) zero = refl
get-first (x ∷ xs) (suc k) = get-first xs k

pub first-below : {X : Type 0} (xs : List X) (k : ℕ) (x : X) → first_of (drop k xs) ≡ Some x → k < length xs
first-below xs k x e = slice_get_within xs k x (get-first xs k ∙ e)

drop-suc : {X : Type 0} (xs : List X) (k : ℕ) → drop (suc k) xs ≡ drop 1 (drop k xs)
drop-suc [] zero = refl
drop-suc [] (suc k) = refl
drop-suc (x ∷ xs) zero = refl
drop-suc (x ∷ xs) (suc k) = drop-suc xs k

pub drop-more : {X : Type 0} (xs : List X) (k : ℕ) → drop (k + 1) xs ≡ drop 1 (drop k xs)
drop-more xs k = ap (λ n. drop n xs) (add-one k) ∙ drop-suc xs k

pub none-left : {X : Type 0} (xs : List X) → first_of xs ≡ None → xs ≡ []
none-left [] e = refl
none-left (x ∷ xs) e = cc
