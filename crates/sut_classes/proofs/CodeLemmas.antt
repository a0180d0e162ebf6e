-- Codes of a set, looked up as lists of bytes.
use Rattle.std.proofs.Common.{◌≡◌, ◌+◌, ◌++◌, ◌∷◌, ℕ, suc, List, [], Bool, true, false, not, nat_lt, Some, None, if◌then◌else◌, cond, length, map, refl, sym, ap, ◌∙◌, arith, Result, Ok, Err}
use Rattle.std.specs.Prelude.{IfOk, OnOk, is_err}
use Rattle.std.proofs.lemmas.List.{map-append}
use Rattle.std.specs.List.{list_any, position, position_or_len, prefix_len}

pub mapped-length : {X Y : Type 0} (f : X → Y) (xs : List X) → length (map f xs) ≡ length xs
mapped-length f [] = refl
mapped-length f (x ∷ xs) = ap suc (mapped-length f xs)

mapped-prefix : {X Y : Type 0} (f : X → Y) (p : Y → Bool) (xs : List X) → prefix_len p (map f xs) ≡ prefix_len (λ x. p (f x)) xs
mapped-prefix f p [] = refl
mapped-prefix f p (x ∷ xs) = ap (λ n. cond (p (f x)) (1 + n) 0) (mapped-prefix f p xs)

pub mapped-position : {X Y : Type 0} (f : X → Y) (p : Y → Bool) (xs : List X) → position p (map f xs) ≡ position (λ x. p (f x)) xs
mapped-position f p xs =
    ap (λ n. cond (nat_lt n (length (map f xs))) (Some n) None) (mapped-prefix f (λ y. not (p y)) xs)
    ∙ ap (λ len. cond (nat_lt (position_or_len (λ x. p (f x)) xs) len) (Some (position_or_len (λ x. p (f x)) xs)) None) (mapped-length f xs)

none-passed : (b : Bool) (n m : ℕ) → cond (nat_lt (cond (not b) (1 + n) 0) (suc m)) (Some (cond (not b) (1 + n) 0)) None ≡ None → (b ≡ false) × (cond (nat_lt n m) (Some n) None ≡ None)
none-passed true n m h = grind arith
none-passed false n m h = (refl, grind arith)

pub not-there : {X : Type 0} (p : X → Bool) (xs : List X) → position p xs ≡ None → list_any p xs ≡ false
not-there p [] h = refl
not-there p (x ∷ xs) h = let s = none-passed (p x) (position_or_len p xs) (length xs) h in rw s.0 (not-there p xs s.1)

-- a code that is not there goes last
pub added : {X : Type 0} (f : X → List ℕ) (p : List ℕ → Bool) (old new : List X) (x : X) → position p (map f old) ≡ None
    → new ≡ (if list_any (λ y. p (f y)) old then old else old ++ x ∷ []) → map f new ≡ map f old ++ f x ∷ []
added f p old new x absent is =
    let none : list_any (λ y. p (f y)) old ≡ false = not-there (λ y. p (f y)) old (sym (mapped-position f p old) ∙ absent) in
    rw (is, none) (map-append f old (x ∷ []))

-- what holds of an `Ok`, where there is one
pub if-ok : {A E : Type 0} {P : Type 0} (r : Result A E) → is_err r ≡ false → IfOk r (λ v. P) → P
if-ok (Ok v) h p = p
if-ok (Err e) h p = cc

pub on-ok : {A E : Type 0} {P : Type 0} (r : Result A E) → is_err r ≡ false → OnOk r P → P
on-ok (Ok v) h p = p
on-ok (Err e) h p = cc
