-- The place of the first element that passes a test, and the element at a place, in a list and in the list with one more.
use Rattle.std.proofs.Common.{◌≡◌, ◌+◌, ◌<◌, ◌++◌, ◌∷◌, ℕ, zero, suc, List, [], Bool, true, false, not, nat_lt, Option, Some, None, cond, length, map, take, get_or, refl, ap, ◌∙◌, arith, ◌⊎◌, inl, inr}
use Rattle.std.specs.Prelude.{slice_get, option_map}
use Rattle.std.specs.List.{AllByRecursion, IsDistinct, position, position_or_len}
use Rattle.std.specs.Str.{bytes_eq}
use Rattle.std.proofs.lemmas.Slice.Eq.{bytes_eq-Decides}
use Rattle.std.proofs.lemmas.Bool.Decides.{nat_tests}

-- the place of the first element that passes, by recursion
abbrev pub place : {X : Type 0} → (X → Bool) → List X → Option ℕ
place p [] = None
place p (x ∷ xs) = cond (p x) (Some 0) (option_map suc (place p xs))

moved : (b : Bool) (n : ℕ) → cond b (Some (suc n)) None ≡ option_map suc (cond b (Some n) None)
moved true n = refl
moved false n = refl

lt-suc : (n m : ℕ) → nat_lt (1 + n) (suc m) ≡ nat_lt n m
lt-suc n m = grind (arith, nat_tests)

lt-zero : (m : ℕ) → nat_lt 0 (suc m) ≡ true
lt-zero m = grind (arith, nat_tests)

one-plus : (n : ℕ) → 1 + n ≡ suc n
one-plus n = omega arith

step : (b : Bool) (n m : ℕ) (o : Option ℕ) → cond (nat_lt n m) (Some n) None ≡ o
    → cond (nat_lt (cond (not b) (1 + n) 0) (suc m)) (Some (cond (not b) (1 + n) 0)) None ≡ cond b (Some 0) (option_map suc o)
step true n m o e = rw (lt-zero m) refl
step false n m o e = rw (lt-suc n m, one-plus n, ← e) (moved (nat_lt n m) n)

pub position-is : {X : Type 0} (p : X → Bool) (xs : List X) → position p xs ≡ place p xs
position-is p [] = refl
position-is p (x ∷ xs) = step (p x) (position_or_len p xs) (length xs) (place p xs) (position-is p xs)

none-first : (b : Bool) (o : Option ℕ) → cond b (Some 0) (option_map suc o) ≡ None → (b ≡ false) × (o ≡ None)
none-first true o e = cc
none-first false None e = (refl, refl)
none-first false (Some n) e = cc

-- nothing passes where no place is found
pub place-missed : {X : Type 0} (p : X → Bool) (xs : List X) (n : ℕ) (x : X) → place p xs ≡ None → slice_get xs n ≡ Some x → p x ≡ false
place-missed p [] n x lost at = cc
place-missed p (y ∷ xs) zero x lost at = let same : y ≡ x = cc in rw (← same) (none-first (p y) (place p xs) lost).0
place-missed p (y ∷ xs) (suc n) x lost at = place-missed p xs n x (none-first (p y) (place p xs) lost).1 at

some-first : (b : Bool) (o : Option ℕ) (n : ℕ) → cond b (Some 0) (option_map suc o) ≡ Some (suc n) → (b ≡ false) × (o ≡ Some n)
some-first true o n e = cc
some-first false None n e = cc
some-first false (Some m) n e = (refl, cc)

zero-first : (b : Bool) (o : Option ℕ) → cond b (Some 0) (option_map suc o) ≡ Some zero → b ≡ true
zero-first true o e = refl
zero-first false None e = cc
zero-first false (Some m) e = cc

-- one element more at the end
pub place-stays : {X : Type 0} (p : X → Bool) (xs : List X) (x : X) (n : ℕ) → place p xs ≡ Some n → place p (xs ++ x ∷ []) ≡ Some n
place-stays p [] x n e = cc
place-stays p (y ∷ xs) x zero e = rw (zero-first (p y) (place p xs) e) refl
place-stays p (y ∷ xs) x (suc n) e =
    let f = some-first (p y) (place p xs) n e in
    rw (f.0, place-stays p xs x n f.1) refl

ended : (b : Bool) (n : ℕ) → option_map suc (cond b (Some n) None) ≡ cond b (Some (suc n)) None
ended true n = refl
ended false n = refl

pub place-push : {X : Type 0} (p : X → Bool) (xs : List X) (x : X) → place p xs ≡ None → place p (xs ++ x ∷ []) ≡ cond (p x) (Some (length xs)) None
place-push p [] x e = refl
place-push p (y ∷ xs) x e =
    let f = none-first (p y) (place p xs) e in
    rw (f.0, place-push p xs x f.1) (ended (p x) (length xs))

-- nothing in front of the first place passes
pub place-front : {X : Type 0} (p : X → Bool) (xs ys : List X) → place p (xs ++ ys) ≡ Some (length xs) → place p xs ≡ None
place-front p [] ys e = refl
place-front p (x ∷ xs) ys e =
    let f = some-first (p x) (place p (xs ++ ys)) (length xs) e in
    rw (f.0, place-front p xs ys f.1) refl

pub got-push : {X : Type 0} (xs : List X) (x y : X) (n : ℕ) → slice_get (xs ++ x ∷ []) n ≡ Some y → (slice_get xs n ≡ Some y) ⊎ ((n ≡ length xs) × (x ≡ y))
got-push [] x y zero e = inr (refl, cc)
got-push [] x y (suc n) e = cc
got-push (z ∷ xs) x y zero e = inl e
got-push (z ∷ xs) x y (suc n) e = elim (got-push xs x y n e) [
  | inl old ↦ inl old
  | inr new ↦ inr (ap suc new.0, new.1)
]

-- equality of codes
pub same-code : (code : List ℕ) → bytes_eq code code ≡ true
same-code code = (bytes_eq-Decides code code).1 refl

other-code : (a b : List ℕ) (r s : Bool) → bytes_eq a b ≡ r → bytes_eq b a ≡ s → r ≡ false → s ≡ false
other-code a b r true e f h = let same : b ≡ a = (bytes_eq-Decides b a).0 f in let clash : bytes_eq a b ≡ true = rw same (same-code a) in cc
other-code a b r false e f h = refl

pub not-same : (a b : List ℕ) → bytes_eq a b ≡ false → bytes_eq b a ≡ false
not-same a b h = other-code a b (bytes_eq a b) (bytes_eq b a) refl refl h

-- in a list where no code is that of an element before it, the code at a place stands nowhere in front
none-cons : (b : Bool) (o : Option ℕ) → b ≡ false → o ≡ None → cond b (Some 0) (option_map suc o) ≡ None
none-cons b o e f = rw (e, f) refl

tested-at : {X : Type 0} (P : X → Type 0) (xs : List X) (i : ℕ) (d : X) → AllByRecursion P xs → i < length xs → P (get_or xs i d)
tested-at P [] i d all lt = absurd (omega arith)
tested-at P (x ∷ xs) zero d all lt = all.0
tested-at P (x ∷ xs) (suc i) d all lt = tested-at P xs i d all.1 (omega arith)

absent-front : {X : Type 0} (f : X → List ℕ) (xs : List X) (i : ℕ) (d : X) → IsDistinct (λ x y. bytes_eq (f x) (f y)) xs → i < length xs
    → place (bytes_eq (f (get_or xs i d))) (map f (take i xs)) ≡ None
unfolding IsDistinct
absent-front f [] i d apart lt = absurd (omega arith)
absent-front f (x ∷ xs) zero d apart lt = refl
absent-front f (x ∷ xs) (suc i) d apart lt =
    let lt' : i < length xs = omega arith in
    none-cons (bytes_eq (f (get_or xs i d)) (f x)) (place (bytes_eq (f (get_or xs i d))) (map f (take i xs)))
    (not-same (f x) (f (get_or xs i d)) (tested-at (λ y. bytes_eq (f x) (f y) ≡ false) xs i d apart.0 lt'))
    (absent-front f xs i d apart.1 lt')

pub absent-before : {X : Type 0} (f : X → List ℕ) (xs : List X) (i : ℕ) (x : X) (c : List ℕ) (done : List (List ℕ)) → IsDistinct (λ x y. bytes_eq (f x) (f y)) xs → i < length xs → x ≡ get_or xs i x
    → c ≡ f x → done ≡ map f (take i xs) → position (bytes_eq c) done ≡ None
absent-before f xs i x c done apart lt at is front =
    rw (front, is, position-is (bytes_eq (f x)) (map f (take i xs))) (ap (λ y. place (bytes_eq (f y)) (map f (take i xs))) at ∙ absent-front f xs i x apart lt)
