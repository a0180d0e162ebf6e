-- Lists in the order of keys, each key once.
use Rattle.std.specs.Prelude.{ℕ, Bool, ◌==◌, List, [], ◌∷◌, IsTrue}
use Rattle.std.specs.declared.cmp.Ordering.{Ordering}
use Rattle.std.specs.declared.cmp.Ordering.TheVariants.{Less, Equal, Greater}
use Rattle.std.specs.Ordering.{is_lt, nat_cmp}
use Rattle.std.specs.Cmp.Lexicographic.{slice_cmp}
use lib.Pointwise.{pointwise}

abbrev pub same_key : List ℕ → List ℕ → Bool
same_key k l = pointwise (λ m n. m == n) k l

abbrev pub key_before : List ℕ → List ℕ → Bool
key_before k l = is_lt (slice_cmp nat_cmp k l)

-- each element's key is before the next one's
abbrev pub IsAscending : {X : Type 0} → (X → List ℕ) → List X → Type 0
IsAscending key [] = Unit {0}
IsAscending key (x ∷ []) = Unit {0}
IsAscending key (x ∷ y ∷ ys) = IsTrue (key_before (key x) (key y)) × IsAscending key (y ∷ ys)

abbrev pub by_order : {X : Type 0} → Ordering → X → X → X → X
by_order Less before same after = before
by_order Equal before same after = same
by_order Greater before same after = after

-- an element put in its place, unless its key is there
abbrev pub put_in_order : {X : Type 0} → (X → List ℕ) → X → List X → List X
put_in_order key x [] = x ∷ []
put_in_order key x (y ∷ ys) =
    by_order (slice_cmp nat_cmp (key x) (key y)) (x ∷ y ∷ ys) (y ∷ ys) (y ∷ put_in_order key x ys)

-- the elements of a list in the order of their keys, each key once
abbrev pub in_order : {X : Type 0} → (X → List ℕ) → List X → List X
in_order key [] = []
in_order key (x ∷ xs) = put_in_order key x (in_order key xs)
