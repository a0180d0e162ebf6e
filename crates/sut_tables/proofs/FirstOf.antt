-- The first break in lists that are joined, one after another.
use Rattle.std.proofs.Common.{◌≡◌, ℕ, zero, suc, ℤ, ◌+◌, ◌<◌, ◌≤◌, List, [], ◌∷◌, ◌++◌, Bool, true, false, if◌then◌else◌, Option, Some, None, refl, sym, ◌∙◌, ap, subst, arith}
use Rattle.std.specs.Prelude.{All}
use Rattle.std.specs.List.{flat_map, range_with_len}
use Rattle.std.specs.Ordering.{int_eq}
use Rattle.std.proofs.lemmas.Bool.{eqb-true, eqb-false}
use lib.Dec.{eqb}
use Rattle.sut_tables.specs.declared.tables.Broken.{Broken}
use Rattle.sut_tables.specs.declared.tables.Place.{Place}
use Rattle.sut_tables.specs.Breaks.{first_of, unequal}
use Rattle.sut_tables.proofs.Lists.{empty-flat_map, range-All}

-- the first of the first list, or else that of the second
pub first-left : {X : Type 0} (xs ys : List X) (x : X) → Some x ≡ first_of xs → Some x ≡ first_of (xs ++ ys)
first-left [] ys x e = cc
first-left (z ∷ zs) ys x e = e

pub first-right : {X : Type 0} (xs ys : List X) → None ≡ first_of xs → first_of ys ≡ first_of (xs ++ ys)
first-right [] ys e = refl
first-right (z ∷ zs) ys e = cc

pub first-nothing : {X : Type 0} (xs : List X) → None ≡ first_of xs → xs ≡ []
first-nothing [] e = refl
first-nothing (z ∷ zs) e = cc

from_here : {X : Type 0} (f : ℕ → List X) (a n k : ℕ) (x : X) → a ≤ k → k < a + n → ((j : ℕ) → a ≤ j → j < k → f j ≡ []) → Some x ≡ first_of (f k) → Some x ≡ first_of (flat_map f (range_with_len a n))
from_here f a zero k x l m none e = absurd (omega arith)
from_here f a (suc n) k x l m none e = by (λ further. from_here f (a + 1) n k x further (omega arith) (λ j g h. none j (omega (arith, g)) h) e) (eqb a k) refl
  where
    by : (a + 1 ≤ k → Some x ≡ first_of (flat_map f (range_with_len (a + 1) n))) → (b : Bool) → eqb a k ≡ b → Some x ≡ first_of (f a ++ flat_map f (range_with_len (a + 1) n))
    by later true same = first-left (f a) (flat_map f (range_with_len (a + 1) n)) x (subst (λ i. Some x ≡ first_of (f i)) (sym (eqb-true a k same)) e)
    by later false apart =
        let further : a < k = omega (arith, eqb-false a k apart) in
        rw (none a (omega arith) further) (later (omega arith))

-- the first of all places' breaks, where the places before one have none
pub first-here : {X : Type 0} (f : ℕ → List X) (n k : ℕ) (x : X) → k < n → ((j : ℕ) → j < k → f j ≡ []) → Some x ≡ first_of (f k) → Some x ≡ first_of (flat_map f (range_with_len 0 n))
first-here f n k x l none e = from_here f 0 n k x (omega arith) (omega arith) (λ j g h. none j h) e

pub first-nowhere : {X : Type 0} (f : ℕ → List X) (n : ℕ) → ((j : ℕ) → j < n → f j ≡ []) → None ≡ first_of (flat_map f (range_with_len 0 n))
first-nowhere f n none = sym (ap first_of (empty-flat_map f (range_with_len 0 n) (range-All (λ j. f j ≡ []) 0 n (λ j g h. none j (omega (arith, h))))))

pub unequal-same : (at : Place) (l r m n : ℤ) → l ≡ m → r ≡ n → first_of (unequal at l r) ≡ first_of (unequal at m n)
unequal-same at l r m n e f = rw (e, f) refl
