-- Lists over the numbers below a bound, one number further.
use Rattle.std.proofs.Common.{◌≡◌, ◌+◌, ◌++◌, ◌∷◌, ◌∙◌, ℕ, zero, suc, ℤ, pos, ◌+ℤ◌, List, [], map, refl, sym, ap, append-nil, append_assoc, arith, add-one}
use Rattle.std.specs.List.{flat_map, range_with_len}
use Rattle.std.proofs.lemmas.Grind.{flat_map-append}
use Rattle.std.proofs.lemmas.Int.{ints}
use Rattle.std.proofs.lemmas.List.{map-append}
use Rattle.sut_tables.specs.Values.{int_sum_by}
use Rattle.sut_tables.proofs.IntSums.{sum-append, sum-map}
use Rattle.sut_write.specs.Places.{below}

range-more : (a n : ℕ) → range_with_len a (suc n) ≡ range_with_len a n ++ (a + n) ∷ []
range-more a zero = ap (λ m. m ∷ []) (omega arith)
range-more a (suc n) =
    ap (λ ms. a ∷ ms) (range-more (a + 1) n)
    ∙ ap (λ m. a ∷ (range_with_len (a + 1) n ++ m ∷ [])) (omega arith)

pub below-more : (k : ℕ) → below (k + 1) ≡ below k ++ k ∷ []
below-more k =
    ap (range_with_len 0) (add-one k) ∙ range-more 0 k ∙ ap (λ m. range_with_len 0 k ++ m ∷ []) (omega arith)

pub map-more : {X : Type 0} (f : ℕ → X) (k : ℕ) → map f (below (k + 1)) ≡ map f (below k) ++ f k ∷ []
map-more f k = ap (map f) (below-more k) ∙ map-append f (below k) (k ∷ [])

pub texts-more : (f : ℕ → List ℕ) (k : ℕ) → flat_map f (below (k + 1)) ≡ flat_map f (below k) ++ f k
texts-more f k =
    ap (flat_map f) (below-more k) ∙ flat_map-append f (below k) (k ∷ []) ∙ ap (λ t. flat_map f (below k) ++ t) (append-nil (f k))

pub sum-more : (f : ℕ → ℤ) (k : ℕ) → int_sum_by f (below (k + 1)) ≡ int_sum_by f (below k) +ℤ f k
sum-more f k =
    ap (int_sum_by f) (below-more k) ∙ sum-append f (below k) (k ∷ []) ∙ ap (λ z. int_sum_by f (below k) +ℤ z) (none (f k))
  where
    none : (z : ℤ) → z +ℤ pos 0 ≡ z
    none z = omega (arith, ints)

map-map : {A B C : Type 0} (g : B → C) (f : A → B) (xs : List A) → map g (map f xs) ≡ map (λ x. g (f x)) xs
map-map g f [] = refl
map-map g f (x ∷ xs) = ap (λ ys. g (f x) ∷ ys) (map-map g f xs)

-- one more element of a list that is made over a range, and all of them
pub pushed-more : {X : Type 0} (f : ℕ → X) (k : ℕ) (old mid new : List X) → mid ≡ old ++ map f (below k) → new ≡ mid ++ f k ∷ [] → new ≡ old ++ map f (below (k + 1))
pushed-more f k old mid new p q = q ∙ rw (p, map-more f k) (append_assoc old (map f (below k)) (f k ∷ []))

pub pushed-all : {I X : Type 0} (g : I → X) (make : ℕ → I) (k n : ℕ) (old new : List X) → new ≡ old ++ map (λ m. g (make m)) (below k) → k ≡ n → new ≡ old ++ map g (map make (below n))
pushed-all g make k n old new p e =
    p ∙ ap (λ m. old ++ map (λ m. g (make m)) (below m)) e ∙ ap (λ ys. old ++ ys) (sym (map-map g make (below n)))

-- one more text of those that are printed over a range, and all of them
pub printed-more : (f : ℕ → List ℕ) (k : ℕ) (old mid new : List ℕ) → mid ≡ old ++ flat_map f (below k) → new ≡ mid ++ f k → new ≡ old ++ flat_map f (below (k + 1))
printed-more f k old mid new p q = q ∙ rw (p, texts-more f k) (append_assoc old (flat_map f (below k)) (f k))

pub printed-all : (f : ℕ → List ℕ) (k n : ℕ) (old new text : List ℕ) → new ≡ old ++ flat_map f (below k) → k ≡ n → flat_map f (below n) ≡ text → new ≡ old ++ text
printed-all f k n old new text p e same = p ∙ ap (λ m. old ++ flat_map f (below m)) e ∙ ap (λ t. old ++ t) same

-- a sum over places
pub sum-below : {I : Type 0} (h : I → ℤ) (make : ℕ → I) (r : ℤ) (k n : ℕ) → r ≡ int_sum_by (λ m. h (make m)) (below k) → k ≡ n → r ≡ int_sum_by h (map make (below n))
sum-below h make r k n p e = p ∙ ap (λ m. int_sum_by (λ m. h (make m)) (below m)) e ∙ sym (sum-map h make (below n))
