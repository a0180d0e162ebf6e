-- A walk over a list in order: from its first element to the first one above it, and so on.
use Rattle.std.proofs.Common.{◌≡◌, ℕ, suc, ◌<◌, List, [], ◌∷◌, length, Bool, true, false, ◌||◌, if◌then◌else◌, Option, Some, None, refl, sym, ◌∙◌, ap, subst, arith}
use Rattle.std.specs.Prelude.{IfSome, find}
use Rattle.std.specs.List.{flat_map}
use Rattle.std.specs.declared.cmp.Ordering.{Ordering}
use Rattle.std.specs.declared.cmp.Ordering.TheVariants.{Less, Equal, Greater}
use Rattle.std.specs.Ordering.{is_lt, nat_cmp, ordering_reverse}
use Rattle.std.specs.Cmp.Lexicographic.{slice_cmp, nat_list_cmp_total}
use Rattle.std.proofs.lemmas.Cmp.{tied_itself}
use Rattle.sut_tables.specs.Breaks.{first_of}
use Rattle.sut_tables.specs.InOrder.{key_before, same_key}
use Rattle.sut_tables.specs.Tables.{first_above}
use Rattle.sut_tables.proofs.FirstOf.{first-left, first-right}
use Rattle.sut_tables.proofs.Ordered.{After, Sorted, among, differ_back, or_true, same-eq, same-refl}

not-before-itself : (k : List ℕ) → key_before k k ≡ false
not-before-itself k = ap is_lt (tied_itself nat_list_cmp_total k)

not-after : (k l : List ℕ) → slice_cmp nat_cmp k l ≡ Less → key_before l k ≡ false
not-after k l less = ap is_lt (nat_list_cmp_total.antisymm l k ∙ ap ordering_reverse less)

before-less : (k l : List ℕ) → key_before k l ≡ true → slice_cmp nat_cmp k l ≡ Less
before-less k l e = by (slice_cmp nat_cmp k l) e
  where
    by : (o : Ordering) → is_lt o ≡ true → o ≡ Less
    by Less h = refl
    by Equal h = cc
    by Greater h = cc

module _ {X : Type 0} (key : X → List ℕ) where
  -- the elements from one on
  abbrev pub from : X → List X → List X
  from a [] = []
  from a (x ∷ xs) = if same_key (key x) (key a) then x ∷ xs else from a xs

  -- what is left of a walk
  abbrev pub left_of : Option X → List X → List X
  left_of None xs = []
  left_of (Some a) xs = from a xs

  -- where there is a next element, it is one of the list
  abbrev pub IsAmong : Option X → List X → Type 0
  IsAmong next xs = IfSome next (λ a. among key (key a) xs ≡ true)

  pub started : (next : Option X) (xs : List X) → next ≡ first_above key None xs → IsAmong next xs × (left_of next xs ≡ xs)
  started next [] e = rw e (tt, refl)
  started next (x ∷ xs) e = rw (e, same-refl (key x)) (refl, refl)

  found-passes : (p : X → Bool) (xs : List X) (b : X) → find p xs ≡ Some b → p b ≡ true
  found-passes p [] b e = absurd cc
  found-passes p (x ∷ xs) b e = by (p x) refl e (found-passes p xs b)
    where
      same : Some x ≡ Some b → x ≡ b
      same e = cc

      by : (t : Bool) → p x ≡ t → (if t then Some x else find p xs) ≡ Some b → (find p xs ≡ Some b → p b ≡ true) → p b ≡ true
      by true h e rest = ap p (sym (same e)) ∙ h
      by false h e rest = rest e

  found-among : (p : X → Bool) (xs : List X) → IsAmong (find p xs) xs
  found-among p [] = tt
  found-among p (x ∷ xs) = by (p x) (found-among p xs)
    where
      later : (o : Option X) → IsAmong o xs → IsAmong o (x ∷ xs)
      later None h = tt
      later (Some b) h = rw h (or_true (same_key (key x) (key b)))

      by : (t : Bool) → IsAmong (find p xs) xs → IsAmong (if t then Some x else find p xs) (x ∷ xs)
      by true rest = rw (same-refl (key x)) refl
      by false rest = later (find p xs) rest

  -- one that is not the first is left of the others
  from-later : (x : X) (xs : List X) (o : Option X) → IfSome o (λ b. same_key (key x) (key b) ≡ false) → left_of o (x ∷ xs) ≡ left_of o xs
  from-later x xs None h = refl
  from-later x xs (Some b) h = rw h refl

  among-after : (k l : List ℕ) (xs : List X) → After key k xs → among key l xs ≡ true → slice_cmp nat_cmp k l ≡ Less
  among-after k l [] a h = absurd cc
  among-after k l (x ∷ xs) a h = by (same_key (key x) l) refl h (among-after k l xs a.1)
    where
      by : (b : Bool) → same_key (key x) l ≡ b → (b || among key l xs) ≡ true → (among key l xs ≡ true → slice_cmp nat_cmp k l ≡ Less) → slice_cmp nat_cmp k l ≡ Less
      by true e h rest = subst (λ m. slice_cmp nat_cmp k m ≡ Less) (same-eq (key x) l e) a.0
      by false e h rest = rest h

  -- from the first of a list in order the walk goes on to the second
  first-step : (x : X) (xs : List X) → Sorted key (x ∷ xs) → left_of (find (λ y. key_before (key x) (key y)) (x ∷ xs)) (x ∷ xs) ≡ xs
  first-step x [] s = rw (not-before-itself (key x)) refl
  first-step x (y ∷ ys) s =
      rw (not-before-itself (key x), ap is_lt s.0.0, differ_back (key x) (key y) s.0.0, same-refl (key y)) refl

  passes-first : (x a : X) (xs : List X) → slice_cmp nat_cmp (key x) (key a) ≡ Less → left_of (find (λ y. key_before (key a) (key y)) (x ∷ xs)) (x ∷ xs) ≡ left_of (find (λ y. key_before (key a) (key y)) xs) xs
  passes-first x a xs less =
      rw (not-after (key x) (key a) less)
      (from-later x xs (find (λ y. key_before (key a) (key y)) xs) (by (find (λ y. key_before (key a) (key y)) xs) refl))
    where
      by : (o : Option X) → find (λ y. key_before (key a) (key y)) xs ≡ o → IfSome o (λ b. same_key (key x) (key b) ≡ false)
      by None e = tt
      by (Some b) e = differ_back (key x) (key b) (nat_list_cmp_total.trans (key x) (key a) (key b) less (before-less (key a) (key b) (found-passes (λ y. key_before (key a) (key y)) xs b e)))

  step : ((x y : X) → key x ≡ key y → x ≡ y) → (xs : List X) → Sorted key xs → (a : X) → among key (key a) xs ≡ true
      → from a xs ≡ a ∷ left_of (find (λ y. key_before (key a) (key y)) xs) xs
  step inj [] s a h = absurd cc
  step inj (x ∷ xs) s a h = by (same_key (key x) (key a)) refl h (step inj xs s.1 a)
    where
      by : (b : Bool) → same_key (key x) (key a) ≡ b → (b || among key (key a) xs) ≡ true
          → (among key (key a) xs ≡ true → from a xs ≡ a ∷ left_of (find (λ y. key_before (key a) (key y)) xs) xs)
          → (if b then x ∷ xs else from a xs) ≡ a ∷ left_of (find (λ y. key_before (key a) (key y)) (x ∷ xs)) (x ∷ xs)
      by true e h rest =
          subst (λ b. x ∷ xs ≡ b ∷ left_of (find (λ y. key_before (key b) (key y)) (x ∷ xs)) (x ∷ xs)) (inj x a (same-eq (key x) (key a) e))
          (ap (λ l. x ∷ l) (sym (first-step x xs s)))
      by false e h rest = rest h ∙ ap (λ l. a ∷ l) (sym (passes-first x a xs (among-after (key x) (key a) xs s.0 h)))

  pub stepped : ((x y : X) → key x ≡ key y → x ≡ y) → (xs : List X) → Sorted key xs → (a : X) → among key (key a) xs ≡ true → (next : Option X) → next ≡ first_above key (Some a) xs
      → IsAmong next xs × (left_of (Some a) xs ≡ a ∷ left_of next xs)
  stepped inj xs s a h next e = rw e (found-among (λ y. key_before (key a) (key y)) xs, step inj xs s a h)

  -- ---- the first of what the elements give

  pub found-here : {Y : Type 0} (f : X → List Y) (xs : List X) (a : X) (left : List X) (whole : Option Y) (y : Y) → left_of (Some a) xs ≡ a ∷ left
      → first_of (flat_map f (left_of (Some a) xs)) ≡ whole → Some y ≡ first_of (f a) → Some y ≡ whole
  found-here f xs a left whole y e h here = first-left (f a) (flat_map f left) y here ∙ ap (λ l. first_of (flat_map f l)) (sym e) ∙ h

  pub not-here : {Y : Type 0} (f : X → List Y) (xs : List X) (a : X) (left : List X) (whole : Option Y) → left_of (Some a) xs ≡ a ∷ left
      → first_of (flat_map f (left_of (Some a) xs)) ≡ whole → None ≡ first_of (f a) → first_of (flat_map f left) ≡ whole
  not-here f xs a left whole e h none = first-right (f a) (flat_map f left) none ∙ ap (λ l. first_of (flat_map f l)) (sym e) ∙ h

  pub fewer : (xs : List X) (a : X) (left : List X) → left_of (Some a) xs ≡ a ∷ left → length left < length (left_of (Some a) xs)
  fewer xs a left e = let longer : length (left_of (Some a) xs) ≡ suc (length left) = ap length e in omega arith
