-- The place of a name that stands at a place, and the bytes of a name.
use Rattle.std.proofs.Common.{◌≡◌, ◌∙◌, ◌≤◌, ◌<◌, ◌||◌, ◌&&◌, ◌==◌, ℕ, zero, suc, nat_lt, nat_le, Bool, true, false, List, [], ◌∷◌, length, get_or, slice_get, position, Some, refl, sym, ap, arith, inl, inr, lt-ltb, Less, Equal}
use Rattle.std.proofs.lemmas.Bool.{and_parts, cases_Bool, false≢true}
use Rattle.std.proofs.lemmas.Cmp.{nat_list_cmp_total}
use Rattle.std.proofs.lemmas.List.{length-map, get_or-map}
use Rattle.std.proofs.lemmas.Slice.Eq.{bytes_eq-Decides}
use Rattle.std.specs.Cmp.{tied_itself}
use Rattle.std.proofs.lemmas.Bool.Decides.{Decides-eqb, nat_tests}
use Rattle.std.proofs.lemmas.Option.{slice_get-get_or, slice_get_within, get_or_from_slice_get, same_Some}
use Rattle.std.specs.Cmp.Lexicographic.{slice_cmp}
use Rattle.std.specs.List.{AllByRecursion, list_all, list_any, position_or_len}
use Rattle.std.specs.List.Sorted.{IsStrictlySortedBy}
use Rattle.std.specs.Ordering.{nat_cmp}
use Rattle.std.specs.Str.{bytes_eq}
use Rattle.sut_classes.specs.ClassFile.{is_code, is_code_byte}
use Rattle.sut_settings.specs.SettingsFacts.{GradeFacts, SettingsFacts, place_of_grade}
use Rattle.sut_settings.specs.IsSettings.{IsSettings}
use Rattle.sut_settings.proofs.GradeLemmas.{names}

abbrev pub Rising : List (List ℕ) → Type 0
Rising = IsStrictlySortedBy (slice_cmp nat_cmp)

less≢equal : Less ≡ Equal → ⊥
less≢equal h = cc

-- a name differs from each name below it
apart : (x y : List ℕ) → slice_cmp nat_cmp x y ≡ Less → bytes_eq y x ≡ false
apart x y below =
    elim (cases_Bool (bytes_eq y x)) [
      | inl same ↦
          let e : y ≡ x = (bytes_eq-Decides y x).0 same in
          absurd (less≢equal (sym (rw e at below) ∙ tied_itself nat_list_cmp_total x))
      | inr other ↦ other
    ]

same-name : (x y : List ℕ) → Some x ≡ Some y → bytes_eq y x ≡ true
same-name x y e = (bytes_eq-Decides y x).1 (sym (same_Some _ _ e))

above-all : (x : List ℕ) (xs : List (List ℕ)) (k : ℕ) (y : List ℕ) → AllByRecursion (λ z. slice_cmp nat_cmp x z ≡ Less) xs → slice_get xs k ≡ Some y → slice_cmp nat_cmp x y ≡ Less
above-all x [] k y h is = cc
above-all x (z ∷ xs) zero y h is = rw (← same_Some _ _ is) h.0
above-all x (z ∷ xs) (suc k) y h is = above-all x xs k y h.1 is

-- the first place of a name among names that rise is the place where it stands
first-place : (xs : List (List ℕ)) (k : ℕ) (y : List ℕ) → Rising xs → slice_get xs k ≡ Some y → position_or_len (bytes_eq y) xs ≡ k
unfolding IsStrictlySortedBy
first-place [] k y h is = cc
first-place (x ∷ xs) zero y h is = rw (same-name x y is)
first-place (x ∷ xs) (suc k) y h is =
    rw (apart x y (above-all x xs k y h.0 is), first-place xs k y h.1 is) (omega arith)

pub risen-place : (xs : List (List ℕ)) (k : ℕ) (y : List ℕ) → Rising xs → slice_get xs k ≡ Some y → position (bytes_eq y) xs ≡ Some k
risen-place xs k y h is =
    let within : nat_lt k (length xs) ≡ true = lt-ltb k (length xs) (slice_get_within xs k y is) in
    rw (first-place xs k y h is, within)

-- ---- the names of settings

name-of : (s : SettingsFacts) (k : ℕ) (name : List ℕ) → IsSettings s → slice_get (names s.grades) k ≡ Some name → is_code name ≡ true
name-of s k name kept is =
    let within : k < length s.grades = rw (← length-map s.grades (λ (g : GradeFacts). g.name)) (slice_get_within (names s.grades) k name is) in
    let d : GradeFacts = record { name = name; number = 0 } in
    let read : (get_or s.grades k d).name ≡ name = sym (get_or-map (λ (g : GradeFacts). g.name) s.grades k d name within) ∙ get_or_from_slice_get (names s.grades) k name name is in
    let code : is_code (get_or s.grades k d).name ≡ true = (kept.grades k d within).name in
    rw read at code

-- the name at a place, from 0 on, has that place: each name stands once
pub place-of-name : (s : SettingsFacts) (n : ℕ) (name : List ℕ) → IsSettings s → slice_get ([] ∷ names s.grades) n ≡ Some name → place_of_grade s name ≡ Some n
place-of-name s zero name kept is = rw (← same_Some _ _ is)
place-of-name s (suc k) name kept is =
    let (some, _) = and_parts (nat_le 1 (length name) && nat_le (length name) 32) (list_all is_code_byte name) (name-of s k name kept is) in
    let filled : (length name == 0) ≡ false = grind (arith, nat_tests, some) in
    rw (filled, risen-place (names s.grades) k name kept.rising is) (ap Some (omega arith))

pub place-of-name-at : (s : SettingsFacts) (n : ℕ) → IsSettings s → n ≤ length s.grades → place_of_grade s (get_or ([] ∷ names s.grades) n []) ≡ Some n
place-of-name-at s n kept within =
    let inside : n < length ([] ∷ names s.grades) = omega (arith, length-map s.grades (λ (g : GradeFacts). g.name)) in
    place-of-name s n _ kept (slice_get-get_or ([] ∷ names s.grades) n [] inside)

-- ---- the bytes of names

-- the name at a place has bytes of codes alone; the empty one has none
pub name-bytes : (s : SettingsFacts) (n : ℕ) (name : List ℕ) → IsSettings s → slice_get ([] ∷ names s.grades) n ≡ Some name → list_all is_code_byte name ≡ true
name-bytes s zero name kept is = rw (← same_Some _ _ is)
name-bytes s (suc k) name kept is =
    (and_parts (nat_le 1 (length name) && nat_le (length name) 32) (list_all is_code_byte name) (name-of s k name kept is)).1

-- bytes of codes don't pass a test that none of them passes
pub none-passes : (p : ℕ → Bool) → ((b : ℕ) → is_code_byte b ≡ true → p b ≡ false) → (text : List ℕ) → list_all is_code_byte text ≡ true → list_any p text ≡ false
none-passes p each [] h = refl
none-passes p each (b ∷ text) h =
    let (first, rest) = and_parts (is_code_byte b) (list_all is_code_byte text) h in
    rw (each b first, none-passes p each text rest)

-- a byte of a code is no byte that codes don't have
pub other-byte : (x : ℕ) → is_code_byte x ≡ false → (b : ℕ) → is_code_byte b ≡ true → (b == x) ≡ false
other-byte x out b in_code =
    elim (cases_Bool (b == x)) [
      | inl same ↦
          let e : b ≡ x = (Decides-eqb b x).0 same in
          absurd (false≢true (sym out ∙ rw e at in_code))
      | inr other ↦ other
    ]

pub no-colon : (s : SettingsFacts) (n : ℕ) (name : List ℕ) → IsSettings s → slice_get ([] ∷ names s.grades) n ≡ Some name → list_any (λ b. b == 58) name ≡ false
no-colon s n name kept is = none-passes (λ b. b == 58) (other-byte 58 refl) name (name-bytes s n name kept is)

pub no-blank : (s : SettingsFacts) (n : ℕ) (name : List ℕ) → IsSettings s → slice_get ([] ∷ names s.grades) n ≡ Some name → list_any (λ b. b == 32) name ≡ false
no-blank s n name kept is = none-passes (λ b. b == 32) (other-byte 32 refl) name (name-bytes s n name kept is)

-- neither a comma nor a quote, CR or LF, for which a field would stand in quotes
asks-none : (b : ℕ) → is_code_byte b ≡ true → ((b == 44) || ((b == 34) || ((b == 13) || (b == 10)))) ≡ false
asks-none b h = rw (other-byte 44 refl b h, other-byte 34 refl b h, other-byte 13 refl b h, other-byte 10 refl b h)

pub no-quotes : (s : SettingsFacts) (n : ℕ) (name : List ℕ) → IsSettings s → slice_get ([] ∷ names s.grades) n ≡ Some name
    → list_any (λ b. (b == 44) || ((b == 34) || ((b == 13) || (b == 10)))) name ≡ false
no-quotes s n name kept is = none-passes _ asks-none name (name-bytes s n name kept is)
