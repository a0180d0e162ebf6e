-- Places of grades and of colons.
use Rattle.std.proofs.Common.{◌≡◌, ◌≤◌, ◌+◌, ◌==◌, ℕ, Bool, true, false, nat_lt, cond, if◌then◌else◌, List, [], map, length, Option, Some, None, option_map, position, refl, sym, ltb-false, arith}
use Rattle.std.specs.List.{position_or_len}
use Rattle.std.specs.Str.{bytes_eq}
use Rattle.std.proofs.lemmas.List.{length-map}
use Rattle.std.proofs.lemmas.List.Quantifiers.{position-Some}
use Rattle.std.proofs.lemmas.List.Sums.{prefix_len-le-length}
use Rattle.std.proofs.lemmas.Option.{same_Some}
use Rattle.sut_settings.specs.SettingsFacts.{GradeFacts, SettingsFacts, place_of_grade}
use Rattle.sut_source.specs.RowFile.{is_colon}

-- the place of a grade is one of the settings
pub grade-within : (s : SettingsFacts) (g : List ℕ) (n : ℕ) → place_of_grade s g ≡ Some n → n ≤ length s.grades
grade-within s g n e = by (length g == 0) (position (bytes_eq g) (map (λ (f : GradeFacts). f.name) s.grades)) refl e
  where
    by : (b : Bool) (o : Option ℕ) → position (bytes_eq g) (map (λ (f : GradeFacts). f.name) s.grades) ≡ o → (if b then Some 0 else option_map (λ k. k + 1) o) ≡ Some n → n ≤ length s.grades
    by true o eo h = let same : 0 ≡ n = same_Some _ _ h in omega (arith, same)
    by false None eo h = absurd cc
    by false (Some k) eo h =
        let same : k + 1 ≡ n = same_Some _ _ h in
        let within = (position-Some (bytes_eq g) (map (λ (f : GradeFacts). f.name) s.grades) k [] eo).0 in
        let long = length-map s.grades (λ (f : GradeFacts). f.name) in
        omega (arith, same, within, long)

chosen : (b : Bool) (n k : ℕ) → cond b (Some n) None ≡ Some k → k ≡ n
chosen true n k e = sym (same_Some _ _ e)
chosen false n k e = absurd cc

beyond : (b : Bool) (n m : ℕ) → nat_lt n m ≡ b → cond b (Some n) None ≡ None → m ≤ n
beyond true n m h e = absurd cc
beyond false n m h e = ltb-false n m h

-- where a colon is found it is the first one
pub colon-found : (xs : List ℕ) (k : ℕ) → position is_colon xs ≡ Some k → k ≡ position_or_len is_colon xs
colon-found xs k e = chosen (nat_lt (position_or_len is_colon xs) (length xs)) (position_or_len is_colon xs) k e

pub colon-within : (xs : List ℕ) → position_or_len is_colon xs ≤ length xs
colon-within xs = prefix_len-le-length _ xs

-- where none is found the place is the length
pub colon-missing : (xs : List ℕ) → position is_colon xs ≡ None → length xs ≡ position_or_len is_colon xs
colon-missing xs e =
    let above = beyond (nat_lt (position_or_len is_colon xs) (length xs)) (position_or_len is_colon xs) (length xs) refl e in
    omega (arith, above, colon-within xs)
