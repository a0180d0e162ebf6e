-- The grades of `Settings` and the facts that they stand for.
use Rattle.std.proofs.Common.{◌≡◌, ◌∙◌, ◌<◌, ◌+◌, ◌==◌, false, ℕ, zero, suc, Bool, List, [], ◌∷◌, map, length, get_or, slice_get, position, All, Option, Some, option_map, refl, sym, ap, subst}
use Rattle.std.proofs.lemmas.List.{get_or-map, length-map}
use Rattle.std.proofs.lemmas.List.Elements.{All-get_or}
use Rattle.std.proofs.lemmas.Option.{same_Some}
use Rattle.std.specs.Str.{bytes_eq}
use Rattle.sut_classes.proofs.CodeLemmas.{mapped-position}
use Rattle.sut_settings.specs.SettingsFacts.{GradeFacts, place_of_grade}
use Rattle.sut_settings.specs.SettingsView.{grade_facts}
use Rattle.sut_settings.specs.IsSettings.{IsGrade}
use Rattle.sut_settings.specs.declared.settings.Grade.{Grade}

abbrev pub names : List GradeFacts → List (List ℕ)
names = map (λ (f : GradeFacts). f.name)

abbrev pub numbers : List GradeFacts → List ℕ
numbers = map (λ (f : GradeFacts). f.number)

-- a name's place among the facts is its place among the grades
pub name-place : (name : List ℕ) (gs : List Grade) → position (bytes_eq name) (names (map grade_facts gs)) ≡ position (λ (g : Grade). bytes_eq name g.name.items) gs
name-place name gs =
    mapped-position (λ (f : GradeFacts). f.name) (bytes_eq name) (map grade_facts gs)
    ∙ mapped-position grade_facts (λ (f : GradeFacts). bytes_eq name f.name) gs

-- the place of a name that isn't empty
pub placed : (relative : Bool) (name : List ℕ) (gs : List Grade) (r : Option ℕ) → (length name == 0) ≡ false → position (λ (g : Grade). bytes_eq name g.name.items) gs ≡ r
    → place_of_grade (record { relative = relative; grades = map grade_facts gs }) name ≡ option_map (λ k. k + 1) r
placed relative name gs r filled is = rw (filled, name-place name gs, is)

named-at : (gs : List Grade) (k : ℕ) → slice_get (names (map grade_facts gs)) k ≡ option_map (λ (g : Grade). g.name.items) (slice_get gs k)
named-at [] k = refl
named-at (g ∷ gs) zero = refl
named-at (g ∷ gs) (suc k) = named-at gs k

-- the name at a place from 1 on
pub name-at : (gs : List Grade) (place k : ℕ) (g : Option Grade) → place ≡ suc k → slice_get gs k ≡ g → option_map (λ (g : Grade). g.name.items) g ≡ slice_get ([] ∷ names (map grade_facts gs)) place
name-at gs place k g e is = rw (e, ← is) (sym (named-at gs k))

numbered : (gs : List Grade) (k : ℕ) (g : Grade) → slice_get gs k ≡ Some g → get_or (numbers (map grade_facts gs)) k 1 ≡ g.number
numbered [] k g is = cc
numbered (x ∷ gs) zero g is = ap (λ (y : Grade). y.number) (same_Some _ _ is)
numbered (x ∷ gs) (suc k) g is = numbered gs k g is

-- the number at a place from 1 on
pub number-there : (gs : List Grade) (place k : ℕ) (g : Grade) → place ≡ suc k → slice_get gs k ≡ Some g → get_or (1 ∷ numbers (map grade_facts gs)) place 1 ≡ g.number
number-there gs place k g e is = rw e (numbered gs k g is)

-- what holds of each grade holds of the one at a place
pub grade-there : (relative : Bool) (gs : List Grade) (k : ℕ) (g : Grade) → All (IsGrade relative) (map grade_facts gs) → k < length gs → g ≡ get_or gs k g → IsGrade relative (grade_facts g)
grade-there relative gs k g all within is =
    subst (IsGrade relative) (get_or-map grade_facts gs k g (grade_facts g) within ∙ ap grade_facts (sym is))
    (All-get_or (IsGrade relative) (map grade_facts gs) k (grade_facts g) (rw (length-map gs grade_facts) within) all)
