-- What settings are: a scheme, and the grades in byte order with their numbers.
use Rattle.std.specs.Prelude.{ℕ, ◌*◌, ◌/◌, ◌+◌, ◌==◌, max, Bool, true, false, if◌then◌else◌, List, ◌∷◌, length, map, position, get_or, Option, Some, option_map}
use Rattle.std.specs.Str.{bytes_eq}

pub record GradeFacts : Type 0 where
  pub name : List ℕ
  pub number : ℕ

pub record SettingsFacts : Type 0 where
  pub relative : Bool
  pub grades : List GradeFacts

-- the place of a grade: 0 is the empty grade, n the n-th grade in byte order
abbrev pub place_of_grade : SettingsFacts → List ℕ → Option ℕ
place_of_grade s grade =
    if length grade == 0 then Some 0
    else option_map (λ k. k + 1) (position (bytes_eq grade) (map (λ (g : GradeFacts). g.name) s.grades))

-- a grade's number; the empty grade is the number 1
abbrev pub number_at : SettingsFacts → ℕ → ℕ
number_at s place = get_or (1 ∷ map (λ (g : GradeFacts). g.number) s.grades) place 1

-- the weight of a target: the number, or in the relative scheme its hundredfold per unit of the target, and at least 1
abbrev pub weight_from : Bool → ℕ → ℕ → ℕ
weight_from false number size = number
weight_from true number size = max 1 (number * 100 / max 1 size)
