-- Which settings there are.
use Rattle.std.specs.Prelude.{ℕ, ◌^◌, ◌≤◌, IsTrue, Bool, All, length, map, if◌then◌else◌, ℤ, unsigned_abs}
use Rattle.std.specs.Cmp.Lexicographic.{slice_cmp}
use Rattle.std.specs.List.Sorted.{IsStrictlySortedBy}
use Rattle.std.specs.Ordering.{nat_cmp}
use Rattle.sut_classes.specs.ClassFile.{is_code}
use Rattle.sut_settings.specs.SettingsFacts.{GradeFacts, SettingsFacts}

-- the greatest number of a grade
abbrev pub greatest : Bool → ℕ
greatest relative = if relative then 100 else 10000

-- a grade's name is a code, and its number lies in the scheme's range
pub record IsGrade (relative : Bool) (g : GradeFacts) : Type 0 where
  pub name : IsTrue (is_code g.name)
  pub some : 1 ≤ g.number
  pub most : g.number ≤ greatest relative

-- at most 64 grades, whose names rise in byte order, so that each stands once
pub record IsSettings (s : SettingsFacts) : Type 0 where
  pub few : length s.grades ≤ 64
  pub grades : All (IsGrade s.relative) s.grades
  pub rising : IsStrictlySortedBy (slice_cmp nat_cmp) (map (λ (g : GradeFacts). g.name) s.grades)

-- a target of a source: at most 10^12 away from 0
abbrev pub IsTarget : ℤ → Type 0
IsTarget target = unsigned_abs target ≤ 10 ^ 12
