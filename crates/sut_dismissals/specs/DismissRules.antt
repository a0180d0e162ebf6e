-- What the dismissals of a file keep.
use Rattle.std.specs.Prelude.{ℕ, ◌≤◌, All, List, length}
use Rattle.sut_dismissals.specs.declared.dismissals.DismissLine.{DismissLine}

-- a year of a series of so many years
abbrev pub IsYearOf : ℕ → DismissLine → Type 0
IsYearOf years l = (1 ≤ l.year) × (l.year ≤ years)

-- the dismissals of a file: at most 64, each after a year of the series
pub record AreDismissals (years : ℕ) (lines : List DismissLine) : Type 0 where
  pub few : length lines ≤ 64
  pub each : All (IsYearOf years) lines
