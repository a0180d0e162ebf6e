-- The two rules of this crate.
use Rattle.std.specs.Prelude.{◌&&◌, ◌||◌, ◌*◌, ℕ, ℤ, ◌-ℤ◌, int_lt, nat_lt, unsigned_abs, Bool, false, Option, None, Some}
use Rattle.std.specs.Ordering.{int_eq}
use Rattle.sut_tables.specs.RowFacts.{RowFacts}

-- the bounds differ, and the value is one of them
abbrev pub at_bound : RowFacts → ℤ → Bool
at_bound row value = int_lt row.lower row.upper && (int_eq value row.lower || int_eq value row.upper)

-- the value is farther from the target than this many percent of the target
abbrev pub is_far : ℕ → Option ℤ → ℤ → Bool
is_far percent None value = false
is_far percent (Some target) value = nat_lt (percent * unsigned_abs target) (unsigned_abs (value -ℤ target) * 100)

abbrev pub far_from : ℕ → RowFacts → ℤ → Bool
far_from percent row value = is_far percent row.target value
