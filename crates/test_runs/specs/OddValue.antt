-- The rule of the tests' own reviewer.
use Rattle.std.specs.Prelude.{ℕ, ◌%◌, ℤ, nat_eq, unsigned_abs, Bool}
use Rattle.sut_tables.specs.RowFacts.{RowFacts}

-- the value is odd
abbrev pub odd_value : RowFacts → ℤ → Bool
odd_value row value = nat_eq (unsigned_abs value % 2) 1
