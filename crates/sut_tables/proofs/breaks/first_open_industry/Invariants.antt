use Rattle.std.proofs.Common.{◌≡◌, ℕ, ◌<◌, []}
use Rattle.sut_tables.specs.Breaks.{broken_industry}
use Rattle.sut_tables.proofs.breaks.first_open_industry.Given as goal

-- no earlier place is broken
abbrev pub invariant-loop-place : goal.invariant-loop-place
invariant-loop-place l = (j : ℕ) → j < l.place → broken_industry l.t j ≡ []
