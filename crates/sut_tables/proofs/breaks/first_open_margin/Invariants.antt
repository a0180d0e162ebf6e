use Rattle.std.proofs.Common.{◌≡◌, ℕ, ◌<◌, []}
use Rattle.sut_tables.specs.Breaks.{broken_margin}
use Rattle.sut_tables.proofs.breaks.first_open_margin.Given as goal

-- no earlier place is broken
abbrev pub invariant-loop-place : goal.invariant-loop-place
invariant-loop-place l = (j : ℕ) → j < l.place → broken_margin l.t j ≡ []
