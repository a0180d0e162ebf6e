use Rattle.std.proofs.Common.{◌≡◌, ℕ, ◌<◌, []}
use Rattle.sut_tables.specs.Breaks.{broken_product}
use Rattle.sut_tables.proofs.breaks.first_open_product.Given as goal

-- no earlier place is broken
abbrev pub invariant-loop-place : goal.invariant-loop-place
invariant-loop-place l = (j : ℕ) → j < l.place → broken_product l.t j ≡ []
