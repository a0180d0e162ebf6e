use Rattle.std.proofs.Common.{◌≡◌, ◌+ℤ◌, take}
use Rattle.std.specs.Option.{option_map}
use Rattle.sut_tables.specs.declared.sums.CellSum.{CellSum}
use Rattle.sut_tables.specs.CellSums.{added_to, kept_for, sums_by}
use Rattle.sut_tables.proofs.sums.change_sums.Given as goal

-- the first k sums are changed
abbrev pub invariant-loop-k : goal.invariant-loop-k
invariant-loop-k l =
    (q : CellSum) → kept_for l.sums q ≡ option_map (λ x. x +ℤ added_to q l.c l.fn.change (take l.k (sums_by l.product_group l.industry_group l.c))) (kept_for l.initial.sums q)
