use Rattle.std.proofs.Common.{◌≡◌, Some, if◌then◌else◌, pos, take}
use Rattle.std.specs.List.{list_any}
use Rattle.sut_tables.specs.declared.sums.CellSum.{CellSum}
use Rattle.sut_tables.specs.CellSums.{kept_for, same_sum, sums_by}
use Rattle.sut_tables.proofs.sums.start_sums.Given as goal

-- 0 is kept for the first k sums
abbrev pub invariant-loop-k : goal.invariant-loop-k
invariant-loop-k l =
    (q : CellSum) → kept_for l.sums q ≡ (if list_any (λ w. same_sum w q) (take l.k (sums_by l.product_group l.industry_group l.c)) then Some (pos 0) else kept_for l.initial.sums q)
