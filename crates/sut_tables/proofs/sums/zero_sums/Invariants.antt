use Rattle.std.proofs.Common.{take}
use Rattle.sut_tables.specs.declared.sums.CellSum.{CellSum}
use Rattle.sut_tables.specs.CellSums.{IsZeroFor}
use Rattle.sut_tables.proofs.sums.zero_sums.Given as goal

-- 0 is kept for the sums of the first cells
abbrev pub invariant-loop-held : goal.invariant-loop-held
invariant-loop-held l =
    (q : CellSum) → IsZeroFor (record { of_product = l.product_groups; of_industry = l.industry_groups }) (take l.held-index l.cells) q l.sums
