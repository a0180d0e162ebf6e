use Rattle.std.proofs.Common.{◌≡◌, ◌++◌, map}
use Rattle.sut_write.specs.declared.supply.SupplyColumn.TheVariants as column
use Rattle.sut_write.specs.Places.{below}
use Rattle.sut_write.proofs.supply.push_makes.Given as goal

abbrev pub invariant-loop-place : goal.invariant-loop-place
invariant-loop-place l = l.columns.items ≡ l.initial.columns.items ++ map (λ n. column.Make (record { 0 = n })) (below l.place)
