use Rattle.std.proofs.Common.{◌≡◌, ◌++◌, ◌∷◌, take}
use Rattle.std.specs.List.{flat_map}
use Rattle.sut_write.specs.Supply.{supply_heading}
use Rattle.sut_write.proofs.supply.put_headings.Given as goal

abbrev pub invariant-loop-column : goal.invariant-loop-column
invariant-loop-column l = l.out.items ≡ l.fn.out.items ++ flat_map (λ c. 44 ∷ supply_heading l.classes c) (take l.column-index l.columns)
