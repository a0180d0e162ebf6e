use Rattle.std.proofs.Common.{◌≡◌, ◌++◌, ◌∷◌, take}
use Rattle.std.specs.List.{flat_map}
use Rattle.sut_text.specs.Text.{whole_text}
use Rattle.sut_write.specs.Supply.{supply_number}
use Rattle.sut_write.proofs.supply.put_numbers.Given as goal

abbrev pub invariant-loop-column : goal.invariant-loop-column
invariant-loop-column l = l.out.items ≡ l.fn.out.items ++ flat_map (λ c. 44 ∷ whole_text (supply_number l.p.classes l.t c l.i)) (take l.column-index l.columns)
