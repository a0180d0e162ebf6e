use Rattle.std.proofs.Common.{◌≡◌, ◌++◌, take}
use Rattle.sut_write.specs.Trail.{cell_lines}
use Rattle.sut_write.proofs.trail.put_cells.Given as goal

abbrev pub invariant-loop-held : goal.invariant-loop-held
invariant-loop-held l = l.out.items ≡ l.fn.out.items ++ cell_lines l.number l.classes (take l.held-index l.cells)
