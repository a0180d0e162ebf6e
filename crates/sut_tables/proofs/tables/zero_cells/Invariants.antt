use Rattle.std.proofs.Common.{◌≡◌, ◌++◌, map}
use Rattle.std.specs.List.{filter_map}
use Rattle.sut_tables.specs.RowFacts.{RowFacts}
use Rattle.sut_tables.specs.Problems.{cell_of, cell_rows}
use Rattle.sut_tables.proofs.ZeroTables.{zero_held}
use Rattle.sut_tables.proofs.tables.zero_cells.Given as goal

-- the cells so far, and those of the rows that are left, are all of them
abbrev pub invariant-loop-row : goal.invariant-loop-row
invariant-loop-row l =
    l.cells.items ++ map zero_held (filter_map (λ (r : RowFacts). cell_of r.measure) l.row-iterator) ≡ map zero_held (cell_rows l.p)
