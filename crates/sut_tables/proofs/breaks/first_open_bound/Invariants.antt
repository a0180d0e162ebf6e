use Rattle.std.proofs.Common.{◌≡◌}
use Rattle.std.specs.List.{flat_map}
use Rattle.sut_tables.specs.Breaks.{broken_bounds, first_of}
use Rattle.sut_tables.proofs.breaks.first_open_bound.Given as goal

-- the first break is among the rows that are left
abbrev pub invariant-loop-row : goal.invariant-loop-row
invariant-loop-row l = first_of (flat_map (broken_bounds l.t) l.row-iterator) ≡ first_of (flat_map (broken_bounds l.t) l.p.rows)
