use Rattle.std.proofs.Common.{◌*ℤ◌, sym, subst, to_z, of_z, to_z-of_z}
use mir.Syntax.{w64}
use Rattle.sut_tables.specs.Rows.{InRange}
use Rattle.sut_circuit.specs.TableFlows.{FitsIn}
use Rattle.sut_network.proofs.Put.{in_range-fits}
use Rattle.sut_network.proofs.network_tables.put_times.Goals as goal

-- the cell's number is in the range of tables
in_range : (c : goal.After-put-arg-1) → InRange (to_z w64 (of_z w64 c.args.by) *ℤ to_z w64 (of_z w64 c.args.x))
in_range c =
    subst (λ z. InRange (z *ℤ to_z w64 (of_z w64 c.args.x))) (sym (to_z-of_z c.ranges.by))
    (subst (λ z. InRange (c.args.by *ℤ z)) (sym (to_z-of_z c.ranges.x))
    (subst (λ m. FitsIn m (c.args.by *ℤ c.args.x)) c.in-Cell.is c.requires))

pub overflow_mul-by : goal.overflow_mul-by
overflow_mul-by c = in_range-fits (to_z w64 (of_z w64 c.args.by) *ℤ to_z w64 (of_z w64 c.args.x)) (in_range c)

pub put-held-requires : goal.put-held-requires
put-held-requires c =
    let product = to_z w64 (of_z w64 c.args.by) *ℤ to_z w64 (of_z w64 c.args.x) in
    subst InRange (sym (to_z-of_z (in_range-fits product (in_range c)))) (in_range c)
