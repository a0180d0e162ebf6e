use Rattle.std.proofs.Common.{◌≡◌, pos, ◌*ℤ◌, ◌*◌, ◌^◌, arith}
use Rattle.std.proofs.lemmas.Int.{ints, to_z-of_z}
use Rattle.flow_cost.specs.Cost.{IsWithin}
use Rattle.flow_cost.specs.Laws.{lawful_linear}
use Rattle.flow_cost.proofs.costs.LinearCost.at.Goals as goal

pub returns-clause-in_range : goal.returns-clause-in_range
returns-clause-in_range c =
    let s = c.args.self.now in
    let e : c.product.result ≡ s.slope *ℤ c.args.x = grind (arith, to_z-of_z, c.product.ensures) in
    let w : IsWithin (pos (4 * 10 ^ 28)) c.product.result =
    rw e ((lawful_linear s.slope s.span s.span_low s.span_high s.slope_fits s.ends_fit).values c.args.x c.requires) in
    record { low = omega (arith, ints, w.low); high = omega (arith, ints, w.high) }
