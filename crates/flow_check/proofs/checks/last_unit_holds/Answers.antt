use Rattle.std.proofs.Common.{◌≡◌, ℤ, pos, ◌-ℤ◌, ◌≤ℤ◌, ap, ◌∙◌, arith}
use Rattle.std.proofs.lemmas.Int.{ints, to_z-of_z}
use mir.Syntax.{w64, w128}
use mir.Val.{to_z, of_z, SFits}
use Rattle.flow_cost.specs.Cost.{slope}
use Rattle.flow_check.proofs.Shown.{le_test, next_below}
use Rattle.flow_check.proofs.checks.last_unit_holds.Goals as goal

pub returns : goal.returns
returns g c =
    let value : ℤ → ℤ = g.C.Cost.value_at c.args.cost.now in
    let law = g.met.C.Cost.lawful c.args.cost.now in
    let back : to_z w64 (of_z w64 (to_z w64 (of_z w64 c.args.x) -ℤ pos 1)) ≡ c.args.x -ℤ pos 1 = omega (arith, ints, law.span_high, c.requires.from.low, c.requires.from.high) in
    let last : c.unit_cost.result ≡ slope value (c.args.x -ℤ pos 1) = c.unit_cost.ensures ∙ ap (λ z. slope value z) back in
    let fits : SFits w128 c.unit_cost.result = record { sfits = c.unit_cost.type_inv } in
    let below : c.args.lo ≤ℤ (c.args.x -ℤ pos 1) = next_below c.args.lo c.args.x c.requires.above (λ e. c.if-x-lo.false (ap (of_z w64) e)) in
    rw (to_z-of_z w128 c.unit_cost.result fits, to_z-of_z w128 c.args.rise c.ranges.rise) (le_test c.unit_cost.result (slope value (c.args.x -ℤ pos 1)) c.args.rise (c.args.lo ≤ℤ (c.args.x -ℤ pos 1)) last below)
