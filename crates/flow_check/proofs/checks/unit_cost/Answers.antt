use Rattle.std.proofs.Common.{◌≡◌, ℤ, pos, ◌+ℤ◌, ap, ◌∙◌, arith}
use Rattle.std.proofs.lemmas.Int.{ints}
use Rattle.flow_check.proofs.checks.unit_cost.Goals as goal

pub returns : goal.returns
returns g c =
    let value : ℤ → ℤ = g.C.Cost.value_at c.args.cost.now in
    let law = g.met.C.Cost.lawful c.args.cost.now in
    let after : c.at.result ≡ value (c.args.x +ℤ pos 1) = c.at.ensures.value ∙ ap value (omega (arith, ints, law.span_high, c.requires.to.low, c.requires.to.high)) in
    let before : c.at-2.result ≡ value c.args.x = c.at-2.ensures.value ∙ ap value (omega (arith, ints)) in
    omega (arith, ints, after, before, c.at.ensures.in_range, c.at-2.ensures.in_range)
