use Rattle.std.proofs.Common.{◌≡◌, ℤ, ◌*ℤ◌, ◌+ℤ◌, ◌-ℤ◌, arith, ap, ◌∙◌}
use Rattle.std.specs.Prelude.{int_lt}
use mir.Syntax.{w128}
use mir.Val.{to_z, of_z}
use Rattle.std.proofs.lemmas.Int.{ints, to_z-of_z}
use Rattle.flow_cost.proofs.settling.pays.Goals as goal

int_lt_same : (a b c d : ℤ) → a ≡ c → b ≡ d → int_lt a b ≡ int_lt c d
int_lt_same a b c d e f = ap (λ t. int_lt t b) e ∙ ap (λ t. int_lt c t) f

pub returns : goal.returns
returns g c =
    let value : ℤ → ℤ = g.C.Cost.value_at c.args.cost.now in
    let law = g.met.C.Cost.lawful c.args.cost.now in
    let after : c.at-after.result ≡ value (c.args.y +ℤ c.args.by) =
    c.at-after.ensures.value ∙ ap value (omega (arith, ints, law.span_high, c.requires.to.low, c.requires.to.high)) in
    let before : c.at-before.result ≡ value c.args.y =
    c.at-before.ensures.value ∙ ap value (omega (arith, ints)) in
    let paid : c.scaled.result ≡ c.args.by *ℤ c.args.slope = grind (arith, to_z-of_z, c.scaled.ensures) in
    int_lt_same (to_z w128 (of_z w128 (to_z w128 (of_z w128 c.at-after.result) -ℤ to_z w128 (of_z w128 c.at-before.result)))) (to_z w128 (of_z w128 c.scaled.result)) (value (c.args.y +ℤ c.args.by) -ℤ value c.args.y) (c.args.by *ℤ c.args.slope)
    (omega (arith, ints, after, before, c.at-after.ensures.in_range, c.at-before.ensures.in_range))
    (omega (arith, ints, paid))
