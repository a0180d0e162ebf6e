use Rattle.std.proofs.Common.{◌≡◌, pos, ◌-ℤ◌, neg_ℤ, ◌*◌, ◌^◌, sym, subst, ap, ◌∙◌, arith}
use Rattle.std.proofs.lemmas.Int.{ints}
use Rattle.std.specs.Int.{int_div_euclid}
use mir.Syntax.{w64, w128}
use mir.Val.{to_z, of_z}
use Rattle.flow_cost.specs.Cost.{IsWithin}
use Rattle.flow_residual.proofs.Slopes.{quotient_small}
use Rattle.flow_residual.proofs.Casts.{same_quotient, turned}
use Rattle.flow_search.proofs.pricing.ceil_by.Goals as goal

pub returns : goal.returns
returns c =
    let a : to_z w128 (of_z w128 (pos 0 -ℤ to_z w128 (of_z w128 c.args.d))) ≡ neg_ℤ c.args.d = omega (arith, ints, c.requires.small.low, c.requires.small.high) in
    let b : to_z w128 (of_z w128 (to_z w64 (of_z w64 c.args.step))) ≡ c.args.step = omega (arith, ints, c.requires.step.low, c.requires.step.high) in
    let q : c.div_euclid.result ≡ int_div_euclid (neg_ℤ c.args.d) c.args.step =
    c.div_euclid.ensures ∙ same_quotient (to_z w128 (of_z w128 (pos 0 -ℤ to_z w128 (of_z w128 c.args.d)))) (to_z w128 (of_z w128 (to_z w64 (of_z w64 c.args.step)))) (neg_ℤ c.args.d) c.args.step a b in
    let small : IsWithin (pos (8 * 10 ^ 28)) (neg_ℤ c.args.d) = record { low = omega (arith, ints, c.requires.small.high); high = omega (arith, ints, c.requires.small.low) } in
    let n : to_z w128 (of_z w128 (pos 0 -ℤ to_z w128 (of_z w128 c.div_euclid.result))) ≡ neg_ℤ c.div_euclid.result = turned c.div_euclid.result (subst (λ z. IsWithin (pos (8 * 10 ^ 28)) z) (sym q) (quotient_small c.args.step (neg_ℤ c.args.d) c.requires.step.low small)) in
    n ∙ ap neg_ℤ q
