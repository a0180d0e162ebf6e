use Rattle.std.proofs.Common.{◌≡◌, ℤ, ◌-ℤ◌, sym, subst, ◌∙◌, arith}
use Rattle.std.proofs.lemmas.Int.{ints, to_z-of_z}
use mir.Syntax.{w64, w128}
use mir.Val.{to_z, of_z, SFits}
use Rattle.flow_cost.specs.Cost.{IsWithin}
use Rattle.flow_cost.specs.Condition.{slope_down}
use Rattle.flow_residual.specs.Edges.{slope_limit}
use Rattle.flow_residual.proofs.Casts.{same_floor, same_difference}
use Rattle.flow_residual.proofs.Slopes.{price_down_small}
use Rattle.flow_search.proofs.pricing.saving_down.Given.{Over}
use Rattle.flow_search.proofs.pricing.saving_down.Goals as goal

value_is : (g : Over) (c : goal.After-floor_by g) → to_z w128 (of_z w128 c.floor_by.result) ≡ slope_down (g.C.Cost.value_at c.args.cost.now) c.args.step c.args.x
value_is g c =
    let value : ℤ → ℤ = g.C.Cost.value_at c.args.cost.now in
    let law = g.met.C.Cost.lawful c.args.cost.now in
    let x : to_z w64 (of_z w64 c.args.x) ≡ c.args.x = to_z-of_z w64 c.args.x c.ranges.x in
    let step : to_z w64 (of_z w64 c.args.step) ≡ c.args.step = to_z-of_z w64 c.args.step c.ranges.step in
    let less : to_z w64 (of_z w64 (to_z w64 (of_z w64 c.args.x) -ℤ to_z w64 (of_z w64 c.args.step))) ≡ c.args.x -ℤ c.args.step =
    omega (arith, ints, law.span_high, c.requires.to.low, c.requires.to.high) in
    let fits : SFits w128 c.difference.result = record { sfits = c.difference.type_inv } in
    let fits2 : SFits w128 c.floor_by.result = record { sfits = c.floor_by.type_inv } in
    let dif : to_z w128 (of_z w128 c.difference.result) ≡ value c.args.x -ℤ value (c.args.x -ℤ c.args.step) =
    to_z-of_z w128 c.difference.result fits ∙ c.difference.ensures.value
    ∙ same_difference value (to_z w64 (of_z w64 c.args.x)) (to_z w64 (of_z w64 (to_z w64 (of_z w64 c.args.x) -ℤ to_z w64 (of_z w64 c.args.step)))) c.args.x (c.args.x -ℤ c.args.step) x less in
    to_z-of_z w128 c.floor_by.result fits2 ∙ c.floor_by.ensures
    ∙ same_floor (to_z w128 (of_z w128 c.difference.result)) (to_z w64 (of_z w64 c.args.step)) (value c.args.x -ℤ value (c.args.x -ℤ c.args.step)) c.args.step dif step

pub returns-clause-value : goal.returns-clause-value
returns-clause-value g c = value_is g c

pub returns-clause-small : goal.returns-clause-small
returns-clause-small g c =
    subst (λ t. IsWithin slope_limit t) (sym (value_is g c))
    (price_down_small (g.C.Cost.value_at c.args.cost.now) (g.C.Cost.span_of c.args.cost.now) (g.met.C.Cost.lawful c.args.cost.now) c.args.step c.args.x c.requires.step.low c.requires.from c.requires.to)
