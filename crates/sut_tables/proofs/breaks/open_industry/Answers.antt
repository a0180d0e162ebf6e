use Rattle.std.proofs.Common.{◌≡◌, ◌∙◌, ◌+ℤ◌, arith, to_z, of_z, sym}
use mir.Syntax.{w128}
use Rattle.std.proofs.lemmas.Int.{ints}
use Rattle.sut_tables.specs.Identities.{made_by, inputs_and_added}
use Rattle.sut_tables.proofs.FirstOf.{unequal-same}
use Rattle.sut_tables.proofs.Sides.{inputs-added, output-made}
use Rattle.sut_tables.proofs.breaks.open_industry.Goals as goal

pub returns : goal.returns
returns c =
    let t = c.args.t.now in
    let left : to_z w128 (of_z w128 c.sum-output.result) ≡ made_by t c.args.j = omega (arith, ints, c.sum-output.ensures.value ∙ output-made t c.args.j) in
    let both = inputs-added t c.args.j in
    let right : to_z w128 (of_z w128 (to_z w128 (of_z w128 c.sum-inputs.result) +ℤ to_z w128 (of_z w128 c.sum-value_added.result))) ≡ inputs_and_added t c.args.j =
    omega (arith, ints, both, c.sum-inputs.ensures.value, c.sum-value_added.ensures.value, c.sum-inputs.ensures.small, c.sum-value_added.ensures.small) in
    c.unequal.ensures ∙ unequal-same _ _ _ _ _ left right
