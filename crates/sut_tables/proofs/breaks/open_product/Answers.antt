use Rattle.std.proofs.Common.{◌≡◌, ◌∙◌, arith, to_z, of_z}
use mir.Syntax.{w128}
use Rattle.std.proofs.lemmas.Int.{ints}
use Rattle.sut_tables.specs.Identities.{made_and_imported, used_and_serving}
use Rattle.sut_tables.proofs.FirstOf.{unequal-same}
use Rattle.sut_tables.proofs.Sides.{supply-made}
use Rattle.sut_tables.proofs.breaks.open_product.Goals as goal

pub returns : goal.returns
returns c =
    let t = c.args.t.now in
    let left : to_z w128 (of_z w128 c.sum-supply.result) ≡ made_and_imported t c.args.i = omega (arith, ints, c.sum-supply.ensures.value ∙ supply-made t c.args.i) in
    let right : to_z w128 (of_z w128 c.sum.result) ≡ used_and_serving t c.args.i = omega (arith, ints, c.sum.ensures.value) in
    c.unequal.ensures ∙ unequal-same _ _ _ _ _ left right
