use Rattle.std.proofs.Common.{◌≡◌, ◌∙◌, arith, to_z, of_z}
use mir.Syntax.{w128}
use Rattle.std.proofs.lemmas.Int.{ints}
use Rattle.sut_tables.specs.Identities.{margins_of, services_of}
use Rattle.sut_tables.proofs.FirstOf.{unequal-same}
use Rattle.sut_tables.proofs.Sides.{margins-total}
use Rattle.sut_tables.proofs.breaks.open_margin.Goals as goal

pub returns : goal.returns
returns c =
    let t = c.args.t.now in
    let left : to_z w128 (of_z w128 c.sum.result) ≡ services_of t c.args.k = omega (arith, ints, c.sum.ensures.value) in
    let right : to_z w128 (of_z w128 c.sum-margins.result) ≡ margins_of t c.args.k = omega (arith, ints, c.sum-margins.ensures.value ∙ margins-total t c.args.k) in
    c.unequal.ensures ∙ unequal-same _ _ _ _ _ left right
