use Rattle.std.proofs.Common.{◌∙◌, arith}
use mir.Syntax.{w128}
use mir.Val.{SFits}
use Rattle.std.proofs.lemmas.Int.{ints, to_z-of_z}
use Rattle.sut_tables.proofs.SumChanges.{sign-high}
use Rattle.sut_tables.proofs.sums.signed.Goals as goal

pub returns-else-sign_within-lt0-clause-product : goal.returns-else-sign_within-lt0-clause-product
returns-else-sign_within-lt0-clause-product c =
    let fits : SFits w128 c.args.change = c.ranges.change in
    to_z-of_z w128 c.args.change fits ∙ rw c.in-Total.is (sign-high c.args.c c.in-Total.t c.args.change (omega (arith, ints, c.sign_within.ensures)))
