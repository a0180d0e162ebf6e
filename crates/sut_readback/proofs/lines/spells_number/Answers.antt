use Rattle.std.proofs.Common.{◌<◌, ◌^◌, ◌∙◌, ap, sym, arith, rules}
use Rattle.std.specs.Ordering.{int_eq}
use Rattle.std.proofs.lemmas.Int.{ints, to_z-of_z}
use lib.Signed.{mag}
use mir.Syntax.{w64, w128}
use mir.Val.{SFits}
use Rattle.sut_readback.proofs.Spelled.{same-bits, spells-fault, spells-read}
use Rattle.sut_readback.proofs.lines.spells_number.Goals as goal

pub returns-in-Ok : goal.returns-in-Ok
returns-in-Ok c =
    let small : mag c.args.n < 2 ^ 127 = omega (arith, ints, c.ranges.n) in
    let number : SFits w128 c.in-Ok.number = search rules in
    let printed : SFits w128 c.from.result = record { sfits = c.from.type_inv } in
    same-bits c.in-Ok.number c.from.result number printed
    ∙ ap (int_eq c.in-Ok.number) (c.from.ensures ∙ to_z-of_z w64 c.args.n c.ranges.n)
    ∙ spells-read c.args.text.now c.args.n small c.in-Ok.number (sym c.read_whole.ensures ∙ c.in-Ok.is)

pub returns-in-Err : goal.returns-in-Err
returns-in-Err c = spells-fault c.args.text.now c.args.n (omega (arith, ints, c.ranges.n)) c.in-Err.field-0 (sym c.read_whole.ensures ∙ c.in-Err.is)
