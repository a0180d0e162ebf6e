use Rattle.std.proofs.Common.{◌∙◌, ap, sym, rules}
use Rattle.std.proofs.lemmas.Int.{to_z-of_z}
use mir.Syntax.{w128}
use mir.Val.{SFits}
use Rattle.csv.specs.Records.{fields_of}
use Rattle.sut_readback.specs.BalancedFile.{value_in, with_value}
use Rattle.sut_readback.proofs.LineLemmas.{given-fault, given-value}
use Rattle.sut_readback.proofs.read.take_line.Goals as goal

pub returns-in-Ok : goal.returns-in-Ok
returns-in-Ok c =
    let row = fields_of c.args.row.now in
    let fits : SFits w128 c.in-Ok.value.1 = search rules in
    given-value c.args.p.now c.args.reading.now row c.in-Ok.value _
    (ap (λ next. value_in c.args.p.now next row) (sym c.next.ensures) ∙ sym c.line_value.ensures.value ∙ c.in-Ok.is)
    (ap (λ x. with_value c.args.reading.now c.in-Ok.value.0 x) (sym (to_z-of_z w128 c.in-Ok.value.1 fits)) ∙ c.take_value.ensures)

pub returns-in-Err : goal.returns-in-Err
returns-in-Err c =
    let row = fields_of c.args.row.now in
    given-fault c.args.p.now c.args.reading.now row c.in-Err.cause
    (ap (λ next. value_in c.args.p.now next row) (sym c.next.ensures) ∙ sym c.line_value.ensures.value ∙ c.in-Err.is)
