use Rattle.std.proofs.Common.{◌∙◌, Ok, ap, sym, rules}
use Rattle.std.proofs.lemmas.Int.{to_z-of_z}
use mir.Syntax.{w128}
use mir.Val.{SFits}
use Rattle.csv.specs.Records.{fields_of}
use Rattle.sut_readback.proofs.LineLemmas.{value-csv, value-good, value-measure, value-number, value-target}
use Rattle.sut_readback.proofs.lines.line_value.Goals as goal

pub returns-then-not-has_six_fields-clause-value : goal.returns-then-not-has_six_fields-clause-value
returns-then-not-has_six_fields-clause-value c = sym (value-csv c.args.p.now c.args.next (fields_of c.args.row.now) (sym c.has_six_fields.ensures ∙ c.if-not-has_six_fields.true))

pub returns-in_default-clause-value : goal.returns-in_default-clause-value
returns-in_default-clause-value c = sym (value-measure c.args.p.now c.args.next (fields_of c.args.row.now) (sym c.has_six_fields.ensures ∙ c.if-not-has_six_fields.false) (sym c.next_named.ensures ∙ c.in_default.is))

pub returns-then-not-has_target-clause-value : goal.returns-then-not-has_target-clause-value
returns-then-not-has_target-clause-value c = sym (value-target c.args.p.now c.args.next (fields_of c.args.row.now) c.in-Some.measure (sym c.has_six_fields.ensures ∙ c.if-not-has_six_fields.false) (sym c.next_named.ensures ∙ c.in-Some.is) (sym c.has_target.ensures ∙ c.if-not-has_target.true))

pub returns-in-Ok-clause-value : goal.returns-in-Ok-clause-value
returns-in-Ok-clause-value c =
    let fits : SFits w128 c.in-Ok.number = search rules in
    sym (value-good c.args.p.now c.args.next (fields_of c.args.row.now) c.in-Some.measure c.in-Ok.number (sym c.has_six_fields.ensures ∙ c.if-not-has_six_fields.false) (sym c.next_named.ensures ∙ c.in-Some.is) (sym c.has_target.ensures ∙ c.if-not-has_target.false) (sym c.line_number.ensures ∙ c.in-Ok.is)
    ∙ ap (λ x. Ok (c.in-Some.measure, x)) (sym (to_z-of_z w128 c.in-Ok.number fits)))

pub returns-in-Err-clause-value : goal.returns-in-Err-clause-value
returns-in-Err-clause-value c = sym (value-number c.args.p.now c.args.next (fields_of c.args.row.now) c.in-Some.measure c.in-Err.cause (sym c.has_six_fields.ensures ∙ c.if-not-has_six_fields.false) (sym c.next_named.ensures ∙ c.in-Some.is) (sym c.has_target.ensures ∙ c.if-not-has_target.false) (sym c.line_number.ensures ∙ c.in-Err.is))
