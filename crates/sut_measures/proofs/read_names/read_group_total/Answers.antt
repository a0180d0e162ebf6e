use Rattle.std.proofs.Common.{◌∙◌, ap, Ok, Result}
use Rattle.sut_records.specs.FirstFault.{and_then}
use Rattle.sut_measures.specs.KindPlaces.{group_total_at, two_read}
use Rattle.sut_measures.specs.Shapes.{total_shape}
use Rattle.sut_measures.specs.declared.faults.NameFault.{NameFault}
use Rattle.sut_measures.specs.declared.measures.Measure.TheVariants as measure
use Rattle.sut_measures.specs.declared.shapes.Place.{Place}
use Rattle.sut_measures.proofs.SpelledLemmas.{group-spelled}
use Rattle.sut_measures.proofs.read_names.read_group_total.Goals as goal

pub returns-in-Ok : goal.returns-in-Ok
returns-in-Ok c =
    let due = c.total_shape-due.ensures ∙ ap total_shape c.group_total_at.ensures in
    let spelled = ap (λ s. and_then (two_read c.args.classes.now s c.args.a.now c.args.b.now) (λ p. Ok (measure.Total (group_total_at c.args.kind p.0 p.1)))) due
    ∙ group-spelled c.args.classes.now c.args.kind c.args.a.now c.args.b.now c.requires in
    ap (λ t. Ok (measure.Total t)) c.group_total_at-in-Ok.ensures ∙ ap (λ (r : Result (Place × Place) NameFault). and_then r (λ p. Ok (measure.Total (group_total_at c.args.kind p.0 p.1)))) c.in-Ok.ensures ∙ spelled

pub returns-in-Err : goal.returns-in-Err
returns-in-Err c =
    let due = c.total_shape-due.ensures ∙ ap total_shape c.group_total_at.ensures in
    let spelled = ap (λ s. and_then (two_read c.args.classes.now s c.args.a.now c.args.b.now) (λ p. Ok (measure.Total (group_total_at c.args.kind p.0 p.1)))) due
    ∙ group-spelled c.args.classes.now c.args.kind c.args.a.now c.args.b.now c.requires in
    ap (λ (r : Result (Place × Place) NameFault). and_then r (λ p. Ok (measure.Total (group_total_at c.args.kind p.0 p.1)))) c.in-Err.ensures ∙ spelled
