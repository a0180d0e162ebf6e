use Rattle.std.proofs.Common.{◌∙◌, ap, Result}
use Rattle.sut_records.specs.FirstFault.{and_then}
use Rattle.sut_measures.specs.KindPlaces.{cell_at, cell_read, place_read, two_read}
use Rattle.sut_measures.specs.Shapes.{Shape, seen, cell_shape}
use Rattle.sut_measures.specs.declared.faults.Field.TheVariants as field
use Rattle.sut_measures.specs.declared.faults.NameFault.{NameFault}
use Rattle.sut_measures.specs.declared.shapes.Place.{Place}
use Rattle.sut_measures.proofs.SpelledLemmas.{cell-spelled}
use Rattle.sut_measures.proofs.read_names.read_cell.Goals as goal

pub returns-in-Err : goal.returns-in-Err
returns-in-Err c =
    let due = c.cell_shape-due.ensures ∙ ap cell_shape c.cell_at.ensures in
    let spelled = ap (λ (s : Shape). and_then (two_read c.args.classes.now s c.args.a.now c.args.b.now) (λ p. and_then (place_read c.args.classes.now s.c field.C c.args.c.now) (λ z. cell_read c.args.classes.now (cell_at c.args.kind p.0 p.1 z)))) due
    ∙ cell-spelled c.args.classes.now c.args.kind c.args.a.now c.args.b.now c.args.c.now in
    ap (λ (r : Result (Place × Place) NameFault). and_then r (λ p. and_then (place_read c.args.classes.now (seen c.cell_shape-due.result).c field.C c.args.c.now) (λ z. cell_read c.args.classes.now (cell_at c.args.kind p.0 p.1 z)))) c.in-Err.ensures ∙ spelled

pub returns-in-Ok-read_third : goal.returns-in-Ok-read_third
returns-in-Ok-read_third c =
    let due = c.cell_shape-due.ensures ∙ ap cell_shape c.cell_at.ensures in
    let spelled = ap (λ (s : Shape). and_then (two_read c.args.classes.now s c.args.a.now c.args.b.now) (λ p. and_then (place_read c.args.classes.now s.c field.C c.args.c.now) (λ z. cell_read c.args.classes.now (cell_at c.args.kind p.0 p.1 z)))) due
    ∙ cell-spelled c.args.classes.now c.args.kind c.args.a.now c.args.b.now c.args.c.now in
    c.measure_of_cell.ensures ∙ ap (cell_read c.args.classes.now) c.cell_at-in-Ok-read_third.ensures
    ∙ ap (λ (r : Result Place NameFault). and_then r (λ z. cell_read c.args.classes.now (cell_at c.args.kind c.in-Ok.read.0 c.in-Ok.read.1 z))) c.in-Ok-read_third.ensures
    ∙ ap (λ (r : Result (Place × Place) NameFault). and_then r (λ p. and_then (place_read c.args.classes.now (seen c.cell_shape-due.result).c field.C c.args.c.now) (λ z. cell_read c.args.classes.now (cell_at c.args.kind p.0 p.1 z)))) c.in-Ok.ensures ∙ spelled

pub returns-in-Err-read_third : goal.returns-in-Err-read_third
returns-in-Err-read_third c =
    let due = c.cell_shape-due.ensures ∙ ap cell_shape c.cell_at.ensures in
    let spelled = ap (λ (s : Shape). and_then (two_read c.args.classes.now s c.args.a.now c.args.b.now) (λ p. and_then (place_read c.args.classes.now s.c field.C c.args.c.now) (λ z. cell_read c.args.classes.now (cell_at c.args.kind p.0 p.1 z)))) due
    ∙ cell-spelled c.args.classes.now c.args.kind c.args.a.now c.args.b.now c.args.c.now in
    ap (λ (r : Result Place NameFault). and_then r (λ z. cell_read c.args.classes.now (cell_at c.args.kind c.in-Ok.read.0 c.in-Ok.read.1 z))) c.in-Err-read_third.ensures
    ∙ ap (λ (r : Result (Place × Place) NameFault). and_then r (λ p. and_then (place_read c.args.classes.now (seen c.cell_shape-due.result).c field.C c.args.c.now) (λ z. cell_read c.args.classes.now (cell_at c.args.kind p.0 p.1 z)))) c.in-Ok.ensures ∙ spelled
