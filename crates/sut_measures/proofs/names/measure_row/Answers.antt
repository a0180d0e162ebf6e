use Rattle.std.proofs.Common.{◌≡◌, ◌∙◌, ap}
use Rattle.sut_measures.specs.Names.{name_fields}
use Rattle.sut_measures.specs.Shapes.{seen, shape_fields}
use Rattle.sut_measures.proofs.ShapeLemmas.{measure-fields}
use Rattle.sut_measures.proofs.names.measure_row.Goals as goal

pub returns : goal.returns
returns c =
    let named : shape_fields c.args.classes.now (seen c.measure_shape-shape.result) ≡ name_fields c.args.classes.now c.args.m =
    ap (shape_fields c.args.classes.now) c.measure_shape-shape.ensures ∙ measure-fields c.args.classes.now c.args.m in
    cc (c.as_bytes.ensures.value)
