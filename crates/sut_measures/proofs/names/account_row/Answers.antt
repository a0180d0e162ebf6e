use Rattle.std.proofs.Common.{◌≡◌, ◌∙◌, ap}
use Rattle.sut_measures.specs.Names.{account_fields}
use Rattle.sut_measures.specs.Shapes.{seen, account_shape_fields}
use Rattle.sut_measures.proofs.ShapeLemmas.{account-fields}
use Rattle.sut_measures.proofs.names.account_row.Goals as goal

pub returns : goal.returns
returns c =
    let named : account_shape_fields c.args.classes.now (seen c.account_shape-shape.result) ≡ account_fields c.args.classes.now c.args.a =
    ap (account_shape_fields c.args.classes.now) c.account_shape-shape.ensures ∙ account-fields c.args.classes.now c.args.a in
    cc (c.as_bytes.ensures.value)
