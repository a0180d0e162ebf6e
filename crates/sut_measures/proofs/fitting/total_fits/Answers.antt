use Rattle.std.proofs.Common.{◌∙◌, ap}
use Rattle.sut_measures.specs.Shapes.{shape_fits}
use Rattle.sut_measures.proofs.ShapeLemmas.{total-fits}
use Rattle.sut_measures.proofs.fitting.total_fits.Goals as goal

pub returns : goal.returns
returns c = c.shape_fits.ensures ∙ ap (shape_fits c.args.classes.now) c.total_shape.ensures ∙ total-fits c.args.classes.now c.args.t
