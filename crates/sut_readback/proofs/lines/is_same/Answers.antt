use Rattle.std.proofs.Common.{◌∙◌, ap}
use Rattle.std.specs.Ordering.{is_eq}
use Rattle.sut_measures.specs.Keys.{measure_key}
use Rattle.sut_tables.proofs.TallyKeys.{eq-same}
use Rattle.sut_readback.proofs.lines.is_same.Goals as goal

pub returns : goal.returns
returns c = c.is_eq.ensures ∙ ap is_eq c.measure_order.ensures ∙ eq-same (measure_key c.args.named) (measure_key c.args.next)
