use Rattle.std.proofs.Common.{◌∙◌, ap}
use Rattle.sut_measures.specs.Keys.{measure_key}
use Rattle.sut_measures.proofs.OrderLemmas.{measure_order}
use Rattle.sut_tables.specs.LiveTallies.{measure_cmp}
use Rattle.sut_tables.specs.Tables.{first_above}
use Rattle.sut_tables.proofs.TallyKeys.{key_above-is}
use Rattle.sut_tables.proofs.live_lists.next_live.Goals as goal

pub returns : goal.returns
returns c = c.next_above.ensures ∙ key_above-is measure_cmp measure_key measure_order c.args.after _ ∙ ap (first_above measure_key c.args.after) c.live_measures.ensures
