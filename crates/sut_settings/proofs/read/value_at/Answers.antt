use Rattle.std.proofs.Common.{◌∙◌}
use Rattle.toml.proofs.Views.{table_get}
use Rattle.toml.specs.View.{table_view}
use Rattle.sut_settings.proofs.ReadLemmas.{value-at}
use Rattle.sut_settings.proofs.read.value_at.Goals as goal

pub returns : goal.returns
returns c =
    table_get c.get.result c.args.key.now c.args.table.now.entries c.get.ensures.value ∙ value-at c.args.key.now (table_view c.args.table.now)
