use Rattle.std.proofs.Common.{sym, ◌∙◌, ap}
use Rattle.sut_edits.specs.Edits.{edited}
use Rattle.sut_session.proofs.LastTables.{table-after_set}
use Rattle.sut_session.proofs.last_tables.with_same_cells.Goals as goal

pub returns-in-Set : goal.returns-in-Set
returns-in-Set c = λ q p of e. table-after_set c.args.table q p _ of (ap (edited q) (sym c.in-Set.is) ∙ e)
