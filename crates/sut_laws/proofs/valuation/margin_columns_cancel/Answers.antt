use Rattle.sut_laws.proofs.MarginColumns.{columns-cancel}
use Rattle.sut_laws.proofs.valuation.margin_columns_cancel.Goals as goal

pub returns : goal.returns
returns c = columns-cancel
