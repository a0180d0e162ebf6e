use Rattle.std.proofs.Common.{arith}
use Rattle.sut_tables.proofs.Losses.{product-order}
use Rattle.sut_tables.proofs.rows.loss.Goals as goal

pub returns-in-Band-clause-bound : goal.returns-in-Band-clause-bound
returns-in-Band-clause-bound c =
    product-order c.saturating_sub-beyond.result c.saturating_sub-beyond.result 2000000000000 2000000000000 (omega arith) (omega arith)
