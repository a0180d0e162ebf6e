use Rattle.sut_readback.proofs.CellsFirst.{first-kept}
use Rattle.sut_readback.proofs.ReadBack.{table-first}
use Rattle.sut_readback.proofs.reading.Reading.new.Goals as goal

pub invariant_of-result : goal.invariant_of-result
invariant_of-result c =
    first-kept c.in_ok-measures.measures.items _ c.in_ok-table.table c.in_ok-measures.ensures (table-first c.args.p.now c.in_ok-table.table c.kept.ensures c.in_ok-table.ensures.belongs)
