use Rattle.sut_text.proofs.Keeping.{Keeps-append, Keeps-then}
use Rattle.sut_write.proofs.trail.put_cells.Goals as goal

pub returns-in_err-put_cell-clause-kept : goal.returns-in_err-put_cell-clause-kept
returns-in_err-put_cell-clause-kept c =
    Keeps-then c.args.out.now.items c.loop-held.out.items c.put_cell.new.out.items
    (Keeps-append c.args.out.now.items _ c.loop-held.out.items c.loop-held.invariant) c.in_err-put_cell.ensures.kept
