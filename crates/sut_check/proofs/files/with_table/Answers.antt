use Rattle.sut_check.proofs.ReadAnswers as read
use Rattle.sut_check.proofs.files.with_table.Goals as goal

pub returns-in-Ok-clause-ok : goal.returns-in-Ok-clause-ok
returns-in-Ok-clause-ok g c = read.with-table c.args.p.now (g.F.Shelf.files c.args.shelf.now) c.in-Ok.table c.args.potentials c.in-Ok.ensures.ok

pub returns-in-Err-clause-err : goal.returns-in-Err-clause-err
returns-in-Err-clause-err g c = read.without-table c.args.p.now (g.F.Shelf.files c.args.shelf.now) c.args.potentials c.in-Err.fault c.in-Err.ensures.err
