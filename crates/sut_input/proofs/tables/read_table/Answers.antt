use Rattle.std.proofs.Common.{sym}
use Rattle.sut_input.proofs.TableSteps.{table-broken, table-given, table-refused}
use Rattle.sut_input.proofs.tables.read_table.Goals as goal

pub returns-in-None-clause-ok : goal.returns-in-None-clause-ok
returns-in-None-clause-ok g c = table-given c.args.p.now (g.F.Shelf.files c.args.shelf.now) c.in-Ok.table c.in-Ok.ensures.ok (sym c.in-None.ensures.first)

pub returns-in-Some-clause-err : goal.returns-in-Some-clause-err
returns-in-Some-clause-err g c = table-broken c.args.p.now (g.F.Shelf.files c.args.shelf.now) c.in-Ok.table c.in-Some.broken c.in-Ok.ensures.ok (sym c.in-Some.ensures.first)

pub returns-in-Err-clause-err : goal.returns-in-Err-clause-err
returns-in-Err-clause-err g c = table-refused c.args.p.now (g.F.Shelf.files c.args.shelf.now) c.in-Err.fault c.in-Err.ensures.err
