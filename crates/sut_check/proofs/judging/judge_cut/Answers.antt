use Rattle.sut_check.proofs.Found.{found-no-table, no-table-verdict, refused-cut}
use Rattle.sut_check.proofs.judging.judge_cut.Goals as goal

pub returns-in-Ok : goal.returns-in-Ok
returns-in-Ok c = found-no-table c.args.p.now c.args.s.now _ _ c.in-NoTable.ensures.first c.in-NoTable.ensures.shown c.in-NoTable.ensures.impossible c.in-Ok.lines.items c.in-Ok.ensures

pub returns-in-Refused : goal.returns-in-Refused
returns-in-Refused c = refused-cut c.args.p.now c.args.s.now c.in-Refused.reason c.in-Refused.ensures.first

pub unreachable-requires : goal.unreachable-requires
unreachable-requires c = no-table-verdict c.args.p.now c.args.s.now c.in-Least.ensures.first
