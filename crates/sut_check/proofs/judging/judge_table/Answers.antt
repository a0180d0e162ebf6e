use Rattle.std.proofs.Common.{refl}
use Rattle.sut_check.proofs.Found.{found-least, no-cut-verdict, refused-table}
use Rattle.sut_check.proofs.judging.judge_table.Goals as goal

pub least_text-requires : goal.least_text-requires
least_text-requires c = (c.in-Least.ensures.shown.0 refl).admissible

pub returns-in-Ok : goal.returns-in-Ok
returns-in-Ok c = found-least c.args.p.now c.args.t.now c.args.c.now c.in-Least.ensures.first c.in-Least.ensures.shown c.in-Least.ensures.least c.in-Ok.lines.items c.in-Ok.ensures

pub returns-in-Refused : goal.returns-in-Refused
returns-in-Refused c = refused-table c.args.p.now c.args.t.now c.args.c.now c.in-Refused.reason c.in-Refused.ensures.first

pub unreachable-requires : goal.unreachable-requires
unreachable-requires c = no-cut-verdict c.args.p.now c.args.t.now c.args.c.now _ _ c.in-NoTable.ensures.first
