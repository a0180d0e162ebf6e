use Rattle.std.proofs.Common.{sym}
use Rattle.sut_dismissals.proofs.DismissLemmas.{last-year-got}
use Rattle.sut_dismissals.proofs.read.last_year.Goals as goal

pub returns-in-Some : goal.returns-in-Some
returns-in-Some c = sym (last-year-got c.args.lines.now c.in-Some.line.now (sym c.in-Some.ensures.value))
