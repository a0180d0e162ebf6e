use Rattle.sut_source.proofs.LinedLemmas.{keeps-empty}
use Rattle.sut_source.proofs.SourceLemmas.{read-fault, read-rows}
use Rattle.sut_source.proofs.read.read_under.Goals as goal

pub read_all-requires-clause-keeps : goal.read_all-requires-clause-keeps
read_all-requires-clause-keeps c = keeps-empty c.new-problem.result.rows c.new-lines.result.entries c.new-problem.ensures.rows c.new-lines.ensures.empty

pub returns-in-Ok : goal.returns-in-Ok
returns-in-Ok c lack =
    read-rows c.args.s.now c.args.classes c.args.records.now c.new-problem.result c.read_all.new.problem c.new-lines.result.entries c.read_all.new.lines.entries
    c.new-problem.ensures.classes c.new-problem.ensures.rows c.in-Ok.ensures.classes c.in-Ok.ensures.keeps (c.in-Ok.ensures.value tt)

pub returns-in-Err : goal.returns-in-Err
returns-in-Err c lack =
    read-fault c.args.s.now c.args.classes c.args.records.now c.new-problem.result c.new-lines.result.entries c.in-Err.fault
    c.new-problem.ensures.classes c.new-problem.ensures.rows (c.in-Err.ensures.value lack)
