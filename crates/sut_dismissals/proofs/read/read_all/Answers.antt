use Rattle.std.proofs.Common.{◌+◌, ◌∙◌, Ok, Err, ap, arith, length}
use Rattle.csv.specs.Records.{fields_of}
use Rattle.sut_records.proofs.FirstFaultLemmas.{line-judged, lines-ended}
use Rattle.sut_dismissals.specs.DismissFile.{dismiss_line}
use Rattle.sut_dismissals.proofs.read.read_all.Goals as goal

pub lines-preserved : goal.lines-preserved
lines-preserved c =
    let next = rw c.if-branch.true at c.in_ok-next_line.ensures.next in
    let before = c.lines.lines.items in
    let after = c.add_line.new.lines.items in
    let shorter = ap length next in
    record {
      bound = omega (arith, shorter);
      good = c.in_default.ensures.good;
      same = c.lines.invariant.same ∙ line-judged (dismiss_line c.args.years) (c.lines.line + 1) before c.lines.records (fields_of c.next_line.new.row) c.next_line.new.records (Ok after) next (c.in_default.ensures.value tt);
    }

pub returns-in-Err-clause-value : goal.returns-in-Err-clause-value
returns-in-Err-clause-value c lack =
    let next = rw c.if-branch.true at c.in_ok-next_line.ensures.next in
    c.lines.invariant.same ∙ line-judged (dismiss_line c.args.years) (c.lines.line + 1) c.lines.lines.items c.lines.records (fields_of c.next_line.new.row) c.next_line.new.records (Err c.in-Err.fault) next (c.in-Err.ensures.value lack)

pub returns-clause-value : goal.returns-clause-value
returns-clause-value c lack =
    let next = rw c.if-branch.false at c.in_ok-next_line.ensures.next in
    c.lines.invariant.same ∙ lines-ended (dismiss_line c.args.years) (c.lines.line + 1) c.lines.lines.items c.lines.records next
