use Rattle.std.proofs.Common.{◌∙◌, Ok, Err, ap, arith, length}
use Rattle.csv.specs.Records.{fields_of}
use Rattle.sut_records.proofs.FirstFaultLemmas.{line-judged, lines-ended}
use Rattle.sut_readback.specs.BalancedFile.{table_line}
use Rattle.sut_readback.proofs.read.read_all.Goals as goal

pub lines-preserved : goal.lines-preserved
lines-preserved c =
    let next = rw c.if-branch.true at c.in_ok-next_line.ensures.next in
    let shorter = ap length next in
    record {
      count = omega (arith, shorter, c.lines.invariant.count);
      same = c.lines.invariant.same ∙ line-judged (table_line c.args.p.now) c.lines.line c.lines.reading c.lines.records (fields_of c.next_line.new.row) c.next_line.new.records (Ok c.read_line.new.reading) next c.in_default.ensures;
    }

pub returns-in-Err-clause-read : goal.returns-in-Err-clause-read
returns-in-Err-clause-read c lack =
    let next = rw c.if-branch.true at c.in_ok-next_line.ensures.next in
    c.lines.invariant.same ∙ line-judged (table_line c.args.p.now) c.lines.line c.lines.reading c.lines.records (fields_of c.next_line.new.row) c.next_line.new.records (Err c.in-Err.fault) next c.in-Err.ensures

pub returns-clause-read : goal.returns-clause-read
returns-clause-read c lack =
    let next = rw c.if-branch.false at c.in_ok-next_line.ensures.next in
    c.lines.invariant.same ∙ lines-ended (table_line c.args.p.now) c.lines.line c.lines.reading c.lines.records next

pub returns-clause-end : goal.returns-clause-end
returns-clause-end c =
    let next = rw c.if-branch.false at c.in_ok-next_line.ensures.next in
    let none = ap length next in
    omega (arith, none, c.lines.invariant.count)
