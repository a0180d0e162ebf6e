use Rattle.std.proofs.Common.{◌∙◌, Ok, Err, ap, arith, length}
use Rattle.csv.specs.Records.{fields_of}
use Rattle.sut_records.proofs.FirstFaultLemmas.{line-judged, lines-ended}
use Rattle.sut_asks.specs.AsksFile.{ask_line}
use Rattle.sut_asks.proofs.read.read_lines_left.Goals as goal

pub lines-preserved : goal.lines-preserved
lines-preserved c =
    let next = rw c.if-branch.true at c.in_ok-next_line.ensures.next in
    let shorter = ap length next in
    record {
      bound = omega (arith, shorter);
      same = c.lines.invariant.same ∙ line-judged (ask_line c.args.p.now) c.lines.line c.lines.asks.items c.lines.records (fields_of c.next_line.new.row) c.next_line.new.records (Ok c.add_ask.new.asks.items) next (c.in_default.ensures tt);
    }

pub returns-in-Err : goal.returns-in-Err
returns-in-Err c lack =
    let next = rw c.if-branch.true at c.in_ok-next_line.ensures.next in
    c.lines.invariant.same ∙ line-judged (ask_line c.args.p.now) c.lines.line c.lines.asks.items c.lines.records (fields_of c.next_line.new.row) c.next_line.new.records (Err c.in-Err.fault) next (c.in-Err.ensures lack)

pub returns : goal.returns
returns c lack =
    let next = rw c.if-branch.false at c.in_ok-next_line.ensures.next in
    c.lines.invariant.same ∙ lines-ended (ask_line c.args.p.now) c.lines.line c.lines.asks.items c.lines.records next
