use Rattle.std.proofs.Common.{◌+◌, ◌∙◌, Ok, Err, ap, arith, length}
use Rattle.csv.specs.Records.{fields_of}
use Rattle.sut_records.proofs.FirstFaultLemmas.{line-judged, lines-ended}
use Rattle.sut_classes.specs.ClassFile.{class_line}
use Rattle.sut_classes.proofs.read.read_all.Goals as goal

pub lines-preserved : goal.lines-preserved
lines-preserved c =
    let next = rw c.if-branch.true at c.in_ok-next_line.ensures.next in
    let judged = c.in_default.ensures (λ e. cc e) in
    let shorter = ap length next in
    record {
      bound = omega (arith, shorter);
      same = c.lines.invariant.same ∙ line-judged class_line (c.lines.line + 1) c.lines.classes c.lines.records (fields_of c.next_line.new.row) c.next_line.new.records (Ok c.add_line.new.classes) next judged;
    }

pub returns-in-Err : goal.returns-in-Err
returns-in-Err c lack =
    let next = rw c.if-branch.true at c.in_ok-next_line.ensures.next in
    c.lines.invariant.same ∙ line-judged class_line (c.lines.line + 1) c.lines.classes c.lines.records (fields_of c.next_line.new.row) c.next_line.new.records (Err c.in-Err.fault) next (c.in-Err.ensures lack)

pub returns : goal.returns
returns c lack =
    let next = rw c.if-branch.false at c.in_ok-next_line.ensures.next in
    c.lines.invariant.same ∙ lines-ended class_line (c.lines.line + 1) c.lines.classes c.lines.records next
