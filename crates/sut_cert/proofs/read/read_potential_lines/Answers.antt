use Rattle.std.proofs.Common.{◌∙◌, Ok, Err, ap, arith, length}
use Rattle.csv.specs.Records.{fields_of}
use Rattle.sut_records.proofs.FirstFaultLemmas.{line-judged, lines-ended}
use Rattle.sut_cert.specs.CertificateFile.{potential_line}
use Rattle.sut_cert.proofs.read.read_potential_lines.Goals as goal

pub lines-preserved : goal.lines-preserved
lines-preserved c =
    let next = rw c.if-branch.true at c.in_ok-next_line.ensures.next in
    let judged = c.in_default.ensures tt in
    let shorter = ap length next in
    record {
      bound = omega (arith, shorter);
      count = omega (arith, shorter);
      same = c.lines.invariant.same ∙ line-judged (potential_line c.args.classes.now c.args.live.now) c.lines.line c.lines.given.items c.lines.records (fields_of c.next_line.new.row) c.next_line.new.records (Ok c.add_potential.new.given.items) next judged;
    }

pub returns-in-Err-clause-value : goal.returns-in-Err-clause-value
returns-in-Err-clause-value c lack =
    let next = rw c.if-branch.true at c.in_ok-next_line.ensures.next in
    c.lines.invariant.same ∙ line-judged (potential_line c.args.classes.now c.args.live.now) c.lines.line c.lines.given.items c.lines.records (fields_of c.next_line.new.row) c.next_line.new.records (Err c.in-Err.fault) next (c.in-Err.ensures lack)

pub returns-clause-value : goal.returns-clause-value
returns-clause-value c lack =
    let next = rw c.if-branch.false at c.in_ok-next_line.ensures.next in
    c.lines.invariant.same ∙ lines-ended (potential_line c.args.classes.now c.args.live.now) c.lines.line c.lines.given.items c.lines.records next

pub returns-clause-end : goal.returns-clause-end
returns-clause-end c =
    let next = rw c.if-branch.false at c.in_ok-next_line.ensures.next in
    let none = ap length next in
    omega (arith, none)
