use Rattle.std.proofs.Common.{◌≡◌, ◌+◌, ◌∙◌, Ok, Err, ap, subst, arith, length}
use Rattle.csv.specs.Records.{fields_of}
use Rattle.sut_records.proofs.FirstFaultLemmas.{line-judged, lines-ended}
use Rattle.sut_classes.specs.ClassLists.{ClassLists}
use Rattle.sut_source.specs.SourceFile.{source_line}
use Rattle.sut_source.specs.LinedRows.{lined_rows}
use Rattle.sut_source.proofs.read.read_all.Goals as goal

pub source-preserved : goal.source-preserved
source-preserved c =
    let next = rw c.if-branch.true at c.in_ok-next_line.ensures.next in
    let before = lined_rows c.source.problem.rows c.source.lines.entries in
    let after = lined_rows c.add_line.new.problem.rows c.add_line.new.lines.entries in
    let P : ClassLists → Type 0 = λ k. source_line c.args.s.now k (c.source.line + 1) before (fields_of c.next_line.new.row) ≡ Ok after in
    let judged = subst P c.source.invariant.classes (c.in_default.ensures.value tt) in
    let shorter = ap length next in
    record {
      bound = omega (arith, shorter);
      keeps = c.in_default.ensures.keeps;
      classes = c.add_line.ensures.classes ∙ c.source.invariant.classes;
      same = c.source.invariant.same ∙ line-judged (source_line c.args.s.now c.args.problem.now.classes) (c.source.line + 1) before c.source.records (fields_of c.next_line.new.row) c.next_line.new.records (Ok after) next judged;
    }

pub returns-in-Err-clause-value : goal.returns-in-Err-clause-value
returns-in-Err-clause-value c lack =
    let next = rw c.if-branch.true at c.in_ok-next_line.ensures.next in
    let before = lined_rows c.source.problem.rows c.source.lines.entries in
    let P : ClassLists → Type 0 = λ k. source_line c.args.s.now k (c.source.line + 1) before (fields_of c.next_line.new.row) ≡ Err c.in-Err.fault in
    let judged = subst P c.source.invariant.classes (c.in-Err.ensures.value lack) in
    c.source.invariant.same ∙ line-judged (source_line c.args.s.now c.args.problem.now.classes) (c.source.line + 1) before c.source.records (fields_of c.next_line.new.row) c.next_line.new.records (Err c.in-Err.fault) next judged

pub returns-clause-value : goal.returns-clause-value
returns-clause-value c lack =
    let next = rw c.if-branch.false at c.in_ok-next_line.ensures.next in
    c.source.invariant.same
    ∙ lines-ended (source_line c.args.s.now c.args.problem.now.classes) (c.source.line + 1) (lined_rows c.source.problem.rows c.source.lines.entries) c.source.records next
