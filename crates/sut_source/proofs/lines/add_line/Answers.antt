use Rattle.std.proofs.Common.{◌∙◌, ap₂, sym}
use Rattle.csv.specs.Records.{fields_of}
use Rattle.sut_classes.specs.ClassLists.{ClassLists}
use Rattle.sut_source.specs.RowFile.{RowFields, row_in}
use Rattle.sut_source.specs.LinedRows.{lined_rows}
use Rattle.sut_source.proofs.SourceLemmas.{line-added, line-fault, line-refused, line-short}
use Rattle.sut_source.proofs.lines.add_line.Goals as goal

pub returns-then-not-has_eight_fields-clause-value :
    goal.returns-then-not-has_eight_fields-clause-value
returns-then-not-has_eight_fields-clause-value c lack =
    line-short c.args.s.now c.args.problem.now.classes c.args.line (lined_rows c.args.problem.now.rows c.args.lines.now.entries) (fields_of c.args.row.now)
    (sym c.has_eight_fields.ensures ∙ c.if-not-has_eight_fields.true)

pub returns-in-Err-clause-value : goal.returns-in-Err-clause-value
returns-in-Err-clause-value c lack =
    let same = ap₂ (λ (k : ClassLists) (f : RowFields). row_in c.args.s.now k f) c.classes.ensures c.row_text.ensures in
    line-fault c.args.s.now c.args.problem.now.classes c.args.line (lined_rows c.args.problem.now.rows c.args.lines.now.entries) (fields_of c.args.row.now) c.in-Err.cause
    (sym c.has_eight_fields.ensures ∙ c.if-not-has_eight_fields.false) (sym same ∙ sym c.row_from.ensures.value ∙ c.in-Err.is)

pub returns-in-Ok-add_row-clause-value : goal.returns-in-Ok-add_row-clause-value
returns-in-Ok-add_row-clause-value c lack =
    let same = ap₂ (λ (k : ClassLists) (f : RowFields). row_in c.args.s.now k f) c.classes.ensures c.row_text.ensures in
    line-added c.args.s.now c.args.problem.now.classes c.args.line (lined_rows c.args.problem.now.rows c.args.lines.now.entries) (fields_of c.args.row.now) c.in-Ok.read _
    (sym c.has_eight_fields.ensures ∙ c.if-not-has_eight_fields.false) (sym same ∙ sym c.row_from.ensures.value ∙ c.in-Ok.is)
    (c.in-Ok-add_row.ensures.value (λ e. cc))

pub returns-in-Err-add_row-clause-value : goal.returns-in-Err-add_row-clause-value
returns-in-Err-add_row-clause-value c lack =
    let same = ap₂ (λ (k : ClassLists) (f : RowFields). row_in c.args.s.now k f) c.classes.ensures c.row_text.ensures in
    line-refused c.args.s.now c.args.problem.now.classes c.args.line (lined_rows c.args.problem.now.rows c.args.lines.now.entries) (fields_of c.args.row.now) c.in-Ok.read c.in-Err-add_row.cause
    (sym c.has_eight_fields.ensures ∙ c.if-not-has_eight_fields.false) (sym same ∙ sym c.row_from.ensures.value ∙ c.in-Ok.is)
    (c.in-Err-add_row.ensures.value (λ e. lack (cc)))
