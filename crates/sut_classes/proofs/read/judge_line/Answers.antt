use Rattle.std.proofs.Common.{sym, ◌∙◌}
use Rattle.csv.specs.Records.{fields_of}
use Rattle.sut_classes.proofs.LineLemmas.{line-csv, line-axis, line-code, line-kind, line-group, line-taken, line-many, line-good, line-allowed}
use Rattle.sut_classes.proofs.read.judge_line.Goals as goal

pub returns-then-not-has_width-clause-judged : goal.returns-then-not-has_width-clause-judged
returns-then-not-has_width-clause-judged c = line-csv c.args.line c.args.classes.now (fields_of c.args.row.now) (sym c.has_width.ensures ∙ c.if-not-has_width.true)

pub returns-in_default-clause-judged : goal.returns-in_default-clause-judged
returns-in_default-clause-judged c = line-axis c.args.line c.args.classes.now (fields_of c.args.row.now) (sym c.has_width.ensures ∙ c.if-not-has_width.false) (sym c.line_axis.ensures ∙ c.in_default.is)

pub returns-then-not-has_code-clause-judged : goal.returns-then-not-has_code-clause-judged
returns-then-not-has_code-clause-judged c = line-code c.args.line c.args.classes.now (fields_of c.args.row.now) c.in-Some.axis (sym c.has_width.ensures ∙ c.if-not-has_width.false) (sym c.line_axis.ensures ∙ c.in-Some.is) (sym c.has_code.ensures ∙ c.if-not-has_code.true)

pub returns-in_default-line_kind-clause-judged : goal.returns-in_default-line_kind-clause-judged
returns-in_default-line_kind-clause-judged c = line-kind c.args.line c.args.classes.now (fields_of c.args.row.now) c.in-Some.axis (sym c.has_width.ensures ∙ c.if-not-has_width.false) (sym c.line_axis.ensures ∙ c.in-Some.is) (sym c.has_code.ensures ∙ c.if-not-has_code.false) (sym c.line_kind.ensures ∙ c.in_default-line_kind.is)

pub returns-in_default-line_group-clause-judged : goal.returns-in_default-line_group-clause-judged
returns-in_default-line_group-clause-judged c = line-group c.args.line c.args.classes.now (fields_of c.args.row.now) c.in-Some.axis c.in-Some-line_kind.kind (sym c.has_width.ensures ∙ c.if-not-has_width.false) (sym c.line_axis.ensures ∙ c.in-Some.is) (sym c.has_code.ensures ∙ c.if-not-has_code.false) (sym c.line_kind.ensures ∙ c.in-Some-line_kind.is) (sym c.line_group.ensures ∙ c.in_default-line_group.is)

pub returns-then-has_taken-clause-judged : goal.returns-then-has_taken-clause-judged
returns-then-has_taken-clause-judged c = line-taken c.args.line c.args.classes.now (fields_of c.args.row.now) c.in-Some.axis c.in-Some-line_kind.kind c.in-Some-line_group.group (sym c.has_width.ensures ∙ c.if-not-has_width.false) (sym c.line_axis.ensures ∙ c.in-Some.is) (sym c.has_code.ensures ∙ c.if-not-has_code.false) (sym c.line_kind.ensures ∙ c.in-Some-line_kind.is) (sym c.line_group.ensures ∙ c.in-Some-line_group.is) (sym c.has_taken.ensures ∙ c.if-has_taken.true)

pub returns-then-not-has_room-clause-judged : goal.returns-then-not-has_room-clause-judged
returns-then-not-has_room-clause-judged c = line-many c.args.line c.args.classes.now (fields_of c.args.row.now) c.in-Some.axis c.in-Some-line_kind.kind c.in-Some-line_group.group (sym c.has_width.ensures ∙ c.if-not-has_width.false) (sym c.line_axis.ensures ∙ c.in-Some.is) (sym c.has_code.ensures ∙ c.if-not-has_code.false) (sym c.line_kind.ensures ∙ c.in-Some-line_kind.is) (sym c.line_group.ensures ∙ c.in-Some-line_group.is) (sym c.has_taken.ensures ∙ c.if-has_taken.false) (sym c.has_room.ensures ∙ c.if-not-has_room.true)

pub returns-clause-judged : goal.returns-clause-judged
returns-clause-judged c = line-good c.args.line c.args.classes.now (fields_of c.args.row.now) c.in-Some.axis c.in-Some-line_kind.kind c.in-Some-line_group.group (sym c.has_width.ensures ∙ c.if-not-has_width.false) (sym c.line_axis.ensures ∙ c.in-Some.is) (sym c.has_code.ensures ∙ c.if-not-has_code.false) (sym c.line_kind.ensures ∙ c.in-Some-line_kind.is) (sym c.line_group.ensures ∙ c.in-Some-line_group.is) (sym c.has_taken.ensures ∙ c.if-has_taken.false) (sym c.has_room.ensures ∙ c.if-not-has_room.false)

pub returns-clause-allowed : goal.returns-clause-allowed
returns-clause-allowed c = line-allowed c.args.classes.now (fields_of c.args.row.now) c.in-Some.axis c.in-Some-line_kind.kind c.in-Some-line_group.group (sym c.line_axis.ensures ∙ c.in-Some.is) (sym c.has_code.ensures ∙ c.if-not-has_code.false) (sym c.line_kind.ensures ∙ c.in-Some-line_kind.is) (sym c.line_group.ensures ∙ c.in-Some-line_group.is) (sym c.has_taken.ensures ∙ c.if-has_taken.false) (sym c.has_room.ensures ∙ c.if-not-has_room.false)
