use Rattle.std.proofs.Common.{◌∙◌, Err, ap, sym}
use Rattle.std.specs.BTreeMap.{insert_entry, is_at}
use Rattle.std.specs.Map.{lookup}
use Rattle.sut_tables.specs.LiveTallies.{measure_cmp}
use Rattle.sut_tables.specs.Problems.{row_at}
use Rattle.sut_source.proofs.LinedLemmas.{absent-some, added-full, added-keeps, added-row, added-there, lined-absent}
use Rattle.sut_source.proofs.lines.add_row.Goals as goal

pub returns-in-Some-clause-value : goal.returns-in-Some-clause-value
returns-in-Some-clause-value c lack =
    added-there c.args.problem.now.classes c.args.line c.args.problem.now.rows c.args.lines.now.entries c.args.row c.in-Some.first c.requires.keeps
    (ap (λ m. lookup (is_at (measure_cmp m)) c.args.lines.now.entries) (sym c.measure-measure.ensures) ∙ sym c.line_of.ensures ∙ c.in-Some.is)

pub unreachable-requires : goal.unreachable-requires
unreachable-requires c =
    let absent = ap (λ m. lookup (is_at (measure_cmp m)) c.args.lines.now.entries) (sym c.measure-measure.ensures) ∙ sym c.line_of.ensures ∙ c.in_default.is in
    absent-some (row_at c.args.problem.now c.args.row.measure) (lined-absent c.args.row.measure c.args.problem.now.rows c.args.lines.now.entries c.requires.keeps absent)
    (c.in-Err-There.ensures.there (ap Err c.in-Err-There.field-0-is))

pub returns-in-Ok-insert-clause-keeps : goal.returns-in-Ok-insert-clause-keeps
returns-in-Ok-insert-clause-keeps c =
    let absent = ap (λ m. lookup (is_at (measure_cmp m)) c.args.lines.now.entries) (sym c.measure-measure.ensures) ∙ sym c.line_of.ensures ∙ c.in_default.is in
    let put = c.in-Ok-insert.ensures.entries ∙ ap (λ m. insert_entry measure_cmp c.args.lines.now.entries m c.args.line) c.measure-measure.ensures in
    added-keeps c.args.problem.now c.add.new.self c.args.line c.args.lines.now.entries c.insert.new.self.entries c.args.row c.requires.keeps absent c.in-Ok.ensures.ok put

pub returns-in-Ok-insert-clause-value : goal.returns-in-Ok-insert-clause-value
returns-in-Ok-insert-clause-value c lack =
    let absent = ap (λ m. lookup (is_at (measure_cmp m)) c.args.lines.now.entries) (sym c.measure-measure.ensures) ∙ sym c.line_of.ensures ∙ c.in_default.is in
    let put = c.in-Ok-insert.ensures.entries ∙ ap (λ m. insert_entry measure_cmp c.args.lines.now.entries m c.args.line) c.measure-measure.ensures in
    added-row c.args.problem.now c.add.new.self c.args.line c.args.lines.now.entries c.insert.new.self.entries c.args.row c.requires.keeps absent c.in-Ok.ensures.room c.in-Ok.ensures.ok put

pub returns-in-Err-Full-clause-value : goal.returns-in-Err-Full-clause-value
returns-in-Err-Full-clause-value c lack =
    let absent = ap (λ m. lookup (is_at (measure_cmp m)) c.args.lines.now.entries) (sym c.measure-measure.ensures) ∙ sym c.line_of.ensures ∙ c.in_default.is in
    added-full c.args.problem.now c.args.line c.args.lines.now.entries c.args.row c.requires.keeps absent
    (c.in-Err-Full.ensures.full (ap Err c.in-Err-Full.field-0-is)).1
