use Rattle.std.proofs.Common.{◌≤◌, ◌∙◌, List, arith, sym, subst}
use Rattle.std.specs.Prelude.{All}
use Rattle.std.proofs.lemmas.List.Elements.{All-push}
use Rattle.csv.specs.Records.{fields_of}
use Rattle.sut_records.specs.RecordList.{field}
use Rattle.sut_dismissals.specs.declared.dismissals.DismissLine.{DismissLine}
use Rattle.sut_dismissals.specs.DismissFile.{last_year}
use Rattle.sut_dismissals.specs.DismissRules.{IsYearOf}
use Rattle.sut_dismissals.proofs.DismissLemmas.{last-year-from-one, line-refused, line-short, line-taken, line-year}
use Rattle.sut_dismissals.proofs.read.add_line.Goals as goal

pub returns-then-not-has_two_fields-clause-value : goal.returns-then-not-has_two_fields-clause-value
returns-then-not-has_two_fields-clause-value c lack =
    line-short c.args.years c.args.line c.args.lines.now.items (fields_of c.args.row.now) (sym c.has_two_fields.ensures ∙ c.if-not-has_two_fields.true)

pub returns-in-None-clause-value : goal.returns-in-None-clause-value
returns-in-None-clause-value c lack =
    line-year c.args.years c.args.line c.args.lines.now.items (fields_of c.args.row.now)
    (sym c.has_two_fields.ensures ∙ c.if-not-has_two_fields.false) (rw (c.deref.ensures.value, c.field.ensures) at (sym c.in-None.ensures.value))

pub returns-in-Ok-clause-value : goal.returns-in-Ok-clause-value
returns-in-Ok-clause-value c lack =
    line-taken c.args.years c.args.line c.args.lines.now.items (fields_of c.args.row.now) c.in-Some.year _
    (sym c.has_two_fields.ensures ∙ c.if-not-has_two_fields.false) (rw (c.deref.ensures.value, c.field.ensures) at (sym c.in-Some.ensures.value))
    (c.in-Ok.ensures.value (λ e. cc))

pub returns-in-Err-clause-value : goal.returns-in-Err-clause-value
returns-in-Err-clause-value c lack =
    line-refused c.args.years c.args.line c.args.lines.now.items (fields_of c.args.row.now) c.in-Some.year c.in-Err.cause
    (sym c.has_two_fields.ensures ∙ c.if-not-has_two_fields.false) (rw (c.deref.ensures.value, c.field.ensures) at (sym c.in-Some.ensures.value))
    (c.in-Err.ensures.value (λ e. lack cc))

pub returns-in-Ok-clause-good : goal.returns-in-Ok-clause-good
returns-in-Ok-clause-good c =
    let Good : DismissLine → Type 0 = IsYearOf c.args.years in
    let from : 1 ≤ last_year c.args.lines.now.items = last-year-from-one c.args.years c.args.lines.now.items c.requires.good.each in
    let after : last_year c.args.lines.now.items ≤ c.in-Some.year = rw c.deref.ensures.value at c.in-Some.ensures.within.0 in
    let first : 1 ≤ c.in-Some.year = omega arith in
    record {
      few = c.in-Ok.ensures.few;
      each = subst (λ (xs : List DismissLine). All Good xs) (sym c.in-Ok.ensures.added)
          (All-push Good c.args.lines.now.items (record { line = c.args.line; year = c.in-Some.year; label = field (fields_of c.args.row.now) 1 }) c.requires.good.each
          (first, c.in-Some.ensures.within.1));
    }
