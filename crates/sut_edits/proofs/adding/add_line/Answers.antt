use Rattle.std.proofs.Common.{◌∙◌, List, sym, subst}
use Rattle.std.specs.Prelude.{All}
use Rattle.std.proofs.lemmas.List.Elements.{All-push}
use Rattle.sut_edits.specs.declared.edits.EditLine.{EditLine}
use Rattle.sut_edits.specs.EditRules.{IsEditOf}
use Rattle.csv.specs.Records.{fields_of}
use Rattle.sut_edits.proofs.EditLemmas.{line-added, line-fault, line-refused, line-short}
use Rattle.sut_edits.proofs.adding.add_line.Goals as goal

pub returns-then-not-has_nine_fields-clause-value : goal.returns-then-not-has_nine_fields-clause-value
returns-then-not-has_nine_fields-clause-value c lack =
    line-short c.args.s.now c.args.classes.now c.args.line c.args.edits.now.items (fields_of c.args.row.now) (sym c.has_nine_fields.ensures ∙ c.if-not-has_nine_fields.true)

pub returns-in-Err-clause-value : goal.returns-in-Err-clause-value
returns-in-Err-clause-value c lack =
    line-fault c.args.s.now c.args.classes.now c.args.line c.args.edits.now.items (fields_of c.args.row.now) c.in-Err.cause
    (sym c.has_nine_fields.ensures ∙ c.if-not-has_nine_fields.false) (sym (c.in-Err.ensures.value (λ e. lack cc)))

pub returns-in-Ok-add_edit-clause-value : goal.returns-in-Ok-add_edit-clause-value
returns-in-Ok-add_edit-clause-value c lack =
    line-added c.args.s.now c.args.classes.now c.args.line c.args.edits.now.items (fields_of c.args.row.now) c.in-Ok.edit _
    (sym c.has_nine_fields.ensures ∙ c.if-not-has_nine_fields.false) (sym (c.in-Ok.ensures.value (λ e. cc))) (c.in-Ok-add_edit.ensures.value (λ e. cc))

pub returns-in-Err-add_edit-clause-value : goal.returns-in-Err-add_edit-clause-value
returns-in-Err-add_edit-clause-value c lack =
    line-refused c.args.s.now c.args.classes.now c.args.line c.args.edits.now.items (fields_of c.args.row.now) c.in-Ok.edit c.in-Err-add_edit.cause
    (sym c.has_nine_fields.ensures ∙ c.if-not-has_nine_fields.false) (sym (c.in-Ok.ensures.value (λ e. cc))) (c.in-Err-add_edit.ensures.value (λ e. lack cc))

pub returns-in-Ok-add_edit-clause-good : goal.returns-in-Ok-add_edit-clause-good
returns-in-Ok-add_edit-clause-good c =
    let Good : EditLine → Type 0 = λ l. IsEditOf c.args.s.now c.args.classes.now l.edit in
    record {
      each = subst (λ (xs : List EditLine). All Good xs) (sym c.in-Ok-add_edit.ensures.added)
          (All-push Good c.args.edits.now.items (record { line = c.args.line; edit = c.in-Ok.edit }) c.requires.good.each c.in-Ok.ensures.good);
      few = c.in-Ok-add_edit.ensures.few c.requires.good.few;
    }
