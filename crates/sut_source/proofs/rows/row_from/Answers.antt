use Rattle.std.proofs.Common.{◌∙◌, Err, ap, sym}
use Rattle.sut_measures.specs.declared.faults.Field.TheVariants as column
use Rattle.sut_source.specs.RowFile.{bound_in}
use Rattle.sut_source.specs.RowRules.{spelled_fields}
use Rattle.sut_source.proofs.RowLemmas.{AreRead, narrow, row-crossed, row-good, row-grade, row-lower, row-name, row-target, row-upper}
use Rattle.sut_source.proofs.rows.row_from.Goals as goal

pub returns-in-Err-clause-value : goal.returns-in-Err-clause-value
returns-in-Err-clause-value c =
    ap Err c.name_fault.ensures
    ∙ sym (row-name c.args.s.now c.args.classes.now (spelled_fields c.args.text.now) c.in-Err.fault (sym c.read_name.ensures.value ∙ c.in-Err.is))

pub returns-in-Err-target_in-clause-value : goal.returns-in-Err-target_in-clause-value
returns-in-Err-target_in-clause-value c =
    sym (row-target c.args.s.now c.args.classes.now (spelled_fields c.args.text.now) c.in-Ok.measure c.in-Err-target_in.fault
    (sym c.read_name.ensures.value ∙ c.in-Ok.is) (sym c.target_in.ensures.value ∙ c.in-Err-target_in.is))

pub returns-in-Err-grade_in-clause-value : goal.returns-in-Err-grade_in-clause-value
returns-in-Err-grade_in-clause-value c =
    sym (row-grade c.args.s.now c.args.classes.now (spelled_fields c.args.text.now) c.in-Ok.measure c.in-Ok-target_in.target c.in-Err-grade_in.fault
    (sym c.read_name.ensures.value ∙ c.in-Ok.is) (sym c.target_in.ensures.value ∙ c.in-Ok-target_in.is) (sym c.grade_in.ensures.value ∙ c.in-Err-grade_in.is))

pub returns-in-Err-bound_in-clause-value : goal.returns-in-Err-bound_in-clause-value
returns-in-Err-bound_in-clause-value c =
    sym (row-lower c.args.s.now c.args.classes.now (spelled_fields c.args.text.now) c.in-Ok.measure c.in-Ok-target_in.target c.in-Ok-grade_in.grade c.usual_lower.result c.in-Err-bound_in.fault
    (sym c.read_name.ensures.value ∙ c.in-Ok.is) (sym c.target_in.ensures.value ∙ c.in-Ok-target_in.is) (sym c.grade_in.ensures.value ∙ c.in-Ok-grade_in.is)
    c.usual_lower.ensures.value (sym c.bound_in.ensures.value ∙ c.in-Err-bound_in.is))

pub returns-in-Err-bound_in-2-clause-value : goal.returns-in-Err-bound_in-2-clause-value
returns-in-Err-bound_in-2-clause-value c =
    let read : AreRead c.args.s.now c.args.classes.now (spelled_fields c.args.text.now) c.in-Ok.measure c.in-Ok-target_in.target c.in-Ok-grade_in.grade c.in-Ok-bound_in.lower = record {
      name = sym c.read_name.ensures.value ∙ c.in-Ok.is;
      target = sym c.target_in.ensures.value ∙ c.in-Ok-target_in.is;
      grade = sym c.grade_in.ensures.value ∙ c.in-Ok-grade_in.is;
      low = ap (λ u. bound_in column.Lower u c.args.text.now.lower.now) (sym c.usual_lower.ensures.value) ∙ sym c.bound_in.ensures.value ∙ c.in-Ok-bound_in.is;
    } in
    sym (row-upper c.args.s.now c.args.classes.now (spelled_fields c.args.text.now) c.in-Ok.measure c.in-Ok-target_in.target c.in-Ok-grade_in.grade c.in-Ok-bound_in.lower c.usual_upper.result c.in-Err-bound_in-2.fault
    read c.usual_upper.ensures.value (sym c.bound_in-2.ensures.value ∙ c.in-Err-bound_in-2.is))

pub returns-in-Some-clause-value : goal.returns-in-Some-clause-value
returns-in-Some-clause-value c =
    let read : AreRead c.args.s.now c.args.classes.now (spelled_fields c.args.text.now) c.in-Ok.measure c.in-Ok-target_in.target c.in-Ok-grade_in.grade c.in-Ok-bound_in.lower = record {
      name = sym c.read_name.ensures.value ∙ c.in-Ok.is;
      target = sym c.target_in.ensures.value ∙ c.in-Ok-target_in.is;
      grade = sym c.grade_in.ensures.value ∙ c.in-Ok-grade_in.is;
      low = ap (λ u. bound_in column.Lower u c.args.text.now.lower.now) (sym c.usual_lower.ensures.value) ∙ sym c.bound_in.ensures.value ∙ c.in-Ok-bound_in.is;
    } in
    row-good c.args.s.now c.args.classes.now (spelled_fields c.args.text.now) c.in-Ok.measure c.in-Ok-target_in.target c.in-Ok-grade_in.grade c.in-Ok-bound_in.lower c.in-Ok-bound_in-2.upper
    c.usual_upper.result c.weight_in-weight.result c.in-Some.row read c.usual_upper.ensures.value (sym c.bound_in-2.ensures.value ∙ c.in-Ok-bound_in-2.is)
    c.weight_in-weight.ensures.value (rw (narrow c.in-Ok-bound_in.lower c.in-Ok-bound_in.ensures.range, narrow c.in-Ok-bound_in-2.upper c.in-Ok-bound_in-2.ensures.range) at c.in-Some.ensures.made) c.in-Some.ensures.good

pub returns-in-None-clause-value : goal.returns-in-None-clause-value
returns-in-None-clause-value c =
    let read : AreRead c.args.s.now c.args.classes.now (spelled_fields c.args.text.now) c.in-Ok.measure c.in-Ok-target_in.target c.in-Ok-grade_in.grade c.in-Ok-bound_in.lower = record {
      name = sym c.read_name.ensures.value ∙ c.in-Ok.is;
      target = sym c.target_in.ensures.value ∙ c.in-Ok-target_in.is;
      grade = sym c.grade_in.ensures.value ∙ c.in-Ok-grade_in.is;
      low = ap (λ u. bound_in column.Lower u c.args.text.now.lower.now) (sym c.usual_lower.ensures.value) ∙ sym c.bound_in.ensures.value ∙ c.in-Ok-bound_in.is;
    } in
    row-crossed c.args.s.now c.args.classes.now (spelled_fields c.args.text.now) c.in-Ok.measure c.in-Ok-target_in.target c.in-Ok-grade_in.grade c.in-Ok-bound_in.lower c.in-Ok-bound_in-2.upper
    c.usual_upper.result c.weight_in-weight.result read c.usual_upper.ensures.value (sym c.bound_in-2.ensures.value ∙ c.in-Ok-bound_in-2.is)
    c.in-Ok-bound_in.ensures.range c.in-Ok-bound_in-2.ensures.range c.weight_in-weight.ensures.aim (rw (narrow c.in-Ok-bound_in.lower c.in-Ok-bound_in.ensures.range, narrow c.in-Ok-bound_in-2.upper c.in-Ok-bound_in-2.ensures.range) at c.in-None.ensures.bad)
