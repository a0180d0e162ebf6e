use Rattle.std.proofs.Common.{◌++◌, [], ◌∷◌, ◌∙◌, ap}
use Rattle.std.specs.List.{flat_map}
use Rattle.std.proofs.lemmas.Int.{to_z-of_z}
use mir.Syntax.{w64}
use Rattle.sut_text.specs.Text.{behind, fields_text, optional_text, whole_text}
use Rattle.sut_measures.specs.Names.{measure_name, name_fields}
use Rattle.sut_source.specs.SourceText.{grade_name, penalty_text}
use Rattle.sut_source.proofs.PrintLemmas.{row-printed}
use Rattle.sut_source.proofs.print.put_row.Goals as goal

pub returns : goal.returns
returns c =
    let r = c.args.row.now in
    let s = c.args.s.now in
    let n = measure_name c.args.classes.now r.measure in
    let lower = to_z-of_z w64 c.lower.result (record { sfits = c.lower.type_inv }) ∙ c.lower.ensures in
    let upper = to_z-of_z w64 c.upper.result (record { sfits = c.upper.type_inv }) ∙ c.upper.ensures in
    row-printed c.args.out.now.items c.put_name.new.out.items c.put_target.new.out.items c.put_grade.new.out.items c.put_bounds.new.out.items
    n.kind (optional_text r.target) (grade_name s r.grade ++ penalty_text r.penalty) (whole_text r.lower) (whole_text r.upper) (n.a ∷ n.b ∷ n.c ∷ [])
    (c.in_ok-put_name.ensures ∙ ap (λ m. c.args.out.now.items ++ fields_text (name_fields c.args.classes.now m)) c.measure.ensures)
    (c.in_ok-put_target.ensures ∙ ap (λ t. c.put_name.new.out.items ++ behind (optional_text t)) c.target.ensures)
    (c.in_ok-put_grade.ensures ∙ (λ i. c.put_target.new.out.items ++ behind (grade_name s (c.grade.ensures i) ++ penalty_text (c.penalty.ensures i))))
    (c.in_ok-put_bounds.ensures ∙ (λ i. c.put_grade.new.out.items ++ (flat_map behind (whole_text (lower i) ∷ whole_text (upper i) ∷ []) ++ 10 ∷ [])))
