use Rattle.std.proofs.Common.{◌++◌, [], ◌∷◌, ◌∙◌, ap}
use Rattle.std.specs.List.{flat_map}
use Rattle.std.proofs.lemmas.Int.{to_z-of_z}
use mir.Syntax.{w128}
use mir.Val.{SFits}
use Rattle.sut_text.specs.Text.{behind, fields_text, optional_text, whole_text}
use Rattle.sut_measures.specs.Names.{measure_name, name_fields}
use Rattle.sut_tables.specs.Values.{value_of}
use Rattle.sut_readback.specs.BalancedText.{target_text}
use Rattle.sut_write.proofs.Printed.{line_then}
use Rattle.sut_write.proofs.balanced.put_value_line.Goals as goal

pub returns : goal.returns
returns c =
    let p = c.args.p.now in
    let m = c.args.m in
    let n = measure_name p.classes m in
    let fits : SFits w128 c.value.result = record { sfits = c.value.type_inv } in
    let value = to_z-of_z w128 c.value.result fits ∙ c.value.ensures in
    line_then c.args.out.now.items c.put_name.new.out.items c.put_value_end.new.out.items n.kind (n.a ∷ n.b ∷ n.c ∷ []) (target_text p m ∷ whole_text (value_of c.args.t.now m) ∷ [])
    (c.in_ok-put_name.ensures ∙ ap (λ cs. c.args.out.now.items ++ fields_text (name_fields cs m)) c.classes.ensures)
    (c.in_ok-put_value_end.ensures ∙ (λ i. c.put_name.new.out.items ++ (flat_map behind (optional_text (c.target_of.ensures i) ∷ whole_text (value i) ∷ []) ++ 10 ∷ [])))
