use Rattle.std.proofs.Common.{◌++◌, ◌∷◌, ◌∙◌, [], ap}
use Rattle.std.proofs.lemmas.Int.{to_z-of_z}
use mir.Syntax.{w128}
use mir.Val.{SFits}
use Rattle.sut_tables.specs.Values.{int_sum_by}
use Rattle.sut_text.specs.Text.{optional_text, whole_text}
use Rattle.sut_write.specs.Places.{columns}
use Rattle.sut_write.specs.Use.{line_layer, line_number, line_product, line_sum, or_zero}
use Rattle.sut_write.proofs.UseLines.{fields-parts}
use Rattle.sut_write.proofs.use_table.put_line.Goals as goal

pub returns : goal.returns
returns c =
    let cs = c.args.p.now.classes in
    let t = c.args.t.now in
    let line = c.args.line in
    let fits : SFits w128 c.line_sum.result = record { sfits = c.line_sum.type_inv } in
    let sum = to_z-of_z w128 c.line_sum.result fits ∙ c.line_sum.ensures ∙ ap (λ qs. int_sum_by (λ q. or_zero (line_number t line q)) qs) c.requires.columns in
    fields-parts (λ q. optional_text (line_number t line q)) c.args.columns.now (columns cs) c.args.out.now.items c.put_one.new.out.items c.put_byte.new.out.items c.put_one-2.new.out.items c.put_numbers.new.out.items c.put_line_sum.new.out.items
    (line_product cs line) (line_layer cs line) (whole_text (line_sum cs t line)) c.requires.columns
    (c.in_ok-put_one.ensures ∙ ap (λ text. c.args.out.now.items ++ text) (c.product_field.ensures ∙ ap (λ ds. line_product ds line) c.classes.ensures))
    c.in_ok-put_byte.ensures
    (c.in_ok-put_one-2.ensures ∙ ap (λ text. c.put_byte.new.out.items ++ text) (c.layer_field.ensures ∙ ap (λ ds. line_layer ds line) c.classes-2.ensures))
    c.in_ok-put_numbers.ensures
    (c.in_ok-put_line_sum.ensures ∙ ap (λ z. c.put_numbers.new.out.items ++ (44 ∷ (whole_text z ++ 10 ∷ []))) sum)
