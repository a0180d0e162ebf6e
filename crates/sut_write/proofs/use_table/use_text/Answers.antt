use Rattle.std.proofs.Common.{◌++◌, ◌∙◌, ap}
use Rattle.sut_text.specs.Text.{line_text}
use Rattle.sut_write.specs.Use.{use_header}
use Rattle.sut_write.proofs.UseLines.{use-printed}
use Rattle.sut_write.proofs.use_table.use_text.Goals as goal

pub returns : goal.returns
returns c =
    use-printed c.args.p.now.classes c.args.t.now c.new-out.result.items c.put_header.new.out.items c.put_product_lines.new.out.items c.put_total_lines.new.out.items c.new-out.ensures.items
    (c.in_ok-put_header.ensures ∙ ap (λ cs. c.new-out.result.items ++ line_text (use_header cs)) c.classes-2.ensures) c.in_ok-put_product_lines.ensures c.in_ok-put_total_lines.ensures
