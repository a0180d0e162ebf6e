use Rattle.std.proofs.Common.{◌++◌, ◌∙◌, ap}
use Rattle.sut_text.specs.Text.{line_text}
use Rattle.sut_write.specs.Supply.{supply_header}
use Rattle.sut_write.proofs.SupplyLines.{supply-printed}
use Rattle.sut_write.proofs.supply.supply_text.Goals as goal

pub returns : goal.returns
returns c =
    supply-printed c.args.p.now.classes c.args.t.now c.new-out.result.items c.put_header.new.out.items c.put_product_lines.new.out.items c.put_sum_line.new.out.items c.new-out.ensures.items
    (c.in_ok-put_header.ensures ∙ ap (λ cs. c.new-out.result.items ++ line_text (supply_header cs)) c.classes-2.ensures) c.in_ok-put_product_lines.ensures c.in_ok-put_sum_line.ensures
