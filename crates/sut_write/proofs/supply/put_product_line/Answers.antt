use Rattle.std.proofs.Common.{◌++◌, ◌∙◌, ap}
use Rattle.sut_classes.specs.declared.ids.Axis.TheVariants as axis
use Rattle.sut_measures.specs.Names.{code, product_code}
use Rattle.sut_text.specs.Text.{whole_text}
use Rattle.sut_write.specs.Supply.{supply_columns, supply_number}
use Rattle.sut_write.proofs.SupplyLines.{line-parts}
use Rattle.sut_write.proofs.supply.put_product_line.Goals as goal

pub returns : goal.returns
returns c =
    let cs = c.args.p.now.classes in
    let i = c.args.i in
    let code_is = c.code_of.ensures ∙ ap (λ ds. code ds axis.Product i.0) c.classes.ensures in
    line-parts (λ x. whole_text (supply_number cs c.args.t.now x i)) c.args.columns.now (supply_columns cs) c.args.out.now.items c.put_bytes.new.out.items c.put_numbers.new.out.items c.put_byte.new.out.items (product_code cs i) c.requires.columns
    (c.in_ok-put_bytes.ensures ∙ ap (λ text. c.args.out.now.items ++ text) code_is) c.in_ok-put_numbers.ensures c.in_ok-put_byte.ensures
