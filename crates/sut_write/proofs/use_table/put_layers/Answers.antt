use Rattle.std.proofs.Common.{map}
use Rattle.sut_write.specs.Places.{margins, taxes}
use Rattle.sut_write.specs.Use.{use_line}
use Rattle.sut_write.specs.declared.use_table.UseLine.TheVariants as line
use Rattle.sut_write.proofs.UseLines.{layers-printed}
use Rattle.sut_write.proofs.use_table.put_layers.Goals as goal

pub returns : goal.returns
returns c =
    let cs = c.args.p.now.classes in
    let i = c.args.i in
    layers-printed (use_line cs c.args.t.now) (line.Basic i) (line.Purchasers i) (map (line.Margin i) (margins cs)) (map (line.Tax i) (taxes cs)) c.args.out.now.items c.put_line.new.out.items c.put_margin_lines.new.out.items c.put_tax_lines.new.out.items c.put_line-2.new.out.items
    c.in_ok-put_line.ensures c.in_ok-put_margin_lines.ensures c.in_ok-put_tax_lines.ensures c.in_ok-put_line-2.ensures
