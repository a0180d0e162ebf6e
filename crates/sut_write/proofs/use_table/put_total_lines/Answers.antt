use Rattle.std.proofs.Common.{map}
use Rattle.sut_write.specs.Places.{items}
use Rattle.sut_write.specs.Use.{use_line}
use Rattle.sut_write.specs.declared.use_table.UseLine.TheVariants as line
use Rattle.sut_write.proofs.UseLines.{totals-printed}
use Rattle.sut_write.proofs.use_table.put_total_lines.Goals as goal

pub returns : goal.returns
returns c =
    let cs = c.args.p.now.classes in
    totals-printed (use_line cs c.args.t.now) line.Spent line.ValueAdded line.Output (map (λ v. line.Added v) (items cs)) c.args.out.now.items c.put_line.new.out.items c.put_added_lines.new.out.items c.put_line-2.new.out.items c.put_line-3.new.out.items
    c.in_ok-put_line.ensures c.in_ok-put_added_lines.ensures c.in_ok-put_line-2.ensures c.in_ok-put_line-3.ensures
