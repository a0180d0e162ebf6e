use Rattle.std.specs.Prelude.{codes}
use Rattle.sut_text.specs.Text.{whole_text}
use Rattle.sut_write.specs.Supply.{column_sum, supply_columns}
use Rattle.sut_write.proofs.SupplyLines.{line-parts}
use Rattle.sut_write.proofs.supply.put_sum_line.Goals as goal

pub returns : goal.returns
returns c =
    let cs = c.args.p.now.classes in
    line-parts (λ x. whole_text (column_sum cs c.args.t.now x)) c.args.columns.now (supply_columns cs) c.args.out.now.items c.put_bytes.new.out.items c.put_sums.new.out.items c.put_byte.new.out.items (codes ":total") c.requires.columns
    c.in_ok-put_bytes.ensures c.in_ok-put_sums.ensures c.in_ok-put_byte.ensures
