use Rattle.std.specs.Prelude.{codes}
use Rattle.sut_write.specs.Supply.{supply_columns, supply_heading}
use Rattle.sut_write.proofs.SupplyLines.{line-parts}
use Rattle.sut_write.proofs.supply.put_header.Goals as goal

pub returns : goal.returns
returns c =
    let cs = c.args.classes.now in
    line-parts (supply_heading cs) c.args.columns.now (supply_columns cs) c.args.out.now.items c.put_bytes.new.out.items c.put_headings.new.out.items c.put_byte.new.out.items (codes "product") c.requires
    c.in_ok-put_bytes.ensures c.in_ok-put_headings.ensures c.in_ok-put_byte.ensures
