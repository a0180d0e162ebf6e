use Rattle.std.specs.Prelude.{codes}
use Rattle.sut_write.specs.Places.{columns}
use Rattle.sut_write.specs.Use.{column_heading}
use Rattle.sut_write.proofs.UseLines.{header-parts}
use Rattle.sut_write.proofs.use_table.put_header.Goals as goal

pub returns : goal.returns
returns c =
    let cs = c.args.classes.now in
    header-parts (column_heading cs) c.args.columns.now (columns cs) c.args.out.now.items c.put_bytes.new.out.items c.put_headings.new.out.items c.put_bytes-2.new.out.items (codes "product") (codes "layer") (codes "total") c.requires
    c.in_ok-put_bytes.ensures c.in_ok-put_headings.ensures c.in_ok-put_bytes-2.ensures
