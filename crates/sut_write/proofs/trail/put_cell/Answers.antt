use Rattle.std.proofs.Common.{◌++◌, [], ◌∷◌, ◌∙◌, ap}
use Rattle.std.specs.List.{flat_map}
use Rattle.sut_text.specs.Text.{behind, line_text, whole_text}
use Rattle.sut_text.proofs.Keeping.{Keeps-append}
use Rattle.sut_measures.specs.Names.{measure_name}
use Rattle.sut_measures.specs.declared.measures.Measure.TheVariants as measure
use Rattle.sut_write.specs.Trail.{cell_line}
use Rattle.sut_write.proofs.Printed.{numbered_line}
use Rattle.sut_write.proofs.trail.put_cell.Goals as goal

pub returns-clause-done : goal.returns-clause-done
returns-clause-done c =
    let n = measure_name c.args.classes.now (measure.Cell c.args.held.now.cell) in
    numbered_line c.args.out.now.items c.put_number.new.out.items c.put_name.new.out.items c.put_held.new.out.items _ n.kind (n.a ∷ n.b ∷ n.c ∷ []) (whole_text c.args.held.now.number)
    c.in_ok-put_number.ensures.done c.in_ok-put_name.ensures c.in_ok-put_held.ensures.done

pub returns-clause-kept : goal.returns-clause-kept
returns-clause-kept c =
    Keeps-append c.args.out.now.items (line_text (cell_line c.args.number c.args.classes.now c.args.held.now)) c.put_held.new.out.items (returns-clause-done c)
