use Rattle.std.proofs.Common.{◌∙◌, ap, to_z, of_z}
use mir.Syntax.{w64}
use Rattle.std.proofs.lemmas.Int.{to_z-of_z}
use Rattle.sut_tables.specs.Breaks.{first_of}
use Rattle.sut_readback.specs.BalancedFile.{TableSoFar, with_cell}
use Rattle.sut_readback.specs.ReadingView.{reading_of}
use Rattle.sut_readback.proofs.CellsFirst.{cell-next, put-keeps, put-read}
use Rattle.sut_readback.proofs.reading.Reading.put.Goals as goal

pub invariant_of-self : goal.invariant_of-self
invariant_of-self c = put-keeps c.self.inside c.put.new.self c.args.c (to_z w64 (of_z w64 c.args.x)) c.put.ensures.after c.self.invariant

pub returns : goal.returns
returns c =
    let r = c.self.inside in
    put-read r c.put.new.self c.args.c (to_z w64 (of_z w64 c.args.x)) c.put.ensures.after c.cells.result.now c.cells.ensures.all c.cells.ensures.in_order
    (cell-next r c.args.c c.self.invariant (ap (λ (s : TableSoFar). first_of s.coming) c.self.view_is ∙ c.requires.next))
    ∙ ap (λ z. with_cell (reading_of r) c.args.c z) (to_z-of_z w64 c.args.x c.ranges.x)
    ∙ ap (λ s. with_cell s c.args.c c.args.x) c.self.view_is
