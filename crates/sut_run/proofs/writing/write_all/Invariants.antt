use Rattle.std.proofs.Common.{◌≤◌, take}
use Rattle.sut_outside.specs.Files.{Told}
use Rattle.sut_outside.specs.Causes.{NoneFailed}
use Rattle.sut_outside.specs.Deliveries.{WrittenAll}
use Rattle.sut_run.specs.Outputs.{texts_in}
use Rattle.sut_run.proofs.writing.write_all.Given as goal

abbrev pub invariant-loop-output : goal.invariant-loop-output
invariant-loop-output g l = record {
  written : Told (g.F.Shelf.files l.fn.shelf) (g.F.Shelf.files l.shelf) (WrittenAll (texts_in (take l.output-index l.outputs)));
  later : g.F.Shelf.faults l.fn.shelf ≤ g.F.Shelf.faults l.shelf;
  stays : NoneFailed (g.F.Shelf.faults l.fn.shelf) (g.F.Shelf.faults l.shelf) (g.F.Shelf.last_failed l.fn.shelf) (g.F.Shelf.last_failed l.shelf);
}
