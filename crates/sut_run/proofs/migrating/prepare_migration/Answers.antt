use Rattle.std.proofs.Common.{List, sym, subst}
use Rattle.sut_review.specs.Seats.{SeatFacts}
use Rattle.sut_run.specs.declared.commands.Command.TheVariants.{Migrate}
use Rattle.sut_run.specs.Outputs.{texts_in}
use Rattle.sut_run.specs.Ready.{IsRefused}
use Rattle.sut_run.proofs.Delivered.{memory-refused}
use Rattle.sut_run.proofs.Migrated.{classes-refused, migrated-ready}
use Rattle.sut_run.specs.Steps.{IsShelfFault}
use Rattle.sut_run.proofs.Printed.{refused-failed}
use Rattle.sut_run.proofs.migrating.prepare_migration.Goals as goal

pub returns-in-Err-clause-refused : goal.returns-in-Err-clause-refused
returns-in-Err-clause-refused g c = λ (seats : List SeatFacts).
    subst (IsRefused seats Migrate (g.F.Shelf.files c.args.shelf.now) _ _ _) (sym c.refused.ensures) (classes-refused seats (g.F.Shelf.files c.args.shelf.now) c.in-Err.fault _ _ _ c.in-Err.ensures.err c.in-Err.ensures.cause)

pub returns-in-Ok-made-clause-ready : goal.returns-in-Ok-made-clause-ready
returns-in-Ok-made-clause-ready g c = λ (seats : List SeatFacts).
    migrated-ready seats c.in-Ok.classes (texts_in c.in-Ok-made.made.outputs.items) c.in-Ok-made.made.lines.items c.in-Ok-made.ensures.written c.in-Ok-made.ensures.printed c.in-Ok-made.ensures.reads_back (g.F.Shelf.files c.args.shelf.now) c.in-Ok.ensures.ok

pub returns-in-Err-made-clause-refused : goal.returns-in-Err-made-clause-refused
returns-in-Err-made-clause-refused g c = λ (seats : List SeatFacts). memory-refused seats Migrate (g.F.Shelf.files c.args.shelf.now) _ _ _

pub returns-in-Err-clause-stays : goal.returns-in-Err-clause-stays
returns-in-Err-clause-stays g c other =
    c.in-Err.ensures.stays (λ is. other (subst IsShelfFault (sym c.refused.ensures) (refused-failed c.in-Err.fault is)))
