use Rattle.std.proofs.Common.{map, sym, subst}
use Rattle.sut_review.specs.Seats.{new_seat}
use Rattle.sut_run.specs.declared.commands.Command.TheVariants.{Balance}
use Rattle.sut_run.specs.Outputs.{texts_in}
use Rattle.sut_run.specs.Ready.{IsRefused}
use Rattle.sut_run.proofs.Delivered.{balance-refused, memory-refused}
use Rattle.sut_run.proofs.Headlined.{answer-ready}
use Rattle.sut_run.specs.Steps.{IsShelfFault}
use Rattle.sut_run.proofs.Printed.{refused-failed}
use Rattle.sut_run.proofs.balancing.prepare_balance.Goals as goal

pub returns-in-Err-clause-refused : goal.returns-in-Err-clause-refused
returns-in-Err-clause-refused g c =
    subst (IsRefused (map (λ b. new_seat ((g.dyn-1.0.entry b.vtable).1.name b.value) ((g.dyn-1.0.entry b.vtable).1.rule b.value)) c.args.reviewers.items) Balance (g.F.Shelf.files c.args.shelf.now) _ _ _) (sym c.refused.ensures) (balance-refused (map (λ b. new_seat ((g.dyn-1.0.entry b.vtable).1.name b.value) ((g.dyn-1.0.entry b.vtable).1.rule b.value)) c.args.reviewers.items) (g.F.Shelf.files c.args.shelf.now) c.in-Err.fault _ _ _ c.in-Err.ensures.err c.in-Err.ensures.cause)

pub returns-in-Ok-prepared-clause-ready : goal.returns-in-Ok-prepared-clause-ready
returns-in-Ok-prepared-clause-ready g c =
    answer-ready (map (λ b. new_seat ((g.dyn-1.0.entry b.vtable).1.name b.value) ((g.dyn-1.0.entry b.vtable).1.rule b.value)) c.args.reviewers.items) c.in-Ok.input.settings c.in-Ok.input.problem c.in-Ok-prepared.prepared.done (texts_in c.in-Ok-prepared.prepared.made.outputs.items) c.in-Ok-prepared.prepared.made.lines.items c.in-Ok-prepared.ensures (g.F.Shelf.files c.args.shelf.now) c.in-Ok.ensures.ok

pub returns-in-Err-prepared-clause-refused : goal.returns-in-Err-prepared-clause-refused
returns-in-Err-prepared-clause-refused g c = memory-refused (map (λ b. new_seat ((g.dyn-1.0.entry b.vtable).1.name b.value) ((g.dyn-1.0.entry b.vtable).1.rule b.value)) c.args.reviewers.items) Balance (g.F.Shelf.files c.args.shelf.now) _ _ _

pub returns-in-Err-clause-stays : goal.returns-in-Err-clause-stays
returns-in-Err-clause-stays g c other =
    c.in-Err.ensures.stays (λ is. other (subst IsShelfFault (sym c.refused.ensures) (refused-failed c.in-Err.fault is)))
