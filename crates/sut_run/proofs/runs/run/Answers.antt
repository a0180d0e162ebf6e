use Rattle.std.proofs.Common.{◌≡◌, ◌∙◌, ◌⊎◌, None, IfSome, map, string_bytes, refl, sym, subst}
use Rattle.std.specs.Prelude.{IsOk}
use Rattle.sut_outside.specs.Files.{Files, Told}
use Rattle.sut_outside.specs.Causes.{Rose}
use Rattle.sut_status.specs.declared.statuses.Status.TheVariants.{Balanced, NoMemory, Usage, Infeasible}
use Rattle.sut_review.specs.Seats.{new_seat}
use Rattle.sut_run.specs.declared.commands.Command.{Command}
use Rattle.sut_run.specs.Commands.{command_of}
use Rattle.sut_run.specs.Inputs.{input_of}
use Rattle.sut_run.specs.Ends.{AnswersInput, IsDone, IsEndOf, Stands}
use Rattle.sut_run.specs.Headlines.{Headline, IsChecked, MayBeInfeasible, WritesCut, WritesLeast}
use Rattle.sut_run.proofs.Commanded.{ended-balanced, ended-infeasible, ended-migrated}
use Rattle.sut_run.proofs.Delivered.{sent-same}
use Rattle.sut_run.proofs.Named.{complete-told, for-command, no-command-told, read-names, some-command, write-names}
use Rattle.sut_run.proofs.Printed.{command-prints}
use Rattle.sut_run.proofs.Words.{command-sized}
use Rattle.sut_run.proofs.runs.run.Goals as goal

pub run_command-requires-clause-sized : goal.run_command-requires-clause-sized
run_command-requires-clause-sized g c =
    command-sized (map string_bytes c.args.words.now) c.in-Some.command (sym c.command_named.ensures ∙ c.in-Some.is)

pub returns-in-Some-clause-usage : goal.returns-in-Some-clause-usage
returns-in-Some-clause-usage g c =
    ((λ e. absurd (c.run_command.ensures.used e)), (λ e. absurd (some-command (command_of (map string_bytes c.args.words.now)) c.in-Some.command (sym c.command_named.ensures ∙ c.in-Some.is) e)))

pub returns-in-Some-clause-unused : goal.returns-in-Some-clause-unused
returns-in-Some-clause-unused g c e =
    absurd (some-command (command_of (map string_bytes c.args.words.now)) c.in-Some.command (sym c.command_named.ensures ∙ c.in-Some.is) e)

pub returns-in-Some-clause-untouched : goal.returns-in-Some-clause-untouched
returns-in-Some-clause-untouched g c e =
    absurd (some-command (command_of (map string_bytes c.args.words.now)) c.in-Some.command (sym c.command_named.ensures ∙ c.in-Some.is) e)

pub returns-in-Some-clause-input : goal.returns-in-Some-clause-input
returns-in-Some-clause-input g c =
    for-command (command_of (map string_bytes c.args.words.now)) c.in-Some.command (sym c.command_named.ensures ∙ c.in-Some.is) (λ (k : Command). IfSome (g.F.Shelf.files c.args.shelf.now) (λ (files : Files). AnswersInput (map (λ b. new_seat ((g.dyn-1.0.entry b.vtable).1.name b.value) ((g.dyn-1.0.entry b.vtable).1.rule b.value)) c.args.reviewers.items) k files c.run_command.result)) c.run_command.ensures.input

pub returns-in-Some-clause-stands : goal.returns-in-Some-clause-stands
returns-in-Some-clause-stands g c =
    for-command (command_of (map string_bytes c.args.words.now)) c.in-Some.command (sym c.command_named.ensures ∙ c.in-Some.is) (λ (k : Command). Told (g.F.Shelf.files c.args.shelf.now) (g.F.Shelf.files c.run_command.new.shelf) (Stands (map (λ b. new_seat ((g.dyn-1.0.entry b.vtable).1.name b.value) ((g.dyn-1.0.entry b.vtable).1.rule b.value)) c.args.reviewers.items) k c.run_command.result (g.K.Sink.sent c.args.out.now) (g.K.Sink.sent c.run_command.new.out))) c.run_command.ensures.stands

pub returns-in-Some-clause-read_fault : goal.returns-in-Some-clause-read_fault
returns-in-Some-clause-read_fault g c =
    read-names (command_of (map string_bytes c.args.words.now)) c.in-Some.command (sym c.command_named.ensures ∙ c.in-Some.is) c.run_command.result _ _ _ c.run_command.ensures.read_fault

pub returns-in-Some-clause-write_fault : goal.returns-in-Some-clause-write_fault
returns-in-Some-clause-write_fault g c =
    write-names (command_of (map string_bytes c.args.words.now)) c.in-Some.command (sym c.command_named.ensures ∙ c.in-Some.is) c.run_command.result _ _ _ c.run_command.ensures.write_fault

pub returns-in-Some-clause-printed : goal.returns-in-Some-clause-printed
returns-in-Some-clause-printed g c =
    command-prints (command_of (map string_bytes c.args.words.now)) c.in-Some.command (sym c.command_named.ensures ∙ c.in-Some.is) (map (λ b. new_seat ((g.dyn-1.0.entry b.vtable).1.name b.value) ((g.dyn-1.0.entry b.vtable).1.rule b.value)) c.args.reviewers.items) (g.F.Shelf.files c.args.shelf.now) c.run_command.result _ _ c.run_command.ensures.printed

pub returns-in-Some-clause-complete : goal.returns-in-Some-clause-complete
returns-in-Some-clause-complete g c =
    for-command (command_of (map string_bytes c.args.words.now)) c.in-Some.command (sym c.command_named.ensures ∙ c.in-Some.is) (λ (k : Command). IfSome (g.F.Shelf.files c.args.shelf.now) (λ (files : Files). IsOk (input_of (map (λ b. new_seat ((g.dyn-1.0.entry b.vtable).1.name b.value) ((g.dyn-1.0.entry b.vtable).1.rule b.value)) c.args.reviewers.items) k None files) → ¬ Rose (g.F.Shelf.faults c.args.shelf.now) (g.F.Shelf.faults c.run_command.new.shelf) → ¬ Rose (g.K.Sink.faults c.args.out.now) (g.K.Sink.faults c.run_command.new.out) → (c.run_command.result ≡ NoMemory) ⊎ IsDone c.run_command.result))
    (complete-told (map (λ b. new_seat ((g.dyn-1.0.entry b.vtable).1.name b.value) ((g.dyn-1.0.entry b.vtable).1.rule b.value)) c.args.reviewers.items) c.in-Some.command (g.F.Shelf.files c.args.shelf.now) c.run_command.result _ _ _ c.run_command.ensures.input c.run_command.ensures.read_fault c.run_command.ensures.write_fault c.run_command.ensures.sink_fault)

pub returns-in-Some-clause-balanced : goal.returns-in-Some-clause-balanced
returns-in-Some-clause-balanced g c =
    for-command (command_of (map string_bytes c.args.words.now)) c.in-Some.command (sym c.command_named.ensures ∙ c.in-Some.is) (λ (k : Command). c.run_command.result ≡ Balanced → IsChecked k × Told (g.F.Shelf.files c.args.shelf.now) (g.F.Shelf.files c.run_command.new.shelf) (Headline (map (λ b. new_seat ((g.dyn-1.0.entry b.vtable).1.name b.value) ((g.dyn-1.0.entry b.vtable).1.rule b.value)) c.args.reviewers.items) k (WritesLeast (g.K.Sink.sent c.args.out.now) (g.K.Sink.sent c.run_command.new.out))))
    (λ e. ended-balanced (map (λ b. new_seat ((g.dyn-1.0.entry b.vtable).1.name b.value) ((g.dyn-1.0.entry b.vtable).1.rule b.value)) c.args.reviewers.items) c.in-Some.command c.run_command.result (g.K.Sink.sent c.args.out.now) (g.K.Sink.sent c.run_command.new.out) (g.F.Shelf.files c.args.shelf.now) (g.F.Shelf.files c.run_command.new.shelf) c.run_command.ensures.ends c.run_command.ensures.promised e)

pub returns-in-Some-clause-infeasible : goal.returns-in-Some-clause-infeasible
returns-in-Some-clause-infeasible g c =
    for-command (command_of (map string_bytes c.args.words.now)) c.in-Some.command (sym c.command_named.ensures ∙ c.in-Some.is) (λ (k : Command). c.run_command.result ≡ Infeasible → MayBeInfeasible k × (IsChecked k → Told (g.F.Shelf.files c.args.shelf.now) (g.F.Shelf.files c.run_command.new.shelf) (Headline (map (λ b. new_seat ((g.dyn-1.0.entry b.vtable).1.name b.value) ((g.dyn-1.0.entry b.vtable).1.rule b.value)) c.args.reviewers.items) k (WritesCut (g.K.Sink.sent c.args.out.now) (g.K.Sink.sent c.run_command.new.out)))))
    (λ e. ended-infeasible (map (λ b. new_seat ((g.dyn-1.0.entry b.vtable).1.name b.value) ((g.dyn-1.0.entry b.vtable).1.rule b.value)) c.args.reviewers.items) c.in-Some.command c.run_command.result (g.K.Sink.sent c.args.out.now) (g.K.Sink.sent c.run_command.new.out) (g.F.Shelf.files c.args.shelf.now) (g.F.Shelf.files c.run_command.new.shelf) c.run_command.ensures.ends c.run_command.ensures.promised e)

pub returns-in-Some-clause-ends : goal.returns-in-Some-clause-ends
returns-in-Some-clause-ends g c =
    for-command (command_of (map string_bytes c.args.words.now)) c.in-Some.command (sym c.command_named.ensures ∙ c.in-Some.is) (λ (k : Command). IsDone c.run_command.result → IsEndOf k c.run_command.result) c.run_command.ensures.ends

pub returns-in-Some-clause-migrated : goal.returns-in-Some-clause-migrated
returns-in-Some-clause-migrated g c e =
    ended-migrated (map (λ b. new_seat ((g.dyn-1.0.entry b.vtable).1.name b.value) ((g.dyn-1.0.entry b.vtable).1.rule b.value)) c.args.reviewers.items) c.in-Some.command c.run_command.result (g.K.Sink.sent c.args.out.now) (g.K.Sink.sent c.run_command.new.out) (g.F.Shelf.files c.args.shelf.now) (g.F.Shelf.files c.run_command.new.shelf) c.run_command.ensures.promised e

pub returns-in-None-clause-usage : goal.returns-in-None-clause-usage
returns-in-None-clause-usage g c =
    ((λ e. sym c.command_named.ensures ∙ c.in-None.is), (λ e. refl))

pub returns-in-None-clause-unused : goal.returns-in-None-clause-unused
returns-in-None-clause-unused g c e =
    no-command-told (g.F.Shelf.files c.args.shelf.now) (g.K.Sink.sent c.args.out.now)

pub returns-in-None-clause-input : goal.returns-in-None-clause-input
returns-in-None-clause-input g c =
    subst (λ o. IfSome o (λ (k : Command). IfSome (g.F.Shelf.files c.args.shelf.now) (λ (files : Files). AnswersInput (map (λ b. new_seat ((g.dyn-1.0.entry b.vtable).1.name b.value) ((g.dyn-1.0.entry b.vtable).1.rule b.value)) c.args.reviewers.items) k files Usage))) (sym (sym c.command_named.ensures ∙ c.in-None.is)) tt

pub returns-in-None-clause-stands : goal.returns-in-None-clause-stands
returns-in-None-clause-stands g c =
    subst (λ o. IfSome o (λ (k : Command). Told (g.F.Shelf.files c.args.shelf.now) (g.F.Shelf.files c.args.shelf.now) (Stands (map (λ b. new_seat ((g.dyn-1.0.entry b.vtable).1.name b.value) ((g.dyn-1.0.entry b.vtable).1.rule b.value)) c.args.reviewers.items) k Usage (g.K.Sink.sent c.args.out.now) (g.K.Sink.sent c.args.out.now)))) (sym (sym c.command_named.ensures ∙ c.in-None.is)) tt

pub returns-in-None-clause-complete : goal.returns-in-None-clause-complete
returns-in-None-clause-complete g c =
    subst (λ o. IfSome o (λ (k : Command). IfSome (g.F.Shelf.files c.args.shelf.now) (λ (files : Files). IsOk (input_of (map (λ b. new_seat ((g.dyn-1.0.entry b.vtable).1.name b.value) ((g.dyn-1.0.entry b.vtable).1.rule b.value)) c.args.reviewers.items) k None files) → ¬ Rose (g.F.Shelf.faults c.args.shelf.now) (g.F.Shelf.faults c.args.shelf.now) → ¬ Rose (g.K.Sink.faults c.args.out.now) (g.K.Sink.faults c.args.out.now) → (Usage ≡ NoMemory) ⊎ IsDone Usage))) (sym (sym c.command_named.ensures ∙ c.in-None.is)) tt

pub returns-in-None-clause-balanced : goal.returns-in-None-clause-balanced
returns-in-None-clause-balanced g c =
    subst (λ o. IfSome o (λ (k : Command). Usage ≡ Balanced → IsChecked k × Told (g.F.Shelf.files c.args.shelf.now) (g.F.Shelf.files c.args.shelf.now) (Headline (map (λ b. new_seat ((g.dyn-1.0.entry b.vtable).1.name b.value) ((g.dyn-1.0.entry b.vtable).1.rule b.value)) c.args.reviewers.items) k (WritesLeast (g.K.Sink.sent c.args.out.now) (g.K.Sink.sent c.args.out.now))))) (sym (sym c.command_named.ensures ∙ c.in-None.is)) tt

pub returns-in-None-clause-infeasible : goal.returns-in-None-clause-infeasible
returns-in-None-clause-infeasible g c =
    subst (λ o. IfSome o (λ (k : Command). Usage ≡ Infeasible → MayBeInfeasible k × (IsChecked k → Told (g.F.Shelf.files c.args.shelf.now) (g.F.Shelf.files c.args.shelf.now) (Headline (map (λ b. new_seat ((g.dyn-1.0.entry b.vtable).1.name b.value) ((g.dyn-1.0.entry b.vtable).1.rule b.value)) c.args.reviewers.items) k (WritesCut (g.K.Sink.sent c.args.out.now) (g.K.Sink.sent c.args.out.now)))))) (sym (sym c.command_named.ensures ∙ c.in-None.is)) tt

pub returns-in-None-clause-printed : goal.returns-in-None-clause-printed
returns-in-None-clause-printed g c =
    sent-same (g.K.Sink.sent c.args.out.now)

pub returns-in-None-clause-ends : goal.returns-in-None-clause-ends
returns-in-None-clause-ends g c =
    subst (λ o. IfSome o (λ (k : Command). IsDone Usage → IsEndOf k Usage)) (sym (sym c.command_named.ensures ∙ c.in-None.is)) tt
