-- What a run printed, by its answer, and calls of devices of which none failed.
use Rattle.std.proofs.Common.{◌≡◌, ℕ, List, Option, Some, Err, IfSome, sym, subst}
use Rattle.sut_outside.specs.declared.names.FileName.{FileName}
use Rattle.sut_outside.specs.Files.{Files, Told}
use Rattle.sut_outside.specs.Sent.{AppendsPart}
use Rattle.sut_outside.proofs.Told.{told_as}
use Rattle.sut_input.specs.Reads as reads
use Rattle.sut_input.specs.EditInputs as edit_inputs
use Rattle.sut_input.specs.declared.faults.InputFault.{InputFault}
use Rattle.sut_input.specs.declared.faults.InputFault.TheVariants as fault
use Rattle.sut_input.specs.declared.edits.EditInputFault.{EditInputFault}
use Rattle.sut_input.specs.declared.edits.EditInputFault.TheVariants as edits
use Rattle.sut_status.specs.declared.statuses.Status.{Status}
use Rattle.sut_status.specs.declared.statuses.Status.TheVariants.{Balanced, Generated, Migrated, Published, Ranged, Series, Shared, NoMemory, Infeasible, WriteFault, SinkFault}
use Rattle.sut_review.specs.Seats.{SeatFacts}
use Rattle.sut_run.specs.declared.commands.Command.{Command}
use Rattle.sut_run.specs.Inputs.{edits_refused, refused}
use Rattle.sut_run.specs.Steps.{IsShelfFault, PutsLines, Sends, StopsDelivery, StopsWriting}
use Rattle.sut_run.specs.Ends.{AreLines, IsDone, Prints, PrintsAll, PrintsPart}
use Rattle.sut_run.specs.Ready.{IsRefusal}
use Rattle.sut_run.proofs.Delivered.{sent-same}

-- ---- a delivery

-- a write that stopped put nothing
pub stop-puts : (lines : List ℕ) (names : List FileName) (stopped : Status) → StopsWriting names stopped → (sent : Option (List ℕ)) → Told sent sent (PutsLines lines {T = Unit {0}} (Err stopped))
stop-puts lines names NoMemory stops sent = sent-same sent
stop-puts lines names (WriteFault n) stops sent = sent-same sent
stop-puts lines names _ stops sent = absurd stops

-- ---- what went out, by the answer

module _ (L : Status → List ℕ → Type 0) where
  pub refusal-prints : (s : Status) → IsRefusal s → (sent : Option (List ℕ)) → Told sent sent (Prints L s)
  refusal-prints Balanced is sent = absurd is
  refusal-prints Generated is sent = absurd is
  refusal-prints Migrated is sent = absurd is
  refusal-prints Published is sent = absurd is
  refusal-prints Ranged is sent = absurd is
  refusal-prints Series is sent = absurd is
  refusal-prints Shared is sent = absurd is
  refusal-prints Infeasible is sent = absurd is
  refusal-prints SinkFault is sent = absurd is
  refusal-prints _ is sent = sent-same sent

  all-lines : (ends : Status) (lines old new : List ℕ) → L ends lines → Sends lines old new → PrintsAll (L ends) old new
  all-lines ends lines old new l e = record { lines = lines; spelled = l; sent = e }

  part-lines : (ends : Status) (lines old new : List ℕ) → L ends lines → AppendsPart lines old new → PrintsPart L old new
  part-lines ends lines old new l part = record { ends = ends; lines = lines; spelled = l; part = part }

  pub done-prints : (ends : Status) → IsDone ends → (lines : List ℕ) → L ends lines → (before after : Option (List ℕ)) → Told before after (Sends lines) → Told before after (Prints L ends)
  done-prints Balanced is lines l before after h = told_as (Sends lines) (PrintsAll (L Balanced)) (λ old new e. all-lines Balanced lines old new l e) before after h
  done-prints Generated is lines l before after h = told_as (Sends lines) (PrintsAll (L Generated)) (λ old new e. all-lines Generated lines old new l e) before after h
  done-prints Migrated is lines l before after h = told_as (Sends lines) (PrintsAll (L Migrated)) (λ old new e. all-lines Migrated lines old new l e) before after h
  done-prints Published is lines l before after h = told_as (Sends lines) (PrintsAll (L Published)) (λ old new e. all-lines Published lines old new l e) before after h
  done-prints Ranged is lines l before after h = told_as (Sends lines) (PrintsAll (L Ranged)) (λ old new e. all-lines Ranged lines old new l e) before after h
  done-prints Series is lines l before after h = told_as (Sends lines) (PrintsAll (L Series)) (λ old new e. all-lines Series lines old new l e) before after h
  done-prints Shared is lines l before after h = told_as (Sends lines) (PrintsAll (L Shared)) (λ old new e. all-lines Shared lines old new l e) before after h
  done-prints Infeasible is lines l before after h = told_as (Sends lines) (PrintsAll (L Infeasible)) (λ old new e. all-lines Infeasible lines old new l e) before after h
  done-prints _ is lines l before after h = absurd is

  pub stopped-prints : (ends : Status) (lines : List ℕ) → L ends lines → (names : List FileName) (stopped : Status) → StopsDelivery names stopped → (before after : Option (List ℕ))
      → Told before after (PutsLines lines {T = Unit {0}} (Err stopped)) → Told before after (Prints L stopped)
  stopped-prints ends lines l names NoMemory stops before after h = h
  stopped-prints ends lines l names (WriteFault n) stops before after h = h
  stopped-prints ends lines l names SinkFault stops before after h = told_as (AppendsPart lines) (PrintsPart L) (λ old new part. part-lines ends lines old new l part) before after h
  stopped-prints ends lines l names _ stops before after h = absurd stops

-- what is printed for the command that the words name
pub command-prints : (o : Option Command) (c : Command) → o ≡ Some c → (seats : List SeatFacts) (held : Option Files) (s : Status) (before after : Option (List ℕ)) → Told before after (Prints (AreLines seats c held) s)
    → Told before after (Prints (λ ends lines. IfSome o (λ k. AreLines seats k held ends lines)) s)
command-prints o c e seats held s before after h =
    subst (λ x. Told before after (Prints (λ ends lines. IfSome x (λ k. AreLines seats k held ends lines)) s)) (sym e) h

-- ---- refusals that are failed reads

pub refused-failed : (f : InputFault) → reads.IsReadFault f → IsShelfFault (refused f)
refused-failed fault.NoMemory is = absurd is
refused-failed (fault.ReadFault n) is = tt
refused-failed (fault.Missing n) is = absurd is
refused-failed (fault.TooLong n) is = absurd is
refused-failed (fault.BadSettings e) is = absurd is
refused-failed (fault.BadClasses e) is = absurd is
refused-failed (fault.BadSource e) is = absurd is

pub edits-failed : (f : EditInputFault) → edit_inputs.IsReadFault f → IsShelfFault (edits_refused f)
edits-failed (edits.Input f) is = refused-failed f is
edits-failed (edits.BadEdits e) is = absurd is
