-- What is said of the command that the words name.
use Rattle.std.proofs.Common.{◌≡◌, ◌⊎◌, ℕ, List, Option, Some, None, IfSome, Contains, refl, sym, subst}
use Rattle.std.specs.Prelude.{IsOk}
use Rattle.sut_outside.specs.declared.names.FileName.{FileName}
use Rattle.sut_outside.specs.Files.{Files, Told}
use Rattle.sut_outside.specs.Causes.{Rose}
use Rattle.sut_status.specs.declared.statuses.Status.{Status}
use Rattle.sut_status.specs.declared.statuses.Status.TheVariants.{Balanced, Generated, Migrated, Published, Ranged, Series, Shared, NoMemory, Usage, Infeasible, BadSettings, BadClasses, BadSource, BadEdits, BadTable, NotAdmissible, BadAsks, BadDismiss, TooManyPairs, BadYear, ReadFault, WriteFault, Missing, SinkFault, TooLong}
use Rattle.sut_review.specs.Seats.{SeatFacts}
use Rattle.sut_run.specs.declared.commands.Command.{Command}
use Rattle.sut_run.specs.Commands.{read_names, written_names}
use Rattle.sut_run.specs.Inputs.{input_of}
use Rattle.sut_run.specs.Steps.{IfReadFault, IfWriteFault}
use Rattle.sut_run.specs.Ends.{AnswersInput, IsDone, LeavesAll}
use Rattle.sut_run.proofs.Delivered.{sent-same}
use Rattle.sut_run.proofs.Complete.{complete_from}

pub some-command : (o : Option Command) (c : Command) → o ≡ Some c → o ≡ None → ⊥
some-command None c e n = cc
some-command (Some k) c e n = cc

pub for-command : (o : Option Command) (c : Command) → o ≡ Some c → (P : Command → Type 0) → P c → IfSome o P
for-command o c e P h = subst (λ x. IfSome x P) (sym e) h

-- nothing was done
pub no-command-told : (held : Option Files) (sent : Option (List ℕ)) → Told held held (λ old new. LeavesAll old new sent sent)
no-command-told None sent = tt
no-command-told (Some files) sent = ((λ name. refl), sent-same sent)

pub read-names : (o : Option Command) (c : Command) → o ≡ Some c → (s : Status) (before now : ℕ) (last : Option FileName)
    → IfReadFault s (λ failed. Rose before now × (last ≡ Some failed) × Contains (read_names c) failed)
    → IfReadFault s (λ failed. Rose before now × (last ≡ Some failed) × IfSome o (λ k. Contains (read_names k) failed))
read-names o c e s before now last h = subst (λ x. IfReadFault s (λ failed. Rose before now × (last ≡ Some failed) × IfSome x (λ k. Contains (read_names k) failed))) (sym e) h

pub write-names : (o : Option Command) (c : Command) → o ≡ Some c → (s : Status) (before now : ℕ) (last : Option FileName)
    → IfWriteFault s (λ failed. Rose before now × (last ≡ Some failed) × Contains (written_names c) failed)
    → IfWriteFault s (λ failed. Rose before now × (last ≡ Some failed) × IfSome o (λ k. Contains (written_names k) failed))
write-names o c e s before now last h = subst (λ x. IfWriteFault s (λ failed. Rose before now × (last ≡ Some failed) × IfSome x (λ k. Contains (written_names k) failed))) (sym e) h

if-read : (s : Status) (R : Type 0) (P Q : FileName → Type 0) → IfReadFault s (λ n. R × P n × Q n) → IfReadFault s (λ n. R)
if-read Balanced R P Q h = tt
if-read Generated R P Q h = tt
if-read Migrated R P Q h = tt
if-read Published R P Q h = tt
if-read Ranged R P Q h = tt
if-read Series R P Q h = tt
if-read Shared R P Q h = tt
if-read NoMemory R P Q h = tt
if-read Usage R P Q h = tt
if-read Infeasible R P Q h = tt
if-read (BadSettings e) R P Q h = tt
if-read (BadClasses e) R P Q h = tt
if-read (BadSource e) R P Q h = tt
if-read (BadEdits e) R P Q h = tt
if-read (BadTable e) R P Q h = tt
if-read (NotAdmissible e) R P Q h = tt
if-read (BadAsks e) R P Q h = tt
if-read (BadDismiss e) R P Q h = tt
if-read (TooManyPairs n) R P Q h = tt
if-read (BadYear k e) R P Q h = tt
if-read (ReadFault n) R P Q h = h.0
if-read (WriteFault n) R P Q h = tt
if-read (Missing n) R P Q h = tt
if-read SinkFault R P Q h = tt
if-read (TooLong n) R P Q h = tt

if-write : (s : Status) (R : Type 0) (P Q : FileName → Type 0) → IfWriteFault s (λ n. R × P n × Q n) → IfWriteFault s (λ n. R)
if-write Balanced R P Q h = tt
if-write Generated R P Q h = tt
if-write Migrated R P Q h = tt
if-write Published R P Q h = tt
if-write Ranged R P Q h = tt
if-write Series R P Q h = tt
if-write Shared R P Q h = tt
if-write NoMemory R P Q h = tt
if-write Usage R P Q h = tt
if-write Infeasible R P Q h = tt
if-write (BadSettings e) R P Q h = tt
if-write (BadClasses e) R P Q h = tt
if-write (BadSource e) R P Q h = tt
if-write (BadEdits e) R P Q h = tt
if-write (BadTable e) R P Q h = tt
if-write (NotAdmissible e) R P Q h = tt
if-write (BadAsks e) R P Q h = tt
if-write (BadDismiss e) R P Q h = tt
if-write (TooManyPairs n) R P Q h = tt
if-write (BadYear k e) R P Q h = tt
if-write (ReadFault n) R P Q h = tt
if-write (WriteFault n) R P Q h = h.0
if-write (Missing n) R P Q h = tt
if-write SinkFault R P Q h = tt
if-write (TooLong n) R P Q h = tt

-- where the input is given and no count rose, the run is done, or memory ran out
pub complete-told : (seats : List SeatFacts) (c : Command) (held : Option Files) (s : Status) (before now : ℕ) (last : Option FileName) {K : Type 0} → IfSome held (λ files. AnswersInput seats c files s)
    → IfReadFault s (λ failed. Rose before now × (last ≡ Some failed) × Contains (read_names c) failed)
    → IfWriteFault s (λ failed. Rose before now × (last ≡ Some failed) × Contains (written_names c) failed)
    → (s ≡ SinkFault → K)
    → IfSome held (λ files. IsOk (input_of seats c None files) → ¬ Rose before now → ¬ K → (s ≡ NoMemory) ⊎ IsDone s)
complete-told seats c None s before now last says read write sink = tt
complete-told seats c (Some files) s before now last says read write sink =
    complete_from seats c files _ _ s says (if-read s (Rose before now) (λ failed. last ≡ Some failed) (λ failed. Contains (read_names c) failed) read) (if-write s (Rose before now) (λ failed. last ≡ Some failed) (λ failed. Contains (written_names c) failed) write) sink
