-- What a command has made before its first write.
use Rattle.std.specs.Prelude.{◌≡◌, ℕ, List, Option, None, Some, Ok, IfSome, ⊤, Contains, map}
use Rattle.sut_outside.specs.declared.names.FileName.{FileName}
use Rattle.sut_outside.specs.Files.{Files, Told}
use Rattle.sut_outside.specs.Deliveries.{WrittenAll}
use Rattle.sut_outside.specs.Causes.{Rose}
use Rattle.sut_status.specs.declared.statuses.Status.{Status}
use Rattle.sut_status.specs.declared.statuses.Status.TheVariants.{Balanced, Generated, Migrated, Published, Ranged, Series, Shared, Infeasible, Usage, WriteFault, SinkFault}
use Rattle.sut_review.specs.Seats.{SeatFacts}
use Rattle.sut_run.specs.declared.commands.Command.{Command}
use Rattle.sut_run.specs.Commands.{read_names, written_names}
use Rattle.sut_run.specs.Inputs.{Given, input_of}
use Rattle.sut_run.specs.Deliveries.{Gives}
use Rattle.sut_run.specs.Headlines.{Headline, IsChecked, WritesClasses, WritesCut, WritesLeast}
use Rattle.sut_run.specs.Steps.{IfReadFault, Sends}
use Rattle.sut_run.specs.Ends.{AnswersInput, IsEndOf}

-- an answer with which a command may refuse its input: nothing was written and nothing printed
abbrev pub IsRefusal : Status → Type 0
IsRefusal Balanced = ⊥
IsRefusal Generated = ⊥
IsRefusal Migrated = ⊥
IsRefusal Published = ⊥
IsRefusal Ranged = ⊥
IsRefusal Series = ⊥
IsRefusal Shared = ⊥
IsRefusal Infeasible = ⊥
IsRefusal (WriteFault name) = ⊥
IsRefusal SinkFault = ⊥
IsRefusal Usage = ⊥
IsRefusal _ = ⊤

-- The input at entry is refused so: the answer is its first refusal, and a failed read is answered only where the count rose,
-- for a file that the command reads, which is then that of the last failed call.
pub record IsRefused (seats : List SeatFacts) (c : Command) (held : Option Files) (before now : ℕ) (last : Option FileName) (s : Status) : Type 0 where
  pub refusal : IsRefusal s
  pub answers : IfSome held (λ files. AnswersInput seats c files s)
  pub cause : IfReadFault s (λ failed. Rose before now × (last ≡ Some failed) × Contains (read_names c) failed)

-- what an answer says of the files, where all texts stand and all lines went out
abbrev pub Promises : List SeatFacts → Command → Status → Option (List ℕ) → Option (List ℕ) → Files → Files → Type 0
Promises seats c Balanced before after old new = Headline seats c (WritesLeast before after) old new
Promises seats c Infeasible before after old new = IsChecked c → Headline seats c (WritesCut before after) old new
Promises seats c Migrated before after old new = WritesClasses old new
Promises seats c _ before after old new = ⊤

-- the texts and the lines are a right delivery for the input at entry, which ends so, and they keep what that answer promises
pub record IsReady (seats : List SeatFacts) (c : Command) (held : Option Files) (done : Status) (texts : List (FileName × List ℕ)) (lines : List ℕ) : Type 0 where
  pub input : Given
  pub given : IfSome held (λ files. input_of seats c None files ≡ Ok input)
  pub gives : Gives seats input done (record { texts = texts; lines = lines })
  pub ends : IsEndOf c done
  pub names : (name : FileName) → Contains (map (λ (text : FileName × List ℕ). text.0) texts) name → Contains (written_names c) name
  pub keeps : IfSome held (λ old. (new : Files) (before after : Option (List ℕ)) → WrittenAll texts old new → Told before after (Sends lines) → Promises seats c done before after old new)
