-- What each answer of a run says of its input, and what stands after it.
use Rattle.std.specs.Prelude.{◌≡◌, ◌⊎◌, ℕ, List, Option, Some, None, Ok, Err, IfSome, IsOk, IsOkAnd, ⊤}
use Rattle.sut_outside.specs.declared.names.FileName.{FileName}
use Rattle.sut_outside.specs.Files.{Files, SameFiles, Told}
use Rattle.sut_outside.specs.Deliveries.{WrittenAll, StoppedAt}
use Rattle.sut_outside.specs.Sent.{AppendsPart}
use Rattle.sut_status.specs.declared.statuses.Status.{Status}
use Rattle.sut_status.specs.declared.statuses.Status.TheVariants.{Balanced, Generated, Migrated, Published, Ranged, Series, Shared, NoMemory, Usage, Infeasible, BadSettings, BadClasses, BadSource, BadEdits, BadTable, NotAdmissible, BadAsks, BadDismiss, TooManyPairs, BadYear, ReadFault, WriteFault, Missing, SinkFault, TooLong}
use Rattle.sut_run.specs.declared.commands.Command.{Command}
use Rattle.sut_run.specs.declared.commands.Command.TheVariants.{Balance, Edit, Migrate, Generate}
use Rattle.sut_run.specs.Inputs.{Given, input_of}
use Rattle.sut_review.specs.Seats.{SeatFacts}
use Rattle.sut_run.specs.Deliveries.{Delivery, Gives}
use Rattle.sut_run.specs.Steps.{SameSent, Sends}

-- the run was done
abbrev pub IsDone : Status → Type 0
IsDone Balanced = ⊤
IsDone Generated = ⊤
IsDone Migrated = ⊤
IsDone Published = ⊤
IsDone Ranged = ⊤
IsDone Series = ⊤
IsDone Shared = ⊤
IsDone Infeasible = ⊤
IsDone _ = ⊥

-- an answer with which a run of the command may be done
abbrev pub IsEndOf : Command → Status → Type 0
IsEndOf Balance s = (s ≡ Balanced) ⊎ (s ≡ Infeasible)
IsEndOf Edit s = (s ≡ Balanced) ⊎ (s ≡ Infeasible)
IsEndOf Migrate s = s ≡ Migrated
IsEndOf (Generate seed products industries) s = s ≡ Generated

-- What an answer says of the input at entry. Want of memory: nothing. A failed read: where that read fails, nothing is
-- refused before it. A failed write or put, or a run that was done: the input was accepted. Any other answer is the
-- input's first refusal.
abbrev pub AnswersInput : List SeatFacts → Command → Files → Status → Type 0
AnswersInput seats c files NoMemory = ⊤
AnswersInput seats c files (ReadFault name) = input_of seats c (Some name) files ≡ Err (ReadFault name)
AnswersInput seats c files (WriteFault name) = IsOk (input_of seats c None files)
AnswersInput seats c files SinkFault = IsOk (input_of seats c None files)
AnswersInput seats c files Balanced = IsOk (input_of seats c None files)
AnswersInput seats c files Generated = IsOk (input_of seats c None files)
AnswersInput seats c files Migrated = IsOk (input_of seats c None files)
AnswersInput seats c files Published = IsOk (input_of seats c None files)
AnswersInput seats c files Ranged = IsOk (input_of seats c None files)
AnswersInput seats c files Series = IsOk (input_of seats c None files)
AnswersInput seats c files Shared = IsOk (input_of seats c None files)
AnswersInput seats c files Infeasible = IsOk (input_of seats c None files)
AnswersInput seats c files Usage = input_of seats c None files ≡ Err Usage
AnswersInput seats c files (BadSettings e) = input_of seats c None files ≡ Err (BadSettings e)
AnswersInput seats c files (BadClasses e) = input_of seats c None files ≡ Err (BadClasses e)
AnswersInput seats c files (BadSource e) = input_of seats c None files ≡ Err (BadSource e)
AnswersInput seats c files (BadEdits e) = input_of seats c None files ≡ Err (BadEdits e)
AnswersInput seats c files (BadTable e) = input_of seats c None files ≡ Err (BadTable e)
AnswersInput seats c files (NotAdmissible e) = input_of seats c None files ≡ Err (NotAdmissible e)
AnswersInput seats c files (BadAsks e) = input_of seats c None files ≡ Err (BadAsks e)
AnswersInput seats c files (BadDismiss e) = input_of seats c None files ≡ Err (BadDismiss e)
AnswersInput seats c files (TooManyPairs n) = input_of seats c None files ≡ Err (TooManyPairs n)
AnswersInput seats c files (BadYear k e) = input_of seats c None files ≡ Err (BadYear k e)
AnswersInput seats c files (Missing name) = input_of seats c None files ≡ Err (Missing name)
AnswersInput seats c files (TooLong name) = input_of seats c None files ≡ Err (TooLong name)

-- nothing was written and nothing was printed
abbrev pub LeavesAll : Files → Files → Option (List ℕ) → Option (List ℕ) → Type 0
LeavesAll old new before after = SameFiles old new × Told before after SameSent

-- What a delivery leaves, by the answer: want of memory or a fault at a write, a fault at the put, or the answer with
-- which the run is done.
abbrev pub Delivers : Delivery → Status → Status → Files → Files → Option (List ℕ) → Option (List ℕ) → Type 0
Delivers d ends NoMemory old new before after = ((name : FileName) × StoppedAt name d.texts old new) × Told before after SameSent
Delivers d ends (WriteFault name) old new before after = StoppedAt name d.texts old new × Told before after SameSent
Delivers d ends SinkFault old new before after = WrittenAll d.texts old new × Told before after (AppendsPart d.lines)
Delivers d ends done old new before after = (done ≡ ends) × WrittenAll d.texts old new × Told before after (Sends d.lines)

-- a right delivery for the input at entry was begun, and this is what it left
abbrev pub DeliversRight : List SeatFacts → Command → Status → Files → Files → Option (List ℕ) → Option (List ℕ) → Type 0
DeliversRight seats c status old new before after =
    IsOkAnd (input_of seats c None old)
    (λ input. (ends : Status) × (d : Delivery) × Gives seats input ends d × Delivers d ends status old new before after)

-- What stands on the shelf and went out of the sink after a run, by its answer. The reviewers are as they were handed in.
abbrev pub Stands : List SeatFacts → Command → Status → Option (List ℕ) → Option (List ℕ) → Files → Files → Type 0
Stands seats c NoMemory before after old new =
    LeavesAll old new before after ⊎ DeliversRight seats c NoMemory old new before after
Stands seats c (WriteFault name) before after old new = DeliversRight seats c (WriteFault name) old new before after
Stands seats c SinkFault before after old new = DeliversRight seats c SinkFault old new before after
Stands seats c Balanced before after old new = DeliversRight seats c Balanced old new before after
Stands seats c Generated before after old new = DeliversRight seats c Generated old new before after
Stands seats c Migrated before after old new = DeliversRight seats c Migrated old new before after
Stands seats c Published before after old new = DeliversRight seats c Published old new before after
Stands seats c Ranged before after old new = DeliversRight seats c Ranged old new before after
Stands seats c Series before after old new = DeliversRight seats c Series old new before after
Stands seats c Shared before after old new = DeliversRight seats c Shared old new before after
Stands seats c Infeasible before after old new = DeliversRight seats c Infeasible old new before after
Stands seats c refused before after old new = LeavesAll old new before after

-- the lines of a right delivery with this end, for an input that is the one at entry where the files are told
pub record AreLines (seats : List SeatFacts) (c : Command) (held : Option Files) (ends : Status) (lines : List ℕ) : Type 0 where
  pub input : Given
  pub delivery : Delivery
  pub given : IfSome held (λ files. input_of seats c None files ≡ Ok input)
  pub gives : Gives seats input ends delivery
  pub printed : lines ≡ delivery.lines

-- lines with this property went out, or a part of them from their front
pub record PrintsAll (L : List ℕ → Type 0) (old new : List ℕ) : Type 0 where
  pub lines : List ℕ
  pub spelled : L lines
  pub sent : Sends lines old new

pub record PrintsPart (L : Status → List ℕ → Type 0) (old new : List ℕ) : Type 0 where
  pub ends : Status
  pub lines : List ℕ
  pub spelled : L ends lines
  pub part : AppendsPart lines old new

-- What went out, by the answer: all lines of a run that was done, a part of the lines of one that would be done after a fault
-- at the put, and else nothing.
abbrev pub Prints : (Status → List ℕ → Type 0) → Status → List ℕ → List ℕ → Type 0
Prints L Balanced old new = PrintsAll (L Balanced) old new
Prints L Generated old new = PrintsAll (L Generated) old new
Prints L Migrated old new = PrintsAll (L Migrated) old new
Prints L Published old new = PrintsAll (L Published) old new
Prints L Ranged old new = PrintsAll (L Ranged) old new
Prints L Series old new = PrintsAll (L Series) old new
Prints L Shared old new = PrintsAll (L Shared) old new
Prints L Infeasible old new = PrintsAll (L Infeasible) old new
Prints L SinkFault old new = PrintsPart L old new
Prints L _ old new = SameSent old new
