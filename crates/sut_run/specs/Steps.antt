-- What the steps of a run answer.
use Rattle.std.specs.Prelude.{◌≡◌, ◌++◌, ℕ, List, Option, Some, Result, Ok, Err, ⊤, Contains}
use Rattle.sut_outside.specs.declared.names.FileName.{FileName}
use Rattle.sut_outside.specs.Files.{Files, Told}
use Rattle.sut_outside.specs.Deliveries.{WrittenAll, StoppedAt}
use Rattle.sut_outside.specs.Causes.{Rose}
use Rattle.sut_outside.specs.Sent.{AppendsPart}
use Rattle.sut_status.specs.declared.statuses.Status.{Status}
use Rattle.sut_status.specs.declared.statuses.Status.TheVariants.{NoMemory, ReadFault, WriteFault, SinkFault}

-- a fact on a failed read's name
abbrev pub IfReadFault : Status → (FileName → Type 0) → Type 0
IfReadFault (ReadFault name) P = P name
IfReadFault _ P = ⊤

-- a fact on a failed write's name
abbrev pub IfWriteFault : Status → (FileName → Type 0) → Type 0
IfWriteFault (WriteFault name) P = P name
IfWriteFault _ P = ⊤

-- a failed read or a failed write is answered
abbrev pub IsShelfFault : Status → Type 0
IsShelfFault (ReadFault name) = ⊤
IsShelfFault (WriteFault name) = ⊤
IsShelfFault _ = ⊥

-- a failed write is answered only where the count rose, with the name of the last failed call
abbrev pub FailsWriting : ℕ → ℕ → Option FileName → Status → Type 0
FailsWriting before now last answer = IfWriteFault answer (λ name. Rose before now × (last ≡ Some name))

-- what stands after some writes in order ended so
abbrev pub WritesEnd : List (FileName × List ℕ) → {T : Type 0} → Result T Status → Files → Files → Type 0
WritesEnd texts (Ok _) old new = WrittenAll texts old new
WritesEnd texts (Err NoMemory) old new = (name : FileName) × StoppedAt name texts old new
WritesEnd texts (Err (WriteFault name)) old new = StoppedAt name texts old new
WritesEnd texts (Err _) old new = ⊥

-- an answer with which the writing of these names may stop
abbrev pub StopsWriting : List FileName → Status → Type 0
StopsWriting names NoMemory = ⊤
StopsWriting names (WriteFault name) = Contains names name
StopsWriting names _ = ⊥

-- an answer with which a delivery of these names may stop
abbrev pub StopsDelivery : List FileName → Status → Type 0
StopsDelivery names NoMemory = ⊤
StopsDelivery names (WriteFault name) = Contains names name
StopsDelivery names SinkFault = ⊤
StopsDelivery names _ = ⊥

-- what went out is as before
abbrev pub SameSent : List ℕ → List ℕ → Type 0
SameSent old new = new ≡ old

-- these lines went out
abbrev pub Sends : List ℕ → List ℕ → List ℕ → Type 0
Sends lines old new = new ≡ old ++ lines

-- What went out of a delivery of these lines: all of them, a part of them after a fault at the put, or nothing where a write
-- stopped it.
abbrev pub PutsLines : List ℕ → {T : Type 0} → Result T Status → List ℕ → List ℕ → Type 0
PutsLines lines (Ok _) old new = Sends lines old new
PutsLines lines (Err SinkFault) old new = AppendsPart lines old new
PutsLines lines (Err _) old new = SameSent old new

-- What a delivery leaves. Where a write failed or wanted memory, the writes stopped there and nothing was printed. Where the
-- put failed, all is written and a part of the lines went out. Else all is written and printed.
abbrev pub Delivered : List (FileName × List ℕ) → List ℕ → {T : Type 0} → Result T Status → Files → Files → Option (List ℕ) → Option (List ℕ) → Type 0
Delivered texts lines (Ok _) old new before after = WrittenAll texts old new × Told before after (Sends lines)
Delivered texts lines (Err NoMemory) old new before after = ((name : FileName) × StoppedAt name texts old new) × Told before after SameSent
Delivered texts lines (Err (WriteFault name)) old new before after = StoppedAt name texts old new × Told before after SameSent
Delivered texts lines (Err SinkFault) old new before after = WrittenAll texts old new × Told before after (AppendsPart lines)
Delivered texts lines (Err _) old new before after = ⊥
