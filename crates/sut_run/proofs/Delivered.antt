-- A delivery after the reading part, and what each answer says.
use Rattle.std.proofs.Common.{◌≡◌, ◌≤◌, ◌∙◌, ◌⊎◌, ℕ, zero, suc, List, [], ◌∷◌, ◌++◌, map, length, Option, Some, None, Result, Ok, Err, Contains, IfSome, inl, inr, refl, sym, ap, subst, arith}
use Rattle.std.specs.Prelude.{IsOk}
use Rattle.sut_outside.specs.declared.names.FileName.{FileName}
use Rattle.sut_outside.specs.declared.names.FileName.TheVariants.{SourceCsv, BalancedCsv, SupplyCsv, UseCsv, AccountsCsv, CertificateCsv, ReportJson}
use Rattle.sut_outside.specs.declared.shelf.TheConstants.{FILE_LIMIT}
use Rattle.sut_outside.specs.Files.{Files, SameFiles, Told}
use Rattle.sut_outside.specs.Causes.{Rose}
use Rattle.sut_outside.proofs.Told.{same_files, told_as}
use Rattle.sut_records.specs.FirstFault.{and_then, fault_as}
use Rattle.sut_settings.specs.SettingsFacts.{SettingsFacts}
use Rattle.sut_tables.specs.ProblemFacts.{ProblemFacts}
use Rattle.sut_write.specs.Answers.{HasAdmissibleTable}
use Rattle.sut_cert.specs.Right.{IsRight}
use Rattle.sut_cert.specs.declared.answers.Answer.{Answer}
use Rattle.sut_cert.specs.declared.answers.Answer.TheVariants as answer
use Rattle.sut_review.specs.Seats.{SeatFacts}
use Rattle.sut_input.specs.Inputs.{problem_in, problem_names}
use Rattle.sut_input.specs.Reads.{FailsAmong, Refuses, Step}
use Rattle.sut_input.specs.declared.faults.InputFault.{InputFault}
use Rattle.sut_input.specs.declared.faults.InputFault.TheVariants as fault
use Rattle.sut_status.specs.declared.statuses.Status.{Status}
use Rattle.sut_status.specs.declared.statuses.Status.TheVariants.{Balanced, Generated, Migrated, Published, Ranged, Series, Shared, NoMemory, Infeasible, WriteFault, SinkFault}
use Rattle.sut_run.specs.declared.commands.Command.{Command}
use Rattle.sut_run.specs.declared.commands.Command.TheVariants.{Balance, Edit, Migrate, Generate}
use Rattle.sut_run.specs.Commands.{answer_names, written_names}
use Rattle.sut_run.specs.Inputs.{Given, for_balance, input_of, refused, to_balance}
use Rattle.sut_editing.specs.Shown.{seats_shown}
use Rattle.sut_run.specs.Deliveries.{Delivery, Gives, GivesAnswer, answer_files, review_files, status_of}
use Rattle.sut_run.specs.Prepared.{IsPrepared}
use Rattle.sut_run.specs.Steps.{Delivered, FailsWriting, IfReadFault, IfWriteFault, SameSent, StopsDelivery, StopsWriting, WritesEnd}
use Rattle.sut_run.specs.Ends.{AnswersInput, Delivers, DeliversRight, IsDone, IsEndOf, Stands}
use Rattle.sut_run.specs.Ready.{IsRefusal, IsRefused}

pub sent-same : (sent : Option (List ℕ)) → Told sent sent SameSent
sent-same None = tt
sent-same (Some bytes) = refl

pub whatever : (held : Option Files) → IfSome held (λ files. Unit {0})
whatever None = tt
whatever (Some files) = tt

-- ---- a write that stopped

pub stop-stands : (texts : List (FileName × List ℕ)) (lines : List ℕ) (names : List FileName) (stopped : Status) → StopsWriting names stopped → (sent : Option (List ℕ)) (old new : Files)
    → WritesEnd texts {T = Unit {0}} (Err stopped) old new → Delivered texts lines {T = Unit {0}} (Err stopped) old new sent sent
stop-stands texts lines names NoMemory s sent old new w = (w, sent-same sent)
stop-stands texts lines names (WriteFault n) s sent old new w = (w, sent-same sent)
stop-stands texts lines names _ s sent old new w = absurd s

pub stops-delivery : (names : List FileName) (stopped : Status) → StopsWriting names stopped → StopsDelivery names stopped
stops-delivery names NoMemory s = tt
stops-delivery names (WriteFault n) s = s
stops-delivery names _ s = absurd s

pub stops-no-sink : (names : List FileName) (stopped : Status) → StopsWriting names stopped → stopped ≡ SinkFault → ⊥
stops-no-sink names stopped s e = subst (StopsWriting names) e s

-- ---- a refused input

given-for : {A : Type 0} (seats : List SeatFacts) (c : Command) (step : Step A) (next : A → Result Given Status) → ((failed : Option FileName) (files : Files) → input_of seats c failed files ≡ and_then (fault_as refused (step failed files)) next)
    → (failed : Option FileName) (files : Files) (r : Result A InputFault) → step failed files ≡ r → input_of seats c failed files ≡ and_then (fault_as refused r) next
given-for seats c step next is failed files r e = is failed files ∙ ap (λ w. and_then (fault_as refused w) next) e

pub refused-answers : {A : Type 0} (seats : List SeatFacts) (c : Command) (step : Step A) (next : A → Result Given Status) → ((failed : Option FileName) (files : Files) → input_of seats c failed files ≡ and_then (fault_as refused (step failed files)) next)
    → (held : Option Files) (f : InputFault) → IfSome held (λ files. Refuses step files f) → IfSome held (λ files. AnswersInput seats c files (refused f))
refused-answers seats c step next is None f h = tt
refused-answers seats c step next is (Some files) fault.NoMemory h = tt
refused-answers seats c step next is (Some files) (fault.ReadFault n) h = given-for seats c step next is (Some n) files (Err (fault.ReadFault n)) h
refused-answers seats c step next is (Some files) (fault.Missing n) h = given-for seats c step next is None files (Err (fault.Missing n)) h
refused-answers seats c step next is (Some files) (fault.TooLong n) h = given-for seats c step next is None files (Err (fault.TooLong n)) h
refused-answers seats c step next is (Some files) (fault.BadSettings e) h = given-for seats c step next is None files (Err (fault.BadSettings e)) h
refused-answers seats c step next is (Some files) (fault.BadClasses e) h = given-for seats c step next is None files (Err (fault.BadClasses e)) h
refused-answers seats c step next is (Some files) (fault.BadSource e) h = given-for seats c step next is None files (Err (fault.BadSource e)) h

balance-answers : (seats : List SeatFacts) (held : Option Files) (f : InputFault) → IfSome held (λ files. Refuses (problem_in SourceCsv) files f) → IfSome held (λ files. AnswersInput seats Balance files (refused f))
balance-answers seats held f h = refused-answers seats Balance (problem_in SourceCsv) for_balance (λ failed files. refl) held f h

pub refused-reads : (names : List FileName) (f : InputFault) (before now : ℕ) (last : Option FileName) → FailsAmong names before now last f
    → IfReadFault (refused f) (λ failed. Rose before now × (last ≡ Some failed) × Contains names failed)
refused-reads names fault.NoMemory before now last h = tt
refused-reads names (fault.ReadFault n) before now last h = h
refused-reads names (fault.Missing n) before now last h = tt
refused-reads names (fault.TooLong n) before now last h = tt
refused-reads names (fault.BadSettings e) before now last h = tt
refused-reads names (fault.BadClasses e) before now last h = tt
refused-reads names (fault.BadSource e) before now last h = tt

pub is-refusal : (f : InputFault) → IsRefusal (refused f)
is-refusal fault.NoMemory = tt
is-refusal (fault.ReadFault n) = tt
is-refusal (fault.Missing n) = tt
is-refusal (fault.TooLong n) = tt
is-refusal (fault.BadSettings e) = tt
is-refusal (fault.BadClasses e) = tt
is-refusal (fault.BadSource e) = tt

-- the year's files are refused
pub balance-refused : (seats : List SeatFacts) (held : Option Files) (f : InputFault) (before now : ℕ) (last : Option FileName) → IfSome held (λ files. Refuses (problem_in SourceCsv) files f) → FailsAmong (problem_names SourceCsv) before now last f
    → IsRefused seats Balance held before now last (refused f)
balance-refused seats held f before now last h fails = record {
  refusal = is-refusal f;
  answers = balance-answers seats held f h;
  cause = refused-reads (problem_names SourceCsv) f before now last fails;
}

-- want of memory refuses any input
pub memory-refused : (seats : List SeatFacts) (c : Command) (held : Option Files) (before now : ℕ) (last : Option FileName) → IsRefused seats c held before now last NoMemory
memory-refused seats c held before now last = record { refusal = tt; answers = whatever held; cause = tt }

-- a refusal leaves all as it was
refusal-stands : (seats : List SeatFacts) (c : Command) (s : Status) → IsRefusal s → (sent : Option (List ℕ)) (old new : Files) → SameFiles old new → Stands seats c s sent sent old new
refusal-stands seats c NoMemory is sent old new same = inl (same, sent-same sent)
refusal-stands seats c Balanced is sent old new same = absurd is
refusal-stands seats c Generated is sent old new same = absurd is
refusal-stands seats c Migrated is sent old new same = absurd is
refusal-stands seats c Published is sent old new same = absurd is
refusal-stands seats c Ranged is sent old new same = absurd is
refusal-stands seats c Series is sent old new same = absurd is
refusal-stands seats c Shared is sent old new same = absurd is
refusal-stands seats c Infeasible is sent old new same = absurd is
refusal-stands seats c (WriteFault n) is sent old new same = absurd is
refusal-stands seats c SinkFault is sent old new same = absurd is
refusal-stands seats c _ is sent old new same = (same, sent-same sent)

pub refusal-told : (seats : List SeatFacts) (c : Command) (s : Status) → IsRefusal s → (sent : Option (List ℕ)) (old new : Option Files) → Told old new SameFiles → Told old new (Stands seats c s sent sent)
refusal-told seats c s is sent old new kept = told_as SameFiles (Stands seats c s sent sent) (refusal-stands seats c s is sent) old new kept

pub refusal-writes : (s : Status) → IsRefusal s → (P : FileName → Type 0) → IfWriteFault s P
refusal-writes (WriteFault n) is P = absurd is
refusal-writes _ is P = tt

pub refusal-not-done : (s : Status) → IsRefusal s → IsDone s → ⊥
refusal-not-done Balanced is done = is
refusal-not-done Generated is done = is
refusal-not-done Migrated is done = is
refusal-not-done Published is done = is
refusal-not-done Ranged is done = is
refusal-not-done Series is done = is
refusal-not-done Shared is done = is
refusal-not-done Infeasible is done = is
refusal-not-done _ is done = done

-- ---- a delivery

right : (seats : List SeatFacts) (c : Command) (input : Given) (ends : Status) (d : Delivery) → Gives seats input ends d → (status : Status) (before after : Option (List ℕ)) (old now new : Files) → SameFiles old now
    → input_of seats c None old ≡ Ok input → Delivers d ends status now new before after → DeliversRight seats c status old new before after
right seats c input ends d gives status before after old now new same read delivers =
    let P : Files → Type 0 = λ files. Delivers d ends status files new before after in
    rw read (ends, d, gives, subst P (same_files old now same) delivers)

-- what was made for an input was delivered
pub done-stands : (seats : List SeatFacts) (c : Command) (input : Given) (done : Status) (d : Delivery) → Gives seats input done d → IsDone done → (before after : Option (List ℕ)) (old now new : Files) → SameFiles old now
    → input_of seats c None old ≡ Ok input → Delivered d.texts d.lines {T = Unit {0}} (Ok tt) now new before after → Stands seats c done before after old new
done-stands seats c input Balanced d gives is before after old now new same read w = right seats c input Balanced d gives Balanced before after old now new same read (refl, w.0, w.1)
done-stands seats c input Generated d gives is before after old now new same read w = right seats c input Generated d gives Generated before after old now new same read (refl, w.0, w.1)
done-stands seats c input Migrated d gives is before after old now new same read w = right seats c input Migrated d gives Migrated before after old now new same read (refl, w.0, w.1)
done-stands seats c input Published d gives is before after old now new same read w = right seats c input Published d gives Published before after old now new same read (refl, w.0, w.1)
done-stands seats c input Ranged d gives is before after old now new same read w = right seats c input Ranged d gives Ranged before after old now new same read (refl, w.0, w.1)
done-stands seats c input Series d gives is before after old now new same read w = right seats c input Series d gives Series before after old now new same read (refl, w.0, w.1)
done-stands seats c input Shared d gives is before after old now new same read w = right seats c input Shared d gives Shared before after old now new same read (refl, w.0, w.1)
done-stands seats c input Infeasible d gives is before after old now new same read w = right seats c input Infeasible d gives Infeasible before after old now new same read (refl, w.0, w.1)
done-stands seats c input _ d gives is before after old now new same read w = absurd is

-- the delivery of what was made for an input stopped
pub failed-stands : (seats : List SeatFacts) (c : Command) (input : Given) (done : Status) (d : Delivery) → Gives seats input done d → (names : List FileName) (stopped : Status) → StopsDelivery names stopped
    → (before after : Option (List ℕ)) (old now new : Files) → SameFiles old now → input_of seats c None old ≡ Ok input
    → Delivered d.texts d.lines {T = Unit {0}} (Err stopped) now new before after → Stands seats c stopped before after old new
failed-stands seats c input done d gives names NoMemory stops before after old now new same read w = inr (right seats c input done d gives NoMemory before after old now new same read w)
failed-stands seats c input done d gives names (WriteFault n) stops before after old now new same read w = right seats c input done d gives (WriteFault n) before after old now new same read w
failed-stands seats c input done d gives names SinkFault stops before after old now new same read w = right seats c input done d gives SinkFault before after old now new same read w
failed-stands seats c input done d gives names _ stops before after old now new same read w = absurd stops

-- what was made for a right answer is given for its problem
pub gives-answer : (seats : List SeatFacts) (p : ProblemFacts) (done : Status) (texts : List (FileName × List ℕ)) (lines : List ℕ) → IsPrepared seats p done texts lines → GivesAnswer seats p done (record { texts = texts; lines = lines })
gives-answer seats p done texts lines x = record {
  answer = x.answer;
  right = x.right;
  ends = x.ends;
  delivers = λ i. record { texts = x.written i; lines = x.printed i };
}

pub given : (seats : List SeatFacts) (s : SettingsFacts) (p : ProblemFacts) (old : Files) → problem_in SourceCsv None old ≡ Ok (s, p) → input_of seats Balance None old ≡ Ok (to_balance s p)
given seats s p old e = given-for seats Balance (problem_in SourceCsv) for_balance (λ failed files. refl) None old (Ok (s, p)) e

pub given-told : (seats : List SeatFacts) (s : SettingsFacts) (p : ProblemFacts) (held : Option Files) → IfSome held (λ files. problem_in SourceCsv None files ≡ Ok (s, p)) → IfSome held (λ files. input_of seats Balance None files ≡ Ok (to_balance s p))
given-told seats s p None h = tt
given-told seats s p (Some files) h = given seats s p files h

-- what the answers say of the input

ok-of : (seats : List SeatFacts) (c : Command) (input : Given) (old : Files) → input_of seats c None old ≡ Ok input → IsOk (input_of seats c None old)
ok-of seats c input old e = rw e refl

pub done-answers : (seats : List SeatFacts) (c : Command) (input : Given) (done : Status) → IsDone done → (held : Option Files) → IfSome held (λ files. input_of seats c None files ≡ Ok input) → IfSome held (λ files. AnswersInput seats c files done)
done-answers seats c input done is None h = tt
done-answers seats c input Balanced is (Some files) h = ok-of seats c input files h
done-answers seats c input Generated is (Some files) h = ok-of seats c input files h
done-answers seats c input Migrated is (Some files) h = ok-of seats c input files h
done-answers seats c input Published is (Some files) h = ok-of seats c input files h
done-answers seats c input Ranged is (Some files) h = ok-of seats c input files h
done-answers seats c input Series is (Some files) h = ok-of seats c input files h
done-answers seats c input Shared is (Some files) h = ok-of seats c input files h
done-answers seats c input Infeasible is (Some files) h = ok-of seats c input files h
done-answers seats c input _ is (Some files) h = absurd is

pub failed-answers : (seats : List SeatFacts) (c : Command) (input : Given) (names : List FileName) (stopped : Status) → StopsDelivery names stopped → (held : Option Files) → IfSome held (λ files. input_of seats c None files ≡ Ok input)
    → IfSome held (λ files. AnswersInput seats c files stopped)
failed-answers seats c input names stopped stops None h = tt
failed-answers seats c input names NoMemory stops (Some files) h = tt
failed-answers seats c input names (WriteFault n) stops (Some files) h = ok-of seats c input files h
failed-answers seats c input names SinkFault stops (Some files) h = ok-of seats c input files h
failed-answers seats c input names _ stops (Some files) h = absurd stops

-- ---- faults of devices

pub done-reads : (done : Status) → IsDone done → (P : FileName → Type 0) → IfReadFault done P
done-reads Balanced is P = tt
done-reads Generated is P = tt
done-reads Migrated is P = tt
done-reads Published is P = tt
done-reads Ranged is P = tt
done-reads Series is P = tt
done-reads Shared is P = tt
done-reads Infeasible is P = tt
done-reads _ is P = absurd is

pub done-writes : (done : Status) → IsDone done → (P : FileName → Type 0) → IfWriteFault done P
done-writes Balanced is P = tt
done-writes Generated is P = tt
done-writes Migrated is P = tt
done-writes Published is P = tt
done-writes Ranged is P = tt
done-writes Series is P = tt
done-writes Shared is P = tt
done-writes Infeasible is P = tt
done-writes _ is P = absurd is

pub failed-reads : (names : List FileName) (stopped : Status) → StopsDelivery names stopped → (P : FileName → Type 0) → IfReadFault stopped P
failed-reads names NoMemory stops P = tt
failed-reads names (WriteFault n) stops P = tt
failed-reads names SinkFault stops P = tt
failed-reads names _ stops P = absurd stops

six-of-seven : (n : FileName) → Contains (BalancedCsv ∷ SupplyCsv ∷ UseCsv ∷ AccountsCsv ∷ CertificateCsv ∷ ReportJson ∷ []) n → Contains answer_names n
six-of-seven n (zero, below, is) = (0, omega arith, is)
six-of-seven n (suc zero, below, is) = (1, omega arith, is)
six-of-seven n (suc (suc zero), below, is) = (2, omega arith, is)
six-of-seven n (suc (suc (suc zero)), below, is) = (3, omega arith, is)
six-of-seven n (suc (suc (suc (suc zero))), below, is) = (4, omega arith, is)
six-of-seven n (suc (suc (suc (suc (suc zero)))), below, is) = (5, omega arith, is)
six-of-seven n (suc (suc (suc (suc (suc (suc k))))), below, is) = absurd (omega arith)

-- the names of what is written of an answer and of its review
pub names-within : (seats : List SeatFacts) (p : ProblemFacts) (a : Answer) (n : FileName) → Contains (map (λ (f : FileName × List ℕ). f.0) (answer_files p a ++ review_files seats)) n → Contains answer_names n
names-within [] p (answer.Balanced t ps) n h = six-of-seven n h
names-within (seat ∷ seats) p (answer.Balanced t ps) n h = h
names-within [] p (answer.Infeasible set) n (zero, below, is) = (4, omega arith, is)
names-within [] p (answer.Infeasible set) n (suc zero, below, is) = (5, omega arith, is)
names-within [] p (answer.Infeasible set) n (suc (suc k), below, is) = absurd (omega arith)
names-within (seat ∷ seats) p (answer.Infeasible set) n (zero, below, is) = (4, omega arith, is)
names-within (seat ∷ seats) p (answer.Infeasible set) n (suc zero, below, is) = (5, omega arith, is)
names-within (seat ∷ seats) p (answer.Infeasible set) n (suc (suc zero), below, is) = (6, omega arith, is)
names-within (seat ∷ seats) p (answer.Infeasible set) n (suc (suc (suc k)), below, is) = absurd (omega arith)

pub prepared-names : (seats : List SeatFacts) (p : ProblemFacts) (done : Status) (texts : List (FileName × List ℕ)) (lines : List ℕ) → IsPrepared seats p done texts lines → (names : List FileName)
    → names ≡ map (λ (f : FileName × List ℕ). f.0) texts → (n : FileName) → Contains names n → Contains (written_names Balance) n
prepared-names seats p done texts lines x names same n h =
    names-within (seats_shown p x.answer seats) p x.answer n (subst (λ xs. Contains xs n) (same ∙ ap (map (λ (f : FileName × List ℕ). f.0)) x.written) h)

pub failed-writes : (c : Command) (names : List FileName) → ((n : FileName) → Contains names n → Contains (written_names c) n) → (stopped : Status) → StopsDelivery names stopped
    → (before between now : ℕ) (last : Option FileName) → before ≤ between → FailsWriting between now last stopped
    → IfWriteFault stopped (λ name. Rose before now × (last ≡ Some name) × Contains (written_names c) name)
failed-writes c names within (WriteFault n) stops before between now last later cause =
    (omega (arith, later, cause.0), cause.1, within n stops)
failed-writes c names within NoMemory stops before between now last later cause = tt
failed-writes c names within SinkFault stops before between now last later cause = tt
failed-writes c names within _ stops before between now last later cause = absurd stops

-- a delivery that stopped is not done
pub stopped-not-done : (names : List FileName) (stopped : Status) → StopsDelivery names stopped → IsDone stopped → ⊥
stopped-not-done names NoMemory stops done = done
stopped-not-done names (WriteFault n) stops done = done
stopped-not-done names SinkFault stops done = done
stopped-not-done names _ stops done = stops

-- an answer of a command is one with which it is done
pub end-done : (c : Command) (s : Status) → IsEndOf c s → IsDone s
end-done Balance s (inl e) = subst IsDone (sym e) tt
end-done Balance s (inr e) = subst IsDone (sym e) tt
end-done Edit s (inl e) = subst IsDone (sym e) tt
end-done Edit s (inr e) = subst IsDone (sym e) tt
end-done Migrate s e = subst IsDone (sym e) tt
end-done (Generate seed products industries) s e = subst IsDone (sym e) tt

pub answer-ends : (a : Answer) (done : Status) → done ≡ status_of a → (done ≡ Balanced) ⊎ (done ≡ Infeasible)
answer-ends (answer.Balanced t ps) done ends = inl ends
answer-ends (answer.Infeasible set) done ends = inr ends

-- ---- what right answers have

pub has-table : (p : ProblemFacts) (a : Answer) → IsRight p a → HasAdmissibleTable p a
has-table p (answer.Balanced t ps) r = r.least.admissible
has-table p (answer.Infeasible set) r = tt

-- what reads back from a text reads back from the bytes that are it
pub by-text : {A F : Type 0} (read : List ℕ → Result A F) (value : A) (bytes text : List ℕ) → bytes ≡ text → read bytes ≡ Ok value → read text ≡ Ok value
by-text read value bytes text e h = subst (λ b. read b ≡ Ok value) e h

pub short-text : (bytes text : List ℕ) → bytes ≡ text → length bytes ≤ FILE_LIMIT → length text ≤ FILE_LIMIT
short-text bytes text e h = subst (λ b. length b ≤ FILE_LIMIT) e h
