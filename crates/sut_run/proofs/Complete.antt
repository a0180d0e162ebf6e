-- Completeness follows from what each answer says.
use Rattle.std.proofs.Common.{◌≡◌, ◌⊎◌, List, None, Result, Ok, Err, inl, inr, refl}
use Rattle.std.specs.Prelude.{IsOk}
use Rattle.sut_outside.specs.Files.{Files}
use Rattle.sut_status.specs.declared.statuses.Status.{Status}
use Rattle.sut_status.specs.declared.statuses.Status.TheVariants.{Balanced, Generated, Migrated, Published, Ranged, Series, Shared, NoMemory, Usage, Infeasible, BadSettings, BadClasses, BadSource, BadEdits, BadTable, NotAdmissible, BadAsks, BadDismiss, TooManyPairs, BadYear, ReadFault, WriteFault, Missing, SinkFault, TooLong}
use Rattle.sut_review.specs.Seats.{SeatFacts}
use Rattle.sut_run.specs.declared.commands.Command.{Command}
use Rattle.sut_run.specs.Inputs.{input_of}
use Rattle.sut_run.specs.Ends.{AnswersInput, IsDone}
use Rattle.sut_run.specs.Steps.{IfReadFault, IfWriteFault}

-- what was refused was not given
not_given : {X : Type 0} (input : Result X Status) (refused : Status) → input ≡ Err refused → IsOk input → ⊥
not_given (Ok x) refused e ok = cc
not_given (Err s) refused e ok = cc

-- where the input is given and no count rose, the run is done, or memory ran out
pub complete_from :
    (seats : List SeatFacts) (c : Command) (files : Files) (R K : Type 0) (status : Status) → AnswersInput seats c files status →
    IfReadFault status (λ _. R) → IfWriteFault status (λ _. R) → (status ≡ SinkFault → K) → IsOk (input_of seats c None files) →
    ¬ R → ¬ K → (status ≡ NoMemory) ⊎ IsDone status
complete_from seats c files R K Balanced says read write sink given no_r no_k = inr tt
complete_from seats c files R K Generated says read write sink given no_r no_k = inr tt
complete_from seats c files R K Migrated says read write sink given no_r no_k = inr tt
complete_from seats c files R K Published says read write sink given no_r no_k = inr tt
complete_from seats c files R K Ranged says read write sink given no_r no_k = inr tt
complete_from seats c files R K Series says read write sink given no_r no_k = inr tt
complete_from seats c files R K Shared says read write sink given no_r no_k = inr tt
complete_from seats c files R K Infeasible says read write sink given no_r no_k = inr tt
complete_from seats c files R K NoMemory says read write sink given no_r no_k = inl refl
complete_from seats c files R K Usage says read write sink given no_r no_k = absurd (not_given _ _ says given)
complete_from seats c files R K (BadSettings f) says read write sink given no_r no_k = absurd (not_given _ _ says given)
complete_from seats c files R K (BadClasses f) says read write sink given no_r no_k = absurd (not_given _ _ says given)
complete_from seats c files R K (BadSource f) says read write sink given no_r no_k = absurd (not_given _ _ says given)
complete_from seats c files R K (BadEdits f) says read write sink given no_r no_k = absurd (not_given _ _ says given)
complete_from seats c files R K (BadTable e) says read write sink given no_r no_k = absurd (not_given _ _ says given)
complete_from seats c files R K (NotAdmissible e) says read write sink given no_r no_k = absurd (not_given _ _ says given)
complete_from seats c files R K (BadAsks e) says read write sink given no_r no_k = absurd (not_given _ _ says given)
complete_from seats c files R K (BadDismiss e) says read write sink given no_r no_k = absurd (not_given _ _ says given)
complete_from seats c files R K (TooManyPairs n) says read write sink given no_r no_k = absurd (not_given _ _ says given)
complete_from seats c files R K (BadYear k e) says read write sink given no_r no_k = absurd (not_given _ _ says given)
complete_from seats c files R K (ReadFault n) says read write sink given no_r no_k = absurd (no_r read)
complete_from seats c files R K (WriteFault n) says read write sink given no_r no_k = absurd (no_r write)
complete_from seats c files R K (Missing n) says read write sink given no_r no_k = absurd (not_given _ _ says given)
complete_from seats c files R K SinkFault says read write sink given no_r no_k = absurd (no_k (sink refl))
complete_from seats c files R K (TooLong n) says read write sink given no_r no_k = absurd (not_given _ _ says given)
