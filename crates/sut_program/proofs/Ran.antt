-- What a status says of a run, and where nothing was run.
use Rattle.std.proofs.Common.{◌≡◌, ℕ, List, [], Option, Some, None, Result, Ok, Err, IfSome, inl, inr, refl, ap, subst, arith}
use Rattle.std.specs.Prelude.{◌↔◌, OnErr}
use Rattle.sut_outside.specs.Files.{Files, Told}
use Rattle.sut_status.specs.Codes.{code}
use Rattle.sut_status.specs.declared.statuses.Status.{Status}
use Rattle.sut_status.specs.declared.statuses.Status.TheVariants.{NoMemory, Usage, Balanced, Infeasible}
use Rattle.sut_review.specs.Seats.{SeatFacts}
use Rattle.sut_run.specs.Commands.{command_of}
use Rattle.sut_run.specs.Ends.{AnswersInput, Stands}
use Rattle.sut_run.specs.Headlines.{Headline, IsChecked, MayBeInfeasible, WritesCut, WritesLeast}
use Rattle.sut_run.specs.Steps.{SameSent}
use Rattle.sut_program.specs.Programs.{Runs}

-- nothing changed
pub told_same : {A : Type 0} (P : A → A → Type 0) → ((x : A) → P x x) → (a : Option A) → Told a a P
told_same P same None = tt
told_same P same (Some x) = same x

-- a fact about every value
pub if_some_all : {A : Type 0} (P : A → Type 0) → ((x : A) → P x) → (o : Option A) → IfSome o P
if_some_all P all None = tt
if_some_all P all (Some x) = all x

-- memory ran out before the run
pub runs_nothing :
    (words : List (List ℕ)) (files : Option Files) (sent : Option (List ℕ)) → Runs words files files sent sent NoMemory
runs_nothing words files sent = record {
  seats = [];
  usage = λ e. absurd (omega (arith, ap code e));
  refused = λ none. inr refl;
  input = if_some_all _ (λ c. if_some_all _ (λ held. tt) files) (command_of words);
  stands = if_some_all _ (λ c. told_same (Stands [] c NoMemory sent sent) (λ held. inl (λ name. refl, told_same SameSent (λ lines. refl) sent)) files) (command_of words);
  balanced = if_some_all _ (λ c e. absurd (omega (arith, ap code e))) (command_of words);
  infeasible = if_some_all _ (λ c e. absurd (omega (arith, ap code e))) (command_of words);
}

pub nothing_on_err :
    {T E : Type 0} (r : Result T E) (words : List (List ℕ)) (files : Option Files) (sent : Option (List ℕ)) →
    OnErr r (Runs words files files sent sent NoMemory)
nothing_on_err (Ok v) words files sent = tt
nothing_on_err (Err e) words files sent = runs_nothing words files sent

-- a run answered
pub runs_of :
    (words given : List (List ℕ)) (seats : List SeatFacts) (old new : Option Files) (before after : Option (List ℕ)) (status : Status) →
    words ≡ given → ((status ≡ Usage) ↔ (command_of words ≡ None)) →
    IfSome (command_of words) (λ c. IfSome old (λ files. AnswersInput seats c files status)) →
    IfSome (command_of words) (λ c. Told old new (Stands seats c status before after)) →
    IfSome (command_of words) (λ c. status ≡ Balanced → IsChecked c × Told old new (Headline seats c (WritesLeast before after))) →
    IfSome (command_of words) (λ c. status ≡ Infeasible → MayBeInfeasible c × (IsChecked c → Told old new (Headline seats c (WritesCut before after)))) →
    Runs given old new before after status
runs_of words given seats old new before after status same used given_input stood table cut =
    let run : Runs words old new before after status = record {
      seats = seats;
      usage = used.0;
      refused = λ none. inl (used.1 none);
      input = given_input;
      stands = stood;
      balanced = table;
      infeasible = cut;
    } in subst (λ w. Runs w old new before after status) same run
