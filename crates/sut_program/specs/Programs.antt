-- How the program ends: with the code and the text of a status, and what that status says of the words and of the files.
use Rattle.std.specs.Prelude.{◌≡◌, ◌⊎◌, ℕ, List, Option, None, IfSome}
use Rattle.sut_outside.specs.Files.{Files, Told}
use Rattle.sut_outside.specs.Causes.{Rose}
use Rattle.sut_status.specs.declared.statuses.Status.{Status}
use Rattle.sut_status.specs.declared.statuses.Status.TheVariants.{NoMemory, Usage, Balanced, Infeasible}
use Rattle.sut_status.specs.Codes.{code}
use Rattle.sut_review.specs.Seats.{SeatFacts}
use Rattle.sut_run.specs.Commands.{command_of}
use Rattle.sut_run.specs.Ends.{AnswersInput, Stands}
use Rattle.sut_run.specs.Headlines.{Headline, IsChecked, MayBeInfeasible, WritesCut, WritesLeast}
use Rattle.sut_program.specs.ErrorTexts.{Says, SaysAll}

-- the number of a status, and its text on standard error: all of it, unless the device fails
pub record EndsWith (before after : Option (List ℕ)) (faults_before faults_after exit : ℕ) (status : Status) : Type 0 where
  pub code : exit ≡ code status
  pub said : Told before after (Says status)
  pub whole : ¬ Rose faults_before faults_after → Told before after (SaysAll status)

-- What a status says of the words behind the program's name, of the files at entry and at exit, and of the lines that were
-- printed, with some reviewers. Words are refused exactly where they name no command, unless memory ran out.
pub record Runs (words : List (List ℕ)) (old new : Option Files) (before after : Option (List ℕ)) (status : Status) : Type 0 where
  pub seats : List SeatFacts
  pub usage : status ≡ Usage → command_of words ≡ None
  pub refused : command_of words ≡ None → (status ≡ Usage) ⊎ (status ≡ NoMemory)
  pub input : IfSome (command_of words) (λ c. IfSome old (λ files. AnswersInput seats c files status))
  pub stands : IfSome (command_of words) (λ c. Told old new (Stands seats c status before after))
  pub balanced : IfSome (command_of words) (λ c. status ≡ Balanced → IsChecked c × Told old new (Headline seats c (WritesLeast before after)))
  pub infeasible : IfSome (command_of words) (λ c. status ≡ Infeasible → MayBeInfeasible c × (IsChecked c → Told old new (Headline seats c (WritesCut before after))))
