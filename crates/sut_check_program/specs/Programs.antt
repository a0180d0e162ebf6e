-- How the program ends: with the code and the text of a status, and what that status says of the words and of the files.
use Rattle.std.specs.Prelude.{◌≡◌, ◌⊎◌, ℕ, List, Option, None, IfSome}
use Rattle.sut_outside.specs.Files.{Files, Told}
use Rattle.sut_outside.specs.Causes.{Rose}
use Rattle.sut_check.specs.declared.statuses.CheckStatus.{CheckStatus}
use Rattle.sut_check.specs.declared.statuses.CheckStatus.TheVariants.{NoMemory, Usage}
use Rattle.sut_check.specs.CheckCodes.{code}
use Rattle.sut_check.specs.CheckWords.{checked_source}
use Rattle.sut_check.specs.CheckEnds.{AnswersCheck, AreLines, Prints}
use Rattle.sut_check_program.specs.ErrorTexts.{Says, SaysAll}

-- the number of a status, and its text on standard error: all of it, unless the device fails
pub record EndsWith (before after : Option (List ℕ)) (faults_before faults_after exit : ℕ) (status : CheckStatus) : Type 0 where
  pub code : exit ≡ code status
  pub said : Told before after (Says status)
  pub whole : ¬ Rose faults_before faults_after → Told before after (SaysAll status)

-- What a status says of the words behind the program's name, of the files, and of the lines that were printed. Words are
-- refused exactly where they name no source, unless memory ran out.
pub record Checks (words : List (List ℕ)) (files : Option Files) (before after : Option (List ℕ)) (status : CheckStatus) : Type 0 where
  pub usage : status ≡ Usage → checked_source words ≡ None
  pub refused : checked_source words ≡ None → (status ≡ Usage) ⊎ (status ≡ NoMemory)
  pub answers : IfSome (checked_source words) (λ source. IfSome files (λ held. AnswersCheck source held status))
  pub printed : Told before after (Prints (λ lines. IfSome (checked_source words) (λ source. IfSome files (λ held. AreLines source held lines))) status)
