-- What stands on standard error when the program ends.
use Rattle.std.specs.Prelude.{◌≡◌, ◌⊎◌, ℕ, List, [], ◌++◌}
use Rattle.sut_outside.specs.Sent.{AppendsPart}
use Rattle.sut_check.specs.declared.statuses.CheckStatus.{CheckStatus}
use Rattle.sut_check.specs.declared.statuses.CheckStatus.TheVariants.{Least, NoTable, Usage, NoMemory}
use Rattle.sut_check.specs.CheckLines.{check_line}

-- a line, and a help text behind it
pub record IsLineAndHelp (line text : List ℕ) : Type 0 where
  pub help : List ℕ
  pub joined : text ≡ line ++ help

-- the whole text: nothing after an answer, else the status line, and behind that of words that are not accepted a help text
abbrev pub IsErrorText : CheckStatus → List ℕ → Type 0
IsErrorText Least text = text ≡ []
IsErrorText NoTable text = text ≡ []
IsErrorText Usage text = IsLineAndHelp (check_line Usage) text
IsErrorText status text = text ≡ check_line status

-- the same, or where there was no memory for it the line of want of memory
abbrev pub IsSaid : CheckStatus → List ℕ → Type 0
IsSaid status text = IsErrorText status text ⊎ (text ≡ check_line NoMemory)

-- what went out: such a text, or after a fault of the device a part of it from its front
pub record Says (status : CheckStatus) (old new : List ℕ) : Type 0 where
  pub text : List ℕ
  pub right : IsSaid status text
  pub sent : AppendsPart text old new

-- the whole text went out
pub record SaysAll (status : CheckStatus) (old new : List ℕ) : Type 0 where
  pub text : List ℕ
  pub right : IsSaid status text
  pub sent : new ≡ old ++ text
