-- What the written files say by themselves, read back by the readers' own definitions.
use Rattle.std.specs.Prelude.{◌≡◌, ◌≤◌, ◌++◌, ℕ, ℤ, All, List, length, Option, None, Some, Ok, Result, IsSomeAnd, ⊤}
use Rattle.sut_outside.specs.declared.names.FileName.{FileName}
use Rattle.sut_outside.specs.declared.names.FileName.TheVariants.{SourceCsv, EditedCsv, BalancedCsv, CertificateCsv, MadeSourceCsv, Classes2Csv}
use Rattle.sut_outside.specs.declared.shelf.TheConstants.{FILE_LIMIT}
use Rattle.sut_outside.specs.Files.{Files, Told}
use Rattle.sut_settings.specs.SettingsFacts.{SettingsFacts}
use Rattle.sut_classes.specs.ClassLists.{ClassLists}
use Rattle.sut_classes.specs.ClassFile.{classes_of}
use Rattle.sut_measures.specs.declared.accounts.Account.{Account}
use Rattle.sut_tables.specs.ProblemFacts.{ProblemFacts}
use Rattle.sut_tables.specs.TableFacts.{TableFacts}
use Rattle.sut_tables.specs.Costs.{IsLeast, IsImpossible}
use Rattle.sut_tables.specs.Gdp.{production, income, expenditure}
use Rattle.sut_cert.specs.Certificates.{ShowsLeast, Contradicts}
use Rattle.sut_cert.specs.CertificateFile.{certificate_of}
use Rattle.sut_cert.specs.declared.certificates.Certificate.TheVariants as certificate
use Rattle.sut_cert.specs.declared.answers.Answer.{Answer}
use Rattle.sut_cert.specs.declared.answers.Answer.TheVariants as answer
use Rattle.sut_readback.specs.BalancedFile.{balanced_of}
use Rattle.sut_input.specs.Inputs.{classes_in, problem_in}
use Rattle.sut_write.specs.Screen.{screen_text}
use Rattle.sut_run.specs.declared.commands.Command.{Command}
use Rattle.sut_run.specs.declared.commands.Command.TheVariants.{Balance, Edit, Migrate, Generate}
use Rattle.sut_review.specs.Seats.{SeatFacts}
use Rattle.sut_editing.specs.Moments.{Moments}
use Rattle.sut_run.specs.Inputs.{input_of, to_balance, to_edit}
use Rattle.sut_run.specs.Deliveries.{answer_files}

-- the problem whose answer is written: that of the source, or that of the rows after all edits
abbrev pub IsLastProblem : List SeatFacts → Command → Files → SettingsFacts → ProblemFacts → Type 0
IsLastProblem seats Balance old s p = input_of seats Balance None old ≡ Ok (to_balance s p)
IsLastProblem seats Edit old s p = (m : Moments) × (input_of seats Edit None old ≡ Ok (to_edit s m)) × (p ≡ m.last)
IsLastProblem seats Migrate old s p = ⊥
IsLastProblem seats (Generate seed products industries) old s p = ⊥

-- the name under which the source of that problem stands at exit
abbrev pub source_name : Command → FileName
source_name Balance = SourceCsv
source_name Edit = EditedCsv
source_name Migrate = SourceCsv
source_name (Generate seed products industries) = MadeSourceCsv

-- the commands whose answers are balanced or infeasible, and written for the separate check
abbrev pub IsChecked : Command → Type 0
IsChecked Balance = ⊤
IsChecked Edit = ⊤
IsChecked Migrate = ⊥
IsChecked (Generate seed products industries) = ⊥

-- the commands whose problem may have no table
abbrev pub MayBeInfeasible : Command → Type 0
MayBeInfeasible Balance = ⊤
MayBeInfeasible Edit = ⊤
MayBeInfeasible Migrate = ⊥
MayBeInfeasible (Generate seed products industries) = ⊥

-- a text stands under the name, is no longer than a read gives, and spells this
abbrev pub Spells : {A F : Type 0} → Files → FileName → (List ℕ → Result A F) → A → Type 0
Spells files name read value = IsSomeAnd (files name) (λ bytes. (length bytes ≤ FILE_LIMIT) × (read bytes ≡ Ok value))

-- production, income and expenditure are one number
pub record HasOneGdp (t : TableFacts) : Type 0 where
  pub by_income : income t ≡ production t
  pub by_expenditure : expenditure t ≡ production t

-- these lines went out last
abbrev pub SendsLast : List ℕ → List ℕ → List ℕ → Type 0
SendsLast lines old new = (front : List ℕ) × (new ≡ old ++ (front ++ lines))

-- tables, accounts, certificate, report and the last printed lines are those of one answer
pub record TellsAnswer (before after : Option (List ℕ)) (p : ProblemFacts) (a : Answer) (files : Files) : Type 0 where
  pub texts : All (λ (text : FileName × List ℕ). files text.0 ≡ Some text.1) (answer_files p a)
  pub lines : Told before after (SendsLast (screen_text p a))

-- the written table is least and has one GDP, the written potentials show it, and all that is told is of the two
pub record WritesLeast (before after : Option (List ℕ)) (p : ProblemFacts) (files : Files) : Type 0 where
  pub table : TableFacts
  pub shown_by : List (Account × ℤ)
  pub told : TellsAnswer before after p (answer.Balanced table shown_by) files
  pub table_spelled : Spells files BalancedCsv (balanced_of p) table
  pub certificate_spelled : Spells files CertificateCsv (certificate_of p) (certificate.Potentials shown_by)
  pub least : IsLeast p table
  pub one_gdp : HasOneGdp table
  pub shown : ShowsLeast p table shown_by

-- the written set contradicts, no table exists, and all that is told is of the set
pub record WritesCut (before after : Option (List ℕ)) (p : ProblemFacts) (files : Files) : Type 0 where
  pub set : List Account
  pub told : TellsAnswer before after p (answer.Infeasible set) files
  pub spelled : Spells files CertificateCsv (certificate_of p) (certificate.Cut set)
  pub contradicts : Contradicts p set
  pub impossible : IsImpossible p

-- What a balanced and an infeasible answer say of the files at entry and at exit. At exit the files spell the problem
-- again, so that the separate check reads what is said here.
pub record Headline (seats : List SeatFacts) (c : Command) (W : ProblemFacts → Files → Type 0) (old new : Files) : Type 0 where
  pub problem : ProblemFacts
  pub settings : SettingsFacts
  pub given : IsLastProblem seats c old settings problem
  pub spelled : problem_in (source_name c) None new ≡ Ok (settings, problem)
  pub written : W problem new

-- the written classes are those of the file at entry, in format 2
pub record WritesClasses (old new : Files) : Type 0 where
  pub classes : ClassLists
  pub given : classes_in None old ≡ Ok classes
  pub spelled : Spells new Classes2Csv classes_of (record classes { format = 2 })
