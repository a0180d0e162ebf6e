-- What the files of a year spell with the table that was balanced, or the first refusal in the order of reading, where this one
-- read fails.
use Rattle.std.specs.Prelude.{List, [], ◌∷◌, ◌++◌, Option, Some, None, Result, Ok, Err}
use Rattle.sut_outside.specs.declared.names.FileName.{FileName}
use Rattle.sut_outside.specs.declared.names.FileName.TheVariants.{SourceCsv, BalancedCsv}
use Rattle.sut_records.specs.FirstFault.{and_then}
use Rattle.sut_settings.specs.SettingsFacts.{SettingsFacts}
use Rattle.sut_tables.specs.ProblemFacts.{ProblemFacts}
use Rattle.sut_tables.specs.TableFacts.{TableFacts}
use Rattle.sut_tables.specs.Breaks.{first_break}
use Rattle.sut_tables.specs.declared.tables.Broken.{Broken}
use Rattle.sut_readback.specs.BalancedFile.{balanced_of}
use Rattle.sut_readback.specs.declared.faults.BalancedCause.{BalancedCause}
use Rattle.sut_readback.specs.declared.faults.BalancedCause.TheVariants as cause
use Rattle.sut_readback.specs.declared.faults.BalancedFault.{BalancedFault}
use Rattle.sut_input.specs.declared.faults.InputFault.{InputFault}
use Rattle.sut_input.specs.declared.faults.InputFault.TheVariants as input
use Rattle.sut_input.specs.declared.tables.TableInputFault.{TableInputFault}
use Rattle.sut_input.specs.declared.tables.TableInputFault.TheVariants.{Input, BadTable, NotAdmissible}
use Rattle.sut_input.specs.Inputs.{problem_names}
use Rattle.sut_input.specs.Following.{StepOf, after_problem, following}

-- a fault as one of the files before the table, where it is one
abbrev pub table_part : TableInputFault → Option InputFault
table_part (Input fault) = Some fault
table_part (BadTable fault) = None
table_part (NotAdmissible broken) = None

-- the table, unless it is broken
abbrev pub unless_broken : Option Broken → TableFacts → Result TableFacts TableInputFault
unless_broken None t = Ok t
unless_broken (Some broken) t = Err (NotAdmissible broken)

-- an admissible table, or the first identity or bound that it breaks
abbrev pub admissible_only : ProblemFacts → TableFacts → Result TableFacts TableInputFault
admissible_only p t = unless_broken (first_break p t) t

-- the table, read and parsed, whether admissible or not
unfoldable pub table_file_in : ProblemFacts → StepOf TableInputFault TableFacts
table_file_in p = following Input BadTable BalancedCsv (balanced_of p)

unfoldable pub table_in : ProblemFacts → StepOf TableInputFault TableFacts
table_in p failed files = and_then (table_file_in p failed files) (admissible_only p)

-- the settings and the problem, and an admissible table of it
unfoldable pub table_input_in : StepOf TableInputFault ((SettingsFacts × ProblemFacts) × TableFacts)
table_input_in = after_problem Input table_in

-- the names that are read, in order
abbrev pub table_names : List FileName
table_names = problem_names SourceCsv ++ BalancedCsv ∷ []

-- a reader's fault; want of memory is no fault of a file
abbrev pub table_unless_no_memory : BalancedCause → BalancedFault → TableInputFault
table_unless_no_memory cause.NoMemory fault = Input input.NoMemory
table_unless_no_memory _ fault = BadTable fault

abbrev pub table_fault : BalancedFault → TableInputFault
table_fault fault = table_unless_no_memory fault.cause fault
