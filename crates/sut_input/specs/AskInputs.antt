-- What the files of a year spell with the asks of its measures, or the first refusal in the order of reading, where this one read
-- fails.
use Rattle.std.specs.Prelude.{List, [], ◌∷◌, ◌++◌, Option, Some, None}
use Rattle.sut_outside.specs.declared.names.FileName.{FileName}
use Rattle.sut_outside.specs.declared.names.FileName.TheVariants.{SourceCsv, AsksCsv}
use Rattle.sut_settings.specs.SettingsFacts.{SettingsFacts}
use Rattle.sut_measures.specs.declared.measures.Measure.{Measure}
use Rattle.sut_tables.specs.ProblemFacts.{ProblemFacts}
use Rattle.sut_asks.specs.AsksFile.{asks_of}
use Rattle.sut_asks.specs.declared.faults.AskCause.{AskCause}
use Rattle.sut_asks.specs.declared.faults.AskCause.TheVariants as cause
use Rattle.sut_asks.specs.declared.faults.AskFault.{AskFault}
use Rattle.sut_input.specs.declared.faults.InputFault.{InputFault}
use Rattle.sut_input.specs.declared.faults.InputFault.TheVariants as input
use Rattle.sut_input.specs.declared.asks.AskInputFault.{AskInputFault}
use Rattle.sut_input.specs.declared.asks.AskInputFault.TheVariants.{Input, BadAsks}
use Rattle.sut_input.specs.Inputs.{problem_names}
use Rattle.sut_input.specs.Following.{StepOf, after_problem, following}

-- a fault as one of the files before the asks, where it is one
abbrev pub ask_part : AskInputFault → Option InputFault
ask_part (Input fault) = Some fault
ask_part (BadAsks fault) = None

-- the asks, read and parsed
unfoldable pub asks_in : ProblemFacts → StepOf AskInputFault (List Measure)
asks_in p = following Input BadAsks AsksCsv (asks_of p)

-- the settings and the problem, and the measures that are asked for
unfoldable pub ask_input_in : StepOf AskInputFault ((SettingsFacts × ProblemFacts) × List Measure)
ask_input_in = after_problem Input asks_in

-- the names that are read, in order
abbrev pub ask_names : List FileName
ask_names = problem_names SourceCsv ++ AsksCsv ∷ []

-- a reader's fault; want of memory is no fault of a file
abbrev pub asks_unless_no_memory : AskCause → AskFault → AskInputFault
asks_unless_no_memory cause.NoMemory fault = Input input.NoMemory
asks_unless_no_memory _ fault = BadAsks fault

abbrev pub ask_fault : AskFault → AskInputFault
ask_fault fault = asks_unless_no_memory fault.cause fault
