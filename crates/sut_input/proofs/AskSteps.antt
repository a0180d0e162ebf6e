-- The asks, read after the problem whose measures they name.
use Rattle.std.proofs.Common.{◌≡◌, ◌≢◌, ℕ, List, [], ◌∷◌, Option, Some, None, Result, Ok, Err, Contains, IfSome, refl}
use Rattle.sut_outside.specs.declared.names.FileName.{FileName}
use Rattle.sut_outside.specs.declared.names.FileName.TheVariants.{SourceCsv, AsksCsv}
use Rattle.sut_outside.specs.Files.{Files}
use Rattle.sut_settings.specs.SettingsFacts.{SettingsFacts}
use Rattle.sut_measures.specs.declared.measures.Measure.{Measure}
use Rattle.sut_tables.specs.ProblemFacts.{ProblemFacts}
use Rattle.sut_asks.specs.AsksFile.{asks_of}
use Rattle.sut_asks.specs.declared.faults.AskCause.{AskCause}
use Rattle.sut_asks.specs.declared.faults.AskCause.TheVariants as ask
use Rattle.sut_asks.specs.declared.faults.AskFault.{AskFault}
use Rattle.sut_input.specs.declared.faults.InputFault.{InputFault}
use Rattle.sut_input.specs.declared.faults.InputFault.TheVariants as input
use Rattle.sut_input.specs.declared.asks.AskInputFault.{AskInputFault}
use Rattle.sut_input.specs.declared.asks.AskInputFault.TheVariants.{Input, BadAsks}
use Rattle.sut_input.specs.Reads.{GivesOk, Refuses}
use Rattle.sut_input.specs.Inputs.{problem_in, read_bytes}
use Rattle.sut_input.specs.Following.{IfReadFailed, RefusesAs}
use Rattle.sut_input.specs.AskInputs.{ask_fault, ask_input_in, ask_part, asks_in, asks_unless_no_memory}
use Rattle.sut_input.proofs.FollowingSteps as steps

ask-cause : (P : AskInputFault → Type 0) (cause : AskCause) (e : AskFault) → P (Input input.NoMemory) → (cause ≢ ask.NoMemory → P (BadAsks e)) → P (asks_unless_no_memory cause e)
ask-cause P ask.NoMemory e none some = none
ask-cause P ask.Csv e none some = some (λ x. cc)
ask-cause P ask.Header e none some = some (λ x. cc)
ask-cause P (ask.BadName f) e none some = some (λ x. cc)
ask-cause P ask.NotLive e none some = some (λ x. cc)
ask-cause P ask.TooMany e none some = some (λ x. cc)
ask-cause P ask.Short e none some = some (λ x. cc)

-- its faults are no failed reads
pub ask-no-read : (P : FileName → Type 0) (e : AskFault) → IfReadFailed (ask_part (ask_fault e)) P
ask-no-read P e = ask-cause (λ f. IfReadFailed (ask_part f) P) e.cause e tt (λ other. tt)

-- a read of the asks that fails leaves the problem as it is
still : (files : Files) → problem_in SourceCsv (Some AsksCsv) files ≡ problem_in SourceCsv None files
still files = refl

module _ (p : ProblemFacts) where
  pub asks-not-read : (held : Option Files) (fault : InputFault) → IfSome held (λ files. Refuses (λ failed told. read_bytes failed told AsksCsv) files fault)
      → IfSome held (λ files. RefusesAs ask_part (asks_in p) files (Input fault))
  unfolding asks_in
  asks-not-read held fault h = steps.not-read ask_part Input (λ e. refl) BadAsks AsksCsv (asks_of p) held fault h

  pub asks-given : (held : Option Files) (bytes : List ℕ) (asks : List Measure) → IfSome held (λ files. GivesOk (λ failed told. read_bytes failed told AsksCsv) files bytes) → Ok asks ≡ asks_of p bytes
      → IfSome held (λ files. asks_in p None files ≡ Ok asks)
  unfolding asks_in
  asks-given held bytes asks h e = steps.file-given ask_part Input (λ e. refl) BadAsks AsksCsv (asks_of p) held bytes asks h e

  asks-bad : (files : Files) (bytes : List ℕ) (e : AskFault) → GivesOk (λ failed told. read_bytes failed told AsksCsv) files bytes → Err e ≡ asks_of p bytes → asks_in p None files ≡ Err (BadAsks e)
  unfolding asks_in
  asks-bad files bytes e h r = steps.file-bad ask_part Input (λ e. refl) BadAsks AsksCsv (asks_of p) files bytes e h r

  pub asks-refused : (held : Option Files) (bytes : List ℕ) (e : AskFault) → IfSome held (λ files. GivesOk (λ failed told. read_bytes failed told AsksCsv) files bytes)
      → (e.cause ≢ ask.NoMemory → Err e ≡ asks_of p bytes) → IfSome held (λ files. RefusesAs ask_part (asks_in p) files (ask_fault e))
  asks-refused None bytes e h r = tt
  asks-refused (Some files) bytes e h r = ask-cause (RefusesAs ask_part (asks_in p) files) e.cause e tt (λ other. asks-bad files bytes e h (r other))

-- ---- after the problem

pub problem-refused : (held : Option Files) (fault : InputFault) → IfSome held (λ files. Refuses (problem_in SourceCsv) files fault) → IfSome held (λ files. RefusesAs ask_part ask_input_in files (Input fault))
unfolding ask_input_in
problem-refused held fault h = steps.problem-refused ask_part Input (λ e. refl) asks_in held fault h

pub after-refused : (held : Option Files) (s : SettingsFacts) (p : ProblemFacts) (fault : AskInputFault) → IfReadFailed (ask_part fault) (Contains (AsksCsv ∷ [])) → IfSome held (λ files. problem_in SourceCsv None files ≡ Ok (s, p))
    → IfSome held (λ files. RefusesAs ask_part (asks_in p) files fault) → IfSome held (λ files. RefusesAs ask_part ask_input_in files fault)
unfolding ask_input_in
after-refused held s p fault only e h = steps.after-refused ask_part Input (λ e. refl) asks_in AsksCsv still held s p fault only e h

pub after-given : (held : Option Files) (s : SettingsFacts) (p : ProblemFacts) (asks : List Measure) → IfSome held (λ files. problem_in SourceCsv None files ≡ Ok (s, p)) → IfSome held (λ files. asks_in p None files ≡ Ok asks)
    → IfSome held (λ files. ask_input_in None files ≡ Ok ((s, p), asks))
unfolding ask_input_in
after-given held s p asks e h = steps.after-given ask_part Input (λ e. refl) asks_in held s p asks e h
