-- The delivery of a made year.
use Rattle.std.proofs.Common.{◌≡◌, ℕ, List, Option, None, Some, Ok, Contains, IfSome, map, refl, ap, subst}
use Rattle.sut_outside.specs.declared.names.FileName.{FileName}
use Rattle.sut_outside.specs.Deliveries.{WrittenAll}
use Rattle.sut_outside.specs.Files.{Files, Told}
use Rattle.sut_status.specs.declared.statuses.Status.TheVariants.{Generated}
use Rattle.sut_review.specs.Seats.{SeatFacts}
use Rattle.sut_run.specs.declared.commands.Command.{Command}
use Rattle.sut_run.specs.declared.commands.Command.TheVariants.{Generate}
use Rattle.sut_run.specs.Inputs.{input_of, to_generate}
use Rattle.sut_run.specs.Deliveries.{IsMadeYear}
use Rattle.sut_run.specs.Ready.{IsReady, Promises}
use Rattle.sut_run.specs.Steps.{Sends}

-- nothing is read
given-made : (seats : List SeatFacts) (seed products industries : ℕ) (held : Option Files) → IfSome held (λ files. input_of seats (Generate seed products industries) None files ≡ Ok (to_generate seed products industries))
given-made seats seed products industries None = tt
given-made seats seed products industries (Some files) = refl

-- nothing is promised of made files beside that they stand
made-keeps : (seats : List SeatFacts) (c : Command) (texts : List (FileName × List ℕ)) (lines : List ℕ) (held : Option Files)
    → IfSome held (λ old. (new : Files) (before after : Option (List ℕ)) → WrittenAll texts old new → Told before after (Sends lines) → Promises seats c Generated before after old new)
made-keeps seats c texts lines None = tt
made-keeps seats c texts lines (Some old) = λ new before after stands sent. tt

-- a made year is ready
pub made-ready : (seats : List SeatFacts) (seed products industries : ℕ) (texts : List (FileName × List ℕ)) (lines : List ℕ) → IsMadeYear seed products industries (record { texts = texts; lines = lines }) → (held : Option Files)
    → IsReady seats (Generate seed products industries) held Generated texts lines
made-ready seats seed products industries texts lines made held = record {
  input = to_generate seed products industries;
  given = given-made seats seed products industries held;
  gives = (refl, made);
  ends = refl;
  names = λ n h. subst (λ xs. Contains xs n) (ap (map (λ (f : FileName × List ℕ). f.0)) made.written) h;
  keeps = made-keeps seats (Generate seed products industries) texts lines held;
}
