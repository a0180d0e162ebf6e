-- The delivery of classes in format 2.
use Rattle.std.proofs.Common.{◌≡◌, ℕ, List, ◌∷◌, [], Option, None, Some, Ok, Contains, IfSome, map, refl, ap, sym, subst, arith}
use Rattle.sut_outside.specs.declared.names.FileName.{FileName}
use Rattle.sut_outside.specs.declared.names.FileName.TheVariants.{ClassesCsv, Classes2Csv}
use Rattle.sut_outside.specs.Files.{Files, Told}
use Rattle.sut_outside.specs.Deliveries.{WrittenAll}
use Rattle.sut_classes.specs.ClassFile.{classes_of}
use Rattle.sut_classes.specs.ClassLists.{ClassLists}
use Rattle.sut_classes.specs.ClassText.{classes_text}
use Rattle.sut_input.specs.Inputs.{classes_in}
use Rattle.sut_input.specs.Reads.{FailsAmong, FailsBy, Refuses}
use Rattle.sut_input.specs.declared.faults.InputFault.{InputFault}
use Rattle.sut_input.specs.declared.faults.InputFault.TheVariants as fault
use Rattle.sut_review.specs.Seats.{SeatFacts}
use Rattle.sut_status.specs.declared.statuses.Status.TheVariants.{Migrated}
use Rattle.sut_run.specs.declared.commands.Command.TheVariants.{Migrate}
use Rattle.sut_run.specs.Inputs.{for_migrate, input_of, refused, to_migrate}
use Rattle.sut_run.specs.Deliveries.{SpellsClasses, migration}
use Rattle.sut_run.specs.Ends.{AnswersInput}
use Rattle.sut_run.specs.Ready.{IsReady, IsRefused, Promises}
use Rattle.sut_run.specs.Steps.{Sends}
use Rattle.sut_run.proofs.Delivered.{is-refusal, refused-answers, refused-reads}
use Rattle.sut_run.proofs.Headlined.{spelled}

-- ---- what is read

classes-answers : (seats : List SeatFacts) (held : Option Files) (f : InputFault) → IfSome held (λ files. Refuses classes_in files f) → IfSome held (λ files. AnswersInput seats Migrate files (refused f))
classes-answers seats held f h = refused-answers seats Migrate classes_in for_migrate (λ failed files. refl) held f h

classes-given : (seats : List SeatFacts) (cs : ClassLists) (held : Option Files) → IfSome held (λ files. classes_in None files ≡ Ok cs) → IfSome held (λ files. input_of seats Migrate None files ≡ Ok (to_migrate cs))
classes-given seats cs None h = tt
classes-given seats cs (Some files) h = rw h refl

-- the one name that is read
fails-among : (name : FileName) (f : InputFault) (before now : ℕ) (last : Option FileName) → FailsBy name before now last f → FailsAmong (name ∷ []) before now last f
fails-among name fault.NoMemory before now last h = tt
fails-among name (fault.ReadFault n) before now last h = (h.0, h.1, (0, omega arith, sym h.2))
fails-among name (fault.Missing n) before now last h = tt
fails-among name (fault.TooLong n) before now last h = tt
fails-among name (fault.BadSettings e) before now last h = tt
fails-among name (fault.BadClasses e) before now last h = tt
fails-among name (fault.BadSource e) before now last h = tt

-- the classes are refused
pub classes-refused : (seats : List SeatFacts) (held : Option Files) (f : InputFault) (before now : ℕ) (last : Option FileName) → IfSome held (λ files. Refuses classes_in files f) → FailsBy ClassesCsv before now last f
    → IsRefused seats Migrate held before now last (refused f)
classes-refused seats held f before now last h fails = record {
  refusal = is-refusal f;
  answers = classes-answers seats held f h;
  cause = refused-reads (ClassesCsv ∷ []) f before now last (fails-among ClassesCsv f before now last fails);
}

-- ---- what is written

migrated-keeps : (seats : List SeatFacts) (cs : ClassLists) (texts : List (FileName × List ℕ)) (lines : List ℕ) → texts ≡ (migration cs).texts → SpellsClasses cs → (held : Option Files) → IfSome held (λ files. classes_in None files ≡ Ok cs)
    → IfSome held (λ old. (new : Files) (before after : Option (List ℕ)) → WrittenAll texts old new → Told before after (Sends lines) → Promises seats Migrate Migrated before after old new)
migrated-keeps seats cs texts lines written spells None read = tt
migrated-keeps seats cs texts lines written spells (Some old) read = λ new before after stands sent. record {
  classes = cs;
  given = read;
  spelled = spelled (new Classes2Csv) (classes_text cs) classes_of (record cs { format = 2 }) (subst (λ t. WrittenAll t old new) written stands Classes2Csv) spells.short spells.read;
}

-- the classes in format 2 are ready
pub migrated-ready : (seats : List SeatFacts) (cs : ClassLists) (texts : List (FileName × List ℕ)) (lines : List ℕ) → texts ≡ (migration cs).texts → lines ≡ (migration cs).lines → SpellsClasses cs
    → (held : Option Files) → IfSome held (λ files. classes_in None files ≡ Ok cs) → IsReady seats Migrate held Migrated texts lines
migrated-ready seats cs texts lines written printed spells held read = record {
  input = to_migrate cs;
  given = classes-given seats cs held read;
  gives = (refl, λ i. record { texts = written i; lines = printed i });
  ends = refl;
  names = λ n h. subst (λ xs. Contains xs n) (ap (map (λ (f : FileName × List ℕ). f.0)) written) h;
  keeps = migrated-keeps seats cs texts lines written spells held read;
}
