-- What is ready, delivered.
use Rattle.std.proofs.Common.{◌≡◌, ℕ, List, Option, None, Ok, Err, Contains, refl, sym, subst}
use Rattle.std.specs.Prelude.{map}
use Rattle.sut_outside.specs.declared.names.FileName.{FileName}
use Rattle.sut_outside.specs.Files.{Files, SameFiles, Told}
use Rattle.sut_outside.specs.Deliveries.{WrittenAll}
use Rattle.sut_outside.proofs.Told.{same_files, told_as, told_then, told_with}
use Rattle.sut_status.specs.declared.statuses.Status.{Status}
use Rattle.sut_status.specs.declared.statuses.Status.TheVariants.{Balanced, Infeasible, Migrated}
use Rattle.sut_review.specs.Seats.{SeatFacts}
use Rattle.sut_run.specs.declared.commands.Command.{Command}
use Rattle.sut_run.specs.declared.commands.Command.TheVariants.{Balance, Edit, Migrate, Generate}
use Rattle.sut_run.specs.Commands.{written_names}
use Rattle.sut_run.specs.Inputs.{input_of}
use Rattle.sut_run.specs.Deliveries.{Delivery}
use Rattle.sut_run.specs.Ends.{AreLines, IsDone, IsEndOf, Stands}
use Rattle.sut_run.specs.Headlines.{Headline, IsChecked, MayBeInfeasible, WritesClasses, WritesCut, WritesLeast}
use Rattle.sut_run.specs.Ready.{IsReady, Promises}
use Rattle.sut_run.specs.Steps.{Delivered, Sends, StopsDelivery}
use Rattle.sut_run.proofs.Delivered.{done-stands, end-done, failed-stands}

module _ (seats : List SeatFacts) (c : Command) (held : Option Files) (done : Status) (texts : List (FileName × List ℕ)) (lines : List ℕ) (x : IsReady seats c held done texts lines) where
  abbrev made : Delivery
  made = record { texts = texts; lines = lines }

  pub ready-done : IsDone done
  ready-done = end-done c done x.ends

  pub ready-lines : AreLines seats c held done lines
  ready-lines = record { input = x.input; delivery = made; given = x.given; gives = x.gives; printed = refl }

  -- the names of the texts are those of the command's files
  pub names-written : (names : List FileName) → names ≡ map (λ (text : FileName × List ℕ). text.0) texts → (n : FileName) → Contains names n → Contains (written_names c) n
  names-written names same n h = x.names n (subst (λ xs. Contains xs n) same h)

  module _ (now new : Option Files) (before after : Option (List ℕ)) (kept : Told held now SameFiles) where
    pub ready-told : Told now new (λ y z. Delivered texts lines {T = Unit {0}} (Ok tt) y z before after) → Told held new (Stands seats c done before after)
    ready-told delivered =
        told_then (λ y z. SameFiles y z × (input_of seats c None y ≡ Ok x.input)) (λ y z. Delivered texts lines {T = Unit {0}} (Ok tt) y z before after) (Stands seats c done before after)
        (λ w y z read d. done-stands seats c x.input done made x.gives ready-done before after w y z read.0 read.1 d)
        held now new (told_with SameFiles (λ files. input_of seats c None files ≡ Ok x.input) held now kept x.given) delivered

    pub stopped-told : (names : List FileName) (stopped : Status) → StopsDelivery names stopped → Told now new (λ y z. Delivered texts lines {T = Unit {0}} (Err stopped) y z before after)
        → Told held new (Stands seats c stopped before after)
    stopped-told names stopped stops delivered =
        told_then (λ y z. SameFiles y z × (input_of seats c None y ≡ Ok x.input)) (λ y z. Delivered texts lines {T = Unit {0}} (Err stopped) y z before after) (Stands seats c stopped before after)
        (λ w y z read d. failed-stands seats c x.input done made x.gives names stopped stops before after w y z read.0 read.1 d)
        held now new (told_with SameFiles (λ files. input_of seats c None files ≡ Ok x.input) held now kept x.given) delivered

    pub promised-told : Told now new (λ y z. Delivered texts lines {T = Unit {0}} (Ok tt) y z before after) → Told held new (Promises seats c done before after)
    promised-told delivered =
        told_then (λ y z. SameFiles y z × ((end : Files) (b a : Option (List ℕ)) → WrittenAll texts y end → Told b a (Sends lines) → Promises seats c done b a y end))
        (λ y z. Delivered texts lines {T = Unit {0}} (Ok tt) y z before after) (Promises seats c done before after)
        (λ w y z read d. read.1 z before after (subst (λ f. WrittenAll texts f z) (same_files w y read.0) d.0) d.1)
        held now new (told_with SameFiles (λ old. (end : Files) (b a : Option (List ℕ)) → WrittenAll texts old end → Told b a (Sends lines) → Promises seats c done b a old end) held now kept x.keeps) delivered

-- ---- what each answer of a run says

checked-end : (c : Command) (s : Status) → IsEndOf c s → s ≡ Balanced → IsChecked c
checked-end Balance s end e = tt
checked-end Edit s end e = tt
checked-end Migrate s end e = absurd cc
checked-end (Generate seed products industries) s end e = absurd cc

infeasible-end : (c : Command) (s : Status) → IsEndOf c s → s ≡ Infeasible → MayBeInfeasible c
infeasible-end Balance s end e = tt
infeasible-end Edit s end e = tt
infeasible-end Migrate s end e = absurd cc
infeasible-end (Generate seed products industries) s end e = absurd cc

module _ (seats : List SeatFacts) (c : Command) (s : Status) (before after : Option (List ℕ)) (old new : Option Files) where
  pub ended-balanced : (IsDone s → IsEndOf c s) → (IsDone s → Told old new (Promises seats c s before after)) → s ≡ Balanced → IsChecked c × Told old new (Headline seats c (WritesLeast before after))
  ended-balanced ends promised e =
      let done : IsDone s = subst IsDone (sym e) tt in
      (checked-end c s (ends done) e, subst (λ t. Told old new (Promises seats c t before after)) e (promised done))

  pub ended-infeasible : (IsDone s → IsEndOf c s) → (IsDone s → Told old new (Promises seats c s before after)) → s ≡ Infeasible → MayBeInfeasible c × (IsChecked c → Told old new (Headline seats c (WritesCut before after)))
  ended-infeasible ends promised e =
      let done : IsDone s = subst IsDone (sym e) tt in
      let told = subst (λ t. Told old new (Promises seats c t before after)) e (promised done) in
      (infeasible-end c s (ends done) e, (λ checked. told_as (Promises seats c Infeasible before after) (Headline seats c (WritesCut before after)) (λ x y h. h checked) old new told))

  pub ended-migrated : (IsDone s → Told old new (Promises seats c s before after)) → s ≡ Migrated → Told old new WritesClasses
  ended-migrated promised e = subst (λ t. Told old new (Promises seats c t before after)) e (promised (subst IsDone (sym e) tt))
