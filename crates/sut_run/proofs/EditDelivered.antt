-- A run of edits: what each answer says.
use Rattle.std.proofs.Common.{◌≡◌, ◌∙◌, ℕ, zero, suc, List, [], ◌∷◌, ◌++◌, map, Option, Some, None, Result, Ok, Err, Contains, IfSome, refl, ap, subst, arith}
use Rattle.std.specs.Prelude.{option_map}
use Rattle.std.specs.declared.vec.Vec.{Vec}
use Rattle.sut_outside.specs.declared.names.FileName.{FileName}
use Rattle.sut_outside.specs.declared.names.FileName.TheVariants.{EditedCsv, TrailCsv, ReviewCsv}
use Rattle.sut_outside.specs.Files.{Files, Told}
use Rattle.sut_outside.specs.Causes.{Rose}
use Rattle.sut_records.specs.FirstFault.{and_then, fault_as}
use Rattle.sut_settings.specs.SettingsFacts.{SettingsFacts}
use Rattle.sut_source.specs.SourceText.{source_text}
use Rattle.sut_tables.specs.ProblemFacts.{ProblemFacts}
use Rattle.sut_edits.specs.declared.edits.EditLine.{EditLine}
use Rattle.sut_cert.specs.declared.answers.Answer.{Answer}
use Rattle.sut_write.specs.Screen.{screen_text}
use Rattle.sut_review.specs.Seats.{SeatFacts}
use Rattle.sut_review.specs.ReviewText.{review_text}
use Rattle.sut_input.specs.EditInputs.{FailsIn, RefusesEdits, edit_input_in, edit_names}
use Rattle.sut_input.specs.declared.faults.InputFault.TheVariants as fault
use Rattle.sut_input.specs.declared.edits.EditInputFault.{EditInputFault}
use Rattle.sut_input.specs.declared.edits.EditInputFault.TheVariants as edits
use Rattle.sut_editing.specs.Moments.{IfRefused, Moments, moments_of, standing_labels}
use Rattle.sut_editing.specs.Events.{IsAnswer}
use Rattle.sut_editing.specs.Answered.{EndsWith}
use Rattle.sut_editing.specs.Shown.{seats_after}
use Rattle.sut_editing.specs.EditedRows.{IsEdited, review_of}
use Rattle.sut_editing.specs.declared.faults.EditingFault.{EditingFault}
use Rattle.sut_editing.specs.declared.faults.EditingFault.TheVariants as stop
use Rattle.sut_editing.proofs.Finishing.{right-last}
use Rattle.sut_status.specs.declared.statuses.Status.{Status}
use Rattle.sut_status.specs.declared.statuses.Status.TheVariants.{BadEdits, NoMemory}
use Rattle.sut_run.specs.declared.commands.Command.TheVariants.{Edit}
use Rattle.sut_run.specs.Commands.{answer_names, read_names, written_names}
use Rattle.sut_run.specs.Inputs.{edit_stopped, edits_refused, for_edit, input_of, to_edit}
use Rattle.sut_run.specs.Outputs.{review_in}
use Rattle.sut_run.specs.Deliveries.{GivesEdits, ReadsBack, SpellsSource, answer_files, review_files, status_of}
use Rattle.sut_run.specs.Prepared.{IsPreparedEdit, PreparesEdit}
use Rattle.sut_run.specs.Steps.{IfReadFault}
use Rattle.sut_run.specs.Ends.{AnswersInput}
use Rattle.sut_run.specs.Ready.{IsRefusal, IsRefused}
use Rattle.sut_run.proofs.Delivered.{is-refusal, names-within}

-- ---- edits that are not read

module _ (seats : List SeatFacts) where
  read-for : (failed : Option FileName) (files : Files) (r : Result ((SettingsFacts × ProblemFacts) × List EditLine) EditInputFault) → edit_input_in failed files ≡ r
      → input_of seats Edit failed files ≡ and_then (fault_as edits_refused r) (for_edit (standing_labels seats))
  read-for failed files r e = ap (λ w. and_then (fault_as edits_refused w) (for_edit (standing_labels seats))) e

  edits-answers : (held : Option Files) (f : EditInputFault) → IfSome held (λ files. RefusesEdits edit_input_in files f) → IfSome held (λ files. AnswersInput seats Edit files (edits_refused f))
  edits-answers None f h = tt
  edits-answers (Some files) (edits.Input fault.NoMemory) h = tt
  edits-answers (Some files) (edits.Input (fault.ReadFault n)) h = read-for (Some n) files (Err (edits.Input (fault.ReadFault n))) h
  edits-answers (Some files) (edits.Input (fault.Missing n)) h = read-for None files (Err (edits.Input (fault.Missing n))) h
  edits-answers (Some files) (edits.Input (fault.TooLong n)) h = read-for None files (Err (edits.Input (fault.TooLong n))) h
  edits-answers (Some files) (edits.Input (fault.BadSettings e)) h = read-for None files (Err (edits.Input (fault.BadSettings e))) h
  edits-answers (Some files) (edits.Input (fault.BadClasses e)) h = read-for None files (Err (edits.Input (fault.BadClasses e))) h
  edits-answers (Some files) (edits.Input (fault.BadSource e)) h = read-for None files (Err (edits.Input (fault.BadSource e))) h
  edits-answers (Some files) (edits.BadEdits e) h = read-for None files (Err (edits.BadEdits e)) h

edits-reads : (f : EditInputFault) (before now : ℕ) (last : Option FileName) → FailsIn edit_names before now last f
    → IfReadFault (edits_refused f) (λ failed. Rose before now × (last ≡ Some failed) × Contains (read_names Edit) failed)
edits-reads (edits.Input fault.NoMemory) before now last h = tt
edits-reads (edits.Input (fault.ReadFault n)) before now last h = h
edits-reads (edits.Input (fault.Missing n)) before now last h = tt
edits-reads (edits.Input (fault.TooLong n)) before now last h = tt
edits-reads (edits.Input (fault.BadSettings e)) before now last h = tt
edits-reads (edits.Input (fault.BadClasses e)) before now last h = tt
edits-reads (edits.Input (fault.BadSource e)) before now last h = tt
edits-reads (edits.BadEdits e) before now last h = tt

is-edits-refusal : (f : EditInputFault) → IsRefusal (edits_refused f)
is-edits-refusal (edits.Input f) = is-refusal f
is-edits-refusal (edits.BadEdits e) = tt

-- ---- edits that are not taken

module _ (seats : List SeatFacts) (s : SettingsFacts) (p : ProblemFacts) (lines : List EditLine) where
  stopped-there : (files : Files) (f : EditingFault) → edit_input_in None files ≡ Ok ((s, p), lines) → IfRefused f (λ e. moments_of (standing_labels seats) p lines ≡ Err e) → AnswersInput seats Edit files (edit_stopped f)
  stopped-there files stop.NoMemory read h = tt
  stopped-there files (stop.Refused e) read h =
      read-for seats None files (Ok ((s, p), lines)) read ∙ ap (λ r. and_then (fault_as BadEdits r) (λ m. Ok (to_edit s m))) h

  stopped-answers : (held : Option Files) (f : EditingFault) → IfSome held (λ files. edit_input_in None files ≡ Ok ((s, p), lines)) → IfRefused f (λ e. moments_of (standing_labels seats) p lines ≡ Err e)
      → IfSome held (λ files. AnswersInput seats Edit files (edit_stopped f))
  stopped-answers None f read h = tt
  stopped-answers (Some files) f read h = stopped-there files f read h

  pub edits-given : (held : Option Files) (m : Moments) → IfSome held (λ files. edit_input_in None files ≡ Ok ((s, p), lines)) → moments_of (standing_labels seats) p lines ≡ Ok m
      → IfSome held (λ files. input_of seats Edit None files ≡ Ok (to_edit s m))
  edits-given None m read h = tt
  edits-given (Some files) m read h = read-for seats None files (Ok ((s, p), lines)) read ∙ ap (λ r. and_then (fault_as BadEdits r) (λ x. Ok (to_edit s x))) h

stopped-reads : (f : EditingFault) (P : FileName → Type 0) → IfReadFault (edit_stopped f) P
stopped-reads stop.NoMemory P = tt
stopped-reads (stop.Refused e) P = tt

is-stopped-refusal : (f : EditingFault) → IsRefusal (edit_stopped f)
is-stopped-refusal stop.NoMemory = tt
is-stopped-refusal (stop.Refused e) = tt

-- edits are refused, when they are read or when they are taken
pub edits-refused : (seats : List SeatFacts) (held : Option Files) (f : EditInputFault) (before now : ℕ) (last : Option FileName) → IfSome held (λ files. RefusesEdits edit_input_in files f) → FailsIn edit_names before now last f
    → IsRefused seats Edit held before now last (edits_refused f)
edits-refused seats held f before now last h fails = record {
  refusal = is-edits-refusal f;
  answers = edits-answers seats held f h;
  cause = edits-reads f before now last fails;
}

pub stopped-refused : (seats : List SeatFacts) (s : SettingsFacts) (p : ProblemFacts) (lines : List EditLine) (held : Option Files) (f : EditingFault) (before now : ℕ) (last : Option FileName) → IfSome held (λ files. edit_input_in None files ≡ Ok ((s, p), lines))
    → IfRefused f (λ e. moments_of (standing_labels seats) p lines ≡ Err e) → IsRefused seats Edit held before now last (edit_stopped f)
stopped-refused seats s p lines held f before now last read h = record {
  refusal = is-stopped-refusal f;
  answers = stopped-answers seats s p lines held f read h;
  cause = stopped-reads f _;
}

-- ---- what was made

pub gives-edits : (seats : List SeatFacts) (s : SettingsFacts) (m : Moments) (done : Status) (texts : List (FileName × List ℕ)) (lines : List ℕ) → IsPreparedEdit seats s m done texts lines → GivesEdits seats s m done (record { texts = texts; lines = lines })
gives-edits seats s m done texts lines x = record {
  events = x.events;
  answer = x.answer;
  happened = x.happened;
  last = x.last;
  right = x.right;
  ends = x.ends;
  delivers = λ i. record { texts = x.written i; lines = x.printed i };
}

two-more : (n : FileName) (names : List FileName) → ((k : FileName) → Contains names k → Contains answer_names k) → Contains (EditedCsv ∷ TrailCsv ∷ names) n → Contains (written_names Edit) n
two-more n names within (zero, below, is) = (0, omega arith, is)
two-more n names within (suc zero, below, is) = (1, omega arith, is)
two-more n names within (suc (suc k), below, is) =
    let found = within n (k, omega arith, is) in (suc (suc found.0), omega (arith, found.1), found.2)

pub edit-names-within : (seats : List SeatFacts) (s : SettingsFacts) (m : Moments) (done : Status) (texts : List (FileName × List ℕ)) (lines : List ℕ) → IsPreparedEdit seats s m done texts lines → (names : List FileName)
    → names ≡ map (λ (f : FileName × List ℕ). f.0) texts → (n : FileName) → Contains names n → Contains (written_names Edit) n
edit-names-within seats s m done texts lines x names same n h =
    two-more n (map (λ (f : FileName × List ℕ). f.0) (answer_files m.last x.answer ++ review_files (seats_after x.events seats))) (names-within (seats_after x.events seats) m.last x.answer)
    (subst (λ xs. Contains xs n) (same ∙ ap (map (λ (f : FileName × List ℕ). f.0)) x.written) h)

-- the review that was made
review-made : {A : Type 0} (seats : List SeatFacts) (review : Option (Vec ℕ A)) → option_map (λ (v : Vec ℕ A). v.items) review ≡ review_of seats → review_in review ≡ review_files seats
review-made [] None e = refl
review-made [] (Some v) e = absurd cc
review-made (seat ∷ seats) None e = absurd cc
review-made (seat ∷ seats) (Some v) e =
    let same : v.items ≡ review_text (seat ∷ seats) = cc in ap (λ t. (ReviewCsv, t) ∷ []) same

-- all texts of a run of edits
pub edits-prepared : {A : Type 0} (seats : List SeatFacts) (s : SettingsFacts) (p last : ProblemFacts) (edits : List EditLine) (a : Answer) (trail printed : List ℕ) (review : Option (Vec ℕ A)) (done : Status) (texts : List (FileName × List ℕ)) (lines : List ℕ)
    → IsEdited seats p edits last a trail printed (option_map (λ (v : Vec ℕ A). v.items) review) → done ≡ status_of a → texts ≡ (EditedCsv, source_text s last) ∷ (TrailCsv, trail) ∷ (answer_files last a ++ review_in review)
    → lines ≡ printed ++ screen_text last a → ReadsBack last a → SpellsSource s last → PreparesEdit seats s p edits done texts lines
edits-prepared seats s p last edits a trail printed review done texts lines x ends written prints reads spells = record {
  moments = x.moments;
  are = x.are;
  is = record {
    events = x.events;
    answer = a;
    happened = x.happened;
    last = subst (λ q. EndsWith x.events q a) x.rows x.ends;
    right = subst (λ q. IsAnswer q a) x.rows (right-last x.moments.list x.events last a x.happened x.ends);
    ends = ends;
    written = written ∙ (λ i. (EditedCsv, source_text s (x.rows i)) ∷ (TrailCsv, x.trailed i) ∷ (answer_files (x.rows i) a ++ review-made (seats_after x.events seats) review x.reviewed i));
    printed = prints ∙ (λ i. x.prints i ++ screen_text (x.rows i) a);
    reads_back = subst (λ q. ReadsBack q a) x.rows reads;
    spells = subst (SpellsSource s) x.rows spells;
  };
}
