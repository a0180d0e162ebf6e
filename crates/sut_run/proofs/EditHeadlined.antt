-- What the written files of a run of edits say by themselves.
use Rattle.std.proofs.Common.{◌≡◌, ◌∙◌, ℕ, Bool, false, List, [], ◌∷◌, ◌++◌, Option, Some, None, Result, Ok, Err, IfSome, length, map, refl, sym, ap, subst}
use Rattle.std.specs.Prelude.{if◌then◌else◌}
use Rattle.std.proofs.lemmas.Bool.{le-leb}
use Rattle.sut_outside.specs.declared.names.FileName.{FileName}
use Rattle.sut_outside.specs.declared.names.FileName.TheVariants.{SettingsToml, ClassesCsv, SourceCsv, EditedCsv, TrailCsv, ReviewCsv}
use Rattle.sut_outside.specs.declared.shelf.TheConstants.{FILE_LIMIT}
use Rattle.sut_outside.specs.Files.{Files, Told}
use Rattle.sut_outside.specs.Deliveries.{WrittenAll, after_writes, same_name}
use Rattle.sut_outside.specs.Entry.{bytes_or}
use Rattle.sut_records.specs.FirstFault.{and_then, fault_as}
use Rattle.sut_records.specs.RecordList.{Fields, records_of}
use Rattle.sut_settings.specs.SettingsFacts.{SettingsFacts}
use Rattle.sut_settings.specs.SettingsFile.{settings_of}
use Rattle.sut_classes.specs.ClassLists.{ClassLists}
use Rattle.sut_classes.specs.ClassFile.{classes_of}
use Rattle.sut_source.specs.SourceFile.{source_of, under_header}
use Rattle.sut_source.specs.SourceText.{source_text}
use Rattle.sut_source.specs.declared.faults.SourceFault.{SourceFault}
use Rattle.sut_tables.specs.ProblemFacts.{ProblemFacts}
use Rattle.sut_edits.specs.declared.edits.EditLine.{EditLine}
use Rattle.sut_cert.specs.declared.answers.Answer.{Answer}
use Rattle.sut_cert.specs.declared.answers.Answer.TheVariants as answer
use Rattle.sut_write.specs.Screen.{screen_text}
use Rattle.sut_input.specs.Inputs.{problem_in}
use Rattle.sut_input.specs.EditInputs.{edit_input_in, edited_in, edits_in}
use Rattle.sut_input.specs.declared.faults.InputFault.{InputFault}
use Rattle.sut_input.specs.declared.faults.InputFault.TheVariants as fault
use Rattle.sut_input.specs.declared.edits.EditInputFault.{EditInputFault}
use Rattle.sut_input.specs.declared.edits.EditInputFault.TheVariants as edits
use Rattle.sut_review.specs.Seats.{SeatFacts}
use Rattle.sut_editing.specs.Moments.{Moments, moments_of, standing_labels}
use Rattle.sut_editing.specs.Events.{IsAnswer}
use Rattle.sut_editing.specs.Shown.{rebalances_text, seats_after, trail_text}
use Rattle.sut_editing.proofs.Finishing.{same-classes}
use Rattle.sut_status.specs.declared.statuses.Status.{Status}
use Rattle.sut_run.specs.declared.commands.Command.TheVariants.{Edit}
use Rattle.sut_run.specs.Inputs.{input_of, to_edit}
use Rattle.sut_run.specs.Deliveries.{ReadsBack, SpellsSource, answer_files, status_of}
use Rattle.sut_run.specs.Prepared.{IsPreparedEdit, PreparesEdit}
use Rattle.sut_run.specs.Ready.{IsReady, Promises}
use Rattle.sut_run.specs.Steps.{Sends}
use Rattle.sut_run.proofs.Delivered.{answer-ends}
use Rattle.sut_run.proofs.EditDelivered.{edit-names-within, edits-given, gives-edits}
use Rattle.sut_run.proofs.Headlined.{problem-by, problem_by, sends-last, stands-at, writes-cut, writes-least}

-- ---- the rows after all edits, read back in the place of the source

problem-of : (records : List Fields) (cs : ClassLists) (q : ProblemFacts) (under : Result (List Fields) SourceFault) (next : List Fields → Result ProblemFacts SourceFault) → ((lines : List Fields) (x : ProblemFacts) → next lines ≡ Ok x → x.classes ≡ cs) → and_then under next ≡ Ok q → q.classes ≡ cs
problem-of records cs q (Ok lines) next each h = each lines q h
problem-of records cs q (Err e) next each h = absurd cc

rows-classes : {R : Type 0} (cs : ClassLists) (q : ProblemFacts) (r : Result R SourceFault) (make : R → ProblemFacts) → ((x : R) → (make x).classes ≡ cs) → and_then r (λ x. Ok (make x)) ≡ Ok q → q.classes ≡ cs
rows-classes cs q (Ok x) make each h = let same : ◌≡◌ {A = Result ProblemFacts SourceFault} (Ok (make x)) (Ok q) = h in let equal : make x ≡ q = cc in subst (λ (y : ProblemFacts). y.classes ≡ cs) equal (each x)
rows-classes cs q (Err e) make each h = absurd cc

-- a source is of the classes under which it was read
source-classes : (s : SettingsFacts) (cs : ClassLists) (bytes : List ℕ) (q : ProblemFacts) → source_of s cs bytes ≡ Ok q → q.classes ≡ cs
source-classes s cs bytes q h = problem-of (records_of bytes) cs q (under_header (records_of bytes)) _ (λ lines x e. rows-classes cs x _ _ (λ rows. refl) e) h

source-read : (s : SettingsFacts) (cs : ClassLists) (q : ProblemFacts) (r : Result ProblemFacts SourceFault) → fault_as fault.BadSource r ≡ Ok q → r ≡ Ok q
source-read s cs q (Ok x) h = let same : ◌≡◌ {A = Result ProblemFacts InputFault} (Ok x) (Ok q) = h in let equal : x ≡ q = cc in ap (λ (y : ProblemFacts). Ok y) equal
source-read s cs q (Err e) h = absurd cc

held-classes : (s : SettingsFacts) (cs : ClassLists) (q : ProblemFacts) (held : Result (List ℕ) InputFault) → and_then held (λ bytes. fault_as fault.BadSource (source_of s cs bytes)) ≡ Ok q → q.classes ≡ cs
held-classes s cs q (Ok bytes) h = source-classes s cs bytes q (source-read s cs q (source_of s cs bytes) h)
held-classes s cs q (Err e) h = absurd cc

-- three results in a row
module _ (source : SettingsFacts → ClassLists → Result ProblemFacts InputFault) (s : SettingsFacts) (p : ProblemFacts) where
  same-pair : (t : SettingsFacts) (q : ProblemFacts) → ◌≡◌ {A = Result (SettingsFacts × ProblemFacts) InputFault} (Ok (t, q)) (Ok (s, p)) → ◌≡◌ {A = SettingsFacts × ProblemFacts} (t, q) (s, p)
  same-pair t q e = cc

  third : (t : SettingsFacts) (cs : ClassLists) (r : Result ProblemFacts InputFault) → source t cs ≡ r → and_then {B = SettingsFacts × ProblemFacts} r (λ q. Ok (t, q)) ≡ Ok (s, p) → (t ≡ s) × (source s cs ≡ Ok p)
  third t cs (Ok q) is e =
      let x = same-pair t q e in
      let settings : t ≡ s = ap (λ (y : SettingsFacts × ProblemFacts). y.0) x in
      (settings, subst (λ z. source z cs ≡ Ok p) settings (is ∙ ap (λ (y : SettingsFacts × ProblemFacts). Ok y.1) x))
  third t cs (Err f) is e = absurd cc

  second : (t : SettingsFacts) (b r : Result ClassLists InputFault) → b ≡ r → and_then {B = SettingsFacts × ProblemFacts} r (λ cs. and_then {B = SettingsFacts × ProblemFacts} (source t cs) (λ q. Ok (t, q))) ≡ Ok (s, p) → (cs : ClassLists) × (t ≡ s) × (b ≡ Ok cs) × (source s cs ≡ Ok p)
  second t b (Ok cs) is e = let x = third t cs (source t cs) refl e in (cs, x.0, is, x.1)
  second t b (Err f) is e = absurd cc

  first : (a r : Result SettingsFacts InputFault) (b : Result ClassLists InputFault) → a ≡ r → and_then {B = SettingsFacts × ProblemFacts} r (λ t. and_then {B = SettingsFacts × ProblemFacts} b (λ cs. and_then {B = SettingsFacts × ProblemFacts} (source t cs) (λ q. Ok (t, q)))) ≡ Ok (s, p)
      → (cs : ClassLists) × (a ≡ Ok s) × (b ≡ Ok cs) × (source s cs ≡ Ok p)
  first a (Ok t) b is e = let x = second t b b refl e in (x.0, is ∙ ap (λ (y : SettingsFacts). Ok y) x.1, x.2, x.3)
  first a (Err f) b is e = absurd cc

-- the text of the rows in the place of the source
swapped : (settings classes source : Option (List ℕ)) (s : SettingsFacts) (p q : ProblemFacts) → problem_by SourceCsv settings classes source ≡ Ok (s, p) → q.classes ≡ p.classes → SpellsSource s q
    → problem_by EditedCsv settings classes (Some (source_text s q)) ≡ Ok (s, q)
unfolding problem_by
swapped settings classes source s p q h kept spells =
    let a = and_then (bytes_or (fault.Missing SettingsToml) (fault.TooLong SettingsToml) settings) (λ bytes. fault_as fault.BadSettings (settings_of bytes)) in
    let b = and_then (bytes_or (fault.Missing ClassesCsv) (fault.TooLong ClassesCsv) classes) (λ bytes. fault_as fault.BadClasses (classes_of bytes)) in
    let x = first (λ t cs. and_then (bytes_or (fault.Missing SourceCsv) (fault.TooLong SourceCsv) source) (λ bytes. fault_as fault.BadSource (source_of t cs bytes))) s p a a b refl h in
    let same : q.classes ≡ x.0 = kept ∙ held-classes s x.0 p (bytes_or (fault.Missing SourceCsv) (fault.TooLong SourceCsv) source) x.3 in
    let text = source_text s q in
    let rows : ◌≡◌ {A = Result ProblemFacts InputFault} (and_then (bytes_or (fault.Missing EditedCsv) (fault.TooLong EditedCsv) (Some text)) (λ bytes. fault_as fault.BadSource (source_of s x.0 bytes))) (Ok q) =
    ap (λ fits. and_then (if fits then Ok text else Err (fault.TooLong EditedCsv)) (λ bytes. fault_as fault.BadSource (source_of s x.0 bytes))) (le-leb (length text) FILE_LIMIT spells.short)
    ∙ ap (fault_as fault.BadSource) (subst (λ cs. source_of s cs text ≡ Ok q) same spells.read)
    in
    ap (λ r. and_then {B = SettingsFacts × ProblemFacts} r (λ t. and_then {B = SettingsFacts × ProblemFacts} b (λ cs. and_then {B = SettingsFacts × ProblemFacts} (and_then (bytes_or (fault.Missing EditedCsv) (fault.TooLong EditedCsv) (Some text)) (λ bytes. fault_as fault.BadSource (source_of t cs bytes))) (λ y. Ok (t, y))))) x.1
    ∙ ap (λ r. and_then {B = SettingsFacts × ProblemFacts} r (λ cs. and_then {B = SettingsFacts × ProblemFacts} (and_then (bytes_or (fault.Missing EditedCsv) (fault.TooLong EditedCsv) (Some text)) (λ bytes. fault_as fault.BadSource (source_of s cs bytes))) (λ y. Ok (s, y)))) x.2
    ∙ ap (λ r. and_then {B = SettingsFacts × ProblemFacts} r (λ y. Ok (s, y))) rows

rows-spelled : (old new : Files) (s : SettingsFacts) (p q : ProblemFacts) → problem_in SourceCsv None old ≡ Ok (s, p) → new SettingsToml ≡ old SettingsToml → new ClassesCsv ≡ old ClassesCsv → new EditedCsv ≡ Some (source_text s q)
    → q.classes ≡ p.classes → SpellsSource s q → problem_in EditedCsv None new ≡ Ok (s, q)
rows-spelled old new s p q read settings classes rows kept spells =
    problem-by EditedCsv new ∙ (λ i. problem_by EditedCsv (settings i) (classes i) (rows i))
    ∙ swapped (old SettingsToml) (old ClassesCsv) (old SourceCsv) s p q (sym (problem-by SourceCsv old) ∙ read) kept spells

-- ---- what was read before the edits

problem-first : (r : Result (SettingsFacts × ProblemFacts) InputFault) (s : SettingsFacts) (p : ProblemFacts) (lines : List EditLine) (next : SettingsFacts × ProblemFacts → Result (List EditLine) EditInputFault)
    → and_then {B = (SettingsFacts × ProblemFacts) × List EditLine} (fault_as edits.Input r) (λ given. and_then {B = (SettingsFacts × ProblemFacts) × List EditLine} (next given) (λ ls. Ok (given, ls))) ≡ Ok ((s, p), lines) → r ≡ Ok (s, p)
problem-first (Err e) s p lines next h = absurd cc
problem-first (Ok given) s p lines next h = by (next given) h
  where
    by : (r : Result (List EditLine) EditInputFault) → and_then {B = (SettingsFacts × ProblemFacts) × List EditLine} r (λ ls. Ok (given, ls)) ≡ Ok ((s, p), lines) → ◌≡◌ {A = Result (SettingsFacts × ProblemFacts) InputFault} (Ok given) (Ok (s, p))
    by (Ok ls) h =
        let same : ◌≡◌ {A = Result ((SettingsFacts × ProblemFacts) × List EditLine) EditInputFault} (Ok (given, ls)) (Ok ((s, p), lines)) = h in
        let equal : ◌≡◌ {A = (SettingsFacts × ProblemFacts) × List EditLine} (given, ls) ((s, p), lines) = cc in
        ap (λ (y : (SettingsFacts × ProblemFacts) × List EditLine). Ok y.0) equal
    by (Err e) h = absurd cc

problem-read : (files : Files) (s : SettingsFacts) (p : ProblemFacts) (lines : List EditLine) → edit_input_in None files ≡ Ok ((s, p), lines) → problem_in SourceCsv None files ≡ Ok (s, p)
unfolding edit_input_in edited_in
problem-read files s p lines h = problem-first (problem_in SourceCsv None files) s p lines (λ given. edits_in given.0 given.1.classes None files) h

-- ---- the headline

module _ (seats : List SeatFacts) (s : SettingsFacts) (p : ProblemFacts) (lines : List EditLine) (m : Moments) (are : moments_of (standing_labels seats) p lines ≡ Ok m) where
  -- what the files of the last answer promise
  edit-promises : (a : Answer) → IsAnswer m.last a → ReadsBack m.last a → SpellsSource s m.last → (trail : List ℕ) (old new : Files) → problem_in SourceCsv None old ≡ Ok (s, p) → input_of seats Edit None old ≡ Ok (to_edit s m)
      → ((name : FileName) → same_name name ReviewCsv ≡ false → new name ≡ after_writes ((EditedCsv, source_text s m.last) ∷ (TrailCsv, trail) ∷ answer_files m.last a) old name)
      → (before after : Option (List ℕ)) (front : List ℕ) → Told before after (Sends (front ++ screen_text m.last a)) → Promises seats Edit (status_of a) before after old new
  edit-promises (answer.Balanced t ps) is_right reads spells trail old new read given at before after front sent = record {
    problem = m.last;
    settings = s;
    given = (m, given, refl);
    spelled = rows-spelled old new s p m.last read (at SettingsToml refl) (at ClassesCsv refl) (at EditedCsv refl) (same-classes (standing_labels seats) p lines m are) spells;
    written = writes-least m.last t ps is_right.right reads ((EditedCsv, source_text s m.last) ∷ (TrailCsv, trail) ∷ []) old new at before after (sends-last front (screen_text m.last (answer.Balanced t ps)) before after sent);
  }
  edit-promises (answer.Infeasible set) is_right reads spells trail old new read given at before after front sent = λ checked. record {
    problem = m.last;
    settings = s;
    given = (m, given, refl);
    spelled = rows-spelled old new s p m.last read (at SettingsToml refl) (at ClassesCsv refl) (at EditedCsv refl) (same-classes (standing_labels seats) p lines m are) spells;
    written = writes-cut m.last set is_right.right reads (is_right.infeasible.0 refl) ((EditedCsv, source_text s m.last) ∷ (TrailCsv, trail) ∷ []) old new at before after (sends-last front (screen_text m.last (answer.Infeasible set)) before after sent);
  }

  module _ (done : Status) (texts : List (FileName × List ℕ)) (printed : List ℕ) (x : IsPreparedEdit seats s m done texts printed) where
    edits-keep : (held : Option Files) → IfSome held (λ files. edit_input_in None files ≡ Ok ((s, p), lines)) → IfSome held (λ files. input_of seats Edit None files ≡ Ok (to_edit s m))
        → IfSome held (λ old. (new : Files) (before after : Option (List ℕ)) → WrittenAll texts old new → Told before after (Sends printed) → Promises seats Edit done before after old new)
    edits-keep None read given = tt
    edits-keep (Some old) read given = λ new before after written sent.
        subst (λ end. Promises seats Edit end before after old new) (sym x.ends)
        (edit-promises x.answer x.right x.reads_back x.spells (trail_text x.events) old new (problem-read old s p lines read) given
        (stands-at (seats_after x.events seats) ((EditedCsv, source_text s m.last) ∷ (TrailCsv, trail_text x.events) ∷ answer_files m.last x.answer) old new (subst (λ t. WrittenAll t old new) x.written written))
        before after (rebalances_text x.events) (subst (λ t. Told before after (Sends t)) x.printed sent))

-- a run of edits is ready
pub edits-ready : (seats : List SeatFacts) (s : SettingsFacts) (p : ProblemFacts) (lines : List EditLine) (done : Status) (texts : List (FileName × List ℕ)) (printed : List ℕ) → PreparesEdit seats s p lines done texts printed
    → (held : Option Files) → IfSome held (λ files. edit_input_in None files ≡ Ok ((s, p), lines)) → IsReady seats Edit held done texts printed
edits-ready seats s p lines done texts printed x held read =
    let given = edits-given seats s p lines held x.moments read x.are in
    record {
      input = to_edit s x.moments;
      given = given;
      gives = gives-edits seats s x.moments done texts printed x.is;
      ends = answer-ends x.is.answer done x.is.ends;
      names = edit-names-within seats s x.moments done texts printed x.is (map (λ (f : FileName × List ℕ). f.0) texts) refl;
      keeps = edits-keep seats s p lines x.moments x.are done texts printed x.is held read given;
    }
