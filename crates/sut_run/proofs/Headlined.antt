-- What the written files say by themselves.
use Rattle.std.proofs.Common.{◌≡◌, ◌≤◌, ◌∙◌, ℕ, ℤ, Bool, false, List, [], ◌∷◌, ◌++◌, Option, Some, None, Result, Ok, IfSome, length, map, refl, sym, ap, subst}
use Rattle.std.proofs.lemmas.List.Elements.{All-nil, All-cons}
use Rattle.std.specs.Prelude.{◌↔◌, All, IsSomeAnd, IsTrue, if◌then◌else◌}
use Rattle.sut_outside.specs.declared.names.FileName.{FileName}
use Rattle.sut_outside.specs.declared.names.FileName.TheVariants.{SettingsToml, ClassesCsv, SourceCsv, BalancedCsv, SupplyCsv, UseCsv, AccountsCsv, CertificateCsv, ReportJson, ReviewCsv}
use Rattle.sut_outside.specs.declared.shelf.TheConstants.{FILE_LIMIT}
use Rattle.sut_outside.specs.Files.{Files, Told}
use Rattle.sut_outside.proofs.Told.{told_as}
use Rattle.sut_outside.specs.Deliveries.{WrittenAll, after_writes, same_name, with_file}
use Rattle.sut_outside.specs.Entry.{bytes_or}
use Rattle.sut_records.specs.FirstFault.{and_then, fault_as}
use Rattle.sut_settings.specs.SettingsFacts.{SettingsFacts}
use Rattle.sut_settings.specs.SettingsFile.{settings_of}
use Rattle.sut_classes.specs.ClassFile.{classes_of}
use Rattle.sut_source.specs.SourceFile.{source_of}
use Rattle.sut_tables.specs.ProblemFacts.{ProblemFacts}
use Rattle.sut_tables.specs.Costs.{IsImpossible}
use Rattle.sut_tables.proofs.OneGdp.{production-income, expenditure-income}
use Rattle.sut_measures.specs.declared.accounts.Account.{Account}
use Rattle.sut_tables.specs.TableFacts.{TableFacts}
use Rattle.sut_cert.specs.Right.{IsRight, IsRightCut, IsRightTable, is_infeasible}
use Rattle.sut_cert.specs.declared.answers.Answer.{Answer}
use Rattle.sut_cert.specs.declared.answers.Answer.TheVariants as answer
use Rattle.sut_cert.specs.declared.certificates.Certificate.TheVariants as certificate
use Rattle.sut_cert.specs.CertificateFile.{certificate_of}
use Rattle.sut_cert.specs.CertificateText.{certificate_text}
use Rattle.sut_readback.specs.BalancedFile.{balanced_of}
use Rattle.sut_readback.specs.BalancedText.{balanced_text}
use Rattle.sut_write.specs.Supply.{supply_text}
use Rattle.sut_write.specs.Use.{use_text}
use Rattle.sut_write.specs.Accounts.{accounts_text}
use Rattle.sut_write.specs.Reports.{report_text}
use Rattle.sut_write.specs.Screen.{screen_text}
use Rattle.sut_input.specs.Inputs.{problem_in}
use Rattle.sut_input.specs.declared.faults.InputFault.{InputFault}
use Rattle.sut_input.specs.declared.faults.InputFault.TheVariants as fault
use Rattle.sut_status.specs.declared.statuses.Status.{Status}
use Rattle.sut_run.specs.declared.commands.Command.TheVariants.{Balance}
use Rattle.sut_run.specs.Inputs.{for_balance, refused, to_balance}
use Rattle.sut_review.specs.Seats.{SeatFacts}
use Rattle.sut_review.specs.ReviewText.{review_text}
use Rattle.sut_editing.specs.Shown.{seats_shown}
use Rattle.sut_run.specs.Deliveries.{ReadsBack, SpellsCertificate, answer_files, review_files, status_of}
use Rattle.sut_run.specs.Prepared.{IsPrepared}
use Rattle.sut_run.specs.Headlines.{SendsLast, TellsAnswer, WritesCut, WritesLeast}
use Rattle.sut_run.specs.Ready.{IsReady, Promises}
use Rattle.sut_run.specs.Steps.{Sends}
use Rattle.sut_run.proofs.Delivered.{answer-ends, given-told, gives-answer, prepared-names}

pub spelled : {A F : Type 0} (held : Option (List ℕ)) (text : List ℕ) (read : List ℕ → Result A F) (value : A) → held ≡ Some text → length text ≤ FILE_LIMIT → read text ≡ Ok value
    → IsSomeAnd held (λ bytes. (length bytes ≤ FILE_LIMIT) × (read bytes ≡ Ok value))
spelled held text read value e short is = subst (λ h. IsSomeAnd h (λ bytes. (length bytes ≤ FILE_LIMIT) × (read bytes ≡ Ok value))) (sym e) (short, is)

-- the problem that three files spell
unfoldable pub problem_by : FileName → Option (List ℕ) → Option (List ℕ) → Option (List ℕ) → Result (SettingsFacts × ProblemFacts) InputFault
problem_by name settings classes source =
    and_then (and_then (bytes_or (fault.Missing SettingsToml) (fault.TooLong SettingsToml) settings) (λ bytes. fault_as fault.BadSettings (settings_of bytes))) (λ s.
    and_then (and_then (bytes_or (fault.Missing ClassesCsv) (fault.TooLong ClassesCsv) classes) (λ bytes. fault_as fault.BadClasses (classes_of bytes))) (λ cs.
    and_then (and_then (bytes_or (fault.Missing name) (fault.TooLong name) source) (λ bytes. fault_as fault.BadSource (source_of s cs bytes))) (λ p. Ok (s, p))))

pub problem-by : (name : FileName) (files : Files) → problem_in name None files ≡ problem_by name (files SettingsToml) (files ClassesCsv) (files name)
unfolding problem_by
problem-by name files = refl

-- files that hold the same three spell the same problem
same-problem : (old new : Files) → new SettingsToml ≡ old SettingsToml → new ClassesCsv ≡ old ClassesCsv → new SourceCsv ≡ old SourceCsv → problem_in SourceCsv None new ≡ problem_in SourceCsv None old
same-problem old new s c x = problem-by SourceCsv new ∙ (λ i. problem_by SourceCsv (s i) (c i) (x i)) ∙ sym (problem-by SourceCsv old)

given : (s : SettingsFacts) (p : ProblemFacts) (old : Files) → problem_in SourceCsv None old ≡ Ok (s, p) → and_then (fault_as refused (problem_in SourceCsv None old)) for_balance ≡ for_balance (s, p)
given s p old e = ap (λ r. and_then (fault_as refused r) for_balance) e

-- ---- the files beside the review

after-append : (xs ys : List (FileName × List ℕ)) (files : Files) (name : FileName) → after_writes (xs ++ ys) files name ≡ after_writes ys (after_writes xs files) name
after-append [] ys files name = refl
after-append (x ∷ xs) ys files name = after-append xs ys (with_file x.0 x.1 files) name

review-aside : (seats : List SeatFacts) (files : Files) (name : FileName) → same_name name ReviewCsv ≡ false → after_writes (review_files seats) files name ≡ files name
review-aside [] files name e = refl
review-aside (seat ∷ seats) files name e = ap (λ (b : Bool). if b then Some (review_text (seat ∷ seats)) else files name) e

-- what stands under a name other than that of the review
pub stands-at : (seats : List SeatFacts) (texts : List (FileName × List ℕ)) (now new : Files) → WrittenAll (texts ++ review_files seats) now new
    → (name : FileName) → same_name name ReviewCsv ≡ false → new name ≡ after_writes texts now name
stands-at seats texts now new written name e = written name ∙ after-append texts (review_files seats) now name ∙ review-aside seats (after_writes texts now) name e

-- ---- what is told of one answer

-- lines that go out behind others go out last
pub sends-last : (front lines : List ℕ) (before after : Option (List ℕ)) → Told before after (Sends (front ++ lines)) → Told before after (SendsLast lines)
sends-last front lines before after sent = told_as (Sends (front ++ lines)) (SendsLast lines) (λ x y e. (front, e)) before after sent

two : (P : FileName × List ℕ → Type 0) (x y : FileName × List ℕ) → P x → P y → All P (x ∷ y ∷ [])
two P x y first second = All-cons P x (y ∷ []) first (All-cons P y [] second (All-nil P))

six : (P : FileName × List ℕ → Type 0) (u v w x y z : FileName × List ℕ) → P u → P v → P w → P x → P y → P z → All P (u ∷ v ∷ w ∷ x ∷ y ∷ z ∷ [])
six P u v w x y z pu pv pw px py pz =
    All-cons P u (v ∷ w ∷ x ∷ y ∷ z ∷ []) pu (All-cons P v (w ∷ x ∷ y ∷ z ∷ []) pv (All-cons P w (x ∷ y ∷ z ∷ []) pw (All-cons P x (y ∷ z ∷ []) px (two P y z py pz))))

-- a text stands under its name
abbrev stands-in : Files → FileName × List ℕ → Type 0
stands-in files text = files text.0 ≡ Some text.1

-- the files of an answer stand under their names
pub tells-answer : (p : ProblemFacts) (a : Answer) (front : List (FileName × List ℕ)) (now new : Files) → ((name : FileName) → same_name name ReviewCsv ≡ false → new name ≡ after_writes (front ++ answer_files p a) now name)
    → (before after : Option (List ℕ)) → Told before after (SendsLast (screen_text p a)) → TellsAnswer before after p a new
tells-answer p (answer.Balanced t ps) front now new at before after lines = record {
  texts =
      six (stands-in new) (BalancedCsv, balanced_text p t) (SupplyCsv, supply_text p.classes t) (UseCsv, use_text p.classes t) (AccountsCsv, accounts_text p.classes t) (CertificateCsv, certificate_text p.classes (certificate.Potentials ps)) (ReportJson, report_text p (answer.Balanced t ps))
      (stands BalancedCsv refl) (stands SupplyCsv refl) (stands UseCsv refl) (stands AccountsCsv refl) (stands CertificateCsv refl) (stands ReportJson refl);
  lines = lines;
}
  where
    stands : (name : FileName) → same_name name ReviewCsv ≡ false → new name ≡ after_writes (answer_files p (answer.Balanced t ps)) (after_writes front now) name
    stands name other = at name other ∙ after-append front (answer_files p (answer.Balanced t ps)) now name
tells-answer p (answer.Infeasible set) front now new at before after lines = record {
  texts =
      two (stands-in new) (CertificateCsv, certificate_text p.classes (certificate.Cut set)) (ReportJson, report_text p (answer.Infeasible set))
      (stands CertificateCsv refl) (stands ReportJson refl);
  lines = lines;
}
  where
    stands : (name : FileName) → same_name name ReviewCsv ≡ false → new name ≡ after_writes (answer_files p (answer.Infeasible set)) (after_writes front now) name
    stands name other = at name other ∙ after-append front (answer_files p (answer.Infeasible set)) now name

-- ---- the headline

-- what is written of a least table
pub writes-least : (p : ProblemFacts) (t : TableFacts) (ps : List (Account × ℤ)) → IsRightTable p t ps → ReadsBack p (answer.Balanced t ps) → (front : List (FileName × List ℕ)) (old new : Files)
    → ((name : FileName) → same_name name ReviewCsv ≡ false → new name ≡ after_writes (front ++ answer_files p (answer.Balanced t ps)) old name)
    → (before after : Option (List ℕ)) → Told before after (SendsLast (screen_text p (answer.Balanced t ps))) → WritesLeast before after p new
writes-least p t ps is_right reads front old new at before after lines = record {
  table = t;
  shown_by = ps;
  told = tells-answer p (answer.Balanced t ps) front old new at before after lines;
  table_spelled = spelled (new BalancedCsv) (balanced_text p t) (balanced_of p) t (stands BalancedCsv refl) reads.0.short reads.0.read;
  certificate_spelled = spelled (new CertificateCsv) (certificate_text p.classes (certificate.Potentials ps)) (certificate_of p) (certificate.Potentials ps) (stands CertificateCsv refl) reads.1.short reads.1.read;
  least = is_right.least;
  one_gdp = record {
    by_income = sym (production-income t is_right.least.admissible.identities);
    by_expenditure = expenditure-income t is_right.least.admissible.identities ∙ sym (production-income t is_right.least.admissible.identities);
  };
  shown = is_right.shown;
}
  where
    stands : (name : FileName) → same_name name ReviewCsv ≡ false → new name ≡ after_writes (answer_files p (answer.Balanced t ps)) (after_writes front old) name
    stands name other = at name other ∙ after-append front (answer_files p (answer.Balanced t ps)) old name

-- what is written of a set that contradicts
pub writes-cut : (p : ProblemFacts) (set : List Account) → IsRightCut p set → SpellsCertificate p (certificate.Cut set) → IsImpossible p → (front : List (FileName × List ℕ)) (old new : Files)
    → ((name : FileName) → same_name name ReviewCsv ≡ false → new name ≡ after_writes (front ++ answer_files p (answer.Infeasible set)) old name)
    → (before after : Option (List ℕ)) → Told before after (SendsLast (screen_text p (answer.Infeasible set))) → WritesCut before after p new
writes-cut p set is_right reads none front old new at before after lines = record {
  set = set;
  told = tells-answer p (answer.Infeasible set) front old new at before after lines;
  spelled = spelled (new CertificateCsv) (certificate_text p.classes (certificate.Cut set)) (certificate_of p) (certificate.Cut set) (at CertificateCsv refl ∙ after-append front (answer_files p (answer.Infeasible set)) old CertificateCsv) reads.short reads.read;
  contradicts = is_right.contradicts;
  impossible = none;
}

-- what the files of an answer promise
answer-promises : (seats : List SeatFacts) (s : SettingsFacts) (p : ProblemFacts) (a : Answer) → IsRight p a → ReadsBack p a → IsTrue (is_infeasible a) ↔ IsImpossible p → (old new : Files) → problem_in SourceCsv None old ≡ Ok (s, p)
    → ((name : FileName) → same_name name ReviewCsv ≡ false → new name ≡ after_writes (answer_files p a) old name) → (before after : Option (List ℕ)) → Told before after (Sends (screen_text p a))
    → Promises seats Balance (status_of a) before after old new
answer-promises seats s p (answer.Balanced t ps) is_right reads none old new read at before after sent = record {
  problem = p;
  settings = s;
  given = given s p old read;
  spelled = same-problem old new (at SettingsToml refl) (at ClassesCsv refl) (at SourceCsv refl) ∙ read;
  written = writes-least p t ps is_right reads [] old new at before after (sends-last [] (screen_text p (answer.Balanced t ps)) before after sent);
}
answer-promises seats s p (answer.Infeasible set) is_right reads none old new read at before after sent = λ checked. record {
  problem = p;
  settings = s;
  given = given s p old read;
  spelled = same-problem old new (at SettingsToml refl) (at ClassesCsv refl) (at SourceCsv refl) ∙ read;
  written = writes-cut p set is_right reads (none.0 refl) [] old new at before after (sends-last [] (screen_text p (answer.Infeasible set)) before after sent);
}

answer-keeps : (seats : List SeatFacts) (s : SettingsFacts) (p : ProblemFacts) (done : Status) (texts : List (FileName × List ℕ)) (lines : List ℕ) → IsPrepared seats p done texts lines
    → (held : Option Files) → IfSome held (λ files. problem_in SourceCsv None files ≡ Ok (s, p))
    → IfSome held (λ old. (new : Files) (before after : Option (List ℕ)) → WrittenAll texts old new → Told before after (Sends lines) → Promises seats Balance done before after old new)
answer-keeps seats s p done texts lines x None read = tt
answer-keeps seats s p done texts lines x (Some old) read = λ new before after written sent.
    subst (λ end. Promises seats Balance end before after old new) (sym x.ends)
    (answer-promises seats s p x.answer x.right x.reads_back x.impossible old new read
    (stands-at (seats_shown p x.answer seats) (answer_files p x.answer) old new (subst (λ t. WrittenAll t old new) x.written written)) before after (subst (λ t. Told before after (Sends t)) x.printed sent))

-- an answer to the problem of the source is ready
pub answer-ready : (seats : List SeatFacts) (s : SettingsFacts) (p : ProblemFacts) (done : Status) (texts : List (FileName × List ℕ)) (lines : List ℕ) → IsPrepared seats p done texts lines
    → (held : Option Files) → IfSome held (λ files. problem_in SourceCsv None files ≡ Ok (s, p)) → IsReady seats Balance held done texts lines
answer-ready seats s p done texts lines x held read = record {
  input = to_balance s p;
  given = given-told seats s p held read;
  gives = gives-answer seats p done texts lines x;
  ends = answer-ends x.answer done x.ends;
  names = prepared-names seats p done texts lines x (map (λ (f : FileName × List ℕ). f.0) texts) refl;
  keeps = answer-keeps seats s p done texts lines x held read;
}
