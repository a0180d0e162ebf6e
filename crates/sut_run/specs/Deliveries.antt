-- What a run delivers for its input: the texts that are written, in order, and the lines that are printed then.
use Rattle.std.specs.Prelude.{◌≡◌, ◌≤◌, ◌+◌, ℕ, List, [], ◌∷◌, ◌++◌, codes, decimal, length, Ok}
use Rattle.sut_outside.specs.declared.names.FileName.{FileName}
use Rattle.sut_outside.specs.declared.names.FileName.TheVariants.{BalancedCsv, SupplyCsv, UseCsv, AccountsCsv, CertificateCsv, ReportJson, ReviewCsv, EditedCsv, TrailCsv, MadeSettingsToml, MadeClassesCsv, MadeSourceCsv, Classes2Csv}
use Rattle.sut_outside.specs.declared.shelf.TheConstants.{FILE_LIMIT}
use Rattle.sut_settings.specs.SettingsFacts.{SettingsFacts}
use Rattle.sut_settings.specs.SettingsFile.{settings_of}
use Rattle.sut_classes.specs.ClassLists.{ClassLists}
use Rattle.sut_classes.specs.ClassFile.{classes_of}
use Rattle.sut_classes.specs.ClassText.{classes_text}
use Rattle.sut_classes.specs.Places.{count_of}
use Rattle.sut_classes.specs.declared.ids.Axis.TheVariants as axis
use Rattle.sut_text.specs.Text.{printed_text}
use Rattle.sut_source.specs.SourceFile.{source_of}
use Rattle.sut_source.specs.SourceText.{source_text}
use Rattle.sut_tables.specs.ProblemFacts.{ProblemFacts}
use Rattle.sut_tables.specs.TableFacts.{TableFacts}
use Rattle.sut_tables.specs.Costs.{IsLeast}
use Rattle.sut_cert.specs.Right.{IsRight}
use Rattle.sut_cert.specs.CertificateText.{certificate_text}
use Rattle.sut_cert.specs.CertificateFile.{certificate_of}
use Rattle.sut_cert.specs.declared.answers.Answer.{Answer}
use Rattle.sut_cert.specs.declared.answers.Answer.TheVariants as answer
use Rattle.sut_cert.specs.declared.certificates.Certificate.{Certificate}
use Rattle.sut_cert.specs.declared.certificates.Certificate.TheVariants as certificate
use Rattle.sut_readback.specs.BalancedText.{balanced_text}
use Rattle.sut_readback.specs.BalancedFile.{balanced_of}
use Rattle.sut_write.specs.Supply.{supply_text}
use Rattle.sut_write.specs.Use.{use_text}
use Rattle.sut_write.specs.Accounts.{accounts_text}
use Rattle.sut_write.specs.Reports.{report_text}
use Rattle.sut_write.specs.Screen.{generated_text, screen_text}
use Rattle.sut_review.specs.Seats.{SeatFacts}
use Rattle.sut_review.specs.ReviewText.{review_text}
use Rattle.sut_generate.specs.Generator.{made_classes, made_settings, made_source}
use Rattle.sut_status.specs.declared.statuses.Status.{Status}
use Rattle.sut_status.specs.declared.statuses.Status.TheVariants as status
use Rattle.sut_editing.specs.Moments.{Moments}
use Rattle.sut_editing.specs.Events.{Event, IsAnswer}
use Rattle.sut_editing.specs.Answered.{AreEventsOf, EndsWith}
use Rattle.sut_editing.specs.Shown.{rebalances_text, seats_after, seats_shown, trail_text}
use Rattle.sut_run.specs.Inputs.{Given, to_balance, to_edit, to_migrate, to_generate}

pub record Delivery : Type 0 where
  pub texts : List (FileName × List ℕ)
  pub lines : List ℕ

-- the status of a run that delivers an answer
abbrev pub status_of : Answer → Status
status_of (answer.Balanced t ps) = status.Balanced
status_of (answer.Infeasible set) = status.Infeasible

-- the four tables of a balanced answer
abbrev pub table_files : ProblemFacts → TableFacts → List (FileName × List ℕ)
table_files p t =
    (BalancedCsv, balanced_text p t) ∷ (SupplyCsv, supply_text p.classes t) ∷ (UseCsv, use_text p.classes t)
    ∷ (AccountsCsv, accounts_text p.classes t) ∷ []

abbrev pub certificate_file : ProblemFacts → Certificate → FileName × List ℕ
certificate_file p c = (CertificateCsv, certificate_text p.classes c)

-- the tables, if the answer has one, and the certificate
abbrev pub front_files : ProblemFacts → Answer → List (FileName × List ℕ)
front_files p (answer.Balanced t ps) = table_files p t ++ certificate_file p (certificate.Potentials ps) ∷ []
front_files p (answer.Infeasible set) = certificate_file p (certificate.Cut set) ∷ []

-- and then the report
abbrev pub answer_files : ProblemFacts → Answer → List (FileName × List ℕ)
answer_files p a = front_files p a ++ (ReportJson, report_text p a) ∷ []

-- ---- reviews

-- the review, where reviewers were handed in
abbrev pub review_files : List SeatFacts → List (FileName × List ℕ)
review_files [] = []
review_files (seat ∷ seats) = (ReviewCsv, review_text (seat ∷ seats)) ∷ []

abbrev pub balance_delivery : List SeatFacts → ProblemFacts → Answer → Delivery
balance_delivery seats p a =
    record { texts = answer_files p a ++ review_files (seats_shown p a seats); lines = screen_text p a }

-- ---- a run of edits

-- the rows after all edits, the balanced tables, and then what is written of the last answer
abbrev pub edited_files : List SeatFacts → SettingsFacts → ProblemFacts → List Event → Answer → List (FileName × List ℕ)
edited_files seats s last events a =
    (EditedCsv, source_text s last) ∷ (TrailCsv, trail_text events) ∷ (answer_files last a ++ review_files (seats_after events seats))

-- a line for each rebalance, and then those of the last answer
abbrev pub edit_lines : ProblemFacts → List Event → Answer → List ℕ
edit_lines last events a = rebalances_text events ++ screen_text last a

-- ---- a made year

-- the problem that the made files spell
pub record IsMadeProblem (seed products industries : ℕ) (p : ProblemFacts) : Type 0 where
  pub settings : SettingsFacts
  pub classes : ClassLists
  pub settings_read : settings_of made_settings ≡ Ok settings
  pub classes_read : classes_of (made_classes products industries) ≡ Ok classes
  pub source_read : source_of settings classes (made_source seed products industries) ≡ Ok p

-- three texts under the names of made files
abbrev pub files_in : List ℕ → List ℕ → List ℕ → List (FileName × List ℕ)
files_in settings classes source = (MadeSettingsToml, settings) ∷ (MadeClassesCsv, classes) ∷ (MadeSourceCsv, source) ∷ []

abbrev pub made_files : ℕ → ℕ → ℕ → List (FileName × List ℕ)
made_files seed products industries =
    files_in made_settings (made_classes products industries) (made_source seed products industries)

-- the lines of a least table of the problem that the made files spell
pub record PrintsMade (seed products industries : ℕ) (lines : List ℕ) : Type 0 where
  pub problem : ProblemFacts
  pub table : TableFacts
  pub made : IsMadeProblem seed products industries problem
  pub least : IsLeast problem table
  pub printed : lines ≡ generated_text problem table

-- the made files, and the lines of a least table of their problem
pub record IsMadeYear (seed products industries : ℕ) (d : Delivery) : Type 0 where
  pub written : d.texts ≡ made_files seed products industries
  pub prints : PrintsMade seed products industries d.lines

-- ---- classes in format 2

-- how many codes there are on all axes
abbrev pub code_count : ClassLists → ℕ
code_count cs =
    ((count_of cs axis.Product + count_of cs axis.Industry) + (count_of cs axis.Final + count_of cs axis.Item))
    + (count_of cs axis.Margin + count_of cs axis.Tax) + (count_of cs axis.ProductGroup + count_of cs axis.IndustryGroup)

abbrev pub migrated_text : ClassLists → List ℕ
migrated_text cs = printed_text ((codes "migrated" ∷ decimal (code_count cs) ∷ []) ∷ [])

-- the classes in format 2, and how many codes there are
abbrev pub migration : ClassLists → Delivery
migration cs = record { texts = (Classes2Csv, classes_text cs) ∷ []; lines = migrated_text cs }

-- ---- what a run may deliver for an input, and the answer with which it ends then

-- a right answer to a problem is delivered
pub record GivesAnswer (seats : List SeatFacts) (p : ProblemFacts) (done : Status) (d : Delivery) : Type 0 where
  pub answer : Answer
  pub right : IsRight p answer
  pub ends : done ≡ status_of answer
  pub delivers : d ≡ balance_delivery seats p answer

-- right answers to the problems of a run of edits are delivered, the last of them whole
pub record GivesEdits (seats : List SeatFacts) (s : SettingsFacts) (m : Moments) (done : Status) (d : Delivery) : Type 0 where
  pub events : List Event
  pub answer : Answer
  pub happened : AreEventsOf m.list events
  pub last : EndsWith events m.last answer
  pub right : IsAnswer m.last answer
  pub ends : done ≡ status_of answer
  pub delivers : d ≡ record { texts = edited_files seats s m.last events answer; lines = edit_lines m.last events answer }

abbrev pub Gives : List SeatFacts → Given → Status → Delivery → Type 0
Gives seats (to_balance s p) done d = GivesAnswer seats p done d
Gives seats (to_edit s m) done d = GivesEdits seats s m done d
Gives seats (to_migrate cs) done d = (done ≡ status.Migrated) × (d ≡ migration cs)
Gives seats (to_generate seed products industries) done d = (done ≡ status.Generated) × IsMadeYear seed products industries d

-- ---- what is written for the separate check reads back, and is no longer than a read gives

pub record SpellsTable (p : ProblemFacts) (t : TableFacts) : Type 0 where
  pub short : length (balanced_text p t) ≤ FILE_LIMIT
  pub read : balanced_of p (balanced_text p t) ≡ Ok t

pub record SpellsCertificate (p : ProblemFacts) (c : Certificate) : Type 0 where
  pub short : length (certificate_text p.classes c) ≤ FILE_LIMIT
  pub read : certificate_of p (certificate_text p.classes c) ≡ Ok c

abbrev pub ReadsBack : ProblemFacts → Answer → Type 0
ReadsBack p (answer.Balanced t ps) = SpellsTable p t × SpellsCertificate p (certificate.Potentials ps)
ReadsBack p (answer.Infeasible set) = SpellsCertificate p (certificate.Cut set)

-- in format 2 the same classes
pub record SpellsClasses (cs : ClassLists) : Type 0 where
  pub short : length (classes_text cs) ≤ FILE_LIMIT
  pub read : classes_of (classes_text cs) ≡ Ok (record cs { format = 2 })

pub record SpellsSource (s : SettingsFacts) (p : ProblemFacts) : Type 0 where
  pub short : length (source_text s p) ≤ FILE_LIMIT
  pub read : source_of s p.classes (source_text s p) ≡ Ok p
