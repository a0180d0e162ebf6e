-- What a run has made before its first write.
use Rattle.std.specs.Prelude.{◌≡◌, ◌↔◌, ◌++◌, ℕ, List, Ok, IsTrue}
use Rattle.sut_outside.specs.declared.names.FileName.{FileName}
use Rattle.sut_tables.specs.ProblemFacts.{ProblemFacts}
use Rattle.sut_tables.specs.Costs.{IsImpossible}
use Rattle.sut_cert.specs.Right.{IsRight, is_infeasible}
use Rattle.sut_cert.specs.declared.answers.Answer.{Answer}
use Rattle.sut_write.specs.Screen.{screen_text}
use Rattle.sut_status.specs.declared.statuses.Status.{Status}
use Rattle.sut_review.specs.Seats.{SeatFacts}
use Rattle.sut_run.specs.Deliveries.{ReadsBack, SpellsSource, answer_files, edit_lines, edited_files, review_files, status_of}
use Rattle.sut_settings.specs.SettingsFacts.{SettingsFacts}
use Rattle.sut_edits.specs.declared.edits.EditLine.{EditLine}
use Rattle.sut_editing.specs.Moments.{Moments, moments_of, standing_labels}
use Rattle.sut_editing.specs.Events.{Event, IsAnswer}
use Rattle.sut_editing.specs.Answered.{AreEventsOf, EndsWith}
use Rattle.sut_editing.specs.Shown.{seats_shown}

-- the texts and the lines of a right answer, and the status of a run that delivers it
pub record IsPrepared (seats : List SeatFacts) (p : ProblemFacts) (done : Status) (texts : List (FileName × List ℕ)) (lines : List ℕ) : Type 0 where
  pub answer : Answer
  pub right : IsRight p answer
  pub ends : done ≡ status_of answer
  pub written : texts ≡ answer_files p answer ++ review_files (seats_shown p answer seats)
  pub printed : lines ≡ screen_text p answer
  pub reads_back : ReadsBack p answer
  pub impossible : IsTrue (is_infeasible answer) ↔ IsImpossible p

-- the same of a run of edits
pub record IsPreparedEdit (seats : List SeatFacts) (s : SettingsFacts) (m : Moments) (done : Status) (texts : List (FileName × List ℕ)) (lines : List ℕ) : Type 0 where
  pub events : List Event
  pub answer : Answer
  pub happened : AreEventsOf m.list events
  pub last : EndsWith events m.last answer
  pub right : IsAnswer m.last answer
  pub ends : done ≡ status_of answer
  pub written : texts ≡ edited_files seats s m.last events answer
  pub printed : lines ≡ edit_lines m.last events answer
  pub reads_back : ReadsBack m.last answer
  pub spells : SpellsSource s m.last

-- what happens in a run of these edits is prepared
pub record PreparesEdit (seats : List SeatFacts) (s : SettingsFacts) (p : ProblemFacts) (lines : List EditLine) (done : Status) (texts : List (FileName × List ℕ)) (printed : List ℕ) : Type 0 where
  pub moments : Moments
  pub are : moments_of (standing_labels seats) p lines ≡ Ok moments
  pub is : IsPreparedEdit seats s moments done texts printed
