-- Events that answer the moments of a run of edits.
use Rattle.std.specs.Prelude.{◌≡◌, ℕ, List, [], ◌∷◌, ◌++◌, Option, None, All, map}
use Rattle.sut_tables.specs.ProblemFacts.{ProblemFacts}
use Rattle.sut_edits.specs.declared.edits.Edit.{Edit}
use Rattle.sut_cert.specs.declared.answers.Answer.{Answer}
use Rattle.sut_editing.specs.Moments.{Moment}
use Rattle.sut_editing.specs.Events.{Event, HasRightAnswer, answered, moment_in}
use Rattle.sut_editing.specs.Near.{StayNear}

-- each moment with a right answer, where the rows were balanced, and each balanced table near the one before it
pub record AreEventsOf (moments : List Moment) (events : List Event) : Type 0 where
  pub same : map moment_in events ≡ moments
  pub right : All HasRightAnswer events
  pub near : StayNear None events

-- the last event is that this problem was given this answer
pub record EndsWith (events : List Event) (p : ProblemFacts) (a : Answer) : Type 0 where
  pub place : Option ℕ
  pub since : List Edit
  pub before : List Event
  pub are : events ≡ before ++ answered place since p a ∷ []
