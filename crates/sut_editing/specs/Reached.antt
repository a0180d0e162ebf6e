-- Where a run of edits stands, as the code keeps it.
use Rattle.std.specs.Prelude.{◌≡◌, ◌≤◌, ℕ, ◌+◌, ◌++◌, ◌∷◌, [], List, Bool, true, false, Option, Some, None, Result, Ok, All, IsTrue}
use Rattle.sut_review.specs.Seats.{SeatFacts}
use Rattle.sut_cert.specs.declared.answers.Answer.{Answer}
use Rattle.sut_tables.specs.ProblemFacts.{ProblemFacts}
use Rattle.sut_tables.specs.RowFacts.{RowFacts}
use Rattle.sut_tables.specs.TableFacts.{TableFacts}
use Rattle.sut_edits.specs.declared.edits.Edit.TheVariants as edit
use Rattle.sut_session.specs.SessionFacts.{KeptNumbers, SessionFacts}
use Rattle.sut_session.specs.SmallSets.{AfterSmallSet, HasBounds, ShowKept, StaysNear}
use Rattle.sut_session.specs.Standing.{IsAnswerTo}
use Rattle.sut_write.specs.Screen.{rebalance_text}
use Rattle.sut_write.specs.Trail.{answer_lines}
use Rattle.sut_editing.specs.Moments.{Stage, standing_labels}
use Rattle.sut_editing.specs.Events.{Event, rebalances_in}
use Rattle.sut_editing.specs.Answered.{AreEventsOf, EndsWith}
use Rattle.sut_editing.specs.Near.{last_table}
use Rattle.sut_editing.specs.Shown.{rebalances_text, seats_after, seats_shown, trail_text}
use Rattle.sut_editing.specs.declared.logs.Log.{Log}

-- what is kept: the rows with their answer; the reviewers; the texts so far, the number of rebalances, and whether the last line
-- was one
pub record Kept : Type 0 where
  pub session : SessionFacts
  pub seats : List SeatFacts
  pub trail : List ℕ
  pub lines : List ℕ
  pub rebalances : ℕ
  pub marked : Bool

abbrev pub kept_in : SessionFacts → List SeatFacts → Log → Kept
kept_in session seats log = record {
  session = session;
  seats = seats;
  trail = log.trail.items;
  lines = log.lines.items;
  rebalances = log.rebalances;
  marked = log.marked;
}

-- the rows were balanced, shown and written down
pub record IsRebalanced (place : Option ℕ) (old new : Kept) : Type 0 where
  pub answer : Answer
  pub is : IsAnswerTo old.session.problem new.session.kept answer
  pub problem : new.session.problem ≡ old.session.problem
  pub stands : new.session.answer ≡ Some answer
  pub seats : new.seats ≡ seats_shown old.session.problem answer old.seats
  pub trail : new.trail ≡ old.trail ++ answer_lines (old.rebalances + 1) old.session.problem answer
  pub lines : new.lines ≡ old.lines ++ rebalance_text place old.session.problem answer
  pub rebalances : new.rebalances ≡ old.rebalances + 1
  pub marked : new.marked ≡ true
  pub near : AfterSmallSet old.session (λ t m d. StaysNear old.session.problem t m d answer)

-- the answer that stands is the last one
pub record LastAnswer (events : List Event) (k : Kept) : Type 0 where
  pub answer : Answer
  pub stands : k.session.answer ≡ Some answer
  pub last : EndsWith events k.session.problem answer

-- the kept numbers and potentials show a table
pub record ShowsKept (p : ProblemFacts) (t : TableFacts) (kept : Option KeptNumbers) : Type 0 where
  pub numbers : KeptNumbers
  pub are : kept ≡ Some numbers
  pub show : ShowKept p t numbers

-- those of the last table, where no edit of rows came after it, or one set that keeps the bounds
abbrev pub ShowsLast : Option (ProblemFacts × TableFacts) → Stage → SessionFacts → Type 0
ShowsLast None stage s = Unit {0}
ShowsLast (Some last) stage s =
    (stage.since ≡ [] → (stage.problem ≡ last.0) × ShowsKept last.0 last.1 s.kept)
    × ((r : RowFacts) → stage.since ≡ edit.Set r ∷ [] → HasBounds last.0 r → ShowsKept last.0 last.1 s.kept)

-- these events have led there, from reviewers as they were first
pub record IsReached (first : List SeatFacts) (stage : Stage) (events : List Event) (k : Kept) : Type 0 where
  pub problem : k.session.problem ≡ stage.problem
  pub labels : standing_labels k.seats ≡ stage.labels
  pub happened : AreEventsOf stage.moments events
  pub seats : k.seats ≡ seats_after events first
  pub trail : k.trail ≡ trail_text events
  pub lines : k.lines ≡ rebalances_text events
  pub rebalances : k.rebalances ≡ rebalances_in events
  pub marked : k.marked ≡ stage.marked
  pub last : IsTrue k.marked → LastAnswer events k
  pub shows : ShowsLast (last_table None events) stage k.session

-- a stage that was reached
pub record Reaches {F : Type 0} (first : List SeatFacts) (r : Result Stage F) (k : Kept) : Type 0 where
  pub stage : Stage
  pub events : List Event
  pub is : r ≡ Ok stage
  pub reached : IsReached first stage events k
