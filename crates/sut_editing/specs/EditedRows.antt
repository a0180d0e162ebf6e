-- What comes of a run of edits.
use Rattle.std.specs.Prelude.{◌≡◌, ℕ, Bool, true, false, List, [], ◌∷◌, Option, Some, None, Ok}
use Rattle.sut_tables.specs.ProblemFacts.{ProblemFacts}
use Rattle.sut_edits.specs.declared.edits.EditLine.{EditLine}
use Rattle.sut_cert.specs.declared.answers.Answer.{Answer}
use Rattle.sut_review.specs.Seats.{SeatFacts}
use Rattle.sut_review.specs.ReviewText.{review_text}
use Rattle.sut_editing.specs.Moments.{Moments, moments_of, standing_labels}
use Rattle.sut_editing.specs.Events.{Event}
use Rattle.sut_editing.specs.Answered.{AreEventsOf, EndsWith}
use Rattle.sut_editing.specs.Shown.{rebalances_text, seats_after, trail_text}

-- whether reviewers were handed in
abbrev pub are_some : List SeatFacts → Bool
are_some [] = false
are_some (seat ∷ seats) = true

-- the review, where reviewers were handed in
abbrev pub review_of : List SeatFacts → Option (List ℕ)
review_of [] = None
review_of (seat ∷ seats) = Some (review_text (seat ∷ seats))

-- the rows after all edits with their answer, `trail.csv`, the printed lines and the review, of some events of these edits
pub record IsEdited (first : List SeatFacts) (p : ProblemFacts) (lines : List EditLine) (last : ProblemFacts) (answer : Answer) (trail printed : List ℕ) (review : Option (List ℕ)) : Type 0 where
  pub moments : Moments
  pub events : List Event
  pub are : moments_of (standing_labels first) p lines ≡ Ok moments
  pub rows : last ≡ moments.last
  pub happened : AreEventsOf moments.list events
  pub ends : EndsWith events last answer
  pub trailed : trail ≡ trail_text events
  pub prints : printed ≡ rebalances_text events
  pub reviewed : review ≡ review_of (seats_after events first)
