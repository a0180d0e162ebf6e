use Rattle.std.proofs.Common.{◌∙◌, ap}
use Rattle.sut_review.specs.Seats.{ended, new_seat, seat_after}
use Rattle.sut_review.proofs.Asked.{tally-asked}
use Rattle.sut_review.proofs.Histories.{left-alone, show-each, stood-through}
use Rattle.sut_review.proofs.laws.tallies.Goals as goal

pub returns-clause-each : goal.returns-clause-each
returns-clause-each c = λ tables seats. show-each tables seats

pub returns-clause-stood : goal.returns-clause-stood
returns-clause-stood c = λ tables label rule few. stood-through tables label rule few

pub returns-clause-dismissed : goal.returns-clause-dismissed
returns-clause-dismissed c = λ before after label rule few.
    left-alone after (seat_after before (new_seat label rule)) ∙ ap ended (stood-through before label rule few)

pub returns-clause-counts : goal.returns-clause-counts
returns-clause-counts c = λ tables rule held. tally-asked rule tables held

pub returns-clause-left : goal.returns-clause-left
returns-clause-left c = λ tables seat. left-alone tables seat
