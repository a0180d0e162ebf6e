-- What a run of edits shows: the reviewers after it, `trail.csv`, and a printed line for each time that the rows were balanced.
use Rattle.std.specs.Prelude.{ℕ, ◌+◌, List, [], ◌∷◌, ◌++◌}
use Rattle.sut_text.specs.Text.{line_text}
use Rattle.sut_tables.specs.ProblemFacts.{ProblemFacts}
use Rattle.sut_cert.specs.declared.answers.Answer.{Answer}
use Rattle.sut_cert.specs.declared.answers.Answer.TheVariants as answer
use Rattle.sut_write.specs.Screen.{rebalance_text}
use Rattle.sut_write.specs.Trail.{answer_lines, trail_header}
use Rattle.sut_review.specs.Seats.{SeatFacts, all_shown, dismissed}
use Rattle.sut_editing.specs.Events.{Event, answered, dismissed_one}

-- the reviewers see the table of a balanced answer
abbrev pub seats_shown : ProblemFacts → Answer → List SeatFacts → List SeatFacts
seats_shown p (answer.Balanced t ps) seats = all_shown p t seats
seats_shown p (answer.Infeasible set) seats = seats

-- the reviewers after these events
abbrev pub seats_after : List Event → List SeatFacts → List SeatFacts
seats_after [] seats = seats
seats_after (answered place since p a ∷ events) seats = seats_after events (seats_shown p a seats)
seats_after (dismissed_one label ∷ events) seats = seats_after events (dismissed label seats)

-- the lines of rebalances, which are numbered from n on
abbrev pub trail_lines : ℕ → List Event → List ℕ
trail_lines n [] = []
trail_lines n (answered place since p a ∷ events) = answer_lines n p a ++ trail_lines (n + 1) events
trail_lines n (dismissed_one label ∷ events) = trail_lines n events

-- `trail.csv`
abbrev pub trail_text : List Event → List ℕ
trail_text events = line_text trail_header ++ trail_lines 1 events

-- a printed line for each rebalance
abbrev pub rebalances_text : List Event → List ℕ
rebalances_text [] = []
rebalances_text (answered place since p a ∷ events) = rebalance_text place p a ++ rebalances_text events
rebalances_text (dismissed_one label ∷ events) = rebalances_text events
