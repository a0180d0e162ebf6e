-- Lists of events, with one event more.
use Rattle.std.proofs.Common.{◌≡◌, ◌∙◌, ℕ, ◌+◌, List, [], ◌∷◌, ◌++◌, Option, refl, sym, ap, append_assoc, append-nil, arith}
use Rattle.sut_text.specs.Text.{line_text}
use Rattle.sut_tables.specs.ProblemFacts.{ProblemFacts}
use Rattle.sut_edits.specs.declared.edits.Edit.{Edit}
use Rattle.sut_cert.specs.declared.answers.Answer.{Answer}
use Rattle.sut_review.specs.Seats.{SeatFacts, dismissed}
use Rattle.sut_write.specs.Screen.{rebalance_text}
use Rattle.sut_write.specs.Trail.{answer_lines, trail_header}
use Rattle.sut_editing.specs.Events.{Event, answered, dismissed_one, rebalances_in}
use Rattle.sut_editing.specs.Shown.{rebalances_text, seats_after, seats_shown, trail_lines, trail_text}

module _ (place : Option ℕ) (since : List Edit) (p : ProblemFacts) (a : Answer) where
  pub seats-more : (events : List Event) (seats : List SeatFacts) → seats_after (events ++ answered place since p a ∷ []) seats ≡ seats_shown p a (seats_after events seats)
  seats-more [] seats = refl
  seats-more (answered x s q b ∷ events) seats = seats-more events (seats_shown q b seats)
  seats-more (dismissed_one label ∷ events) seats = seats-more events (dismissed label seats)

  pub count-more : (events : List Event) → rebalances_in (events ++ answered place since p a ∷ []) ≡ rebalances_in events + 1
  count-more [] = refl
  count-more (answered x s q b ∷ events) = let rest = count-more events in omega (arith, rest)
  count-more (dismissed_one label ∷ events) = count-more events

  lines-more : (n m : ℕ) (events : List Event) → m ≡ n + rebalances_in events → trail_lines n (events ++ answered place since p a ∷ []) ≡ trail_lines n events ++ answer_lines m p a
  lines-more n m [] e =
      let same : n ≡ m = omega (arith, e) in append-nil (answer_lines n p a) ∙ ap (λ k. answer_lines k p a) same
  lines-more n m (answered x s q b ∷ events) e =
      ap (λ text. answer_lines n q b ++ text) (lines-more (n + 1) m events (omega (arith, e))) ∙ sym (append_assoc (answer_lines n q b) (trail_lines (n + 1) events) (answer_lines m p a))
  lines-more n m (dismissed_one label ∷ events) e = lines-more n m events e

  pub trail-more : (events : List Event) (m : ℕ) → m ≡ rebalances_in events + 1 → trail_text (events ++ answered place since p a ∷ []) ≡ trail_text events ++ answer_lines m p a
  trail-more events m e =
      ap (λ text. line_text trail_header ++ text) (lines-more 1 m events (omega (arith, e))) ∙ sym (append_assoc (line_text trail_header) (trail_lines 1 events) (answer_lines m p a))

  pub texts-more : (events : List Event) → rebalances_text (events ++ answered place since p a ∷ []) ≡ rebalances_text events ++ rebalance_text place p a
  texts-more [] = append-nil (rebalance_text place p a)
  texts-more (answered x s q b ∷ events) =
      ap (λ text. rebalance_text x q b ++ text) (texts-more events) ∙ sym (append_assoc (rebalance_text x q b) (rebalances_text events) (rebalance_text place p a))
  texts-more (dismissed_one label ∷ events) = texts-more events

module _ (label : List ℕ) where
  pub seats-left : (events : List Event) (seats : List SeatFacts) → seats_after (events ++ dismissed_one label ∷ []) seats ≡ dismissed label (seats_after events seats)
  seats-left [] seats = refl
  seats-left (answered x s q b ∷ events) seats = seats-left events (seats_shown q b seats)
  seats-left (dismissed_one l ∷ events) seats = seats-left events (dismissed l seats)

  pub count-left : (events : List Event) → rebalances_in (events ++ dismissed_one label ∷ []) ≡ rebalances_in events
  count-left [] = refl
  count-left (answered x s q b ∷ events) = let rest = count-left events in omega (arith, rest)
  count-left (dismissed_one l ∷ events) = count-left events

  lines-left : (n : ℕ) (events : List Event) → trail_lines n (events ++ dismissed_one label ∷ []) ≡ trail_lines n events
  lines-left n [] = refl
  lines-left n (answered x s q b ∷ events) = ap (λ text. answer_lines n q b ++ text) (lines-left (n + 1) events)
  lines-left n (dismissed_one l ∷ events) = lines-left n events

  pub trail-left : (events : List Event) → trail_text (events ++ dismissed_one label ∷ []) ≡ trail_text events
  trail-left events = ap (λ text. line_text trail_header ++ text) (lines-left 1 events)

  pub texts-left : (events : List Event) → rebalances_text (events ++ dismissed_one label ∷ []) ≡ rebalances_text events
  texts-left [] = refl
  texts-left (answered x s q b ∷ events) = ap (λ text. rebalance_text x q b ++ text) (texts-left events)
  texts-left (dismissed_one l ∷ events) = texts-left events
