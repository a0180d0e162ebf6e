-- Seats after several tables, and the first one with a label.
use Rattle.std.proofs.Common.{◌≡◌, ◌∙◌, ◌&&◌, ℕ, zero, suc, ◌+◌, ◌<◌, ◌^◌, List, [], ◌∷◌, Bool, true, false, refl, sym, ap, arith, get_or, length, map}
use Rattle.std.specs.Prelude.{None, Some, if◌then◌else◌, is_some, position}
use Rattle.std.proofs.lemmas.List.Quantifiers.{position-Some}
use Rattle.std.proofs.lemmas.List.Sums.{sum_by-cons}
use Rattle.sut_tables.specs.ProblemFacts.{ProblemFacts}
use Rattle.sut_tables.specs.TableFacts.{TableFacts}
use Rattle.sut_review.specs.Rules.{Rule, asked, marks_of, tally_of}
use Rattle.sut_review.specs.Seats.{AreFew, SeatFacts, all_shown, dismissed, dismissed_at, ended, new_seat, seat_after, seat_shown, show_all, stands_at, stands_with}
use Rattle.sut_review.proofs.Tallies.{few-marked, raised-below}

same-map : (seats : List SeatFacts) → seats ≡ map (seat_after []) seats
same-map [] = refl
same-map (seat ∷ seats) = ap (λ rest. seat ∷ rest) (same-map seats)

then-map : (f g : SeatFacts → SeatFacts) (seats : List SeatFacts) → map f (map g seats) ≡ map (λ s. f (g s)) seats
then-map f g [] = refl
then-map f g (seat ∷ seats) = ap (λ rest. f (g seat) ∷ rest) (then-map f g seats)

-- each seat goes its own way
pub show-each : (tables : List (ProblemFacts × TableFacts)) (seats : List SeatFacts) → show_all tables seats ≡ map (seat_after tables) seats
show-each [] seats = same-map seats
show-each (table ∷ tables) seats =
    show-each tables (all_shown table.0 table.1 seats) ∙ then-map (seat_after tables) (seat_shown table.0 table.1) seats

counted : (tables : List (ProblemFacts × TableFacts)) (label : List ℕ) (seen tally : ℕ) (rule : Rule) → tally + tally_of rule tables < 2 ^ 63 → seat_after tables (record { label = label; seen = seen; tally = tally; standing = Some rule }) ≡ record { label = label; seen = seen + length tables; tally = tally + tally_of rule tables; standing = Some rule }
counted [] label seen tally rule room =
    let n : seen ≡ seen + 0 = omega arith in
    let m : tally ≡ tally + 0 = omega arith in
    λ i. record { label = label; seen = n i; tally = m i; standing = Some rule }
counted (table ∷ tables) label seen tally rule room =
    let whole = sum_by-cons (λ (shown : ProblemFacts × TableFacts). marks_of rule shown.0 shown.1) table tables in
    let first = raised-below tally (marks_of rule table.0 table.1) (omega (arith, room, whole)) in
    let n : (seen + 1) + length tables ≡ seen + length (table ∷ tables) = omega arith in
    let m : (tally + marks_of rule table.0 table.1) + tally_of rule tables ≡ tally + tally_of rule (table ∷ tables) = omega (arith, whole) in
    ap (λ risen. seat_after tables (record { label = label; seen = seen + 1; tally = risen; standing = Some rule })) first
    ∙ counted tables label (seen + 1) (tally + marks_of rule table.0 table.1) rule (omega (arith, room, whole))
    ∙ (λ i. record { label = label; seen = n i; tally = m i; standing = Some rule })

-- one that stands has seen each table, and its tally is that of its rule
pub stood-through : (tables : List (ProblemFacts × TableFacts)) (label : List ℕ) (rule : Rule) → AreFew tables → seat_after tables (new_seat label rule) ≡ record { label = label; seen = length tables; tally = tally_of (asked rule) tables; standing = Some (asked rule) }
stood-through tables label rule few =
    let n : 0 + length tables ≡ length tables = omega arith in
    let m : 0 + tally_of (asked rule) tables ≡ tally_of (asked rule) tables = omega arith in
    let below = few-marked (asked rule) tables few in
    counted tables label 0 0 (asked rule) (omega (arith, below)) ∙ (λ i. record { label = label; seen = n i; tally = m i; standing = Some (asked rule) })

-- one that stands no more stays as it is
pub left-alone : (tables : List (ProblemFacts × TableFacts)) (seat : SeatFacts) → seat_after tables (ended seat) ≡ ended seat
left-alone [] seat = refl
left-alone (table ∷ tables) seat = left-alone tables seat

-- ---- the first one with a label

some-seat : SeatFacts
some-seat = record { label = []; seen = 0; tally = 0; standing = None }

first-stands : (a b : Bool) → a && b ≡ true → a ≡ true
first-stands true b e = refl
first-stands false b e = cc

at-first : (label : List ℕ) (seats : List SeatFacts) (k : ℕ) (d : SeatFacts) → k < length seats → stands_with label (get_or seats k d) ≡ true → stands_at k seats ≡ true
at-first label [] k d l here = absurd (omega arith)
at-first label (seat ∷ seats) zero d l here = first-stands (is_some seat.standing) _ here
at-first label (seat ∷ seats) (suc k) d l here = at-first label seats k d (omega arith) here

ends-first : (label : List ℕ) (seats : List SeatFacts) (k : ℕ) (d : SeatFacts) → k < length seats → stands_with label (get_or seats k d) ≡ true → ((j : ℕ) → j < k → stands_with label (get_or seats j d) ≡ false) → dismissed_at k seats ≡ dismissed label seats
ends-first label [] k d l here before = absurd (omega arith)
ends-first label (seat ∷ seats) zero d l here before = ap (λ b. if b then ended seat ∷ seats else seat ∷ dismissed label seats) (sym here)
ends-first label (seat ∷ seats) (suc k) d l here before =
    ap (λ rest. seat ∷ rest) (ends-first label seats k d (omega arith) here (λ j m. before (suc j) (omega arith)))
    ∙ ap (λ b. if b then ended seat ∷ seats else seat ∷ dismissed label seats) (sym (before 0 (omega arith)))

pub standing-stands : (label : List ℕ) (seats : List SeatFacts) (k : ℕ) → position (stands_with label) seats ≡ Some k → stands_at k seats ≡ true
standing-stands label seats k e =
    let found = position-Some (stands_with label) seats k some-seat e in
    at-first label seats k some-seat found.0 found.1

pub dismissed-first : (label : List ℕ) (seats : List SeatFacts) (k : ℕ) → position (stands_with label) seats ≡ Some k → dismissed_at k seats ≡ dismissed label seats
dismissed-first label seats k e =
    let found = position-Some (stands_with label) seats k some-seat e in
    ends-first label seats k some-seat found.0 found.1 found.2
