-- The labels of the reviewers that stand.
use Rattle.std.proofs.Common.{◌≡◌, ◌≤◌, ◌∙◌, ◌+◌, ℕ, List, [], ◌∷◌, Bool, true, false, Option, Some, None, length, refl, sym, ap, arith}
use Rattle.std.specs.Prelude.{if◌then◌else◌, is_some, nat_lt, not, position}
use Rattle.std.specs.List.{list_any, position_or_len}
use Rattle.std.proofs.lemmas.Bool.{ltb-false}
use Rattle.std.specs.Str.{bytes_eq}
use Rattle.std.proofs.lemmas.List.Folds.{list_any_at}
use Rattle.std.proofs.lemmas.List.Quantifiers.{position-Some}
use Rattle.sut_tables.specs.ProblemFacts.{ProblemFacts}
use Rattle.sut_tables.specs.TableFacts.{TableFacts}
use Rattle.sut_cert.specs.declared.answers.Answer.{Answer}
use Rattle.sut_cert.specs.declared.answers.Answer.TheVariants as answer
use Rattle.sut_review.specs.Rules.{Rule}
use Rattle.sut_review.specs.Seats.{SeatFacts, all_shown, dismissed, ended, seat_shown, sees, stands_with}
use Rattle.sut_editing.specs.Moments.{has_label, standing_labels, without_first}
use Rattle.sut_editing.specs.Shown.{seats_shown}

some-seat : SeatFacts
some-seat = record { label = []; seen = 0; tally = 0; standing = None }

-- a seat keeps its label and its rule when it sees a table
same-label : (p : ProblemFacts) (t : TableFacts) (seat : SeatFacts) (o : Option Rule) → (sees p t seat o).label ≡ seat.label
same-label p t seat None = refl
same-label p t seat (Some rule) = refl

same-standing : (p : ProblemFacts) (t : TableFacts) (seat : SeatFacts) (o : Option Rule) → (sees p t seat o).standing ≡ seat.standing
same-standing p t seat None = refl
same-standing p t seat (Some rule) = refl

table-labels : (p : ProblemFacts) (t : TableFacts) (seats : List SeatFacts) → standing_labels (all_shown p t seats) ≡ standing_labels seats
table-labels p t [] = refl
table-labels p t (seat ∷ seats) =
    let label = same-label p t seat seat.standing in
    let standing = same-standing p t seat seat.standing in
    let rest = table-labels p t seats in
    λ i. if is_some (standing i) then label i ∷ rest i else rest i

pub shown-labels : (p : ProblemFacts) (a : Answer) (seats : List SeatFacts) → standing_labels (seats_shown p a seats) ≡ standing_labels seats
shown-labels p (answer.Balanced t ps) seats = table-labels p t seats
shown-labels p (answer.Infeasible set) seats = refl

pub dismissed-labels : (label : List ℕ) (seats : List SeatFacts) → standing_labels (dismissed label seats) ≡ without_first label (standing_labels seats)
dismissed-labels label [] = refl
dismissed-labels label (seat ∷ seats) = by (dismissed-labels label seats) (is_some seat.standing) (bytes_eq seat.label label) refl refl
  where
    by : standing_labels (dismissed label seats) ≡ without_first label (standing_labels seats) → (stands same : Bool) → is_some seat.standing ≡ stands → bytes_eq seat.label label ≡ same → standing_labels (dismissed label (seat ∷ seats)) ≡ without_first label (standing_labels (seat ∷ seats))
    by rest true true e f = rw (e, f) refl
    by rest true false e f = rw (e, f) (rw e (ap (λ labels. seat.label ∷ labels) rest))
    by rest false same e f = rw e (rw e rest)

-- one stands with the label exactly where the label is among those that stand
any-label : (label : List ℕ) (seats : List SeatFacts) → list_any (stands_with label) seats ≡ has_label label (standing_labels seats)
any-label label [] = refl
any-label label (seat ∷ seats) = by (any-label label seats) (is_some seat.standing) (bytes_eq seat.label label) refl refl
  where
    by : list_any (stands_with label) seats ≡ has_label label (standing_labels seats) → (stands same : Bool) → is_some seat.standing ≡ stands → bytes_eq seat.label label ≡ same → list_any (stands_with label) (seat ∷ seats) ≡ has_label label (standing_labels (seat ∷ seats))
    by rest true true e f = rw (e, f) refl
    by rest true false e f = rw (e, f) rest
    by rest false same e f = rw e rest

pub found-label : (label : List ℕ) (seats : List SeatFacts) (k : ℕ) → position (stands_with label) seats ≡ Some k → has_label label (standing_labels seats) ≡ true
found-label label seats k e =
    let found = position-Some (stands_with label) seats k some-seat e in
    sym (any-label label seats) ∙ list_any_at (stands_with label) seats k some-seat found.0 found.1

-- none passes a test where the first that passes is past the end
past-none : {X : Type 0} (p : X → Bool) (xs : List X) → length xs ≤ position_or_len p xs → list_any p xs ≡ false
past-none p [] h = refl
past-none p (x ∷ xs) h = by (p x) refl (past-none p xs)
  where
    by : (b : Bool) → p x ≡ b → (length xs ≤ position_or_len p xs → list_any p xs ≡ false) → list_any p (x ∷ xs) ≡ false
    by true e rest =
        let none : position_or_len p (x ∷ xs) ≡ 0 = ap (λ b. if not b then 1 + position_or_len p xs else 0) e in absurd (omega (arith, h, none))
    by false e rest =
        let more : position_or_len p (x ∷ xs) ≡ 1 + position_or_len p xs = ap (λ b. if not b then 1 + position_or_len p xs else 0) e in
        rw e (rest (omega (arith, h, more)))

past-if : (n m : ℕ) (b : Bool) → nat_lt n m ≡ b → (if b then Some n else None) ≡ None → m ≤ n
past-if n m true e h = absurd cc
past-if n m false e h = ltb-false n m e

pub none-label : (label : List ℕ) (seats : List SeatFacts) → position (stands_with label) seats ≡ None → has_label label (standing_labels seats) ≡ false
none-label label seats e =
    sym (any-label label seats) ∙ past-none (stands_with label) seats (past-if (position_or_len (stands_with label) seats) (length seats) (nat_lt (position_or_len (stands_with label) seats) (length seats)) refl e)
