-- The seats of a panel, one for each reviewer.
use Rattle.std.specs.Prelude.{◌&&◌, ℕ, zero, suc, ◌+◌, ◌^◌, ◌≤◌, nat_lt, Bool, false, List, [], ◌∷◌, All, length, map, Option, None, Some, if◌then◌else◌, is_some, option_map}
use Rattle.std.specs.Str.{bytes_eq}
use Rattle.sut_tables.specs.ProblemFacts.{ProblemFacts}
use Rattle.sut_tables.specs.TableFacts.{TableFacts}
use Rattle.sut_review.specs.Rules.{Rule, asked, marks_of}

-- a reviewer: its label, the number of tables shown to it, its tally, and its rule while it stands
pub record SeatFacts : Type 0 where
  pub label : List ℕ
  pub seen : ℕ
  pub tally : ℕ
  pub standing : Option Rule

-- the tally of the boxed object itself, or the last one where no object is left
abbrev pub told_tally : {O : Type 0} → (O → ℕ) → ℕ → Option O → ℕ
told_tally marked tally None = tally
told_tally marked tally (Some object) = marked object

-- the number of tables shown to the panel, or the last one where no object is left
abbrev pub told_seen : {O : Type 0} → ℕ → ℕ → Option O → ℕ
told_seen shown seen None = seen
told_seen shown seen (Some object) = shown

-- a seat of a panel that was shown this many tables, by what it keeps, with the rule and the tally that its boxed object
-- tells; it stands while the object is there
abbrev pub seat_of : {O : Type 0} → (O → Rule) → (O → ℕ) → ℕ → List ℕ → ℕ → ℕ → Option O → SeatFacts
seat_of rule marked shown label seen tally object = record {
  label = label;
  seen = told_seen shown seen object;
  tally = told_tally marked tally object;
  standing = option_map (λ o. asked (rule o)) object;
}

-- each seat of a list
abbrev pub seats_of : {S : Type 0} → List S → (S → SeatFacts) → List SeatFacts
seats_of seats facts = map facts seats

-- as it is handed in
abbrev pub new_seat : List ℕ → Rule → SeatFacts
new_seat label rule = record { label = label; seen = 0; tally = 0; standing = Some (asked rule) }

-- the tally with more rows marked; one that has reached 2^63 stands still, since its reviewer may see no further table
abbrev pub raised : ℕ → ℕ → ℕ
raised tally more = if nat_lt tally (2 ^ 63) then tally + more else tally

-- it sees a table by its rule
abbrev pub sees : ProblemFacts → TableFacts → SeatFacts → Option Rule → SeatFacts
sees p t seat None = seat
sees p t seat (Some rule) = record seat { seen = seat.seen + 1; tally = raised seat.tally (marks_of rule p t) }

-- one that stands sees the table, and nothing changes for one that was dismissed
abbrev pub seat_shown : ProblemFacts → TableFacts → SeatFacts → SeatFacts
seat_shown p t seat = sees p t seat seat.standing

-- each one that stands sees the table
abbrev pub all_shown : ProblemFacts → TableFacts → List SeatFacts → List SeatFacts
all_shown p t seats = map (seat_shown p t) seats

-- each one that stands sees these tables, one after another
abbrev pub show_all : List (ProblemFacts × TableFacts) → List SeatFacts → List SeatFacts
show_all [] seats = seats
show_all (table ∷ tables) seats = show_all tables (all_shown table.0 table.1 seats)

-- a seat after these tables
abbrev pub seat_after : List (ProblemFacts × TableFacts) → SeatFacts → SeatFacts
seat_after [] seat = seat
seat_after (table ∷ tables) seat = seat_after tables (seat_shown table.0 table.1 seat)

-- it stands no more, and keeps label, seen and tally
abbrev pub ended : SeatFacts → SeatFacts
ended seat = record seat { standing = None }

-- the one at a place stands no more
abbrev pub dismissed_at : ℕ → List SeatFacts → List SeatFacts
dismissed_at index [] = []
dismissed_at zero (seat ∷ seats) = ended seat ∷ seats
dismissed_at (suc index) (seat ∷ seats) = seat ∷ dismissed_at index seats

-- whether one stands at a place
abbrev pub stands_at : ℕ → List SeatFacts → Bool
stands_at index [] = false
stands_at zero (seat ∷ seats) = is_some seat.standing
stands_at (suc index) (seat ∷ seats) = stands_at index seats

-- whether it stands with this label
abbrev pub stands_with : List ℕ → SeatFacts → Bool
stands_with label seat = is_some seat.standing && bytes_eq seat.label label

-- the first one that stands with this label stands no more
abbrev pub dismissed : List ℕ → List SeatFacts → List SeatFacts
dismissed label [] = []
dismissed label (seat ∷ seats) =
    if stands_with label seat then ended seat ∷ seats else seat ∷ dismissed label seats

-- at most 64 tables, each of a problem of at most 147,456 rows, as every problem is
pub record AreFew (tables : List (ProblemFacts × TableFacts)) : Type 0 where
  pub number : length tables ≤ 64
  pub rows : All (λ (shown : ProblemFacts × TableFacts). length shown.0.rows ≤ 147456) tables
