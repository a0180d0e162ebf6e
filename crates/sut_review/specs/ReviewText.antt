-- The text of `review.csv`.
use Rattle.std.specs.Prelude.{ℕ, Bool, List, [], ◌∷◌, codes, decimal, map, is_some, if◌then◌else◌}
use Rattle.sut_text.specs.Text.{field_text, file_text}
use Rattle.sut_review.specs.Seats.{SeatFacts}

abbrev pub yes_or_no : Bool → List ℕ
yes_or_no stands = if stands then codes "yes" else codes "no"

-- a reviewer's line: its label, the number of tables shown to it, its tally, and whether it stands
abbrev pub seat_line : SeatFacts → List (List ℕ)
seat_line seat =
    field_text seat.label ∷ decimal seat.seen ∷ decimal seat.tally ∷ yes_or_no (is_some seat.standing) ∷ []

-- a line for each reviewer, in the order in which they were handed in
unfoldable pub review_text : List SeatFacts → List ℕ
review_text seats =
    file_text (codes "label" ∷ codes "seen" ∷ codes "tally" ∷ codes "standing" ∷ []) (map seat_line seats)
