-- Tallies as they rise.
use Rattle.std.proofs.Common.{◌≡◌, ℕ, ◌+◌, ◌*◌, ◌<◌, ◌≤◌, ◌^◌, List, [], ◌∷◌, false, ap, arith, length}
use Rattle.std.proofs.lemmas.List.Elements.{All-head, All-tail}
use Rattle.std.proofs.lemmas.List.Sums.{count_by-le-length, sum_by-cons}
use Rattle.std.specs.Prelude.{All, if◌then◌else◌, nat_lt}
use borrow.Author.Tests.{lt-ltb}
use Rattle.sut_tables.specs.ProblemFacts.{ProblemFacts}
use Rattle.sut_tables.specs.RowFacts.{RowFacts}
use Rattle.sut_tables.specs.TableFacts.{TableFacts}
use Rattle.sut_tables.specs.Values.{value_of}
use Rattle.sut_review.specs.Rules.{Rule, marks_of, tally_of}
use Rattle.sut_review.specs.Seats.{AreFew, raised}

-- one below 2^63 rises
pub raised-below : (tally more : ℕ) → tally < 2 ^ 63 → raised tally more ≡ tally + more
raised-below tally more l = ap (λ b. if b then tally + more else tally) (lt-ltb tally (2 ^ 63) l)

not-below : (m n : ℕ) → n ≤ m → nat_lt m n ≡ false
not-below m n l = grind arith

-- one that has reached it stands still
pub raised-above : (tally more : ℕ) → 2 ^ 63 ≤ tally → raised tally more ≡ tally
raised-above tally more l = ap (λ b. if b then tally + more else tally) (not-below tally (2 ^ 63) l)

rows-marked : (rule : Rule) (p : ProblemFacts) (t : TableFacts) → length p.rows ≤ 147456 → marks_of rule p t ≤ 147456
rows-marked rule p t few =
    let most : marks_of rule p t ≤ length p.rows = count_by-le-length (λ (r : RowFacts). rule r (value_of t r.measure)) p.rows in
    omega (arith, most, few)

counted-rows : (rule : Rule) (tables : List (ProblemFacts × TableFacts)) → All (λ (shown : ProblemFacts × TableFacts). length shown.0.rows ≤ 147456) tables → tally_of rule tables ≤ length tables * 147456
counted-rows rule [] all = omega arith
counted-rows rule (table ∷ tables) all =
    let whole = sum_by-cons (λ (shown : ProblemFacts × TableFacts). marks_of rule shown.0 shown.1) table tables in
    let first = rows-marked rule table.0 table.1 (All-head (λ (shown : ProblemFacts × TableFacts). length shown.0.rows ≤ 147456) table tables all) in
    let rest = counted-rows rule tables (All-tail (λ (shown : ProblemFacts × TableFacts). length shown.0.rows ≤ 147456) table tables all) in
    omega (arith, whole, first, rest)

-- few tables leave a tally far below 2^63
pub few-marked : (rule : Rule) (tables : List (ProblemFacts × TableFacts)) → AreFew tables → tally_of rule tables < 2 ^ 63
few-marked rule tables few =
    let most = counted-rows rule tables few.rows in
    let number = few.number in
    omega (arith, most, number)
