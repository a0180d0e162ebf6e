-- Rules as far as they are asked.
use Rattle.std.proofs.Common.{◌≡◌, ◌∙◌, ◌+◌, ◌^◌, ℤ, pos, neg_ℤ, Bool, true, false, List, [], ◌∷◌, refl, sym, ap, arith, ◌&&◌}
use Rattle.std.specs.Prelude.{All, ◌≤◌, ◌≤ℤ◌, count_by, int_le, length}
use Rattle.std.proofs.lemmas.Int.{ints}
use Rattle.std.proofs.lemmas.List.Elements.{All-head, All-tail}
use Rattle.std.proofs.lemmas.List.Sums.{count_by-le-length, sum_by-cons}
use Rattle.sut_tables.specs.CellSums.{IsUpTo}
use Rattle.sut_tables.specs.ProblemFacts.{ProblemFacts}
use Rattle.sut_tables.specs.ProblemRules.{IsKept}
use Rattle.sut_tables.specs.Problems.{IsTableOf}
use Rattle.sut_tables.specs.RowFacts.{RowFacts}
use Rattle.sut_tables.specs.Rows.{InRange}
use Rattle.sut_tables.specs.TableFacts.{TableFacts}
use Rattle.sut_tables.specs.Values.{value_of}
use Rattle.sut_tables.specs.declared.tables.Held.{Held}
use Rattle.sut_tables.proofs.Wide.{few-rows}
use Rattle.sut_readback.proofs.Bounds.{value-up_to}
use Rattle.sut_review.specs.Rules.{IsAsked, IsHeld, Rule, SameRule, asked, is_asked, marks_of, tally_of}

asked-wider : (x : ℤ) → IsUpTo (2 ^ 58) x → IsAsked x
asked-wider x up = by up.low up.high
  where
    by : neg_ℤ (pos (2 ^ 58)) ≤ℤ x → x ≤ℤ pos (2 ^ 58) → IsAsked x
    by low high = record { low = omega (arith, ints); high = omega (arith, ints) }

-- a rule is asked about each value over a table of a problem
pub values-asked : (p : ProblemFacts) (t : TableFacts) → IsKept p → IsTableOf p t → All (λ (h : Held). InRange h.number) t.cells → (r : RowFacts) → IsAsked (value_of t r.measure)
values-asked p t kept of ranges r = asked-wider (value_of t r.measure) (value-up_to p t kept of ranges r.measure)

le-true : (x y : ℤ) → x ≤ℤ y → int_le x y ≡ true
le-true x y h = search (arith, ints)

true-le : (x y : ℤ) → int_le x y ≡ true → x ≤ℤ y
true-le x y h = search (arith, ints)

both : (a b : Bool) → a ≡ true → b ≡ true → a && b ≡ true
both true true p q = refl
both true false p q = cc
both false b p q = cc

first : (a b : Bool) → a && b ≡ true → a ≡ true
first true b e = refl
first false b e = cc

second : (a b : Bool) → a && b ≡ true → b ≡ true
second true b e = e
second false b e = cc

is_asked-true : (value : ℤ) → IsAsked value → is_asked value ≡ true
is_asked-true value h = both _ _ (le-true _ _ h.low) (le-true _ _ h.high)

true-is_asked : (value : ℤ) → is_asked value ≡ true → IsAsked value
true-is_asked value e = record { low = true-le _ _ (first _ _ e); high = true-le _ _ (second _ _ e) }

-- at a value that a rule is asked about
asked-at : (rule : Rule) (row : RowFacts) (value : ℤ) → IsAsked value → asked rule row value ≡ rule row value
unfolding asked
asked-at rule row value h = ap (λ b. b && rule row value) (is_asked-true value h)

same-at : (old new : Rule) → SameRule old new → (row : RowFacts) (value : ℤ) → asked new row value ≡ asked old row value
unfolding asked
same-at old new same row value = by (is_asked value) refl
  where
    by : (b : Bool) → is_asked value ≡ b → b && new row value ≡ b && old row value
    by true e = same row value (true-is_asked value e)
    by false e = refl

-- rules that mark alike where they are asked are the same as far as they are asked
pub same-asked : (old new : Rule) → SameRule old new → asked new ≡ asked old
same-asked old new same i row value = same-at old new same row value i

-- where it is asked about each row's value, a rule marks as many rows as it does as far as it is asked
pub marks-asked : (rule : Rule) (p : ProblemFacts) (t : TableFacts) → ((r : RowFacts) → IsAsked (value_of t r.measure)) → marks_of (asked rule) p t ≡ marks_of rule p t
marks-asked rule p t values = ap (λ (test : RowFacts → Bool). count_by test p.rows) (λ i r. asked-at rule r (value_of t r.measure) (values r) i)

pub marks-few : (rule : Rule) (p : ProblemFacts) (t : TableFacts) → IsKept p → marks_of rule p t ≤ 147456
marks-few rule p t kept =
    let most : marks_of rule p t ≤ length p.rows = count_by-le-length (λ (r : RowFacts). rule r (value_of t r.measure)) p.rows in
    let few = few-rows p kept.limits in
    omega (arith, most, few)

-- over tables of their problems a rule's tally is that of the rule as far as it is asked
pub tally-asked : (rule : Rule) (tables : List (ProblemFacts × TableFacts)) → All (λ (shown : ProblemFacts × TableFacts). IsHeld shown.0 shown.1) tables → tally_of (asked rule) tables ≡ tally_of rule tables
tally-asked rule [] all = refl
tally-asked rule (shown ∷ tables) all =
    let held = All-head (λ (shown : ProblemFacts × TableFacts). IsHeld shown.0 shown.1) shown tables all in
    let rest = tally-asked rule tables (All-tail (λ (shown : ProblemFacts × TableFacts). IsHeld shown.0 shown.1) shown tables all) in
    sum_by-cons (λ (s : ProblemFacts × TableFacts). marks_of (asked rule) s.0 s.1) shown tables
    ∙ ap (λ n. n + tally_of (asked rule) tables) (marks-asked rule shown.0 shown.1 (values-asked shown.0 shown.1 held.problem held.of held.numbers))
    ∙ ap (λ n. marks_of rule shown.0 shown.1 + n) rest
    ∙ sym (sum_by-cons (λ (s : ProblemFacts × TableFacts). marks_of rule s.0 s.1) shown tables)
