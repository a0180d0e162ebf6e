-- A line by its steps, a file by its first record, and what the asks of a file keep.
use Rattle.std.proofs.Common.{◌≡◌, ◌==◌, ◌≤◌, ◌+◌, ◌∷◌, ◌++◌, ℕ, List, [], Bool, true, false, Result, Ok, Err, length, refl, subst, arith, length-append}
use Rattle.std.specs.Prelude.{All, IfOk, IsTrue, nat_lt, not}
use Rattle.std.proofs.lemmas.Bool.Decides.{nat_tests}
use Rattle.std.proofs.lemmas.List.Elements.{All-nil, All-push}
use Rattle.sut_records.specs.RecordList.{Fields, same_fields}
use Rattle.sut_records.specs.FirstFault.{and_then, fault_as, only_if, read_lines}
use Rattle.sut_measures.specs.declared.measures.Measure.{Measure}
use Rattle.sut_tables.specs.LiveRule.{is_live}
use Rattle.sut_tables.specs.ProblemFacts.{ProblemFacts}
use Rattle.sut_asks.specs.declared.faults.AskCause.{AskCause}
use Rattle.sut_asks.specs.declared.faults.AskCause.TheVariants as fault
use Rattle.sut_asks.specs.declared.faults.AskFault.{AskFault}
use Rattle.sut_asks.specs.AsksFile.{ask_limit, ask_line, ask_read, asks_header, asks_in, name_read, some_ask, wrong_header}

-- ---- a line

module _ (p : ProblemFacts) (before : ℕ) (line : Fields) where
  pub ask-short : (length line == 4) ≡ false → ask_read p before line ≡ Err fault.Csv
  unfolding ask_read
  ask-short e = rw e refl

  pub ask-unnamed : (cause : AskCause) → (length line == 4) ≡ true → name_read p line ≡ Err cause → ask_read p before line ≡ Err cause
  unfolding ask_read
  ask-unnamed cause e f = rw (e, f) refl

  pub ask-not_live : (m : Measure) → (length line == 4) ≡ true → name_read p line ≡ Ok m → is_live p m ≡ false → ask_read p before line ≡ Err fault.NotLive
  unfolding ask_read
  ask-not_live m e f g = rw (e, f, g) refl

  pub ask-beyond : (m : Measure) → (length line == 4) ≡ true → name_read p line ≡ Ok m → is_live p m ≡ true → nat_lt before ask_limit ≡ false
      → ask_read p before line ≡ Err fault.TooMany
  unfolding ask_read
  ask-beyond m e f g h = rw (e, f, g, h) refl

  pub ask-taken : (m : Measure) → (length line == 4) ≡ true → name_read p line ≡ Ok m → is_live p m ≡ true → nat_lt before ask_limit ≡ true
      → ask_read p before line ≡ Ok m
  unfolding ask_read
  ask-taken m e f g h = rw (e, f, g, h) refl

  -- what is asked for is live, and there was room for it
  ask-kept : (m : Measure) → ask_read p before line ≡ Ok m → (is_live p m ≡ true) × (nat_lt before ask_limit ≡ true)
  unfolding ask_read
  ask-kept m h = by (length line == 4) (name_read p line) h
    where
      last : (n : Measure) (live room : Bool) → is_live p n ≡ live → nat_lt before ask_limit ≡ room
          → only_if live fault.NotLive (only_if room fault.TooMany (Ok n)) ≡ Ok m → (is_live p m ≡ true) × (nat_lt before ask_limit ≡ true)
      last n false room e f h = cc
      last n true false e f h = cc
      last n true true e f h = let same : n ≡ m = cc in (subst (λ k. is_live p k ≡ true) same e, f)

      by : (four : Bool) (name : Result Measure AskCause)
          → only_if four fault.Csv (and_then name (λ n. only_if (is_live p n) fault.NotLive (only_if (nat_lt before ask_limit) fault.TooMany (Ok n)))) ≡ Ok m
          → (is_live p m ≡ true) × (nat_lt before ask_limit ≡ true)
      by false name h = cc
      by true (Err cause) h = cc
      by true (Ok n) h = last n (is_live p n) (nat_lt before ask_limit) refl refl h

module _ (p : ProblemFacts) (n : ℕ) (asks : List Measure) (line : Fields) where
  pub line-refused : (cause : AskCause) → ask_read p (length asks) line ≡ Err cause → ask_line p n asks line ≡ Err (record { line = n; cause = cause })
  unfolding ask_line
  line-refused cause e = rw e refl

  pub line-added : (m : Measure) (after : List Measure) → ask_read p (length asks) line ≡ Ok m → after ≡ asks ++ m ∷ [] → ask_line p n asks line ≡ Ok after
  unfolding ask_line
  line-added m after e f = rw (e, f) refl

-- ---- what the asks keep

-- asks of a file: each is live, and there are at most 64
record Kept (p : ProblemFacts) (asks : List Measure) : Type 0 where
  live : All (λ m. IsTrue (is_live p m)) asks
  few : length asks ≤ 64

one-more : (p : ProblemFacts) (asks : List Measure) (m : Measure) → Kept p asks → is_live p m ≡ true → nat_lt (length asks) ask_limit ≡ true → Kept p (asks ++ m ∷ [])
one-more p asks m kept live room = record {
  live = All-push (λ n. IsTrue (is_live p n)) asks m kept.live live;
  few = simp length-append (grind (arith, nat_tests));
}

line-keeps : (p : ProblemFacts) (n : ℕ) (asks : List Measure) (line : Fields) (after : List Measure) → Kept p asks → ask_line p n asks line ≡ Ok after → Kept p after
unfolding ask_line
line-keeps p n asks line after kept h = by (ask_read p (length asks) line) refl h
  where
    by : (r : Result Measure AskCause) → ask_read p (length asks) line ≡ r
        → fault_as {G = AskFault} (λ (cause : AskCause). record { line = n; cause = cause }) (and_then r (λ m. Ok (asks ++ m ∷ []))) ≡ Ok after → Kept p after
    by (Err cause) e h = cc
    by (Ok m) e h =
        let facts = ask-kept p (length asks) line m e in
        let same : asks ++ m ∷ [] ≡ after = cc in
        subst (λ ms. Kept p ms) same (one-more p asks m kept facts.0 facts.1)

lines-keep : (p : ProblemFacts) (lines : List Fields) (n : ℕ) (asks after : List Measure) → Kept p asks → read_lines (ask_line p) n asks lines ≡ Ok after → Kept p after
unfolding read_lines
lines-keep p [] n asks after kept h = let same : asks ≡ after = cc in subst (λ ms. Kept p ms) same kept
lines-keep p (line ∷ lines) n asks after kept h = by (λ ms k e. lines-keep p lines (n + 1) ms after k e) (ask_line p n asks line) refl h
  where
    by : ((ms : List Measure) → Kept p ms → read_lines (ask_line p) (n + 1) ms lines ≡ Ok after → Kept p after)
        → (r : Result (List Measure) AskFault) → ask_line p n asks line ≡ r → and_then r (λ ms. read_lines (ask_line p) (n + 1) ms lines) ≡ Ok after → Kept p after
    by rest (Err e) is h = cc
    by rest (Ok ms) is h = rest ms (line-keeps p n asks line ms kept is) h

module _ (p : ProblemFacts) (lines : List Fields) (asks : List Measure) (read : read_lines (ask_line p) 2 [] lines ≡ Ok asks) where
  all-kept : Kept p asks
  all-kept = lines-keep p lines 2 [] asks (record { live = All-nil (λ m. IsTrue (is_live p m)); few = omega arith }) read

  pub asks-live : All (λ m. IsTrue (is_live p m)) asks
  asks-live = all-kept.live

  pub asks-few : length asks ≤ 64
  asks-few = all-kept.few

-- what the asks have, those that are answered have
pub some-keeps : {V : Type 0} (r : Result V AskFault) (items : V → List Measure) (P : List Measure → Type 0) (asks : List Measure)
    → some_ask asks ≡ and_then r (λ v. Ok (items v)) → P asks → IfOk r (λ v. P (items v))
some-keeps (Err e) items P asks h has = tt
some-keeps (Ok v) items P asks h has = by (length asks == 0) h
  where
    by : (none : Bool) → only_if {F = AskFault} (not none) (record { line = 2; cause = fault.Short }) (Ok asks) ≡ Ok (items v) → P (items v)
    by true h = cc
    by false h = let same : asks ≡ items v = cc in subst P same has

-- ---- the header

pub no-record : (p : ProblemFacts) (all : List Fields) → all ≡ [] → asks_in p all ≡ Err wrong_header
unfolding asks_in
no-record p all e = rw e refl

pub other-header : (p : ProblemFacts) (all : List Fields) (header : Fields) (rest : List Fields) → all ≡ header ∷ rest → same_fields header asks_header ≡ false
    → asks_in p all ≡ Err wrong_header
unfolding asks_in
other-header p all header rest e f = rw (e, f) refl

pub right-header : (p : ProblemFacts) (all : List Fields) (header : Fields) (rest : List Fields) → all ≡ header ∷ rest → same_fields header asks_header ≡ true
    → asks_in p all ≡ and_then (read_lines (ask_line p) 2 [] rest) some_ask
unfolding asks_in
right-header p all header rest e f = rw (e, f) refl
