-- Lines whose rows stand in the order of ranks are read one after the other: no measure has a row already, and there is room.
use Rattle.std.proofs.Common.{◌≡◌, ◌<◌, ◌≤◌, ◌+◌, ◌==◌, ◌++◌, ◌∷◌, ◌∙◌, ℕ, zero, suc, List, [], Bool, true, false, None, Ok, map, filter, length, cond, refl, sym, ap, subst, arith, append_assoc, add_assoc}
use Rattle.std.specs.List.{range_with_len}
use Rattle.std.specs.declared.cmp.Ordering.{Ordering}
use Rattle.std.specs.declared.cmp.Ordering.TheVariants.{Less, Equal, Greater}
use Rattle.std.specs.Ordering.{is_eq, nat_cmp}
use Rattle.std.specs.Cmp.Lexicographic.{slice_cmp}
use Rattle.std.proofs.lemmas.Bool.{false_from_ne_true, lt-ltb}
use Rattle.sut_records.specs.FirstFault.{read_lines}
use Rattle.sut_records.specs.Plain.{ArePlainRows, IsPlainRow}
use Rattle.sut_records.specs.RecordList.{Fields}
use Rattle.sut_records.proofs.FirstFaultLemmas.{line-judged}
use Rattle.sut_classes.specs.ClassLists.{ClassLists}
use Rattle.sut_measures.specs.Keys.{measure_key}
use Rattle.sut_measures.specs.declared.measures.Measure.{Measure}
use Rattle.sut_measures.specs.declared.measures.Measure.TheVariants as measure
use Rattle.sut_measures.proofs.KeyLemmas.{measure_key-injective}
use Rattle.sut_tables.specs.Changes.{has_room, is_cell}
use Rattle.sut_tables.specs.InOrder.{by_order, same_key}
use Rattle.sut_tables.specs.RowFacts.{RowFacts}
use Rattle.sut_tables.proofs.Ordered.{same-eq, same-flip}
use Rattle.sut_tables.proofs.TallyKeys.{eq-same}
use Rattle.sut_source.specs.RowFile.{row_fields, row_in}
use Rattle.sut_source.specs.SourceFile.{RowLine, first_line, row_added, rows_of, source_line, with_row}
use Rattle.sut_source.proofs.SourceLemmas.{line-added}
use Rattle.generated_laws.specs.MadeLists.{made_facts}
use Rattle.generated_laws.proofs.Ranges.{joined-plain}
use Rattle.generated_laws.proofs.Ranks.{rank}
use Rattle.generated_laws.proofs.Zeros.{HoldsZero}

-- a row that was read: of a cell below a rank, with 0 within its bounds
pub record IsOld (top : ℕ) (r : RowLine) : Type 0 where
  pub below : rank r.row.measure < top
  pub holds : HoldsZero r.row

abbrev pub AreOld : ℕ → List RowLine → Type 0
AreOld top [] = Unit {0}
AreOld top (r ∷ rs) = IsOld top r × AreOld top rs

-- so many rows, each below a rank
pub record IsGood (top count : ℕ) (before : List RowLine) : Type 0 where
  pub old : AreOld top before
  pub size : length before ≡ count

differ : (a b : Measure) → rank a < rank b → same_key (measure_key a) (measure_key b) ≡ false
differ a b l =
    false_from_ne_true (same_key (measure_key a) (measure_key b))
    (λ e. let same : a ≡ b = measure_key-injective a b (same-eq (measure_key a) (measure_key b) e) in let ranks : rank a ≡ rank b = ap rank same in omega arith)

no-line : (m : Measure) (before : List RowLine) → AreOld (rank m) before → first_line before m ≡ None
no-line m [] h = refl
no-line m (q ∷ qs) h = rw (differ q.row.measure m h.0.below) (no-line m qs h.1)

older : (a b : ℕ) (before : List RowLine) → a ≤ b → AreOld a before → AreOld b before
older a b [] l h = tt
older a b (q ∷ qs) l h = (record { below = omega (arith, h.0.below); holds = h.0.holds }, older a b qs l h.1)

put-old : (top : ℕ) (x : RowLine) (before : List RowLine) → IsOld top x → AreOld top before → AreOld top (with_row x before)
put-old top x [] h hs = (h, tt)
put-old top x (q ∷ qs) h hs = by (slice_cmp nat_cmp (measure_key x.row.measure) (measure_key q.row.measure)) (put-old top x qs h hs.1)
  where
    by : (o : Ordering) → AreOld top (with_row x qs) → AreOld top (by_order o (x ∷ q ∷ qs) (q ∷ qs) (q ∷ with_row x qs))
    by Less later = (h, hs)
    by Equal later = hs
    by Greater later = (hs.0, later)

put-size : (x : RowLine) (before : List RowLine) → AreOld (rank x.row.measure) before → length (with_row x before) ≡ length before + 1
put-size x [] h = refl
put-size x (q ∷ qs) h = by (slice_cmp nat_cmp (measure_key x.row.measure) (measure_key q.row.measure)) refl (put-size x qs h.1)
  where
    by : (o : Ordering) → slice_cmp nat_cmp (measure_key x.row.measure) (measure_key q.row.measure) ≡ o → length (with_row x qs) ≡ length qs + 1
        → length (by_order o (x ∷ q ∷ qs) (q ∷ qs) (q ∷ with_row x qs)) ≡ length (q ∷ qs) + 1
    by Less e later = omega arith
    by Equal e later =
        let same : same_key (measure_key x.row.measure) (measure_key q.row.measure) ≡ true = sym (eq-same (measure_key x.row.measure) (measure_key q.row.measure)) ∙ ap is_eq e in
        let other : same_key (measure_key x.row.measure) (measure_key q.row.measure) ≡ false =
        same-flip (measure_key x.row.measure) (measure_key q.row.measure) ∙ differ q.row.measure x.row.measure h.0.below in
        absurd cc
    by Greater e later = omega (arith, later)

few : (q : RowFacts → Bool) (before : List RowLine) → length (filter q (rows_of before)) ≤ length before
few q [] = omega arith
few q (x ∷ xs) = by (q x.row) (few q xs)
  where
    by : (b : Bool) → length (filter q (rows_of xs)) ≤ length xs → length (cond b (x.row ∷ filter q (rows_of xs)) (filter q (rows_of xs))) ≤ length (x ∷ xs)
    by true h = omega (arith, h)
    by false h = omega (arith, h)

room : (cs : ClassLists) (before : List RowLine) (m : Measure) → is_cell m ≡ true → length before < 131072 → has_room (record { classes = cs; rows = rows_of before }) m ≡ true
room cs before (measure.Cell c) e l = lt-ltb (length (filter (λ (r : RowFacts). is_cell r.measure) (rows_of before))) 131072 (omega (arith, few (λ r. is_cell r.measure) before))
room cs before (measure.Total t) e l = cc

row-added : (cs : ClassLists) (n : ℕ) (before : List RowLine) (row : RowFacts) → is_cell row.measure ≡ true → AreOld (rank row.measure) before → length before < 131072
    → row_added cs n before row ≡ Ok (with_row (record { row = row; line = n }) before)
unfolding row_added
row-added cs n before row e old l = rw (no-line row.measure before old, room cs before row.measure e l) refl

-- what reading lines leaves
pub record Read (cs : ClassLists) (lines rest : List Fields) (m : ℕ) (before : List RowLine) (top count : ℕ) : Type 0 where
  pub after : List RowLine
  pub next : ℕ
  pub read : read_lines (source_line made_facts cs) m before (lines ++ rest) ≡ read_lines (source_line made_facts cs) next after rest
  pub good : IsGood top count after

-- so many lines, whose rows stand between two ranks, are read
pub record Reads (cs : ClassLists) (lines : List Fields) (from top count : ℕ) : Type 0 where
  pub plain : ArePlainRows lines
  pub read : (m c : ℕ) (before : List RowLine) (rest : List Fields) → IsGood from c before → c + count ≤ 131072 → Read cs lines rest m before top (c + count)

pub reads-at : (cs : ClassLists) (lines : List Fields) (from top top' count count' : ℕ) → top ≡ top' → count ≡ count' → Reads cs lines from top count → Reads cs lines from top' count'
reads-at cs lines from top top' count count' e f r = subst (λ k. Reads cs lines from top' k) f (subst (λ k. Reads cs lines from k count) e r)

pub reads-none : (cs : ClassLists) (from top : ℕ) → from ≤ top → Reads cs [] from top 0
reads-none cs from top l = record {
  plain = tt;
  read = λ m c before rest good small. record { after = before; next = m; read = refl; good = record { old = older from top before l good.old; size = good.size ∙ sum c } };
}
  where
    sum : (c : ℕ) → c ≡ c + 0
    sum c = omega arith

pub reads-one : (cs : ClassLists) (line : Fields) (row : RowFacts) (from top : ℕ) → IsPlainRow line → (length line == 8) ≡ true → row_in made_facts cs (row_fields 0 line) ≡ Ok row
    → is_cell row.measure ≡ true → HoldsZero row → from ≤ rank row.measure → rank row.measure < top → Reads cs (line ∷ []) from top 1
reads-one cs line row from top plain width is e holds l h = record {
  plain = (plain, tt);
  read = λ m c before rest good small.
      let size = good.size in
      let old : AreOld (rank row.measure) before = older from (rank row.measure) before l good.old in
      let x : RowLine = record { row = row; line = m } in
      let judged : source_line made_facts cs m before line ≡ Ok (with_row x before) = line-added made_facts cs m before line row (with_row x before) width is (row-added cs m before row e old (omega arith)) in
      record {
        after = with_row x before;
        next = m + 1;
        read = line-judged (source_line made_facts cs) m before (line ∷ rest) line rest (Ok (with_row x before)) refl judged;
        good = record {
          old = put-old top x before (record { below = h; holds = holds }) (older (rank row.measure) top before (omega arith) old);
          size = put-size x before old ∙ ap (λ k. k + 1) size;
        };
      };
}

read-then : (cs : ClassLists) (xs ys rest : List Fields) (m b c d e : ℕ) (before : List RowLine) (one : Read cs xs (ys ++ rest) m before b c) → Read cs ys rest one.next one.after d e
    → Read cs (xs ++ ys) rest m before d e
read-then cs xs ys rest m b c d e before one two = record {
  after = two.after;
  next = two.next;
  read = ap (λ ls. read_lines (source_line made_facts cs) m before ls) (append_assoc xs ys rest) ∙ one.read ∙ two.read;
  good = two.good;
}

read-at : (cs : ClassLists) (lines rest : List Fields) (m top count count' : ℕ) (before : List RowLine) → count ≡ count' → Read cs lines rest m before top count → Read cs lines rest m before top count'
read-at cs lines rest m top count count' before e r = subst (λ k. Read cs lines rest m before top k) e r

pub reads-then : (cs : ClassLists) (xs ys : List Fields) (a b b' d i j : ℕ) → Reads cs xs a b i → b ≤ b' → Reads cs ys b' d j → Reads cs (xs ++ ys) a d (i + j)
reads-then cs xs ys a b b' d i j f l g = record {
  plain = joined-plain xs ys f.plain g.plain;
  read = λ m c before rest good small.
      let one : Read cs xs (ys ++ rest) m before b (c + i) = f.read m c before (ys ++ rest) good (omega arith) in
      let two : Read cs ys rest one.next one.after d (c + i + j) =
      g.read one.next (c + i) one.after rest (record { old = older b b' one.after l one.good.old; size = one.good.size }) (omega arith) in
      read-at cs (xs ++ ys) rest m d (c + i + j) (c + (i + j)) before (add_assoc c i j) (read-then cs xs ys rest m b (c + i) d (c + i + j) before one two);
}

-- the lines of a range of numbers
pub reads-range : (cs : ClassLists) (line : ℕ → Fields) (g : ℕ → ℕ) (n a : ℕ) → ((i : ℕ) → a ≤ i → i < a + n → Reads cs (line i ∷ []) (g i) (g (i + 1)) 1)
    → Reads cs (map line (range_with_len a n)) (g a) (g (a + n)) n
reads-range cs line g zero a each = reads-at cs [] (g a) (g a) (g (a + 0)) 0 0 (ap g sum) refl (reads-none cs (g a) (g a) (omega arith))
  where
    sum : a ≡ a + 0
    sum = omega arith
reads-range cs line g (suc n) a each =
    reads-at cs (map line (range_with_len a (suc n))) (g a) (g (a + 1 + n)) (g (a + suc n)) (1 + n) (suc n) (ap g sum) count
    (reads-then cs (line a ∷ []) (map line (range_with_len (a + 1) n)) (g a) (g (a + 1)) (g (a + 1)) (g (a + 1 + n)) 1 n (each a (omega arith) (omega arith)) (omega arith)
    (reads-range cs line g n (a + 1) (λ i l h. each i (omega arith) (omega arith))))
  where
    sum : a + 1 + n ≡ a + suc n
    sum = omega arith

    count : 1 + n ≡ suc n
    count = omega arith
