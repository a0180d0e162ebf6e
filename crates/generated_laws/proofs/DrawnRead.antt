-- Rows with a drawn target are read, at whichever state their draws begin.
use Rattle.std.proofs.Common.{◌≡◌, ◌<◌, ◌≤◌, ◌+◌, ◌*◌, ◌%◌, ◌/◌, ◌++◌, ◌∷◌, ℕ, zero, suc, pos, List, [], true, map, refl, sym, ap, subst, arith, suc-mul}
use Rattle.std.specs.List.{flat_map, range_with_len}
use Rattle.std.proofs.lemmas.Int.{ints}
use Rattle.sut_records.specs.Plain.{ArePlain, IsPlainRow}
use Rattle.sut_classes.specs.ClassLists.{ClassLists}
use Rattle.sut_classes.specs.Kept.{IsClasses}
use Rattle.sut_measures.specs.declared.measures.Measure.{Measure}
use Rattle.sut_tables.specs.Changes.{is_cell}
use Rattle.sut_source.proofs.PlainNames.{name-plain}
use Rattle.sut_source.proofs.PrintedNumbers.{whole-plain}
use Rattle.sut_generate.specs.Generator.{Drawn, drawn, drawn_line, drawn_lines, next_state}
use Rattle.sut_generate.specs.DrawnRows.{state_after}
use Rattle.generated_laws.proofs.Chain.{Reads, reads-at, reads-none, reads-one, reads-then}
use Rattle.generated_laws.proofs.MadeNames.{Spells}
use Rattle.generated_laws.proofs.Ranks.{rank}
use Rattle.generated_laws.proofs.RowsRead.{drawn-read, drawn_facts}

drawn_lines-append : (s : ℕ) (xs ys : List Drawn) → drawn_lines s (xs ++ ys) ≡ drawn_lines s xs ++ drawn_lines (state_after s xs) ys
drawn_lines-append s [] ys = refl
drawn_lines-append s (x ∷ xs) ys = ap (λ ls. drawn_line (next_state s) x ∷ ls) (drawn_lines-append (next_state s) xs ys)

pub record DrawnRead (cs : ClassLists) (rows : List Drawn) (from top count : ℕ) : Type 0 where
  pub at : (s : ℕ) → Reads cs (drawn_lines s rows) from top count

-- the names of measures that are spelled need no quotes
pub spelled-plain : (cs : ClassLists) → IsClasses cs → (kind a b c : List ℕ) (m : Measure) → Spells cs kind a b c m → ArePlain (kind ∷ a ∷ b ∷ c ∷ [])
spelled-plain cs kept kind a b c m s = subst ArePlain s.name (name-plain cs kept m)

drawn-small : (x n : ℕ) → 0 < n → x % n < n
drawn-small x n l = omega arith

pub drawn-one : (cs : ClassLists) → IsClasses cs → (r : Drawn) (m : Measure) (from top : ℕ) → Spells cs r.kind r.a r.b r.c m → is_cell m ≡ true → 0 < r.span → r.base + r.span ≤ 1000000
    → from ≤ rank m → rank m < top → DrawnRead cs (r ∷ []) from top 1
drawn-one cs kept r m from top s cell some small l h = record {
  at = λ state.
      let k = r.base + drawn (next_state state) r.span in
      let below : drawn (next_state state) r.span < r.span = drawn-small (next_state state / 65536) r.span some in
      let narrow : k ≤ 1000000 = omega arith in
      let name = spelled-plain cs kept r.kind r.a r.b r.c m s in
      let plain : IsPlainRow (drawn_line (next_state state) r) = record {
        wide = omega arith;
        plain = (name.0, (name.1.0, (name.1.1.0, (name.1.1.1.0, (whole-plain (pos k) (omega (arith, ints)), (refl, (refl, (refl, tt))))))));
      } in
      reads-one cs (drawn_line (next_state state) r) (drawn_facts m k) from top plain refl (drawn-read cs kept r.kind r.a r.b r.c m s k (omega arith)) cell
      (record { lower = omega (arith, ints); upper = omega (arith, ints) }) l h;
}

pub drawn-none : (cs : ClassLists) (from top : ℕ) → from ≤ top → DrawnRead cs [] from top 0
drawn-none cs from top l = record { at = λ s. reads-none cs from top l }

pub drawn-then : (cs : ClassLists) (xs ys : List Drawn) (a b b' d i j : ℕ) → DrawnRead cs xs a b i → b ≤ b' → DrawnRead cs ys b' d j → DrawnRead cs (xs ++ ys) a d (i + j)
drawn-then cs xs ys a b b' d i j f l g = record {
  at = λ s. subst (λ ls. Reads cs ls a d (i + j)) (sym (drawn_lines-append s xs ys))
      (reads-then cs (drawn_lines s xs) (drawn_lines (state_after s xs) ys) a b b' d i j (f.at s) l (g.at (state_after s xs)));
}

pub drawn-at : (cs : ClassLists) (rows : List Drawn) (from top top' count count' : ℕ) → top ≡ top' → count ≡ count' → DrawnRead cs rows from top count → DrawnRead cs rows from top' count'
drawn-at cs rows from top top' count count' e f r = record { at = λ s. reads-at cs (drawn_lines s rows) from top top' count count' e f (r.at s) }

-- the rows of a range of numbers, as many of each number
pub drawn-flat : (cs : ClassLists) (rows : ℕ → List Drawn) (g : ℕ → ℕ) (count n a : ℕ) → ((i : ℕ) → a ≤ i → i < a + n → DrawnRead cs (rows i) (g i) (g (i + 1)) count)
    → DrawnRead cs (flat_map rows (range_with_len a n)) (g a) (g (a + n)) (n * count)
drawn-flat cs rows g count zero a each = drawn-at cs [] (g a) (g a) (g (a + 0)) 0 (0 * count) (ap g sum) none (drawn-none cs (g a) (g a) (omega arith))
  where
    sum : a ≡ a + 0
    sum = omega arith

    none : 0 ≡ 0 * count
    none = omega arith
drawn-flat cs rows g count (suc n) a each =
    drawn-at cs (flat_map rows (range_with_len a (suc n))) (g a) (g (a + 1 + n)) (g (a + suc n)) (count + n * count) (suc n * count) (ap g sum) total
    (drawn-then cs (rows a) (flat_map rows (range_with_len (a + 1) n)) (g a) (g (a + 1)) (g (a + 1)) (g (a + 1 + n)) count (n * count) (each a (omega arith) (omega arith)) (omega arith)
    (drawn-flat cs rows g count n (a + 1) (λ i l h. each i (omega arith) (omega arith))))
  where
    sum : a + 1 + n ≡ a + suc n
    sum = omega arith

    total : count + n * count ≡ suc n * count
    total = omega (arith, suc-mul n count)

one-each : (f : ℕ → Drawn) (xs : List ℕ) → flat_map (λ i. f i ∷ []) xs ≡ map f xs
one-each f [] = refl
one-each f (x ∷ xs) = ap (λ rs. f x ∷ rs) (one-each f xs)

-- one row of each number
pub drawn-range : (cs : ClassLists) (f : ℕ → Drawn) (g : ℕ → ℕ) (n a : ℕ) → ((i : ℕ) → a ≤ i → i < a + n → DrawnRead cs (f i ∷ []) (g i) (g (i + 1)) 1)
    → DrawnRead cs (map f (range_with_len a n)) (g a) (g (a + n)) n
drawn-range cs f g n a each =
    drawn-at cs (map f (range_with_len a n)) (g a) (g (a + n)) (g (a + n)) (n * 1) n refl count
    (subst (λ rows. DrawnRead cs rows (g a) (g (a + n)) (n * 1)) (one-each f (range_with_len a n)) (drawn-flat cs (λ i. f i ∷ []) g 1 n a each))
  where
    count : n * 1 ≡ n
    count = omega arith
