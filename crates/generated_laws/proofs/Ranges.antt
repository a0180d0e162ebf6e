-- The lines of a range of numbers, read one after the other.
use Rattle.std.proofs.Common.{◌≡◌, ◌<◌, ◌≤◌, ◌+◌, ◌++◌, ◌∷◌, ◌∙◌, ℕ, zero, suc, List, [], Result, Ok, map, refl, arith, subst, add-one}
use Rattle.std.specs.List.{range_with_len}
use Rattle.sut_records.specs.FirstFault.{read_lines}
use Rattle.sut_records.specs.Plain.{ArePlainRows, IsPlainRow}
use Rattle.sut_records.specs.RecordList.{Fields}
use Rattle.sut_records.proofs.FirstFaultLemmas.{line-judged}

-- `state k` is what the lines of the numbers from 1 to k gave
pub range-read : {S F : Type 0} (judge : ℕ → S → Fields → Result S F) (state : ℕ → S) (line : ℕ → Fields) (rest : List Fields) (r : Result S F) (end : ℕ)
    → ((k m : ℕ) → k < end → judge m (state k) (line (k + 1)) ≡ Ok (state (k + 1))) → ((m : ℕ) → read_lines judge m (state end) rest ≡ r)
    → (left k m : ℕ) → k + left ≡ end → read_lines judge m (state k) (map line (range_with_len (k + 1) left) ++ rest) ≡ r
range-read judge state line rest r end step after zero k m e = let same : k ≡ end = omega arith in rw same (after m)
range-read judge state line rest r end step after (suc left) k m e =
    line-judged judge m (state k) (line (k + 1) ∷ (map line (range_with_len (k + 1 + 1) left) ++ rest)) (line (k + 1)) (map line (range_with_len (k + 1 + 1) left) ++ rest) (Ok (state (k + 1))) refl (step k m (omega arith))
    ∙ range-read judge state line rest r end step after left (k + 1) (m + 1) (omega arith)

-- what holds before a range, and is kept by each number's line, holds after it
pub range-kept : {S : Type 0} (P : S → Type 0) (state : ℕ → S) (end : ℕ) → ((k : ℕ) → k < end → P (state k) → P (state (k + 1))) → P (state 0) → (k : ℕ) → k ≤ end → P (state k)
range-kept P state end step start zero l = start
range-kept P state end step start (suc k) l = subst (λ n. P (state n)) (add-one k) (step k (omega arith) (range-kept P state end step start k (omega arith)))

-- ---- no quotes

pub range-plain : (line : ℕ → Fields) (n a : ℕ) → ((i : ℕ) → i < a + n → IsPlainRow (line i)) → ArePlainRows (map line (range_with_len a n))
range-plain line zero a each = tt
range-plain line (suc n) a each = (each a (omega arith), range-plain line n (a + 1) (λ i l. each i (omega arith)))

pub joined-plain : (xs ys : List Fields) → ArePlainRows xs → ArePlainRows ys → ArePlainRows (xs ++ ys)
joined-plain [] ys e f = f
joined-plain (x ∷ xs) ys e f = (e.0, joined-plain xs ys e.1 f)
