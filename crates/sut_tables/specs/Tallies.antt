-- Tallies: keys in order, each with how often it is counted.
use Rattle.std.specs.Prelude.{ℕ, ◌≤◌, List, [], ◌∷◌, All, find, Option, None, Some, unwrap_or, count_by}
use Rattle.std.specs.declared.cmp.Ordering.{Ordering}
use Rattle.std.specs.Ordering.{is_eq, is_lt}
use Rattle.std.specs.BTreeMap.{is_at}
use Rattle.std.specs.Map.{lookup, values_of}

-- how often a tally counts a key
abbrev pub count_of : {K : Type 0} → (K → K → Ordering) → List (K × ℕ) → K → ℕ
count_of cmp counts k = unwrap_or (lookup (is_at (cmp k)) counts) 0

-- how often a key stands in a list
abbrev pub times_in : {K : Type 0} → (K → K → Ordering) → List K → K → ℕ
times_in cmp keys k = count_by (λ x. is_eq (cmp x k)) keys

-- each key that a tally has is counted
abbrev pub AllCounted : {K : Type 0} → List (K × ℕ) → Type 0
AllCounted counts = All (λ n. 1 ≤ n) (values_of counts)

-- the first key of a list in order, or the first one above another
abbrev pub key_above : {K : Type 0} → (K → K → Ordering) → Option K → List K → Option K
key_above cmp None [] = None
key_above cmp None (x ∷ xs) = Some x
key_above cmp (Some k) xs = find (λ x. is_lt (cmp k x)) xs
