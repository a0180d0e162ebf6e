-- Keys in order as numbers that keep this order, and so how many keys there can be.
use Rattle.std.proofs.Common.{◌≡◌, ℕ, zero, suc, ◌+◌, ◌*◌, ◌<◌, ◌≤◌, List, [], ◌∷◌, length, arith, inl, inr}
use Rattle.std.proofs.Math.Nat.{mul-le-mul, le_refl}
use Rattle.std.proofs.lemmas.Bool.Decides.{nat_tests}
use Rattle.std.proofs.lemmas.List.Elements.{All-head, All-tail}
use Rattle.std.specs.Prelude.{◌⊎◌, All}
use Rattle.std.specs.declared.cmp.Ordering.{Ordering}
use Rattle.std.specs.declared.cmp.Ordering.TheVariants.{Less, Equal, Greater}
use Rattle.std.specs.Ordering.{nat_cmp, ordering_then, MatchOrdering}
use Rattle.std.specs.Cmp.Lexicographic.{slice_cmp}
use Rattle.sut_tables.proofs.Ordered.{Sorted}

-- ---- lists of numbers, with a weight for each place

abbrev pub weigh : List ℕ → List ℕ → ℕ
weigh [] ds = 0
weigh (w ∷ ws) [] = 0
weigh (w ∷ ws) (d ∷ ds) = d * w + weigh ws ds

-- what the later places make is below each place's weight
abbrev pub IsWeighed : List ℕ → List ℕ → Type 0
IsWeighed [] [] = Unit {0}
IsWeighed [] (d ∷ ds) = ⊥
IsWeighed (w ∷ ws) [] = ⊥
IsWeighed (w ∷ ws) (d ∷ ds) = (weigh ws ds < w) × IsWeighed ws ds

ranked : (k l : ℕ) → MatchOrdering (nat_cmp k l) (k < l) (k ≡ l) (l < k)
ranked k l = grind (arith, nat_tests)

-- what the order of two lists says of their first numbers
first-less : (k l : ℕ) (ds es : List ℕ) → slice_cmp nat_cmp (k ∷ ds) (l ∷ es) ≡ Less → (k < l) ⊎ ((k ≡ l) × (slice_cmp nat_cmp ds es ≡ Less))
first-less k l ds es e = by (nat_cmp k l) (ranked k l) e
  where
    by : (o : Ordering) → MatchOrdering o (k < l) (k ≡ l) (l < k) → ordering_then o (slice_cmp nat_cmp ds es) ≡ Less → (k < l) ⊎ ((k ≡ l) × (slice_cmp nat_cmp ds es ≡ Less))
    by Less m e = inl m
    by Equal m e = inr (m, e)
    by Greater m e = absurd cc

weigh-less : (ws ds es : List ℕ) → IsWeighed ws ds → IsWeighed ws es → slice_cmp nat_cmp ds es ≡ Less → weigh ws ds < weigh ws es
weigh-less [] [] [] a b e = absurd cc
weigh-less [] [] (f ∷ es) a b e = absurd b
weigh-less [] (d ∷ ds) es a b e = absurd a
weigh-less (w ∷ ws) [] es a b e = absurd a
weigh-less (w ∷ ws) (d ∷ ds) [] a b e = absurd b
weigh-less (w ∷ ws) (d ∷ ds) (f ∷ es) a b e = by (first-less d f ds es e) (weigh-less ws ds es a.1 b.1)
  where
    apart : (x y : ℕ) → d < f → x < w → d * w + x < f * w + y
    apart x y h l = let m : (d + 1) * w ≤ f * w = mul-le-mul (omega arith) (le_refl w) in omega (arith, m)

    along : (x y : ℕ) → d ≡ f → x < y → d * w + x < f * w + y
    along x y h l = rw h (omega arith)

    by : (d < f) ⊎ ((d ≡ f) × (slice_cmp nat_cmp ds es ≡ Less)) → (slice_cmp nat_cmp ds es ≡ Less → weigh ws ds < weigh ws es) → d * w + weigh ws ds < f * w + weigh ws es
    by (inl h) later = apart (weigh ws ds) (weigh ws es) h a.0
    by (inr h) later = along (weigh ws ds) (weigh ws es) h.0 (later h.1)

-- ---- kinds of keys: how many keys of the kind there can be, and the weights of their numbers

pub record Kind : Type 0 where
  pub size : ℕ
  pub weights : List ℕ

abbrev pub kind : ℕ → List ℕ → Kind
kind n ws = record { size = n; weights = ws }

abbrev pub size_of : List Kind → ℕ
size_of [] = 0
size_of (t ∷ ts) = t.size + size_of ts

-- the numbers after the kind's own are those of its kind
abbrev pub HasKind : List Kind → ℕ → List ℕ → Type 0
HasKind [] k ds = ⊥
HasKind (t ∷ ts) zero ds = IsWeighed t.weights ds × (weigh t.weights ds < t.size)
HasKind (t ∷ ts) (suc k) ds = HasKind ts k ds

abbrev pub IsOfKind : List Kind → List ℕ → Type 0
IsOfKind ts [] = ⊥
IsOfKind ts (k ∷ ds) = HasKind ts k ds

rank_in : List Kind → ℕ → List ℕ → ℕ
rank_in [] k ds = 0
rank_in (t ∷ ts) zero ds = weigh t.weights ds
rank_in (t ∷ ts) (suc k) ds = t.size + rank_in ts k ds

rank : List Kind → List ℕ → ℕ
rank ts [] = 0
rank ts (k ∷ ds) = rank_in ts k ds

rank_in-below : (ts : List Kind) (k : ℕ) (ds : List ℕ) → HasKind ts k ds → rank_in ts k ds < size_of ts
unfolding rank_in
rank_in-below [] k ds h = absurd h
rank_in-below (t ∷ ts) zero ds h = omega (arith, h.1)
rank_in-below (t ∷ ts) (suc k) ds h = omega (arith, rank_in-below ts k ds h)

rank_in-less : (ts : List Kind) (k l : ℕ) (ds es : List ℕ) → HasKind ts k ds → HasKind ts l es → (k < l) ⊎ ((k ≡ l) × (slice_cmp nat_cmp ds es ≡ Less)) → rank_in ts k ds < rank_in ts l es
unfolding rank_in
rank_in-less [] k l ds es a b h = absurd a
rank_in-less (t ∷ ts) zero zero ds es a b (inl h) = absurd (omega (arith, h))
rank_in-less (t ∷ ts) zero zero ds es a b (inr h) = weigh-less t.weights ds es a.0 b.0 h.1
rank_in-less (t ∷ ts) zero (suc l) ds es a b h = omega (arith, a.1)
rank_in-less (t ∷ ts) (suc k) zero ds es a b (inl h) = absurd (omega (arith, h))
rank_in-less (t ∷ ts) (suc k) zero ds es a b (inr h) = absurd (omega (arith, h.0))
rank_in-less (t ∷ ts) (suc k) (suc l) ds es a b (inl h) = omega (arith, rank_in-less ts k l ds es a b (inl (omega (arith, h))))
rank_in-less (t ∷ ts) (suc k) (suc l) ds es a b (inr h) = omega (arith, rank_in-less ts k l ds es a b (inr (omega (arith, h.0), h.1)))

rank-below : (ts : List Kind) (k : List ℕ) → IsOfKind ts k → rank ts k < size_of ts
unfolding rank
rank-below ts [] h = absurd h
rank-below ts (k ∷ ds) h = rank_in-below ts k ds h

rank-less : (ts : List Kind) (k l : List ℕ) → IsOfKind ts k → IsOfKind ts l → slice_cmp nat_cmp k l ≡ Less → rank ts k < rank ts l
unfolding rank
rank-less ts [] l a b e = absurd a
rank-less ts (k ∷ ds) [] a b e = absurd b
rank-less ts (k ∷ ds) (l ∷ es) a b e = rank_in-less ts k l ds es a b (first-less k l ds es e)

-- ---- a list in order has at most as many keys as there can be

module _ {X : Type 0} (key : X → List ℕ) (ts : List Kind) where
  few-from : (x : X) (xs : List X) → Sorted key (x ∷ xs) → All (λ y. IsOfKind ts (key y)) (x ∷ xs) → suc (length xs) + rank ts (key x) ≤ size_of ts
  few-from x [] s a =
      let below : rank ts (key x) < size_of ts = rank-below ts (key x) (All-head (λ y. IsOfKind ts (key y)) x [] a) in
      omega (arith, below)
  few-from x (y ∷ ys) s a =
      let rest : All (λ y. IsOfKind ts (key y)) (y ∷ ys) = All-tail (λ y. IsOfKind ts (key y)) x (y ∷ ys) a in
      let less : rank ts (key x) < rank ts (key y) = rank-less ts (key x) (key y) (All-head (λ y. IsOfKind ts (key y)) x (y ∷ ys) a) (All-head (λ y. IsOfKind ts (key y)) y ys rest) s.0.0 in
      omega (arith, less, few-from y ys s.1 rest)

  pub few-keys : (xs : List X) → Sorted key xs → All (λ y. IsOfKind ts (key y)) xs → length xs ≤ size_of ts
  few-keys [] s a = omega arith
  few-keys (x ∷ xs) s a = omega (arith, few-from x xs s a)
