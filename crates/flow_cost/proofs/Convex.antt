-- What a slope that never falls gives for longer moves.
use Rattle.std.proofs.Common.{◌≡◌, ℕ, zero, suc, ◌+◌, ◌*◌, ◌≤◌, ℤ, pos, negsuc, ◌+ℤ◌, ◌-ℤ◌, ◌≤ℤ◌, refl, arith, add-one}
use Rattle.std.proofs.Math.Nat.{mul-le-mul_right}
use Rattle.std.proofs.Math.IntN.{suc_ℤ-*ℤ}
use Rattle.std.proofs.lemmas.Int.{ints}
use Rattle.flow_cost.specs.Cost.{IsWithin, IsLawful, slope}
use Rattle.flow_cost.specs.Settle.{place_at}

pub ≤ℤ_trans : (a b c : ℤ) → a ≤ℤ b → b ≤ℤ c → a ≤ℤ c
≤ℤ_trans a b c h k = omega (arith, ints)

pub between : (span a b c : ℤ) → IsWithin span a → IsWithin span b → a ≤ℤ c → c ≤ℤ b → IsWithin span c
between span a b c h k l m = record { low = ≤ℤ_trans _ _ _ h.low l; high = ≤ℤ_trans _ _ _ m k.high }

-- a further unit at both ends
longer : (va vb vc vd vc' vd' : ℤ) → (vc -ℤ va) ≤ℤ (vd -ℤ vb) → (vc' -ℤ vc) ≤ℤ (vd' -ℤ vd) → (vc' -ℤ va) ≤ℤ (vd' -ℤ vb)
longer va vb vc vd vc' vd' h k = omega (arith, ints)

turned : (a b c d : ℤ) → (a -ℤ b) ≤ℤ (c -ℤ d) → (d -ℤ c) ≤ℤ (b -ℤ a)
turned a b c d h = omega (arith, ints)

module _ (value : ℤ → ℤ) (span : ℤ) (law : IsLawful value span) where
  -- the slope never falls
  pub slope_mono : (n : ℕ) (a b : ℤ) → b ≡ a +ℤ pos n → IsWithin span a → IsWithin span (b +ℤ pos 1) → slope value a ≤ℤ slope value b
  slope_mono zero a b e h k = let f : b ≡ a = omega (arith, ints) in rw f (omega (arith, ints))
  slope_mono (suc n) a b e h k =
      ≤ℤ_trans _ _ _
      (law.convex a h (between span a (b +ℤ pos 1) (a +ℤ pos 2) h k (omega (arith, ints)) (omega (arith, ints))))
      (slope_mono n (a +ℤ pos 1) b (omega (arith, ints)) (between span a (b +ℤ pos 1) (a +ℤ pos 1) h k (omega (arith, ints)) (omega (arith, ints))) k)

  -- nor does what a move of n costs: from a to c, and from b, d further on, to d
  pub chord_mono : (n m : ℕ) (a b c d : ℤ) → b ≡ a +ℤ pos m → c ≡ a +ℤ pos n → d ≡ b +ℤ pos n → IsWithin span a → IsWithin span d → (value c -ℤ value a) ≤ℤ (value d -ℤ value b)
  chord_mono zero m a b c d eb ec ed h k =
      let f : c ≡ a = omega (arith, ints) in
      let g : d ≡ b = omega (arith, ints) in
      rw (f, g) (omega (arith, ints))
  chord_mono (suc n) m a b c d eb ec ed h k =
      let c₁ : c ≡ (a +ℤ pos n) +ℤ pos 1 = omega (arith, ints) in
      let d₁ : d ≡ (b +ℤ pos n) +ℤ pos 1 = omega (arith, ints) in
      let wd : IsWithin span (b +ℤ pos n) = between span a d (b +ℤ pos n) h k (omega (arith, ints)) (omega (arith, ints)) in
      let wc : IsWithin span (a +ℤ pos n) = between span a d (a +ℤ pos n) h k (omega (arith, ints)) (omega (arith, ints)) in
      rw (c₁, d₁) (longer (value a) (value b) (value (a +ℤ pos n)) (value (b +ℤ pos n)) _ _
      (chord_mono n m a b (a +ℤ pos n) (b +ℤ pos n) eb refl refl h wd)
      (slope_mono m (a +ℤ pos n) (b +ℤ pos n) (omega (arith, ints)) wc (rw (← d₁) k)))

pub next_place : (x by : ℤ) (k : ℕ) → place_at x by (k + 1) ≡ place_at x by k +ℤ by
next_place x by k = rw add-one (omega (arith, ints, suc_ℤ-*ℤ (pos k) by))

-- a place on the way to another lies within what both ends lie within
pub on_the_way : (span x by : ℤ) (k m : ℕ) → k ≤ m → IsWithin span x → IsWithin span (place_at x by m) → IsWithin span (place_at x by k)
on_the_way span x (pos b) k m l h w =
    let p : k * b ≤ m * b = mul-le-mul_right b l in
    between span x (place_at x (pos b) m) (place_at x (pos b) k) h w (omega (arith, ints)) (omega (arith, ints))
on_the_way span x (negsuc b) k m l h w =
    let p : k * suc b ≤ m * suc b = mul-le-mul_right (suc b) l in
    between span (place_at x (negsuc b) m) x (place_at x (negsuc b) k) w h (omega (arith, ints)) (omega (arith, ints))

-- what the k-th move costs is at most what a later one costs
pub move_mono : (value : ℤ → ℤ) (span : ℤ) → IsLawful value span → (x by : ℤ) (k n : ℕ) → IsWithin span x → IsWithin span (place_at x by (k + n) +ℤ by) →
    (value (place_at x by k +ℤ by) -ℤ value (place_at x by k)) ≤ℤ (value (place_at x by (k + n) +ℤ by) -ℤ value (place_at x by (k + n)))
move_mono value span law x (pos b) k n h w =
    let e : place_at x (pos b) (k + n) ≡ place_at x (pos b) k +ℤ pos (n * b) = omega (arith, ints) in
    let low : IsWithin span (place_at x (pos b) k) = between span x (place_at x (pos b) (k + n) +ℤ pos b) (place_at x (pos b) k) h w (omega (arith, ints)) (omega (arith, ints)) in
    chord_mono value span law b (n * b) (place_at x (pos b) k) (place_at x (pos b) (k + n)) (place_at x (pos b) k +ℤ pos b) (place_at x (pos b) (k + n) +ℤ pos b) e refl refl low w
move_mono value span law x (negsuc b) k n h w =
    let e : place_at x (negsuc b) k +ℤ negsuc b ≡ (place_at x (negsuc b) (k + n) +ℤ negsuc b) +ℤ pos (n * suc b) = omega (arith, ints) in
    let high : IsWithin span (place_at x (negsuc b) k) = between span (place_at x (negsuc b) (k + n) +ℤ negsuc b) x (place_at x (negsuc b) k) w h (omega (arith, ints)) (omega (arith, ints)) in
    turned (value (place_at x (negsuc b) (k + n))) (value (place_at x (negsuc b) (k + n) +ℤ negsuc b)) (value (place_at x (negsuc b) k)) (value (place_at x (negsuc b) k +ℤ negsuc b)) (chord_mono value span law (suc b) (n * suc b) (place_at x (negsuc b) (k + n) +ℤ negsuc b) (place_at x (negsuc b) k +ℤ negsuc b)
    (place_at x (negsuc b) (k + n)) (place_at x (negsuc b) k) e (omega (arith, ints)) (omega (arith, ints)) w high)
