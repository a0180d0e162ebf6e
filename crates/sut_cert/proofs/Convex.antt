-- A row's term is convex: what one more adds never falls.
use Rattle.std.proofs.Common.{◌≡◌, ℕ, zero, suc, ◌+◌, ◌*◌, ◌-◌, ◌≤◌, ℤ, pos, negsuc, ◌+ℤ◌, ◌-ℤ◌, ◌*ℤ◌, neg_ℤ, refl, ◌∙◌, ap, subst, arith, Option, None, Some}
use Rattle.std.specs.Prelude.{◌≤ℤ◌, ◌<ℤ◌, unsigned_abs}
use Rattle.std.proofs.lemmas.Int.{ints}
use Rattle.std.proofs.Common.{Bool, true, false}
use lib.Dec.{leb}
use Rattle.std.proofs.lemmas.Bool.{leb-true, leb-false}
use Rattle.std.proofs.Math.Nat.{mul-le-mul_left, mul-le-mul_right}
use Rattle.std.proofs.Math.IntN.{suc_ℤ-*ℤ, zero-*ℤ, *ℤ_comm}
use Rattle.sut_tables.proofs.IntSums.{*ℤ-neg}
use Rattle.sut_tables.specs.declared.rows.Penalty.{Penalty}
use Rattle.sut_tables.specs.declared.rows.Penalty.TheVariants.{Square, Absolute, Band}
use Rattle.sut_tables.specs.RowFacts.{RowFacts}
use Rattle.sut_tables.specs.Costs.{loss, weighted_loss, term}

-- the distances of three numbers in a row
dist-convex : (d : ℤ) → 2 * unsigned_abs (d +ℤ pos 1) ≤ unsigned_abs d + unsigned_abs (d +ℤ pos 2)
dist-convex (pos n) = omega arith
dist-convex (negsuc zero) = omega arith
dist-convex (negsuc (suc zero)) = omega arith
dist-convex (negsuc (suc (suc n))) =
    let one : negsuc (suc (suc n)) +ℤ pos 1 ≡ negsuc (suc n) = omega (arith, ints) in
    let two : negsuc (suc (suc n)) +ℤ pos 2 ≡ negsuc n = omega (arith, ints) in
    rw (one, two) (omega arith)

spread_square : (a k b : ℕ) → 2 * ((a + k) * (a + k)) ≤ a * a + (a + 2 * k + b) * (a + 2 * k + b)
spread_square a k b = grind arith

-- twice the square of the middle is at most the sum of the squares, where twice the middle is at most the sum
square-convex : (a b c : ℕ) → 2 * b ≤ a + c → 2 * (b * b) ≤ a * a + c * c
square-convex a b c h = by (leb a b) refl
  where
    low : a ≤ b → 2 * (b * b) ≤ a * a + c * c
    low h' =
        let mid : a + (b - a) ≡ b = omega arith in
        let far : a + 2 * (b - a) + (c - (a + 2 * (b - a))) ≡ c = omega arith in
        subst (λ z. 2 * (z * z) ≤ a * a + c * c) mid
        (subst (λ z. 2 * ((a + (b - a)) * (a + (b - a))) ≤ a * a + z * z) far (spread_square a (b - a) (c - (a + 2 * (b - a)))))

    mirror : c ≤ b → 2 * (b * b) ≤ c * c + a * a
    mirror h' =
        let mid : c + (b - c) ≡ b = omega arith in
        let far : c + 2 * (b - c) + (a - (c + 2 * (b - c))) ≡ a = omega arith in
        subst (λ z. 2 * (z * z) ≤ c * c + a * a) mid
        (subst (λ z. 2 * ((c + (b - c)) * (c + (b - c))) ≤ c * c + z * z) far (spread_square c (b - c) (a - (c + 2 * (b - c)))))

    high : b ≤ a → b ≤ c → 2 * (b * b) ≤ a * a + c * c
    high h' k =
        let one : b * b ≤ a * a = omega (arith, mul-le-mul_left b h', mul-le-mul_right a h') in
        let two : b * b ≤ c * c = omega (arith, mul-le-mul_left b k, mul-le-mul_right c k) in omega arith

    by_c : (t : Bool) → leb c b ≡ t → b ≤ a → 2 * (b * b) ≤ a * a + c * c
    by_c true e g = let m = mirror (leb-true c b e) in omega arith
    by_c false e g = high g (omega (arith, leb-false c b e))

    by : (t : Bool) → leb a b ≡ t → 2 * (b * b) ≤ a * a + c * c
    by true e = low (leb-true a b e)
    by false e = by_c (leb c b) refl (omega (arith, leb-false a b e))

loss-convex : (p : Penalty) (a b c : ℕ) → 2 * b ≤ a + c → 2 * loss p b ≤ loss p a + loss p c
loss-convex Square a b c h = square-convex a b c h
loss-convex Absolute a b c h = h
loss-convex (Band width) a b c h = square-convex (a - unsigned_abs width) (b - unsigned_abs width) (c - unsigned_abs width) (beyond (unsigned_abs width))
  where
    beyond : (w : ℕ) → 2 * (b - w) ≤ (a - w) + (c - w)
    beyond w = omega arith

scaled : (w a b c : ℕ) → 2 * b ≤ a + c → 2 * (w * b) ≤ w * a + w * c
scaled w a b c h = grind (arith, mul-le-mul_left w h)

pub term-convex : (r : RowFacts) (x : ℤ) → 2 * term r (x +ℤ pos 1) ≤ term r x + term r (x +ℤ pos 2)
term-convex r x = by r.target
  where
    by : (o : Option ℤ) → 2 * weighted_loss o r.penalty r.weight (x +ℤ pos 1) ≤ weighted_loss o r.penalty r.weight x + weighted_loss o r.penalty r.weight (x +ℤ pos 2)
    by None = omega arith
    by (Some y) =
        let one : (x +ℤ pos 1) -ℤ y ≡ (x -ℤ y) +ℤ pos 1 = omega (arith, ints) in
        let two : (x +ℤ pos 2) -ℤ y ≡ (x -ℤ y) +ℤ pos 2 = omega (arith, ints) in
        rw (one, two)
        (scaled r.weight (loss r.penalty (unsigned_abs (x -ℤ y))) (loss r.penalty (unsigned_abs ((x -ℤ y) +ℤ pos 1))) (loss r.penalty (unsigned_abs ((x -ℤ y) +ℤ pos 2)))
        (loss-convex r.penalty (unsigned_abs (x -ℤ y)) (unsigned_abs ((x -ℤ y) +ℤ pos 1)) (unsigned_abs ((x -ℤ y) +ℤ pos 2)) (dist-convex (x -ℤ y))))

-- ---- a function of numbers whose steps never fall

module _ (f : ℤ → ℕ) (convex : (x : ℤ) → 2 * f (x +ℤ pos 1) ≤ f x + f (x +ℤ pos 2)) where
  times_next : (n : ℕ) (p : ℤ) → pos (suc n) *ℤ p ≡ pos n *ℤ p +ℤ p
  times_next n p = suc_ℤ-*ℤ (pos n) p

  -- upward: where the first step is at least p, n steps are at least n times p
  steps_up : (x p : ℤ) → p ≤ℤ (pos (f (x +ℤ pos 1)) -ℤ pos (f x)) → (n : ℕ)
      → (p ≤ℤ (pos (f ((x +ℤ pos n) +ℤ pos 1)) -ℤ pos (f (x +ℤ pos n)))) × ((pos n *ℤ p) ≤ℤ (pos (f (x +ℤ pos n)) -ℤ pos (f x)))
  steps_up x p h zero =
      let e : x +ℤ pos 0 ≡ x = omega (arith, ints) in
      (rw e h, rw (e, zero-*ℤ p) (omega (arith, ints)))
  steps_up x p h (suc n) =
      let rest = steps_up x p h n in
      let here : x +ℤ pos (suc n) ≡ (x +ℤ pos n) +ℤ pos 1 = omega (arith, ints) in
      let next : ((x +ℤ pos n) +ℤ pos 1) +ℤ pos 1 ≡ (x +ℤ pos n) +ℤ pos 2 = omega (arith, ints) in
      let bend = convex (x +ℤ pos n) in (
        rw (here, next) (joined (f (x +ℤ pos n)) (f ((x +ℤ pos n) +ℤ pos 1)) (f ((x +ℤ pos n) +ℤ pos 2)) rest.0 bend),
        rw (here, times_next n p) (sum (pos n *ℤ p) (f x) (f (x +ℤ pos n)) (f ((x +ℤ pos n) +ℤ pos 1)) rest.0 rest.1),
      )
    where
      joined : (a b c : ℕ) → p ≤ℤ (pos b -ℤ pos a) → 2 * b ≤ a + c → p ≤ℤ (pos c -ℤ pos b)
      joined a b c g k = omega (arith, ints)

      sum : (q : ℤ) (a b c : ℕ) → p ≤ℤ (pos c -ℤ pos b) → q ≤ℤ (pos b -ℤ pos a) → (q +ℤ p) ≤ℤ (pos c -ℤ pos a)
      sum q a b c g k = omega (arith, ints)

  -- downward: where the last step is at most p, going n back loses at most n times p
  steps_down : (x p : ℤ) → (pos (f x) -ℤ pos (f (x -ℤ pos 1))) ≤ℤ p → (n : ℕ)
      → ((pos (f (x -ℤ pos n)) -ℤ pos (f ((x -ℤ pos n) -ℤ pos 1))) ≤ℤ p) × ((pos (f x) -ℤ pos (f (x -ℤ pos n))) ≤ℤ (pos n *ℤ p))
  steps_down x p h zero =
      let e : x -ℤ pos 0 ≡ x = omega (arith, ints) in
      (rw e h, rw (e, zero-*ℤ p) (none_lost (f x)))
    where
      none_lost : (a : ℕ) → (pos a -ℤ pos a) ≤ℤ pos 0
      none_lost a = omega (arith, ints)
  steps_down x p h (suc n) =
      let rest = steps_down x p h n in
      let here : x -ℤ pos (suc n) ≡ (x -ℤ pos n) -ℤ pos 1 = omega (arith, ints) in
      let one : ((x -ℤ pos n) -ℤ pos 1 -ℤ pos 1) +ℤ pos 1 ≡ (x -ℤ pos n) -ℤ pos 1 = omega (arith, ints) in
      let two : ((x -ℤ pos n) -ℤ pos 1 -ℤ pos 1) +ℤ pos 2 ≡ x -ℤ pos n = omega (arith, ints) in
      let bend : 2 * f ((x -ℤ pos n) -ℤ pos 1) ≤ f ((x -ℤ pos n) -ℤ pos 1 -ℤ pos 1) + f (x -ℤ pos n) =
      subst (λ z. 2 * f z ≤ f ((x -ℤ pos n) -ℤ pos 1 -ℤ pos 1) + f (x -ℤ pos n)) one
      (subst (λ z. 2 * f (((x -ℤ pos n) -ℤ pos 1 -ℤ pos 1) +ℤ pos 1) ≤ f ((x -ℤ pos n) -ℤ pos 1 -ℤ pos 1) + f z) two (convex ((x -ℤ pos n) -ℤ pos 1 -ℤ pos 1))) in (
        rw here (joined (f (x -ℤ pos n)) (f ((x -ℤ pos n) -ℤ pos 1)) (f ((x -ℤ pos n) -ℤ pos 1 -ℤ pos 1)) rest.0 bend),
        rw (here, times_next n p) (sum (pos n *ℤ p) (f x) (f (x -ℤ pos n)) (f ((x -ℤ pos n) -ℤ pos 1)) rest.0 rest.1),
      )
    where
      joined : (a b c : ℕ) → (pos a -ℤ pos b) ≤ℤ p → 2 * b ≤ c + a → (pos b -ℤ pos c) ≤ℤ p
      joined a b c g k = omega (arith, ints)

      sum : (q : ℤ) (a b c : ℕ) → (pos b -ℤ pos c) ≤ℤ p → (pos a -ℤ pos b) ≤ℤ q → (pos a -ℤ pos c) ≤ℤ (q +ℤ p)
      sum q a b c g k = omega (arith, ints)

  -- where the steps next to x are at least and at most p, within lo to hi, no other number is better by p
  pub tangent : (x p lo hi : ℤ) → (x <ℤ hi → p ≤ℤ (pos (f (x +ℤ pos 1)) -ℤ pos (f x))) → (lo <ℤ x → (pos (f x) -ℤ pos (f (x -ℤ pos 1))) ≤ℤ p)
      → (y : ℤ) → lo ≤ℤ y → y ≤ℤ hi → ((y -ℤ x) *ℤ p) ≤ℤ (pos (f y) -ℤ pos (f x))
  tangent x p lo hi up down y low high = by (y -ℤ x) refl
    where
      turned : (q : ℤ) (a b : ℕ) → (pos a -ℤ pos b) ≤ℤ q → neg_ℤ q ≤ℤ (pos b -ℤ pos a)
      turned q a b h = omega (arith, ints)

      by : (d : ℤ) → y -ℤ x ≡ d → (d *ℤ p) ≤ℤ (pos (f y) -ℤ pos (f x))
      by (pos zero) e =
          let same : y ≡ x = omega (arith, ints) in
          rw (same, zero-*ℤ p) (omega (arith, ints))
      by (pos (suc n)) e =
          let at : y ≡ x +ℤ pos (suc n) = omega (arith, ints) in
          let below : x <ℤ hi = omega (arith, ints) in
          rw at ((steps_up x p (up below) (suc n)).1)
      by (negsuc n) e =
          let at : y ≡ x -ℤ pos (suc n) = omega (arith, ints) in
          let above : lo <ℤ x = omega (arith, ints) in
          let back = (steps_down x p (down above) (suc n)).1 in
          let minus : negsuc n *ℤ p ≡ neg_ℤ (pos (suc n) *ℤ p) = *ℤ_comm (negsuc n) p ∙ *ℤ-neg p (pos (suc n)) ∙ ap neg_ℤ (*ℤ_comm p (pos (suc n))) in
          rw (at, minus) (turned (pos (suc n) *ℤ p) (f x) (f (x -ℤ pos (suc n))) back)
