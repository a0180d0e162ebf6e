-- Slopes in 128 bits, and where they are no reason.
use Rattle.std.proofs.Common.{◌≡◌, ℕ, ◌<◌, ◌^◌, ℤ, pos, neg_ℤ, ◌+ℤ◌, ◌-ℤ◌, ◌≤ℤ◌, Bool, true, false, ◌&&◌, None, Some, refl, sym, ap, subst, ◌∙◌, arith, to_z, of_z}
use mir.Syntax.{w64, w128}
use mir.Val.{SFits}
use lib.Signed.{mag, le_z}
use Rattle.std.specs.Prelude.{◌<ℤ◌, int_lt}
use Rattle.std.proofs.lemmas.Int.{ints}
use Rattle.sut_measures.specs.declared.measures.Measure.{Measure}
use Rattle.sut_tables.specs.RowFacts.{RowFacts}
use Rattle.sut_tables.specs.Rows.{InRange}
use Rattle.sut_tables.specs.Breaks.{first_of}
use Rattle.sut_tables.specs.Costs.{term}
use Rattle.sut_tables.proofs.Tests.{lt_is_false, lt_is_true}
use Rattle.sut_cert.specs.Certificates.{slope_down, slope_up}
use Rattle.sut_verify.specs.Verdicts.{down_reason, up_reason, where_true}
use Rattle.sut_verify.specs.declared.verdicts.Reason.{Reason}
use Rattle.sut_verify.specs.declared.verdicts.Reason.TheVariants as reason

-- ---- numbers in 64 and in 128 bits

pub narrow-is : (x : ℤ) → InRange x → to_z w64 (of_z w64 x) ≡ x
narrow-is x r = by r.low r.high
  where
    by : neg_ℤ (pos 1000000000000) ≤ℤ x → x ≤ℤ pos 1000000000000 → to_z w64 (of_z w64 x) ≡ x
    by l h = omega (arith, ints)

next-is : (x : ℤ) → InRange x → to_z w64 (of_z w64 (to_z w64 (of_z w64 x) +ℤ pos 1)) ≡ x +ℤ pos 1
next-is x r = by r.low r.high
  where
    by : neg_ℤ (pos 1000000000000) ≤ℤ x → x ≤ℤ pos 1000000000000 → to_z w64 (of_z w64 (to_z w64 (of_z w64 x) +ℤ pos 1)) ≡ x +ℤ pos 1
    by l h = omega (arith, ints)

last-is : (x : ℤ) → InRange x → to_z w64 (of_z w64 (to_z w64 (of_z w64 x) -ℤ pos 1)) ≡ x -ℤ pos 1
last-is x r = by r.low r.high
  where
    by : neg_ℤ (pos 1000000000000) ≤ℤ x → x ≤ℤ pos 1000000000000 → to_z w64 (of_z w64 (to_z w64 (of_z w64 x) -ℤ pos 1)) ≡ x -ℤ pos 1
    by l h = omega (arith, ints)

pub wide-is : (x v : ℤ) → x ≡ v → mag x < 2 ^ 127 → to_z w128 (of_z w128 x) ≡ v
wide-is x v e m = omega (arith, ints)

pub cast-fits : (x v : ℤ) → x ≡ v → InRange v → SFits w64 (to_z w128 (of_z w128 x))
cast-fits x v e r = by r.low r.high
  where
    by : neg_ℤ (pos 1000000000000) ≤ℤ v → v ≤ℤ pos 1000000000000 → SFits w64 (to_z w128 (of_z w128 x))
    by l h = omega (arith, ints)

-- the difference of two terms
abbrev pub difference : ℤ → ℤ → ℤ
difference f g = to_z w128 (of_z w128 (to_z w128 (of_z w128 f) -ℤ to_z w128 (of_z w128 g)))

difference-is : (f g : ℤ) (m n : ℕ) → f ≡ pos m → g ≡ pos n → mag f < 2 ^ 127 → mag g < 2 ^ 127 → difference f g ≡ pos m -ℤ pos n
difference-is f g m n e d h k = omega (arith, ints)

pub up-is : (r : RowFacts) (x f g : ℤ) → InRange x → f ≡ pos (term r (to_z w64 (of_z w64 (to_z w64 (of_z w64 x) +ℤ pos 1)))) → g ≡ pos (term r (to_z w64 (of_z w64 x)))
    → mag f < 2 ^ 127 → mag g < 2 ^ 127 → difference f g ≡ slope_up r x
up-is r x f g range e d h k =
    difference-is f g (term r (x +ℤ pos 1)) (term r x) (e ∙ ap (λ y. pos (term r y)) (next-is x range)) (d ∙ ap (λ y. pos (term r y)) (narrow-is x range)) h k

pub down-is : (r : RowFacts) (x f g : ℤ) → InRange x → f ≡ pos (term r (to_z w64 (of_z w64 x))) → g ≡ pos (term r (to_z w64 (of_z w64 (to_z w64 (of_z w64 x) -ℤ pos 1))))
    → mag f < 2 ^ 127 → mag g < 2 ^ 127 → difference f g ≡ slope_down r x
down-is r x f g range e d h k =
    difference-is f g (term r x) (term r (x -ℤ pos 1)) (e ∙ ap (λ y. pos (term r y)) (narrow-is x range)) (d ∙ ap (λ y. pos (term r y)) (last-is x range)) h k

-- ---- what the code's comparisons say

pub le-true : (a b : ℤ) → le_z a b ≡ true → a ≤ℤ b
le-true a b e = omega (arith, ints)

pub le-false : (a b : ℤ) → le_z a b ≡ false → b <ℤ a
le-false a b e = omega (arith, ints)

-- a bound beside a value
pub bound-is : (b v : ℤ) → b ≡ v → mag b < 2 ^ 63 → to_z w64 (of_z w64 b) ≡ v
bound-is b v e m = omega (arith, ints)

-- ---- reasons

second-false : (a b : Bool) → b ≡ false → (a && b) ≡ false
second-false true b e = e
second-false false b e = refl

both-true : (a b : Bool) → a ≡ true → b ≡ true → (a && b) ≡ true
both-true true b e f = f
both-true false b e f = absurd cc

no-reason : (b : Bool) (r : Reason) → b ≡ false → None ≡ first_of (where_true b r)
no-reason b r e = sym (ap (λ t. first_of (where_true t r)) e)

one-reason : (b : Bool) (r : Reason) → b ≡ true → Some r ≡ first_of (where_true b r)
one-reason b r e = sym (ap (λ t. first_of (where_true t r)) e)

pub up-none : (m : Measure) (r : RowFacts) (x p s : ℤ) → s ≡ slope_up r x → p ≤ℤ s → None ≡ first_of (up_reason m r x p)
up-none m r x p s e h =
    no-reason (int_lt x r.upper && int_lt (slope_up r x) p) (reason.Up m (slope_up r x) p)
    (second-false (int_lt x r.upper) (int_lt (slope_up r x) p) (lt_is_false (slope_up r x) p (subst (λ z. p ≤ℤ z) e h)))

pub up-some : (m : Measure) (r : RowFacts) (x p s q : ℤ) → s ≡ slope_up r x → q ≡ p → x <ℤ r.upper → s <ℤ p → Some (reason.Up m s q) ≡ first_of (up_reason m r x p)
up-some m r x p s q e f h k =
    (λ i. Some (reason.Up m (e i) (f i)))
    ∙ one-reason (int_lt x r.upper && int_lt (slope_up r x) p) (reason.Up m (slope_up r x) p)
    (both-true (int_lt x r.upper) (int_lt (slope_up r x) p) (lt_is_true x r.upper h) (lt_is_true (slope_up r x) p (subst (λ z. z <ℤ p) e k)))

pub down-none : (m : Measure) (r : RowFacts) (x p s : ℤ) → s ≡ slope_down r x → s ≤ℤ p → None ≡ first_of (down_reason m r x p)
down-none m r x p s e h =
    no-reason (int_lt r.lower x && int_lt p (slope_down r x)) (reason.Down m (slope_down r x) p)
    (second-false (int_lt r.lower x) (int_lt p (slope_down r x)) (lt_is_false p (slope_down r x) (subst (λ z. z ≤ℤ p) e h)))

pub down-some : (m : Measure) (r : RowFacts) (x p s q : ℤ) → s ≡ slope_down r x → q ≡ p → r.lower <ℤ x → p <ℤ s → Some (reason.Down m s q) ≡ first_of (down_reason m r x p)
down-some m r x p s q e f h k =
    (λ i. Some (reason.Down m (e i) (f i)))
    ∙ one-reason (int_lt r.lower x && int_lt p (slope_down r x)) (reason.Down m (slope_down r x) p)
    (both-true (int_lt r.lower x) (int_lt p (slope_down r x)) (lt_is_true r.lower x h) (lt_is_true p (slope_down r x) (subst (λ z. p <ℤ z) e k)))
