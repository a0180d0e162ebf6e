-- Moves that pay, one after another.
use Rattle.std.proofs.Common.{◌≡◌, ℕ, ◌+◌, ◌-◌, ◌^◌, ◌<◌, ◌≤◌, Bool, false, ℤ, pos, ◌+ℤ◌, ◌-ℤ◌, ◌*ℤ◌, ◌≤ℤ◌, ◌<ℤ◌, arith, subst, sym, ◌∙◌}
use Rattle.std.specs.Prelude.{int_lt, IsTrue}
use Rattle.std.proofs.lemmas.Int.{ints}
use Rattle.flow_cost.specs.Cost.{IsWithin, IsLawful}
use Rattle.flow_cost.specs.Settle.{place_at, Pays, Stops}
use Rattle.flow_cost.proofs.Convex.{on_the_way, next_place, move_mono}

lt_yes : (a b : ℤ) → IsTrue (int_lt a b) → a <ℤ b
lt_yes a b e = grind (arith, ints)

lt_no : (a b : ℤ) → int_lt a b ≡ false → b ≤ℤ a
lt_no a b e = grind (arith, ints)

-- what the test of a move answers
pub pays_from : (value : ℤ → ℤ) (by slope y : ℤ) (b : Bool) → b ≡ int_lt (value (y +ℤ by) -ℤ value y) (by *ℤ slope) → IsTrue b → Pays value by slope y
pays_from value by slope y b e t = record { less = lt_yes _ _ (subst IsTrue e t) }

pub stops_from : (value : ℤ → ℤ) (by slope y : ℤ) (b : Bool) → b ≡ int_lt (value (y +ℤ by) -ℤ value y) (by *ℤ slope) → b ≡ false → Stops value by slope y
stops_from value by slope y b e t = record { more = lt_no _ _ (sym e ∙ t) }

-- within the span is within its limit
pub in_limit : (value : ℤ → ℤ) (span y : ℤ) → IsLawful value span → IsWithin span y → IsWithin (pos (2 ^ 60)) y
in_limit value span y law w = record {
  low = omega (arith, ints, law.span_high, w.low);
  high = omega (arith, ints, law.span_high, w.high);
}

pub at_place : (span x by : ℤ) (k most : ℕ) → k < most → IsWithin span x → IsWithin span (place_at x by most) → IsWithin span (place_at x by k)
at_place span x by k most l h w = on_the_way span x by k most (omega arith) h w

pub past_place : (span x by : ℤ) (k most : ℕ) → k < most → IsWithin span x → IsWithin span (place_at x by most) → IsWithin span (place_at x by k +ℤ by)
past_place span x by k most l h w = rw (← next_place x by k) (on_the_way span x by (k + 1) most (omega arith) h w)

lt_trans : (a b c : ℤ) → a ≤ℤ b → b <ℤ c → a <ℤ c
lt_trans a b c h k = omega (arith, ints)

-- a move that pays makes each earlier one pay
pub earlier_pays : (value : ℤ → ℤ) (span : ℤ) → IsLawful value span → (x by slope : ℤ) (k m most : ℕ) → k ≤ m → m < most → IsWithin span x → IsWithin span (place_at x by most) →
    Pays value by slope (place_at x by m) → Pays value by slope (place_at x by k)
earlier_pays value span law x by slope k m most l lm h w p =
    let e : k + (m - k) ≡ m = omega arith in
    let past : IsWithin span (place_at x by m +ℤ by) = past_place span x by m most lm h w in
    let mono = move_mono value span law x by k (m - k) h (rw e past) in
    record { less = lt_trans _ _ _ (rw e at mono) p.less }
