-- What is written where an arc's flow is added at its head, and taken off at its tail.
use Rattle.std.proofs.Common.{◌≡◌, ℕ, ◌^◌, ◌<◌, List, length, get_or, set, All, length-set, ap, sym, subst, ◌∙◌, arith, ℤ, pos, ◌+ℤ◌, ◌-ℤ◌}
use Rattle.std.proofs.lemmas.Int.{ints, to_z-of_z}
use Rattle.std.proofs.lemmas.List.{get_or_read}
use Rattle.std.proofs.lemmas.List.Elements.{All-set}
use mir.Syntax.{w64, w128}
use mir.Val.{to_z, of_z, SFits}
use Rattle.flow_cost.specs.Cost.{IsWithin}
use Rattle.flow_residual.specs.Excess.{arc_adds}
use Rattle.flow_residual.proofs.Excesses.{carried_once, all_wider}

-- a sum of the list, as it is read
pub record IsRead (xs : List ℤ) (i : ℕ) (r : ℤ) : Type 0 where
  pub is : to_z w128 (of_z w128 r) ≡ get_or xs i (pos 0)
  pub within : IsWithin (pos (2 ^ 91)) (get_or xs i (pos 0))
  pub small : IsWithin (pos (2 ^ 100)) (to_z w128 (of_z w128 r))

kept_sum : (r v : ℤ) → r ≡ v → IsWithin (pos (2 ^ 91)) v → to_z w128 (of_z w128 r) ≡ v
kept_sum r v e w = omega (arith, ints, e, w.low, w.high)

wider_sum : (v : ℤ) → IsWithin (pos (2 ^ 91)) v → IsWithin (pos (2 ^ 100)) v
wider_sum v w = record { low = omega (arith, ints, w.low); high = omega (arith, ints, w.high) }

pub read_sum : (xs : List ℤ) (i : ℕ) (r : ℤ) → i < length xs → All (IsWithin (pos (2 ^ 91))) xs → r ≡ get_or xs i r → IsRead xs i r
read_sum xs i r l small e =
    let w = small i (pos 0) l in
    let is : to_z w128 (of_z w128 r) ≡ get_or xs i (pos 0) = kept_sum r (get_or xs i (pos 0)) (get_or_read xs i r l e (pos 0)) w in
    record { is = is; within = w; small = subst (λ z. IsWithin (pos (2 ^ 100)) z) (sym is) (wider_sum (get_or xs i (pos 0)) w) }

kept_plus : (v x : ℤ) → IsWithin (pos (2 ^ 91)) v → IsWithin (pos (2 ^ 61)) x → to_z w128 (of_z w128 (v +ℤ x)) ≡ v +ℤ x
kept_plus v x w k = omega (arith, ints, w.low, w.high, k.low, k.high)

kept_minus : (v x : ℤ) → IsWithin (pos (2 ^ 91)) v → IsWithin (pos (2 ^ 61)) x → to_z w128 (of_z w128 (v -ℤ x)) ≡ v -ℤ x
kept_minus v x w k = omega (arith, ints, w.low, w.high, k.low, k.high)

sum_within : (v x : ℤ) → IsWithin (pos (2 ^ 90)) v → IsWithin (pos (2 ^ 61)) x → IsWithin (pos (2 ^ 91)) (v +ℤ x)
sum_within v x w k = record { low = omega (arith, ints, w.low, k.low); high = omega (arith, ints, w.high, k.high) }

module _ (xs : List ℤ) (tail head : ℕ) (x r y : ℤ) (lt : tail < length xs) (lh : head < length xs) (w : IsWithin (pos (2 ^ 61)) x) (fits : SFits w64 x)
    (small : All (IsWithin (pos (2 ^ 90))) xs) (read : r ≡ get_or xs head r) (more : y ≡ to_z w128 (of_z w128 r) +ℤ to_z w64 (of_z w64 x)) where
  more_is : to_z w128 (of_z w128 y) ≡ get_or xs head (pos 0) +ℤ x
  more_is =
      let s = read_sum xs head r lh (all_wider xs small) read in
      let e : y ≡ get_or xs head (pos 0) +ℤ x = rw (s.is, to_z-of_z w64 x fits) at more in
      ap (λ z. to_z w128 (of_z w128 z)) e ∙ kept_plus (get_or xs head (pos 0)) x s.within w

  pub tail_in : tail < length (set xs head (to_z w128 (of_z w128 y)))
  tail_in = subst (λ z. tail < z) (sym (length-set xs head (to_z w128 (of_z w128 y)))) lt

  pub tail_read : (r2 : ℤ) → r2 ≡ get_or (set xs head (to_z w128 (of_z w128 y))) tail r2 → IsRead (set xs head (to_z w128 (of_z w128 y))) tail r2
  tail_read r2 read2 =
      let s : IsWithin (pos (2 ^ 91)) (to_z w128 (of_z w128 y)) = subst (λ z. IsWithin (pos (2 ^ 91)) z) (sym more_is) (sum_within (get_or xs head (pos 0)) x (small head (pos 0) lh) w) in
      read_sum (set xs head (to_z w128 (of_z w128 y))) tail r2 tail_in (All-set (IsWithin (pos (2 ^ 91))) xs head (to_z w128 (of_z w128 y)) s (all_wider xs small)) read2

  pub carried_by : (r2 z : ℤ) → r2 ≡ get_or (set xs head (to_z w128 (of_z w128 y))) tail r2 → z ≡ to_z w128 (of_z w128 r2) -ℤ to_z w64 (of_z w64 x) →
      (n : ℕ) → get_or (set (set xs head (to_z w128 (of_z w128 y))) tail (to_z w128 (of_z w128 z))) n (pos 0) ≡ get_or xs n (pos 0) +ℤ arc_adds tail head x n
  carried_by r2 z read2 less n =
      let s = tail_read r2 read2 in
      let e : z ≡ get_or (set xs head (to_z w128 (of_z w128 y))) tail (pos 0) -ℤ x = rw (s.is, to_z-of_z w64 x fits) at less in
      carried_once xs tail head x (to_z w128 (of_z w128 y)) (to_z w128 (of_z w128 z)) lt lh more_is
      (ap (λ t. to_z w128 (of_z w128 t)) e ∙ kept_minus (get_or (set xs head (to_z w128 (of_z w128 y))) tail (pos 0)) x s.within w) n
