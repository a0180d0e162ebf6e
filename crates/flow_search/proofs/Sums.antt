-- That sums and differences of small numbers fit.
use Rattle.std.proofs.Common.{◌*◌, ◌^◌, arith, ℤ, pos, ◌+ℤ◌, ◌-ℤ◌, neg_ℤ, ◌≤ℤ◌}
use Rattle.std.proofs.lemmas.Int.{ints}
use mir.Syntax.{w64, w128}
use mir.Val.{to_z, of_z, SFits}
use Rattle.flow_cost.specs.Cost.{IsWithin}
use Rattle.flow_graph.specs.Network.{AreBounds}
use Rattle.flow_residual.specs.Flows.{IsStep}
use Rattle.flow_residual.specs.Edges.{slope_limit}

module _ (there here : ℤ) (t : IsWithin (pos (2 * 10 ^ 22)) there) (h : IsWithin (pos (2 * 10 ^ 22)) here) where
  pub rise_fits : SFits w128 (to_z w128 (of_z w128 there) -ℤ to_z w128 (of_z w128 here))
  rise_fits = omega (arith, ints, t.low, t.high, h.low, h.high)

  module _ (price : ℤ) (p : IsWithin slope_limit price) where
    pub length_fits : SFits w128 (to_z w128 (of_z w128 price) -ℤ to_z w128 (of_z w128 (to_z w128 (of_z w128 there) -ℤ to_z w128 (of_z w128 here))))
    length_fits = omega (arith, ints, t.low, t.high, h.low, h.high, p.low, p.high)

    pub further_fits : (at : ℤ) → IsWithin (pos (10 ^ 23)) at →
        SFits w128 (to_z w128 (of_z w128 at) +ℤ to_z w128 (of_z w128 (to_z w128 (of_z w128 price) -ℤ to_z w128 (of_z w128 (to_z w128 (of_z w128 there) -ℤ to_z w128 (of_z w128 here))))))
    further_fits at a = omega (arith, ints, t.low, t.high, h.low, h.high, p.low, p.high, a.low, a.high)

pub turned_small : (x : ℤ) → IsWithin slope_limit x → IsWithin slope_limit (neg_ℤ x)
turned_small x w = record { low = omega (arith, ints, w.high); high = omega (arith, ints, w.low) }

module _ (lo hi x step : ℤ) (bounds : AreBounds lo hi) (low : lo ≤ℤ x) (high : x ≤ℤ hi) (s : IsStep step) where
  pub step_up_fits : SFits w64 (to_z w64 (of_z w64 x) +ℤ to_z w64 (of_z w64 step))
  step_up_fits = omega (arith, ints, bounds.low, bounds.high, low, high, s.low, s.high)

  pub step_down_fits : SFits w64 (to_z w64 (of_z w64 x) -ℤ to_z w64 (of_z w64 step))
  step_down_fits = omega (arith, ints, bounds.low, bounds.high, low, high, s.low, s.high)

  pub above_low : lo ≤ℤ (x +ℤ step)
  above_low = omega (arith, ints, low, s.low)

  pub below_high : (x -ℤ step) ≤ℤ hi
  below_high = omega (arith, ints, high, s.low)
