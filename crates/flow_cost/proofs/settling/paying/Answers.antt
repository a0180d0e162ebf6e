use Rattle.std.proofs.Common.{◌≡◌, ◌<◌, arith}
use Rattle.std.proofs.lemmas.Int.{to_z-of_z}
use mir.Syntax.{w64, w128}
use Rattle.flow_cost.proofs.Paying.{at_place, past_place, earlier_pays}
use Rattle.flow_cost.proofs.settling.paying.Goals as goal

pub pays_after-requires-clause-from : goal.pays_after-requires-clause-from
pays_after-requires-clause-from g c =
    let middle : c.middle_of-middle.result < c.args.most = omega (arith, c.middle_of-middle.ensures.below, c.loop-low.invariant.within) in
    rw (to_z-of_z w64 c.args.x c.ranges.x, to_z-of_z w64 c.args.by c.ranges.by)
    (at_place _ c.args.x c.args.by c.middle_of-middle.result c.args.most middle c.requires.from c.requires.to)

pub pays_after-requires-clause-to : goal.pays_after-requires-clause-to
pays_after-requires-clause-to g c =
    let middle : c.middle_of-middle.result < c.args.most = omega (arith, c.middle_of-middle.ensures.below, c.loop-low.invariant.within) in
    rw (to_z-of_z w64 c.args.x c.ranges.x, to_z-of_z w64 c.args.by c.ranges.by)
    (past_place _ c.args.x c.args.by c.middle_of-middle.result c.args.most middle c.requires.from c.requires.to)

pub loop-low-preserved-then-pays_after : goal.loop-low-preserved-then-pays_after
loop-low-preserved-then-pays_after g c =
    let middle : c.middle_of-middle.result < c.args.most = omega (arith, c.middle_of-middle.ensures.below, c.loop-low.invariant.within) in
    let last = rw (to_z-of_z w64 c.args.x c.ranges.x, to_z-of_z w64 c.args.by c.ranges.by, to_z-of_z w128 c.args.slope c.ranges.slope) at (c.pays_after.ensures.pays c.if-pays_after.true) in
    record {
      ordered = omega (arith, c.middle_of-middle.ensures.below);
      within = c.loop-low.invariant.within;
      pay = λ k l.
          rw (to_z-of_z w64 c.args.x c.ranges.x, to_z-of_z w64 c.args.by c.ranges.by, to_z-of_z w128 c.args.slope c.ranges.slope)
          (earlier_pays _ _ (g.met.C.Cost.lawful c.args.cost.now) c.args.x c.args.by c.args.slope k c.middle_of-middle.result c.args.most (omega arith) middle c.requires.from c.requires.to last);
      stops = c.loop-low.invariant.stops;
    }

pub returns-clause-pay : goal.returns-clause-pay
returns-clause-pay g c = λ k l.
    rw (to_z-of_z w64 c.args.x c.ranges.x, to_z-of_z w64 c.args.by c.ranges.by, to_z-of_z w128 c.args.slope c.ranges.slope) at (c.loop-low.invariant.pay k l)

pub returns-clause-stops : goal.returns-clause-stops
returns-clause-stops g c = λ l.
    let e : c.loop-low.low ≡ c.loop-low.high = omega (arith, c.loop-low-test.false, c.loop-low.invariant.ordered) in
    rw e (rw (to_z-of_z w64 c.args.x c.ranges.x, to_z-of_z w64 c.args.by c.ranges.by, to_z-of_z w128 c.args.slope c.ranges.slope) at (c.loop-low.invariant.stops (omega arith)))
