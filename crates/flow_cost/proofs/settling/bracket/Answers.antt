use Rattle.std.proofs.Common.{◌+◌, ◌<◌, arith}
use Rattle.std.proofs.lemmas.Int.{to_z-of_z}
use mir.Syntax.{w64, w128}
use Rattle.flow_cost.proofs.Paying.{at_place, past_place, earlier_pays}
use Rattle.flow_cost.proofs.settling.bracket.Goals as goal

pub pays_after-requires-clause-from : goal.pays_after-requires-clause-from
pays_after-requires-clause-from g c =
    rw (to_z-of_z w64 c.args.x c.ranges.x, to_z-of_z w64 c.args.by c.ranges.by)
    (at_place _ c.args.x c.args.by (c.loop-low.low + c.min.result) c.args.most (omega arith) c.requires.from c.requires.to)

pub pays_after-requires-clause-to : goal.pays_after-requires-clause-to
pays_after-requires-clause-to g c =
    rw (to_z-of_z w64 c.args.x c.ranges.x, to_z-of_z w64 c.args.by c.ranges.by)
    (past_place _ c.args.x c.args.by (c.loop-low.low + c.min.result) c.args.most (omega arith) c.requires.from c.requires.to)

pub returns-then-not-pays_after-clause-pay : goal.returns-then-not-pays_after-clause-pay
returns-then-not-pays_after-clause-pay g c = λ k l.
    rw (to_z-of_z w64 c.args.x c.ranges.x, to_z-of_z w64 c.args.by c.ranges.by, to_z-of_z w128 c.args.slope c.ranges.slope) at (c.loop-low.invariant.pay k l)

pub returns-then-not-pays_after-clause-stops : goal.returns-then-not-pays_after-clause-stops
returns-then-not-pays_after-clause-stops g c = λ l.
    rw (to_z-of_z w64 c.args.x c.ranges.x, to_z-of_z w64 c.args.by c.ranges.by, to_z-of_z w128 c.args.slope c.ranges.slope) at (c.pays_after.ensures.stops c.if-not-pays_after.true)

pub loop-low-preserved : goal.loop-low-preserved
loop-low-preserved g c =
    let below : c.loop-low.low + c.min.result < c.args.most = omega arith in
    let last = rw (to_z-of_z w64 c.args.x c.ranges.x, to_z-of_z w64 c.args.by c.ranges.by, to_z-of_z w128 c.args.slope c.ranges.slope) at (c.pays_after.ensures.pays c.if-not-pays_after.false) in
    record {
      within = omega arith;
      pay = λ k l.
          rw (to_z-of_z w64 c.args.x c.ranges.x, to_z-of_z w64 c.args.by c.ranges.by, to_z-of_z w128 c.args.slope c.ranges.slope)
          (earlier_pays _ _ (g.met.C.Cost.lawful c.args.cost.now) c.args.x c.args.by c.args.slope k (c.loop-low.low + c.min.result) c.args.most (omega arith) below c.requires.from c.requires.to last);
    }

pub returns-clause-pay : goal.returns-clause-pay
returns-clause-pay g c = λ k l.
    rw (to_z-of_z w64 c.args.x c.ranges.x, to_z-of_z w64 c.args.by c.ranges.by, to_z-of_z w128 c.args.slope c.ranges.slope) at (c.loop-low.invariant.pay k l)
