use Rattle.std.proofs.Common.{arith}
use Rattle.std.proofs.lemmas.Int.{ints, to_z-of_z}
use mir.Syntax.{w64}
use Rattle.flow_cost.proofs.Convex.{between}
use Rattle.flow_cost.proofs.Paying.{in_limit}
use Rattle.flow_cost.proofs.settling.pays_within.Goals as goal

pub pays-requires-clause-to : goal.pays-requires-clause-to
pays-requires-clause-to g c =
    let w = in_limit _ _ _ (g.met.C.Cost.lawful c.args.cost.now) c.requires.from in
    rw (to_z-of_z w64 c.args.x c.ranges.x, to_z-of_z w64 c.args.by c.ranges.by)
    (between _ _ _ _ c.requires.low c.requires.high
    (omega (arith, ints, w.low, w.high, c.requires.by.low, c.requires.by.high, c.if-to-lo.false))
    (omega (arith, ints, w.low, w.high, c.requires.by.low, c.requires.by.high, c.if-to-hi.false)))

pub returns-clause-fits : goal.returns-clause-fits
returns-clause-fits g c = λ t.
    let w = in_limit _ _ _ (g.met.C.Cost.lawful c.args.cost.now) c.requires.from in (
      omega (arith, ints, w.low, w.high, c.requires.by.low, c.requires.by.high, c.if-to-lo.false),
      omega (arith, ints, w.low, w.high, c.requires.by.low, c.requires.by.high, c.if-to-hi.false),
    )
