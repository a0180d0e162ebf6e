use Rattle.std.proofs.Common.{◌<◌, length, arith, rules}
use Rattle.std.proofs.lemmas.Int.{to_z-of_z}
use mir.Syntax.{w64}
use mir.Val.{SFits}
use Rattle.flow_residual.proofs.Excesses.{first_more}
use Rattle.flow_residual.proofs.carrying.first_flows.Goals as goal

pub loop-a-preserved : goal.loop-a-preserved
loop-a-preserved g c =
    let there : c.loop-a.a < length c.args.g.now.arcs = omega (arith, c.loop-a-test.true, c.arc_count-a-end.ensures.count) in
    let fl : SFits w64 c.bounds-lo.result.0 = search rules in
    let fh : SFits w64 c.bounds-lo.result.1 = search rules in
    let fn : SFits w64 c.nearest.result = search rules in
    let items = rw c.if-is_err.ensures.negation at c.push.ensures.items in
    first_more c.args.g.now.arcs c.loop-a.flows.items c.push.new.self.items c.loop-a.a c.bounds-lo.result.0 c.bounds-lo.result.1 c.nearest.result there c.loop-a.invariant c.bounds-lo.ensures.value
    (rw (to_z-of_z w64 c.bounds-lo.result.0 fl, to_z-of_z w64 c.bounds-lo.result.1 fh) at c.nearest.ensures)
    (rw (to_z-of_z w64 c.nearest.result fn) at items)
