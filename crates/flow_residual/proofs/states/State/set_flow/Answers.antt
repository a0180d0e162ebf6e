use Rattle.std.proofs.Common.{rules, ◌≡◌, ◌∙◌, ◌-ℤ◌}
use Rattle.std.proofs.lemmas.Int.{to_z-of_z}
use mir.Syntax.{w64}
use mir.Val.{to_z, of_z, SFits}
use Rattle.flow_residual.proofs.Kept.{nearest_small, difference_small, read_small, excesses_small, nearest_flows, flow_then}
use Rattle.flow_residual.proofs.states.State.set_flow.Goals as goal

pub gap-requires-clause-before : goal.gap-requires-clause-before
gap-requires-clause-before g c =
    let f : SFits w64 c.index-before.result.now = search rules in
    rw (to_z-of_z w64 c.index-before.result.now f) (read_small g.N.PartialEq.eq g.A.PartialEq.eq g.C.Cost.span_of _ c.self.invariant.flow c.args.arc.0 (rw (← c.self.view_is) at c.requires) c.index-before.result.now c.index-before.ensures)

pub carry-requires-clause-x : goal.carry-requires-clause-x
carry-requires-clause-x g c =
    let f : SFits w64 c.index-before.result.now = search rules in
    let fy : SFits w64 c.nearest-after.result = record { sfits = c.nearest-after.type_inv } in
    let fd : SFits w64 c.gap.result = record { sfits = c.gap.type_inv } in
    let fl : SFits w64 c.bounds-lo.result.0 = search rules in
    let fh : SFits w64 c.bounds-lo.result.1 = search rules in
    let e = rw (to_z-of_z w64 c.bounds-lo.result.0 fl, to_z-of_z w64 c.bounds-lo.result.1 fh, to_z-of_z w64 c.args.x c.ranges.x) at c.nearest-after.ensures in
    rw (to_z-of_z w64 c.gap.result fd) (difference_small c.index-before.result.now c.nearest-after.result c.gap.result
    (read_small g.N.PartialEq.eq g.A.PartialEq.eq g.C.Cost.span_of _ c.self.invariant.flow c.args.arc.0 (rw (← c.self.view_is) at c.requires) c.index-before.result.now c.index-before.ensures)
    (nearest_small c.bounds-lo.result.0 c.bounds-lo.result.1 c.args.x c.nearest-after.result c.bounds-lo.ensures.bounds e)
    (rw (to_z-of_z w64 c.nearest-after.result fy, to_z-of_z w64 c.index-before.result.now f) at c.gap.ensures))

pub carry-requires-clause-small : goal.carry-requires-clause-small
carry-requires-clause-small g c = excesses_small g.N.PartialEq.eq g.A.PartialEq.eq g.C.Cost.span_of _ c.self.inside.excesses.items c.self.invariant

pub invariant_of-self : goal.invariant_of-self
invariant_of-self g c =
    let f : SFits w64 c.index-before.result.now = search rules in
    let fy : SFits w64 c.nearest-after.result = record { sfits = c.nearest-after.type_inv } in
    let fd : SFits w64 c.gap.result = record { sfits = c.gap.type_inv } in
    let fl : SFits w64 c.bounds-lo.result.0 = search rules in
    let fh : SFits w64 c.bounds-lo.result.1 = search rules in
    let e = rw (to_z-of_z w64 c.bounds-lo.result.0 fl, to_z-of_z w64 c.bounds-lo.result.1 fh, to_z-of_z w64 c.args.x c.ranges.x) at c.nearest-after.ensures in
    let there = rw (← c.self.view_is) at c.requires in
    let by : c.gap.result ≡ to_z w64 (of_z w64 c.nearest-after.result) -ℤ c.index-before.result.now = rw (to_z-of_z w64 c.index-before.result.now f) at c.gap.ensures in
    flow_then g.N.PartialEq.eq g.A.PartialEq.eq g.C.Cost.span_of _ c.self.inside.excesses.items c.carry.new.out.items c.args.arc.0 c.ends.result.0.0 c.ends.result.1.0
    c.index-before.result.now (to_z w64 (of_z w64 c.nearest-after.result)) c.gap.result
    c.self.invariant there c.ends.ensures.ends c.index-before.ensures
    (nearest_flows c.self.inside.graph.arcs c.args.arc.0 c.bounds-lo.result.0 c.bounds-lo.result.1 c.args.x (to_z w64 (of_z w64 c.nearest-after.result)) c.bounds-lo.ensures.value c.bounds-lo.ensures.bounds (to_z-of_z w64 c.nearest-after.result fy ∙ e))
    by c.carry.ensures.counted (rw (to_z-of_z w64 c.gap.result fd) at c.carry.ensures.carried)
