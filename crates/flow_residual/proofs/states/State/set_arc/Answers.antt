use Rattle.std.proofs.Common.{rules, ◌≡◌, ◌∙◌, ◌-ℤ◌}
use Rattle.std.proofs.lemmas.Int.{to_z-of_z}
use mir.Syntax.{w64}
use mir.Val.{to_z, of_z, SFits}
use Rattle.flow_residual.proofs.Kept.{bounds_from_span, nearest_small, difference_small, read_small, excesses_small, arc_then}
use Rattle.flow_residual.proofs.states.State.set_arc.Goals as goal

pub gap-requires-clause-before : goal.gap-requires-clause-before
gap-requires-clause-before g c =
    let f : SFits w64 c.index-before.result.now = search rules in
    rw (to_z-of_z w64 c.index-before.result.now f) (read_small g.N.PartialEq.eq g.A.PartialEq.eq g.C.Cost.span_of _ c.self.invariant.flow c.args.arc.0 (rw (← c.self.view_is) at c.requires.there) c.index-before.result.now c.index-before.ensures)

pub gap-requires-clause-after : goal.gap-requires-clause-after
gap-requires-clause-after g c =
    let f : SFits w64 c.index-before.result.now = search rules in
    let fy : SFits w64 c.nearest-after.result = record { sfits = c.nearest-after.type_inv } in
    let e = rw (to_z-of_z w64 c.args.lo c.ranges.lo, to_z-of_z w64 c.args.hi c.ranges.hi, to_z-of_z w64 c.index-before.result.now f) at c.nearest-after.ensures in
    let b = bounds_from_span (g.C.Cost.value_at c.args.cost) (g.C.Cost.span_of c.args.cost) c.args.lo c.args.hi (g.met.C.Cost.lawful c.args.cost) c.requires.low c.requires.high c.requires.ordered in
    rw (to_z-of_z w64 c.nearest-after.result fy) (nearest_small c.args.lo c.args.hi c.index-before.result.now c.nearest-after.result b e)

pub carry-requires-clause-x : goal.carry-requires-clause-x
carry-requires-clause-x g c =
    let f : SFits w64 c.index-before.result.now = search rules in
    let fy : SFits w64 c.nearest-after.result = record { sfits = c.nearest-after.type_inv } in
    let fd : SFits w64 c.gap.result = record { sfits = c.gap.type_inv } in
    let e = rw (to_z-of_z w64 c.args.lo c.ranges.lo, to_z-of_z w64 c.args.hi c.ranges.hi, to_z-of_z w64 c.index-before.result.now f) at c.nearest-after.ensures in
    let b = bounds_from_span (g.C.Cost.value_at c.args.cost) (g.C.Cost.span_of c.args.cost) c.args.lo c.args.hi (g.met.C.Cost.lawful c.args.cost) c.requires.low c.requires.high c.requires.ordered in
    rw (to_z-of_z w64 c.gap.result fd) (difference_small c.index-before.result.now c.nearest-after.result c.gap.result
    (read_small g.N.PartialEq.eq g.A.PartialEq.eq g.C.Cost.span_of _ c.self.invariant.flow c.args.arc.0 (rw (← c.self.view_is) at c.requires.there) c.index-before.result.now c.index-before.ensures)
    (nearest_small c.args.lo c.args.hi c.index-before.result.now c.nearest-after.result b e)
    (rw (to_z-of_z w64 c.nearest-after.result fy, to_z-of_z w64 c.index-before.result.now f) at c.gap.ensures))

pub carry-requires-clause-small : goal.carry-requires-clause-small
carry-requires-clause-small g c = excesses_small g.N.PartialEq.eq g.A.PartialEq.eq g.C.Cost.span_of _ c.self.inside.excesses.items c.self.invariant

pub set_bounds-requires-clause-bounds : goal.set_bounds-requires-clause-bounds
set_bounds-requires-clause-bounds g c =
    rw (to_z-of_z w64 c.args.lo c.ranges.lo, to_z-of_z w64 c.args.hi c.ranges.hi)
    (bounds_from_span (g.C.Cost.value_at c.args.cost) (g.C.Cost.span_of c.args.cost) c.args.lo c.args.hi (g.met.C.Cost.lawful c.args.cost) c.requires.low c.requires.high c.requires.ordered)

pub invariant_of-self : goal.invariant_of-self
invariant_of-self g c =
    let f : SFits w64 c.index-before.result.now = search rules in
    let fy : SFits w64 c.nearest-after.result = record { sfits = c.nearest-after.type_inv } in
    let fd : SFits w64 c.gap.result = record { sfits = c.gap.type_inv } in
    let e = rw (to_z-of_z w64 c.args.lo c.ranges.lo, to_z-of_z w64 c.args.hi c.ranges.hi, to_z-of_z w64 c.index-before.result.now f) at c.nearest-after.ensures in
    let b = bounds_from_span (g.C.Cost.value_at c.args.cost) (g.C.Cost.span_of c.args.cost) c.args.lo c.args.hi (g.met.C.Cost.lawful c.args.cost) c.requires.low c.requires.high c.requires.ordered in
    let by : to_z w64 (of_z w64 c.gap.result) ≡ to_z w64 (of_z w64 c.nearest-after.result) -ℤ c.index-before.result.now = to_z-of_z w64 c.gap.result fd ∙ (rw (to_z-of_z w64 c.index-before.result.now f) at c.gap.ensures) in
    arc_then g.N.PartialEq.eq g.A.PartialEq.eq g.C.Cost.span_of _ c.self.inside.excesses.items c.carry.new.out.items c.set_bounds.new.self c.args.arc.0 c.ends.result.0.0 c.ends.result.1.0 c.args.cost c.args.lo c.args.hi
    c.index-before.result.now (to_z w64 (of_z w64 c.nearest-after.result)) c.self.invariant (rw (← c.self.view_is) at c.requires.there) c.ends.ensures.ends c.index-before.ensures
    (rw (to_z-of_z w64 c.args.lo c.ranges.lo, to_z-of_z w64 c.args.hi c.ranges.hi) at c.set_bounds.ensures) b c.requires.low c.requires.high
    (to_z-of_z w64 c.nearest-after.result fy ∙ e) c.carry.ensures.counted (rw by at c.carry.ensures.carried)
