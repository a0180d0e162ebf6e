use Rattle.std.proofs.Common.{◌≤ℤ◌}
use Rattle.std.proofs.lemmas.Int.{to_z-of_z}
use mir.Syntax.{w64, w128}
use Rattle.flow_check.proofs.Shown.{shown_by, shown_up, shown_down, not_below}
use Rattle.flow_check.proofs.checks.is_shown.Goals as goal

pub returns-then-next_unit_holds : goal.returns-then-next_unit_holds
returns-then-next_unit_holds g c =
    let next = rw (to_z-of_z w64 c.args.x c.ranges.x, to_z-of_z w64 c.args.hi c.ranges.hi, to_z-of_z w128 c.args.rise c.ranges.rise) at c.next_unit_holds.ensures in
    let last = rw (to_z-of_z w64 c.args.x c.ranges.x, to_z-of_z w64 c.args.lo c.ranges.lo, to_z-of_z w128 c.args.rise c.ranges.rise) at c.last_unit_holds.ensures in
    let above : c.args.lo ≤ℤ c.args.x = not_below c.args.x c.args.lo (rw (to_z-of_z w64 c.args.x c.ranges.x, to_z-of_z w64 c.args.lo c.ranges.lo) at c.if-x-lo.false) in
    let below : c.args.x ≤ℤ c.args.hi = not_below c.args.hi c.args.x (rw (to_z-of_z w64 c.args.x c.ranges.x, to_z-of_z w64 c.args.hi c.ranges.hi) at c.if-x-hi.false) in
    (λ t. shown_by _ _ _ _ _ above below (next.0 c.if-next_unit_holds.true) (last.0 t), λ s. last.1 (shown_down _ _ _ _ _ s))

pub returns-else-next_unit_holds : goal.returns-else-next_unit_holds
returns-else-next_unit_holds g c =
    let next = rw (to_z-of_z w64 c.args.x c.ranges.x, to_z-of_z w64 c.args.hi c.ranges.hi, to_z-of_z w128 c.args.rise c.ranges.rise) at c.next_unit_holds.ensures in
    (λ t. absurd (let f = c.if-next_unit_holds.false in cc), λ s. next.1 (shown_up _ _ _ _ _ s))
