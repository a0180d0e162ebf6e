use Rattle.std.proofs.Common.{◌≡◌, length, subst, sym, ap, refl}
use Rattle.std.proofs.lemmas.Int.{to_z-of_z}
use mir.Syntax.{w64}
use mir.Val.{to_z, of_z}
use Rattle.flow_residual.specs.Flows.{Flow, IsStep, MeetsAll}
use Rattle.flow_residual.specs.Rooms.{IsRoomFor}
use Rattle.flow_solve.specs.Progress.{Augments, IsClosedOff}
use Rattle.flow_solve.proofs.Underway.{augments_from, closed_from}
use Rattle.flow_solve.proofs.advancing.advance.Goals as goal

pub search-requires-clause-condition : goal.search-requires-clause-condition
search-requires-clause-condition g c =
    subst (λ z. MeetsAll g.C.Cost.value_at z c.bring_near.new.s) (sym (to_z-of_z w64 c.args.step c.ranges.step)) (c.bring_near.ensures.condition c.args.step c.requires.step c.requires.condition)

pub augment-requires-clause-path : goal.augment-requires-clause-path
augment-requires-clause-path g c = c.in-Path.ensures.path refl

pub returns-in-Path-clause-moved : goal.returns-in-Path-clause-moved
returns-in-Path-clause-moved g c = λ _.
    let e = to_z-of_z w64 c.args.step c.ranges.step in
    let path = c.in-Path.ensures.path refl in
    let ends = c.in-Path.ensures.ends refl in
    let low = (subst (λ z. IsStep z) (sym e) c.requires.step).low in
    subst (λ z. Augments g.C.Cost.value_at z c.args.s.now c.augment.new.self c.args.source.0) e
    (augments_from g.N.PartialEq.eq g.A.PartialEq.eq g.C.Cost.span_of g.C.Cost.value_at (to_z w64 (of_z w64 c.args.step)) c.args.s.now c.bring_near.new.s c.search.new.s c.augment.new.self c.args.source.0 c.search.new.room
    low c.bring_near.ensures.rest c.in-Path.ensures.rest path.0 path.1 (ap (λ z. z.0) ends.0) ends.1 ends.2 (c.augment.ensures.flows path.0 path.1)
    (c.augment.ensures.condition c.in-Path.ensures.condition) c.graph.ensures.kept)

pub returns-in-Path-clause-room : goal.returns-in-Path-clause-room
returns-in-Path-clause-room g c =
    let path = c.in-Path.ensures.path refl in
    let same : length c.augment.new.self.graph.nodes ≡ length c.search.new.s.graph.nodes = ap (λ (z : Flow g.row.N.Denot g.row.A.Denot g.row.C.Denot). length z.graph.nodes) (c.augment.ensures.flows path.0 path.1) in
    subst (λ n. IsRoomFor n c.search.new.room) (sym same) c.in-Path.ensures.room

pub returns-in-Closed-clause-closed : goal.returns-in-Closed-clause-closed
returns-in-Closed-clause-closed g c = λ _.
    let e = to_z-of_z w64 c.args.step c.ranges.step in
    subst (λ z. IsClosedOff z c.search.new.s c.args.source.0 c.search.new.room.set.items) e
    (closed_from (to_z w64 (of_z w64 c.args.step)) c.args.s.now c.bring_near.new.s c.search.new.s c.args.source.0 c.search.new.room.set.items c.bring_near.ensures.rest (c.in-Closed.ensures.stays refl) c.requires.there
    (rw e c.requires.excess) (c.in-Closed.ensures.set refl) (c.in-Closed.ensures.closed.0 refl))
