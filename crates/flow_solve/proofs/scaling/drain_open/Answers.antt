use Rattle.std.proofs.Common.{subst, sym}
use Rattle.std.proofs.lemmas.Int.{to_z-of_z}
use mir.Syntax.{w64}
use mir.Val.{to_z, of_z}
use Rattle.flow_residual.specs.Flows.{MeetsAll}
use Rattle.flow_residual.specs.Rooms.{IsRoomFor}
use Rattle.flow_solve.proofs.Passed.{passed_none}
use Rattle.flow_solve.proofs.Underway.{underway_none, underway_on}
use Rattle.flow_solve.proofs.scaling.drain_open.Goals as goal

pub loop-n-init : goal.loop-n-init
loop-n-init g c =
    let step = to_z w64 (of_z w64 c.args.step) in
    let e = to_z-of_z w64 c.args.step c.ranges.step in
    record {
      underway = underway_none g.C.Cost.value_at step c.args.s.now c.args.steps.now (subst (λ z. MeetsAll g.C.Cost.value_at z c.args.s.now) (sym e) c.requires.condition);
      room = subst (λ z. IsRoomFor z c.put_none_aside.new.room) c.requires.room.set c.put_none_aside.ensures.room;
      passed = passed_none step c.args.s.now c.put_none_aside.new.room.aside.items c.put_none_aside.ensures.none;
    }

pub loop-n-preserved : goal.loop-n-preserved
loop-n-preserved g c = record {
  underway = underway_on g.C.Cost.value_at (to_z w64 (of_z w64 c.args.step)) c.args.s.now c.loop-n.s c.drain_or_put_aside.new.s c.args.steps.now c.loop-n.steps c.drain_or_put_aside.new.steps c.loop-n.invariant.underway c.drain_or_put_aside.ensures.underway;
  room = c.drain_or_put_aside.ensures.room;
  passed = c.drain_or_put_aside.ensures.passed;
}
