use Rattle.std.proofs.Common.{◌≡◌, length, sym, ap, subst, refl, arith}
use Rattle.std.proofs.lemmas.Int.{to_z-of_z}
use mir.Syntax.{w64}
use mir.Val.{to_z, of_z}
use Rattle.flow_residual.specs.Path.{after_moves}
use Rattle.flow_residual.specs.Rooms.{HoldsPath}
use Rattle.flow_residual.proofs.Along.{left_at_first, hop_there, hop_none, hop_some, arc_there, push_fits, left_more, left_none, path_short, rest_more, rest_with}
use Rattle.flow_residual.proofs.states.State.push_path.Goals as goal

pub loop-made-init : goal.loop-made-init
loop-made-init g c =
    let k = c.graph.ensures.kept in
    record {
      rest = refl;
      left = λ ms h. left_at_first c.args.self.now (to_z w64 (of_z w64 c.args.step)) c.args.room.now ms (rw (to_z-of_z w64 c.args.step c.ranges.step) c.requires.step.low) k.counted k.spans.counted k.bounded h;
    }

pub arc_to-requires : goal.arc_to-requires
arc_to-requires g c = λ h.
    let held = subst (λ z. HoldsPath c.args.self.now z c.args.room.now c.requires.path.0) (sym (to_z-of_z w64 c.args.step c.ranges.step)) c.requires.path.1 in
    let q = hop_there c.loop-made.self c.args.self.now (to_z w64 (of_z w64 c.args.step)) c.args.room.now c.requires.path.0 c.loop-made.to.0 c.loop-made._made (c.loop-made.invariant.left c.requires.path.0 held) h in
    omega (arith, q, c.args.room.now.by.ok)

pub push_arc-to-requires-clause-there : goal.push_arc-to-requires-clause-there
push_arc-to-requires-clause-there g c =
    let held = subst (λ z. HoldsPath c.args.self.now z c.args.room.now c.requires.path.0) (sym (to_z-of_z w64 c.args.step c.ranges.step)) c.requires.path.1 in
    let n = hop_some c.loop-made.self c.args.self.now (to_z w64 (of_z w64 c.args.step)) c.args.room.now c.requires.path.0 c.loop-made.to.0 c.loop-made._made c.in-Some.a (c.loop-made.invariant.left c.requires.path.0 held) c.in-Some.ensures in
    arc_there c.loop-made.self c.args.self.now (to_z w64 (of_z w64 c.args.step)) c.args.room.now c.requires.path.0 c.loop-made.to.0 c.loop-made._made c.in-Some.a.0 n.0 n.1

pub push_arc-to-requires-clause-room : goal.push_arc-to-requires-clause-room
push_arc-to-requires-clause-room g c =
    let held = subst (λ z. HoldsPath c.args.self.now z c.args.room.now c.requires.path.0) (sym (to_z-of_z w64 c.args.step c.ranges.step)) c.requires.path.1 in
    let n = hop_some c.loop-made.self c.args.self.now (to_z w64 (of_z w64 c.args.step)) c.args.room.now c.requires.path.0 c.loop-made.to.0 c.loop-made._made c.in-Some.a (c.loop-made.invariant.left c.requires.path.0 held) c.in-Some.ensures in
    push_fits c.loop-made.self c.args.self.now (to_z w64 (of_z w64 c.args.step)) c.args.room.now c.requires.path.0 c.loop-made.to.0 c.loop-made._made c.in-Some.a.0 n.0 n.1

pub returns-in-None : goal.returns-in-None
returns-in-None g c = λ ms h.
    let e = to_z-of_z w64 c.args.step c.ranges.step in
    let held = subst (λ z. HoldsPath c.args.self.now z c.args.room.now ms) (sym e) h in
    let q = hop_none c.loop-made.self c.args.self.now (to_z w64 (of_z w64 c.args.step)) c.args.room.now ms c.loop-made.to.0 c.loop-made._made (c.loop-made.invariant.left ms held) c.in-None.ensures in
    rest_with c.loop-made.self c.args.self.now _ c.loop-made.invariant.rest (subst (λ z. c.loop-made.self.flows ≡ after_moves z ms c.args.self.now.flows) e q)

pub loop-made-preserved : goal.loop-made-preserved
loop-made-preserved g c = record {
  rest = rest_more c.loop-made.self c.args.self.now c.push_arc-to.new.self _ _ c.push_arc-to.ensures.flows c.loop-made.invariant.rest;
  left = λ ms held.
      let n = hop_some c.loop-made.self c.args.self.now (to_z w64 (of_z w64 c.args.step)) c.args.room.now ms c.loop-made.to.0 c.loop-made._made c.in-Some.a (c.loop-made.invariant.left ms held) c.in-Some.ensures in
      left_more c.loop-made.self c.args.self.now (to_z w64 (of_z w64 c.args.step)) c.args.room.now ms c.loop-made.to.0 c.loop-made._made c.in-Some.a.0 n.0 n.1 c.push_arc-to.new.self c.push_arc-to.result.0 c.push_arc-to.ensures.flows c.push_arc-to.ensures.from;
}

pub returns : goal.returns
returns g c = λ ms h.
    let e = to_z-of_z w64 c.args.step c.ranges.step in
    let held = subst (λ z. HoldsPath c.args.self.now z c.args.room.now ms) (sym e) h in
    let short = path_short c.args.self.now (to_z w64 (of_z w64 c.args.step)) c.args.room.now.source.0 c.args.room.now.last.0 ms c.graph.ensures.kept.network.arcs_fit held.path in
    let same : length c.graph.result.now.nodes ≡ length c.args.self.now.graph.nodes = ap (λ z. length z.nodes) c.graph.ensures.value in
    let q = left_none c.loop-made.self c.args.self.now (to_z w64 (of_z w64 c.args.step)) c.args.room.now ms c.loop-made.to.0 c.loop-made._made (c.loop-made.invariant.left ms held)
    (omega (arith, short, same, c.loop-made-test.false, c.node_count-made-end.ensures.count)) in
    rest_with c.loop-made.self c.args.self.now _ c.loop-made.invariant.rest (subst (λ z. c.loop-made.self.flows ≡ after_moves z ms c.args.self.now.flows) e q)
