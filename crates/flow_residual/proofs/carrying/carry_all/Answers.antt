use Rattle.std.proofs.Common.{◌≡◌, ◌<◌, length, pos, get_or, ◌∙◌, arith, refl}
use Rattle.std.proofs.lemmas.Int.{ints}
use mir.Syntax.{w64}
use mir.Val.{to_z, of_z}
use Rattle.flow_residual.proofs.Excesses.{zip_length, flow_small, next_small, next_excess, all_small}
use Rattle.flow_residual.proofs.carrying.carry_all.Goals as goal

pub bounds-flows-a : goal.bounds-flows-a
bounds-flows-a g c = omega (arith, zip_length c.args.g.now.arcs c.args.flows.now c.requires.flows, c.loop-a-test.true, c.arc_count-a-end.ensures.count)

pub carry-requires-clause-x : goal.carry-requires-clause-x
carry-requires-clause-x g c =
    let w = flow_small (length c.args.g.now.nodes) c.args.g.now.arcs c.args.flows.now c.loop-a.a c.arc_count-a-end.ensures.network.arcs_fit c.requires.flows (omega (arith, c.loop-a-test.true, c.arc_count-a-end.ensures.count)) in
    let e : to_z w64 (of_z w64 (get_or c.args.flows.now c.loop-a.a (pos 0))) ≡ get_or c.args.flows.now c.loop-a.a (pos 0) = omega (arith, ints, w.low, w.high) in
    rw e (record { low = omega (arith, ints, w.low); high = omega (arith, ints, w.high) })

pub carry-requires-clause-small : goal.carry-requires-clause-small
carry-requires-clause-small g c =
    all_small c.loop-a.out.items c.loop-a.a (length c.args.g.now.nodes) c.loop-a.invariant.counted
    (omega (arith, c.loop-a-test.true, c.arc_count-a-end.ensures.count, c.arc_count-a-end.ensures.network.arc_limit)) c.loop-a.invariant.small

pub loop-a-preserved : goal.loop-a-preserved
loop-a-preserved g c =
    let there : c.loop-a.a < length c.args.g.now.arcs = omega (arith, c.loop-a-test.true, c.arc_count-a-end.ensures.count) in
    let long : c.loop-a.a < length c.args.flows.now = omega (arith, there, zip_length c.args.g.now.arcs c.args.flows.now c.requires.flows) in
    let w = flow_small (length c.args.g.now.nodes) c.args.g.now.arcs c.args.flows.now c.loop-a.a c.arc_count-a-end.ensures.network.arcs_fit c.requires.flows there in
    let e : to_z w64 (of_z w64 (get_or c.args.flows.now c.loop-a.a (pos 0))) ≡ get_or c.args.flows.now c.loop-a.a (pos 0) = omega (arith, ints, w.low, w.high) in
    let carried = rw e at c.carry.ensures.carried in
    record {
      counted = c.carry.ensures.counted ∙ c.loop-a.invariant.counted;
      small = λ n l. next_small c.loop-a.a c.ends.result.0.0 c.ends.result.1.0 n (get_or c.args.flows.now c.loop-a.a (pos 0)) (get_or c.loop-a.out.items n (pos 0)) (get_or c.carry.new.out.items n (pos 0)) w
          (c.loop-a.invariant.small n l) (carried n (omega (arith, l, c.loop-a.invariant.counted)));
      each = λ n l. next_excess c.args.g.now.arcs c.args.flows.now c.loop-a.a n c.ends.result.0.0 c.ends.result.1.0 (get_or c.args.flows.now c.loop-a.a (pos 0)) (get_or c.loop-a.out.items n (pos 0)) (get_or c.carry.new.out.items n (pos 0))
          there long c.ends.ensures.ends refl (carried n (omega (arith, l, c.loop-a.invariant.counted))) (c.loop-a.invariant.each n l);
    }
