use Rattle.flow_graph.specs.Contradiction.{in_set, entering_low, leaving_high}
use Rattle.std.proofs.Common.{not, ◌&&◌, arith, rules}
use Rattle.std.proofs.lemmas.Int.{ints, to_z-of_z}
use mir.Syntax.{w64, w128}
use mir.Val.{to_z, SFits}
use Rattle.flow_graph.proofs.ReadArcs.{HasEnds, ends_from}
use Rattle.flow_check.proofs.Cuts.{entering_next, leaving_next, small_next, contradicts_from}
use Rattle.flow_check.proofs.Refutes.{no_circulation}
use Rattle.flow_check.proofs.checks.contradicts.Goals as goal

pub loop-a-preserved : goal.loop-a-preserved
loop-a-preserved g c =
    let ends : HasEnds c.args.g.now.arcs c.loop-a.a c.ends.result.0.0 c.ends.result.1.0 c.bounds-lo.result.0 c.bounds-lo.result.1 =
    ends_from c.args.g.now.arcs c.loop-a.a c.ends.result.0.0 c.ends.result.1.0 c.bounds-lo.result.0 c.bounds-lo.result.1 c.ends.ensures.ends c.bounds-lo.ensures.value in
    let lo : SFits w64 c.bounds-lo.result.0 = search rules in
    let hi : SFits w64 c.bounds-lo.result.1 = search rules in
    let entered : SFits w128 c.with_crossing-entering.result = record { sfits = c.with_crossing-entering.type_inv } in
    let left : SFits w128 c.with_crossing-leaving.result = record { sfits = c.with_crossing-leaving.type_inv } in
    let enter = rw (to_z-of_z w64 c.bounds-lo.result.0 lo) at c.with_crossing-entering.ensures in
    let leave = rw (to_z-of_z w64 c.bounds-lo.result.1 hi) at c.with_crossing-leaving.ensures in
    record {
      enter = rw (to_z-of_z w128 c.with_crossing-entering.result entered, enter)
          (entering_next c.args.set.now c.args.g.now.arcs c.loop-a.a c.ends.result.0.0 c.ends.result.1.0 c.bounds-lo.result.0 c.bounds-lo.result.1 (to_z w128 c.loop-a.entering-bits) (entering_low c.args.set.now c.args.g.now.arcs) ends c.loop-a.invariant.enter);
      leave = rw (to_z-of_z w128 c.with_crossing-leaving.result left, leave)
          (leaving_next c.args.set.now c.args.g.now.arcs c.loop-a.a c.ends.result.0.0 c.ends.result.1.0 c.bounds-lo.result.0 c.bounds-lo.result.1 (to_z w128 c.loop-a.leaving-bits) (leaving_high c.args.set.now c.args.g.now.arcs) ends c.loop-a.invariant.leave);
      enter_small = rw (to_z-of_z w128 c.with_crossing-entering.result entered, enter) (small_next (to_z w128 c.loop-a.entering-bits) c.bounds-lo.result.0 (in_set c.args.set.now c.ends.result.1.0 && not (in_set c.args.set.now c.ends.result.0.0)) c.loop-a.a c.loop-a.invariant.enter_small c.bounds-lo.ensures.bounds.low (omega (arith, ints, c.bounds-lo.ensures.bounds.ordered, c.bounds-lo.ensures.bounds.high)));
      leave_small = rw (to_z-of_z w128 c.with_crossing-leaving.result left, leave) (small_next (to_z w128 c.loop-a.leaving-bits) c.bounds-lo.result.1 (in_set c.args.set.now c.ends.result.0.0 && not (in_set c.args.set.now c.ends.result.1.0)) c.loop-a.a c.loop-a.invariant.leave_small (omega (arith, ints, c.bounds-lo.ensures.bounds.ordered, c.bounds-lo.ensures.bounds.low)) c.bounds-lo.ensures.bounds.high);
    }

pub returns-clause-none : goal.returns-clause-none
returns-clause-none g c = λ t xs k.
    let gap = contradicts_from c.args.set.now c.args.g.now.arcs c.loop-a.a (to_z w128 c.loop-a.entering-bits) (to_z w128 c.loop-a.leaving-bits) (omega (arith, c.arc_count-a-end.ensures.count)) c.loop-a.invariant.enter c.loop-a.invariant.leave (grind (arith, ints)) in
    no_circulation _ c.args.g.now.arcs c.args.set.now c.arc_count-a-end.ensures.network.arcs_fit gap xs k
