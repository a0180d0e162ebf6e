use Rattle.std.proofs.Common.{rules, ◌≡◌, false, ◌+◌, ◌<◌, ◌≤ℤ◌, length, subst, sym, ◌∙◌, arith, IsTrue}
use Rattle.std.proofs.lemmas.Int.{ints, to_z-of_z}
use mir.Syntax.{w64}
use mir.Val.{to_z, of_z}
use Rattle.flow_residual.specs.Flows.{IsStep, excess_of}
use Rattle.flow_solve.specs.Progress.{IsUnderway}
use Rattle.flow_solve.proofs.Underway.{same_nodes, underway_stays, underway_step, underway_on, excess_less}
use Rattle.flow_solve.proofs.advancing.drain.Goals as goal

pub returns-then-not-advance-clause-underway : goal.returns-then-not-advance-clause-underway
returns-then-not-advance-clause-underway g c =
    let e = to_z-of_z w64 c.args.step c.ranges.step in
    let stuck : c.advance.result ≡ false = search rules in
    let u = c.loop-source.invariant.underway in
    subst (λ z. IsUnderway g.C.Cost.value_at z c.args.s.now c.advance.new.s c.args.steps.now c.advance.new.steps) e
    (subst (λ t. IsUnderway g.C.Cost.value_at (to_z w64 (of_z w64 c.args.step)) c.args.s.now c.advance.new.s c.args.steps.now t) (sym (c.advance.ensures.no_tick stuck))
    (underway_on g.C.Cost.value_at (to_z w64 (of_z w64 c.args.step)) c.args.s.now c.loop-source.s c.advance.new.s c.args.steps.now c.loop-source.steps c.loop-source.steps u
    (underway_stays g.C.Cost.value_at (to_z w64 (of_z w64 c.args.step)) c.loop-source.s c.advance.new.s c.loop-source.steps (c.advance.ensures.stays stuck))))

pub loop-source-smaller : goal.loop-source-smaller
loop-source-smaller g c =
    let e = to_z-of_z w64 c.args.step c.ranges.step in
    let done : IsTrue c.advance.result = search rules in
    let u = c.loop-source.invariant.underway in
    let low = (subst (λ z. IsStep z) (sym e) c.requires.step).low in
    let there : c.args.source.0 < length c.loop-source.s.graph.nodes = omega (arith, same_nodes g.C.Cost.value_at (to_z w64 (of_z w64 c.args.step)) c.args.s.now c.loop-source.s c.args.steps.now c.loop-source.steps u, c.requires.there) in
    let enough : to_z w64 (of_z w64 c.args.step) ≤ℤ excess_of c.loop-source.s c.args.source.0 = first_of (search rules, grind (arith, ints)) in
    excess_less g.C.Cost.value_at (to_z w64 (of_z w64 c.args.step)) c.loop-source.s c.args.source.0 c.loop-source.steps low there enough c.advance.new.s (c.advance.ensures.moved done)

pub loop-source-preserved : goal.loop-source-preserved
loop-source-preserved g c =
    let e = to_z-of_z w64 c.args.step c.ranges.step in
    let done : IsTrue c.advance.result = search rules in
    let u = c.loop-source.invariant.underway in
    let low = (subst (λ z. IsStep z) (sym e) c.requires.step).low in
    let there : c.args.source.0 < length c.loop-source.s.graph.nodes = omega (arith, same_nodes g.C.Cost.value_at (to_z w64 (of_z w64 c.args.step)) c.args.s.now c.loop-source.s c.args.steps.now c.loop-source.steps u, c.requires.there) in
    let enough : to_z w64 (of_z w64 c.args.step) ≤ℤ excess_of c.loop-source.s c.args.source.0 = first_of (search rules, grind (arith, ints)) in
    record {
      underway = subst (λ t. IsUnderway g.C.Cost.value_at (to_z w64 (of_z w64 c.args.step)) c.args.s.now c.advance.new.s c.args.steps.now t) (sym (c.advance.ensures.ticks done))
          (underway_on g.C.Cost.value_at (to_z w64 (of_z w64 c.args.step)) c.args.s.now c.loop-source.s c.advance.new.s c.args.steps.now c.loop-source.steps (c.loop-source.steps + 1) u
          (underway_step g.C.Cost.value_at (to_z w64 (of_z w64 c.args.step)) c.loop-source.s c.args.source.0 c.loop-source.steps low there enough c.advance.new.s (c.advance.ensures.moved done)));
      aside = c.advance.ensures.aside ∙ c.loop-source.invariant.aside;
      room = c.advance.ensures.room;
    }
