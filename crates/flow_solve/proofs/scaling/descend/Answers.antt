use Rattle.std.proofs.Common.{rules, ◌≡◌, ◌+◌, ◌*◌, ◌^◌, ◌≤◌, subst, sym, ap, ◌∙◌, arith, pos}
use Rattle.std.proofs.lemmas.Int.{to_z-of_z}
use mir.Syntax.{w64}
use mir.Val.{to_z, of_z, SFits}
use Rattle.flow_residual.specs.Flows.{Flow, IsStep, SettlesTo}
use Rattle.flow_solve.specs.Bounds.{size_of}
use Rattle.flow_solve.specs.Progress.{IsUnderway}
use Rattle.flow_solve.specs.Scales.{IsDrained, SettlesNear}
use Rattle.flow_solve.proofs.Scaled.{IsScaleDone, scale_done, count_down}
use Rattle.flow_solve.proofs.Underway.{rest_on, rest_flows}
use Rattle.flow_solve.proofs.scaling.descend.Goals as goal

pub settle_all-requires : goal.settle_all-requires
settle_all-requires g c =
    let fits : SFits w64 c.step_at-step.result = record { sfits = c.step_at-step.type_inv } in
    subst (λ z. IsStep z) (sym (to_z-of_z w64 c.step_at-step.result fits)) c.step_at-step.ensures.step

pub drain_open-requires-clause-step : goal.drain_open-requires-clause-step
drain_open-requires-clause-step g c =
    let fits : SFits w64 c.step_at-step.result = record { sfits = c.step_at-step.type_inv } in
    subst (λ z. IsStep z) (sym (to_z-of_z w64 c.step_at-step.result fits)) c.step_at-step.ensures.step

pub loop-k-preserved : goal.loop-k-preserved
loop-k-preserved g c =
    let fits : SFits w64 c.step_at-step.result = record { sfits = c.step_at-step.type_inv } in
    let is : to_z w64 (of_z w64 c.step_at-step.result) ≡ pos (2 ^ c.loop-k.k) = to_z-of_z w64 c.step_at-step.result fits ∙ c.step_at-step.ensures.value in
    let some : 1 ≤ c.loop-k.k = search rules in
    let rest = rest_on c.args.s.now c.loop-k.s c.drain_open.new.s c.loop-k.invariant.rest
    (rest_on c.loop-k.s c.settle_all.new.self c.drain_open.new.s (rest_flows c.loop-k.s c.settle_all.new.self c.settle_all.ensures.rest) c.drain_open.ensures.underway.rest) in
    let same : size_of c.args.s.now ≡ size_of c.drain_open.new.s = sym (ap (λ (z : Flow g.row.N.Denot g.row.A.Denot g.row.C.Denot). size_of z) rest) in
    let done : SettlesNear g.C.Cost.value_at (pos (2 ^ c.args.first)) (pos (4 * size_of c.args.s.now * 2 ^ c.args.first)) c.args.s.now →
    IsScaleDone g.C.Cost.value_at (size_of c.args.s.now) c.loop-k.k c.drain_open.new.s c.loop-k.steps c.drain_open.new.steps = λ h.
    scale_done g.N.PartialEq.eq g.A.PartialEq.eq g.C.Cost.span_of g.C.Cost.value_at g.met.C.Cost.lawful c.loop-k.s c.settle_all.new.self c.drain_open.new.s (size_of c.args.s.now) c.loop-k.k c.loop-k.steps c.drain_open.new.steps
    some c.graph.ensures.kept same c.settle_all.ensures.rest (subst (λ z. SettlesTo g.C.Cost.value_at z c.loop-k.s c.settle_all.new.self.flows) is c.settle_all.ensures.settled) (c.loop-k.invariant.near h)
    (subst (λ z. IsUnderway g.C.Cost.value_at z c.settle_all.new.self c.drain_open.new.s c.loop-k.steps c.drain_open.new.steps) is c.drain_open.ensures.underway)
    (subst (λ z. IsDrained z c.drain_open.new.s) is c.drain_open.ensures.drained) in
    record {
      room = c.drain_open.ensures.room;
      rest = rest;
      counts_up = omega (arith, c.loop-k.invariant.counts_up, c.drain_open.ensures.underway.counts_up);
      below = omega (arith, c.loop-k.invariant.below);
      near = λ h. (done h).near;
      few = λ h. count_down c.loop-k.steps c.drain_open.new.steps (4 * size_of c.args.s.now) c.loop-k.k (c.args.steps.now + 4 * size_of c.args.s.now * c.args.first) some (done h).few (c.loop-k.invariant.few h);
    }
