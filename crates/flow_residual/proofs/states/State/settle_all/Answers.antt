use Rattle.std.proofs.Common.{◌∙◌, subst}
use Rattle.std.proofs.lemmas.Int.{to_z-of_z}
use mir.Syntax.{w64}
use Rattle.flow_residual.specs.Flows.{SettlesTo}
use Rattle.flow_residual.proofs.Kept.{settled_within, settled_all_meet, kept_flows}
use Rattle.flow_residual.proofs.states.State.settle_all.Goals as goal

pub find_excesses-requires-clause-flows : goal.find_excesses-requires-clause-flows
find_excesses-requires-clause-flows g c =
    let each = rw (to_z-of_z w64 c.args.step c.ranges.step, c.deref.ensures.value, c.deref-2.ensures.value) at c.settle_flows.ensures.each in
    let k = c.self.invariant.flow in
    rw (c.deref-3.ensures.value) (settled_within g.C.Cost.value_at c.args.step
    (record { graph = c.self.inside.graph; costs = c.self.inside.costs.items; flows = c.self.inside.flows.items; potentials = c.self.inside.potentials.items })
    c.settle_flows.new.flows.items (record { counted = c.settle_flows.ensures.counted; each = each }) k.counted k.spans.counted)

pub invariant_of-self : goal.invariant_of-self
invariant_of-self g c =
    let each = rw (to_z-of_z w64 c.args.step c.ranges.step, c.deref.ensures.value, c.deref-2.ensures.value) at c.settle_flows.ensures.each in
    let k = c.self.invariant.flow in
    let bounded = settled_within g.C.Cost.value_at c.args.step
    (record { graph = c.self.inside.graph; costs = c.self.inside.costs.items; flows = c.self.inside.flows.items; potentials = c.self.inside.potentials.items })
    c.settle_flows.new.flows.items (record { counted = c.settle_flows.ensures.counted; each = each }) k.counted k.spans.counted in
    kept_flows g.N.PartialEq.eq g.A.PartialEq.eq g.C.Cost.span_of
    (record { graph = c.self.inside.graph; costs = c.self.inside.costs.items; flows = c.self.inside.flows.items; potentials = c.self.inside.potentials.items })
    c.settle_flows.new.flows.items c.find_excesses.new.out.items k (c.settle_flows.ensures.counted ∙ k.counted) bounded c.find_excesses.ensures.counted
    (rw (c.deref-3.ensures.value) at c.find_excesses.ensures.each)

pub returns-clause-settled : goal.returns-clause-settled
returns-clause-settled g c =
    let each = rw (to_z-of_z w64 c.args.step c.ranges.step, c.deref.ensures.value, c.deref-2.ensures.value) at c.settle_flows.ensures.each in
    subst (λ z. SettlesTo g.C.Cost.value_at c.args.step z c.settle_flows.new.flows.items) c.self.view_is (record { counted = c.settle_flows.ensures.counted; each = each })

pub returns-clause-condition : goal.returns-clause-condition
returns-clause-condition g c =
    let each = rw (to_z-of_z w64 c.args.step c.ranges.step, c.deref.ensures.value, c.deref-2.ensures.value) at c.settle_flows.ensures.each in
    settled_all_meet g.C.Cost.value_at c.args.step
    (record { graph = c.self.inside.graph; costs = c.self.inside.costs.items; flows = c.self.inside.flows.items; potentials = c.self.inside.potentials.items })
    c.settle_flows.new.flows.items (record { counted = c.settle_flows.ensures.counted; each = each }) c.requires.low
