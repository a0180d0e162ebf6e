use Rattle.std.proofs.Common.{rules, ℤ, ◌<◌, ◌-ℤ◌, sym, ◌≡◌, ◌==◌, if◌then◌else◌, pos, neg_ℤ, ◌+ℤ◌, slice_get, set, get_or, IsSomeAnd, ◌∙◌, subst, arith}
use Rattle.std.proofs.lemmas.Int.{ints, to_z-of_z}
use mir.Syntax.{w64}
use mir.Val.{to_z, of_z, SFits}
use Rattle.flow_residual.specs.Flows.{Flow}
use Rattle.flow_residual.proofs.Kept.{read_small, excesses_small, wide, push_within, push_is, flow_then}
use Rattle.flow_residual.proofs.states.State.push_arc.Goals as goal

added : (x by y : ℤ) → y ≡ x +ℤ by → by ≡ y -ℤ x
added x by y e = omega (arith, ints, e)

pub moved-x-requires-clause-x : goal.moved-x-requires-clause-x
moved-x-requires-clause-x g c =
    let f : SFits w64 c.index.result.now = search rules in
    rw (to_z-of_z w64 c.index.result.now f) (read_small g.N.PartialEq.eq g.A.PartialEq.eq g.C.Cost.span_of _ c.self.invariant.flow c.args.a.0 (rw (← c.self.view_is) at c.requires.there) c.index.result.now c.index.ensures)

pub moved-x-requires-clause-by : goal.moved-x-requires-clause-by
moved-x-requires-clause-by g c =
    let f : SFits w64 c.signed-by.result = record { sfits = c.signed-by.type_inv } in
    rw (to_z-of_z w64 c.signed-by.result f) c.signed-by.ensures.small

pub carry-requires-clause-x : goal.carry-requires-clause-x
carry-requires-clause-x g c =
    let f : SFits w64 c.signed-by.result = record { sfits = c.signed-by.type_inv } in
    rw (to_z-of_z w64 c.signed-by.result f) (wide c.signed-by.result c.signed-by.ensures.small)

pub carry-requires-clause-small : goal.carry-requires-clause-small
carry-requires-clause-small g c = excesses_small g.N.PartialEq.eq g.A.PartialEq.eq g.C.Cost.span_of _ c.self.inside.excesses.items c.self.invariant

pub invariant_of-self : goal.invariant_of-self
invariant_of-self g c =
    let fx : SFits w64 c.index.result.now = search rules in
    let fb : SFits w64 c.signed-by.result = record { sfits = c.signed-by.type_inv } in
    let fv : SFits w64 c.moved-x.result = record { sfits = c.moved-x.type_inv } in
    let there = rw (← c.self.view_is) at c.requires.there in
    let eb = rw (to_z-of_z w64 c.args.step c.ranges.step) at c.signed-by.ensures.value in
    let ev : to_z w64 (of_z w64 c.moved-x.result) ≡ c.index.result.now +ℤ c.signed-by.result = to_z-of_z w64 c.moved-x.result fv ∙ (rw (to_z-of_z w64 c.index.result.now fx, to_z-of_z w64 c.signed-by.result fb) at c.moved-x.ensures) in
    let room = rw (← c.self.view_is) at c.requires.room in
    flow_then g.N.PartialEq.eq g.A.PartialEq.eq g.C.Cost.span_of _ c.self.inside.excesses.items c.carry.new.out.items c.args.a.0 c.ends.result.0.0 c.ends.result.1.0 c.index.result.now (to_z w64 (of_z w64 c.moved-x.result)) c.signed-by.result
    c.self.invariant there c.ends.ensures.ends c.index.ensures
    (push_within (record { graph = c.self.inside.graph; costs = c.self.inside.costs.items; flows = c.self.inside.flows.items; potentials = c.self.inside.potentials.items })
    c.args.a.0 c.ends.result.0.0 c.ends.result.1.0 c.args.to.0 c.args.step c.index.result.now c.signed-by.result (to_z w64 (of_z w64 c.moved-x.result))
    (subst (λ z. c.args.a.0 < z) (sym c.self.invariant.flow.counted) there) c.ends.ensures.ends c.index.ensures eb ev room)
    (added c.index.result.now c.signed-by.result (to_z w64 (of_z w64 c.moved-x.result)) ev) c.carry.ensures.counted (rw (to_z-of_z w64 c.signed-by.result fb) at c.carry.ensures.carried)

pub returns-clause-flows : goal.returns-clause-flows
returns-clause-flows g c =
    let fx : SFits w64 c.index.result.now = search rules in
    let fb : SFits w64 c.signed-by.result = record { sfits = c.signed-by.type_inv } in
    let fv : SFits w64 c.moved-x.result = record { sfits = c.moved-x.type_inv } in
    let there = rw (← c.self.view_is) at c.requires.there in
    let eb = rw (to_z-of_z w64 c.args.step c.ranges.step) at c.signed-by.ensures.value in
    let ev : to_z w64 (of_z w64 c.moved-x.result) ≡ c.index.result.now +ℤ c.signed-by.result = to_z-of_z w64 c.moved-x.result fv ∙ (rw (to_z-of_z w64 c.index.result.now fx, to_z-of_z w64 c.signed-by.result fb) at c.moved-x.ensures) in
    let inner : Flow g.row.N.Denot g.row.A.Denot g.row.C.Denot = record { graph = c.self.inside.graph; costs = c.self.inside.costs.items; flows = c.self.inside.flows.items; potentials = c.self.inside.potentials.items } in
    subst (λ (z : Flow g.row.N.Denot g.row.A.Denot g.row.C.Denot). IsSomeAnd (slice_get z.graph.arcs c.args.a.0) (λ arc. record inner { flows = set c.self.inside.flows.items c.args.a.0 (to_z w64 (of_z w64 c.moved-x.result)) } ≡ record z { flows = set z.flows c.args.a.0 (get_or z.flows c.args.a.0 (pos 0) +ℤ (if arc.head == c.args.to.0 then c.args.step else neg_ℤ c.args.step)) }))
    c.self.view_is
    (push_is (record { graph = c.self.inside.graph; costs = c.self.inside.costs.items; flows = c.self.inside.flows.items; potentials = c.self.inside.potentials.items })
    c.args.a.0 c.ends.result.0.0 c.ends.result.1.0 c.args.to.0 c.args.step c.index.result.now c.signed-by.result (to_z w64 (of_z w64 c.moved-x.result))
    (subst (λ z. c.args.a.0 < z) (sym c.self.invariant.flow.counted) there) c.ends.ensures.ends c.index.ensures eb ev)
