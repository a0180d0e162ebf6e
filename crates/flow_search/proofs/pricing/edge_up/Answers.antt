use Rattle.std.proofs.Common.{◌+ℤ◌, ◌≤ℤ◌, sym, subst, ◌∙◌}
use Rattle.std.proofs.lemmas.Int.{to_z-of_z}
use mir.Syntax.{w64, w128}
use mir.Val.{SFits}
use Rattle.flow_cost.proofs.Convex.{between}
use Rattle.flow_residual.proofs.Casts.{seen, has_arc, spans_of, same_from_test, up_room}
use Rattle.flow_search.proofs.Sums.{step_up_fits, above_low}
use Rattle.flow_search.proofs.pricing.edge_up.Goals as goal

pub overflow_add-x : goal.overflow_add-x
overflow_add-x g c =
    let v = seen _ _ _ c.args.s.now c.graph-graph.result.now c.args.a.0 c.ends.result.0.0 c.ends.result.1.0 c.bounds-hi.result.0 c.bounds-hi.result.1 c.flow-x.result c.graph-graph.ensures.kept c.graph-graph.ensures.value c.ends.ensures.ends c.bounds-hi.ensures.value c.flow-x.ensures in
    step_up_fits c.bounds-hi.result.0 c.bounds-hi.result.1 c.flow-x.result c.args.step c.bounds-hi.ensures.bounds v.low v.high c.requires.step

pub price_up-requires-clause-from : goal.price_up-requires-clause-from
price_up-requires-clause-from g c =
    let v = seen _ _ _ c.args.s.now c.graph-graph.result.now c.args.a.0 c.ends.result.0.0 c.ends.result.1.0 c.bounds-hi.result.0 c.bounds-hi.result.1 c.flow-x.result c.graph-graph.ensures.kept c.graph-graph.ensures.value c.ends.ensures.ends c.bounds-hi.ensures.value c.flow-x.ensures in
    let w = spans_of _ _ _ c.args.s.now c.args.a.0 c.ends.result.0.0 c.ends.result.1.0 c.bounds-hi.result.0 c.bounds-hi.result.1 c.flow-x.result c.cost.result.now c.graph-graph.ensures.kept v c.cost.ensures in
    let fits : SFits w64 c.flow-x.result = record { sfits = c.flow-x.type_inv } in
    rw (to_z-of_z w64 c.flow-x.result fits) (between (g.C.Cost.span_of c.cost.result.now) c.bounds-hi.result.0 c.bounds-hi.result.1 c.flow-x.result w.0 w.1 v.low v.high)

pub price_up-requires-clause-to : goal.price_up-requires-clause-to
price_up-requires-clause-to g c =
    let v = seen _ _ _ c.args.s.now c.graph-graph.result.now c.args.a.0 c.ends.result.0.0 c.ends.result.1.0 c.bounds-hi.result.0 c.bounds-hi.result.1 c.flow-x.result c.graph-graph.ensures.kept c.graph-graph.ensures.value c.ends.ensures.ends c.bounds-hi.ensures.value c.flow-x.ensures in
    let w = spans_of _ _ _ c.args.s.now c.args.a.0 c.ends.result.0.0 c.ends.result.1.0 c.bounds-hi.result.0 c.bounds-hi.result.1 c.flow-x.result c.cost.result.now c.graph-graph.ensures.kept v c.cost.ensures in
    let fits : SFits w64 c.flow-x.result = record { sfits = c.flow-x.type_inv } in
    rw (to_z-of_z w64 c.flow-x.result fits, to_z-of_z w64 c.args.step c.ranges.step)
    (between (g.C.Cost.span_of c.cost.result.now) c.bounds-hi.result.0 c.bounds-hi.result.1 (c.flow-x.result +ℤ c.args.step) w.0 w.1 (above_low c.bounds-hi.result.0 c.bounds-hi.result.1 c.flow-x.result c.args.step c.bounds-hi.ensures.bounds v.low v.high c.requires.step) (up_room c.flow-x.result c.args.step c.bounds-hi.result.0 c.bounds-hi.result.1 c.bounds-hi.ensures.bounds v.low v.high c.requires.step c.if-x-step.false))

pub returns-clause-edge : goal.returns-clause-edge
returns-clause-edge g c =
    let v = seen _ _ _ c.args.s.now c.graph-graph.result.now c.args.a.0 c.ends.result.0.0 c.ends.result.1.0 c.bounds-hi.result.0 c.bounds-hi.result.1 c.flow-x.result c.graph-graph.ensures.kept c.graph-graph.ensures.value c.ends.ensures.ends c.bounds-hi.ensures.value c.flow-x.ensures in
    let fits : SFits w64 c.flow-x.result = record { sfits = c.flow-x.type_inv } in
    let fits2 : SFits w128 c.price_up.result = record { sfits = c.price_up.type_inv } in
    let room : (c.flow-x.result +ℤ c.args.step) ≤ℤ c.bounds-hi.result.1 = up_room c.flow-x.result c.args.step c.bounds-hi.result.0 c.bounds-hi.result.1 c.bounds-hi.ensures.bounds v.low v.high c.requires.step c.if-x-step.false in
    record {
      arc = v.arc;
      cost = c.cost.result.now;
      number = c.flow-x.result;
      has = has_arc c.args.s.now c.args.a.0 c.ends.result.0.0 c.ends.result.1.0 c.bounds-hi.result.0 c.bounds-hi.result.1 c.flow-x.result c.cost.result.now v c.cost.ensures;
      from_is = sym (same_from_test c.ends.result.0.0 c.args.u.0 c.ne.result c.ne.ensures c.if-ne.false) ∙ v.tail_is;
      to_is = v.head_is;
      room = subst (λ z. (c.flow-x.result +ℤ c.args.step) ≤ℤ z) v.hi_is room;
      price_is = to_z-of_z w128 c.price_up.result fits2 ∙ (rw (to_z-of_z w64 c.flow-x.result fits, to_z-of_z w64 c.args.step c.ranges.step) at c.price_up.ensures.value);
    }
