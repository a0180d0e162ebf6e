use Rattle.std.proofs.Common.{◌<◌, length, ◌-ℤ◌, ◌≤ℤ◌, neg_ℤ, ap, sym, subst, ◌∙◌}
use Rattle.std.proofs.lemmas.Int.{to_z-of_z}
use mir.Syntax.{w64}
use mir.Val.{SFits}
use Rattle.flow_cost.specs.Cost.{IsWithin}
use Rattle.flow_residual.specs.Edges.{slope_limit}
use Rattle.flow_cost.proofs.Convex.{between}
use Rattle.flow_residual.proofs.Casts.{seen, has_arc, spans_of, same_from_test, down_room, negated}
use Rattle.flow_search.proofs.Sums.{step_down_fits, below_high, turned_small}
use Rattle.flow_search.proofs.pricing.edge_down.Goals as goal

pub overflow_sub-x : goal.overflow_sub-x
overflow_sub-x g c =
    let v = seen _ _ _ c.args.s.now c.graph-graph.result.now c.args.a.0 c.ends.result.0.0 c.ends.result.1.0 c.bounds-lo.result.0 c.bounds-lo.result.1 c.flow-x.result c.graph-graph.ensures.kept c.graph-graph.ensures.value c.ends.ensures.ends c.bounds-lo.ensures.value c.flow-x.ensures in
    step_down_fits c.bounds-lo.result.0 c.bounds-lo.result.1 c.flow-x.result c.args.step c.bounds-lo.ensures.bounds v.low v.high c.requires.step

pub saving_down-requires-clause-from : goal.saving_down-requires-clause-from
saving_down-requires-clause-from g c =
    let v = seen _ _ _ c.args.s.now c.graph-graph.result.now c.args.a.0 c.ends.result.0.0 c.ends.result.1.0 c.bounds-lo.result.0 c.bounds-lo.result.1 c.flow-x.result c.graph-graph.ensures.kept c.graph-graph.ensures.value c.ends.ensures.ends c.bounds-lo.ensures.value c.flow-x.ensures in
    let w = spans_of _ _ _ c.args.s.now c.args.a.0 c.ends.result.0.0 c.ends.result.1.0 c.bounds-lo.result.0 c.bounds-lo.result.1 c.flow-x.result c.cost.result.now c.graph-graph.ensures.kept v c.cost.ensures in
    let fits : SFits w64 c.flow-x.result = record { sfits = c.flow-x.type_inv } in
    rw (to_z-of_z w64 c.flow-x.result fits) (between (g.C.Cost.span_of c.cost.result.now) c.bounds-lo.result.0 c.bounds-lo.result.1 c.flow-x.result w.0 w.1 v.low v.high)

pub saving_down-requires-clause-to : goal.saving_down-requires-clause-to
saving_down-requires-clause-to g c =
    let v = seen _ _ _ c.args.s.now c.graph-graph.result.now c.args.a.0 c.ends.result.0.0 c.ends.result.1.0 c.bounds-lo.result.0 c.bounds-lo.result.1 c.flow-x.result c.graph-graph.ensures.kept c.graph-graph.ensures.value c.ends.ensures.ends c.bounds-lo.ensures.value c.flow-x.ensures in
    let w = spans_of _ _ _ c.args.s.now c.args.a.0 c.ends.result.0.0 c.ends.result.1.0 c.bounds-lo.result.0 c.bounds-lo.result.1 c.flow-x.result c.cost.result.now c.graph-graph.ensures.kept v c.cost.ensures in
    let fits : SFits w64 c.flow-x.result = record { sfits = c.flow-x.type_inv } in
    rw (to_z-of_z w64 c.flow-x.result fits, to_z-of_z w64 c.args.step c.ranges.step)
    (between (g.C.Cost.span_of c.cost.result.now) c.bounds-lo.result.0 c.bounds-lo.result.1 (c.flow-x.result -ℤ c.args.step) w.0 w.1 (down_room c.flow-x.result c.args.step c.bounds-lo.result.0 c.bounds-lo.result.1 c.bounds-lo.ensures.bounds v.low v.high c.requires.step c.if-lo-x.false) (below_high c.bounds-lo.result.0 c.bounds-lo.result.1 c.flow-x.result c.args.step c.bounds-lo.ensures.bounds v.low v.high c.requires.step))

pub returns-clause-edge : goal.returns-clause-edge
returns-clause-edge g c =
    let v = seen _ _ _ c.args.s.now c.graph-graph.result.now c.args.a.0 c.ends.result.0.0 c.ends.result.1.0 c.bounds-lo.result.0 c.bounds-lo.result.1 c.flow-x.result c.graph-graph.ensures.kept c.graph-graph.ensures.value c.ends.ensures.ends c.bounds-lo.ensures.value c.flow-x.ensures in
    let fits : SFits w64 c.flow-x.result = record { sfits = c.flow-x.type_inv } in
    let room : c.bounds-lo.result.0 ≤ℤ (c.flow-x.result -ℤ c.args.step) = down_room c.flow-x.result c.args.step c.bounds-lo.result.0 c.bounds-lo.result.1 c.bounds-lo.ensures.bounds v.low v.high c.requires.step c.if-lo-x.false in
    record {
      arc = v.arc;
      cost = c.cost.result.now;
      number = c.flow-x.result;
      has = has_arc c.args.s.now c.args.a.0 c.ends.result.0.0 c.ends.result.1.0 c.bounds-lo.result.0 c.bounds-lo.result.1 c.flow-x.result c.cost.result.now v c.cost.ensures;
      from_is = sym (same_from_test c.ends.result.1.0 c.args.u.0 c.ne.result c.ne.ensures c.if-ne.false) ∙ v.head_is;
      to_is = v.tail_is;
      room = subst (λ z. z ≤ℤ (c.flow-x.result -ℤ c.args.step)) v.lo_is room;
      price_is = negated c.saving_down.result c.saving_down.ensures.small ∙ ap neg_ℤ (rw (to_z-of_z w64 c.flow-x.result fits, to_z-of_z w64 c.args.step c.ranges.step) at c.saving_down.ensures.value);
    }

pub returns-clause-small : goal.returns-clause-small
returns-clause-small g c =
    (subst (λ z. c.ends.result.0.0 < length z.nodes) c.graph-graph.ensures.value c.ends.ensures.there.0, subst (λ t. IsWithin slope_limit t) (sym (negated c.saving_down.result c.saving_down.ensures.small)) (turned_small c.saving_down.result c.saving_down.ensures.small))
