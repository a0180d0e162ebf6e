use Rattle.std.proofs.Common.{rules, ◌≡◌, length, sym, ◌∙◌, ap}
use Rattle.std.proofs.lemmas.Int.{to_z-of_z}
use mir.Syntax.{w64}
use mir.Val.{to_z, of_z, SFits}
use Rattle.flow_residual.proofs.Settles.{around, rise_is, same_settled}
use Rattle.flow_residual.proofs.settling.settled.Goals as goal
use Rattle.flow_graph.proofs.Lookups.{read_once}

pub settle-requires-clause-low : goal.settle-requires-clause-low
settle-requires-clause-low g c =
    let fl : SFits w64 c.bounds-lo.result.0 = search rules in
    let r = around g.C.Cost.span_of c.args.g.now.arcs c.args.costs.now c.args.a.0 c.bounds-lo.result.0 c.bounds-lo.result.1 c.args.x c.index-costs-a.result c.requires.spans c.requires.there c.bounds-lo.ensures.value c.requires.within c.index-costs-a.is in
    rw (to_z-of_z w64 c.args.x c.ranges.x, to_z-of_z w64 c.bounds-lo.result.0 fl) (r.low, r.span_low)

pub settle-requires-clause-high : goal.settle-requires-clause-high
settle-requires-clause-high g c =
    let fh : SFits w64 c.bounds-lo.result.1 = search rules in
    let r = around g.C.Cost.span_of c.args.g.now.arcs c.args.costs.now c.args.a.0 c.bounds-lo.result.0 c.bounds-lo.result.1 c.args.x c.index-costs-a.result c.requires.spans c.requires.there c.bounds-lo.ensures.value c.requires.within c.index-costs-a.is in
    rw (to_z-of_z w64 c.args.x c.ranges.x, to_z-of_z w64 c.bounds-lo.result.1 fh) (r.high, r.span_high)

pub returns : goal.returns
returns g c =
    let fl : SFits w64 c.bounds-lo.result.0 = search rules in
    let fh : SFits w64 c.bounds-lo.result.1 = search rules in
    let fr : SFits w64 c.settle.result = record { sfits = c.settle.type_inv } in
    let r = around g.C.Cost.span_of c.args.g.now.arcs c.args.costs.now c.args.a.0 c.bounds-lo.result.0 c.bounds-lo.result.1 c.args.x c.index-costs-a.result c.requires.spans c.requires.there c.bounds-lo.ensures.value c.requires.within c.index-costs-a.is in
    λ arc cost arc_is cost_is.
    let same : r.arc ≡ arc = read_once c.args.g.now.arcs c.args.a.0 r.arc arc r.arc_is arc_is in
    same_settled g.C.Cost.value_at c.index-costs-a.result cost (to_z w64 (of_z w64 c.args.x)) c.args.x (to_z w64 (of_z w64 c.bounds-lo.result.0)) arc.lo (to_z w64 (of_z w64 c.bounds-lo.result.1)) arc.hi
    (to_z w64 (of_z w64 c.args.step)) c.args.step _ _ c.settle.result (to_z w64 (of_z w64 c.settle.result))
    (read_once c.args.costs.now c.args.a.0 c.index-costs-a.result cost r.cost_is cost_is) (to_z-of_z w64 c.args.x c.ranges.x)
    (to_z-of_z w64 c.bounds-lo.result.0 fl ∙ r.lo_is ∙ ap (λ z. z.lo) same) (to_z-of_z w64 c.bounds-lo.result.1 fh ∙ r.hi_is ∙ ap (λ z. z.hi) same)
    (to_z-of_z w64 c.args.step c.ranges.step)
    (rise_is c.args.potentials.now c.args.g.now.arcs c.args.a.0 arc c.ends.result.0.0 c.ends.result.1.0 (length c.args.g.now.nodes) c.rise_of-up.result c.requires.potentials c.ends.ensures.there.0 c.ends.ensures.there.1 c.ends.ensures.ends arc_is c.rise_of-up.ensures.value c.rise_of-up.ensures.small)
    (sym (to_z-of_z w64 c.settle.result fr)) c.settle.ensures
