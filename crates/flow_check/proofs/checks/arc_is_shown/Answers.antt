use Rattle.std.proofs.Common.{◌<◌, length, get_or, ℤ, pos, refl, rules, arith}
use Rattle.std.proofs.lemmas.Int.{to_z-of_z}
use Rattle.std.proofs.lemmas.Option.{slice_get_read, slice_get-get_or}
use mir.Syntax.{w64, w128}
use mir.Val.{SFits}
use Rattle.flow_graph.proofs.ReadArcs.{ends_from}
use Rattle.flow_check.proofs.Shown.{shown_here, shown_there}
use Rattle.flow_check.proofs.checks.arc_is_shown.Goals as goal

pub is_shown-requires-clause-low : goal.is_shown-requires-clause-low
is_shown-requires-clause-low g c =
    let ends = ends_from c.args.g.now.arcs c.args.a.0 c.ends.result.0.0 c.ends.result.1.0 c.bounds-lo.result.0 c.bounds-lo.result.1 c.ends.ensures.ends c.bounds-lo.ensures.value in
    let lo : SFits w64 c.bounds-lo.result.0 = search rules in
    let within : c.args.a.0 < length c.args.costs.now = omega (arith, c.requires.costs.counted, c.requires.there) in
    let cost = slice_get_read c.args.costs.now (length c.args.costs.now) c.args.a.0 c.index-costs-place.result refl within c.index-costs-place.is in
    rw (to_z-of_z w64 c.bounds-lo.result.0 lo, ends.lo_is) (c.requires.costs.within c.args.a.0 ends.arc c.index-costs-place.result ends.arc_is cost).0

pub is_shown-requires-clause-high : goal.is_shown-requires-clause-high
is_shown-requires-clause-high g c =
    let ends = ends_from c.args.g.now.arcs c.args.a.0 c.ends.result.0.0 c.ends.result.1.0 c.bounds-lo.result.0 c.bounds-lo.result.1 c.ends.ensures.ends c.bounds-lo.ensures.value in
    let hi : SFits w64 c.bounds-lo.result.1 = search rules in
    let within : c.args.a.0 < length c.args.costs.now = omega (arith, c.requires.costs.counted, c.requires.there) in
    let cost = slice_get_read c.args.costs.now (length c.args.costs.now) c.args.a.0 c.index-costs-place.result refl within c.index-costs-place.is in
    rw (to_z-of_z w64 c.bounds-lo.result.1 hi, ends.hi_is) (c.requires.costs.within c.args.a.0 ends.arc c.index-costs-place.result ends.arc_is cost).1

pub returns : goal.returns
returns g c =
    let ends = ends_from c.args.g.now.arcs c.args.a.0 c.ends.result.0.0 c.ends.result.1.0 c.bounds-lo.result.0 c.bounds-lo.result.1 c.ends.ensures.ends c.bounds-lo.ensures.value in
    let x : ℤ = get_or c.args.flows.now c.args.a.0 (pos 0) in
    let lo : SFits w64 c.bounds-lo.result.0 = search rules in
    let hi : SFits w64 c.bounds-lo.result.1 = search rules in
    let flow : SFits w64 (get_or c.args.flows.now c.args.a.0 (pos 0)) = search rules in
    let rise : SFits w128 c.rise_between-rise.result = record { sfits = c.rise_between-rise.type_inv } in
    let within : c.args.a.0 < length c.args.costs.now = omega (arith, c.requires.costs.counted, c.requires.there) in
    let cost = slice_get_read c.args.costs.now (length c.args.costs.now) c.args.a.0 c.index-costs-place.result refl within c.index-costs-place.is in
    let number = slice_get-get_or c.args.flows.now c.args.a.0 (pos 0) (omega (arith, c.requires.flows, c.requires.there)) in
    let shown = rw (to_z-of_z w64 c.bounds-lo.result.0 lo, to_z-of_z w64 c.bounds-lo.result.1 hi, to_z-of_z w64 (get_or c.args.flows.now c.args.a.0 (pos 0)) flow, to_z-of_z w128 c.rise_between-rise.result rise) at c.is_shown.ensures in (
      λ t. shown_there g.C.Cost.value_at (length c.args.g.now.nodes) c.args.g.now.arcs c.args.costs.now c.args.flows.now c.args.potentials.now c.args.a.0 c.ends.result.0.0 c.ends.result.1.0 c.bounds-lo.result.0 c.bounds-lo.result.1 x c.rise_between-rise.result c.index-costs-place.result ends cost number c.rise_between-rise.ensures (shown.0 t),
      λ h. shown.1 (shown_here g.C.Cost.value_at (length c.args.g.now.nodes) c.args.g.now.arcs c.args.costs.now c.args.flows.now c.args.potentials.now c.args.a.0 c.ends.result.0.0 c.ends.result.1.0 c.bounds-lo.result.0 c.bounds-lo.result.1 x c.rise_between-rise.result c.index-costs-place.result ends cost number c.rise_between-rise.ensures h),
    )
