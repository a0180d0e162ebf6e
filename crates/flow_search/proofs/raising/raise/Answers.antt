use Rattle.std.proofs.Common.{◌≡◌, ℕ, ◌<◌, ◌≤◌, ◌*◌, ◌^◌, length, sym, subst, ◌∙◌, pos, negsuc, arith, rules}
use Rattle.std.proofs.lemmas.Int.{to_z-of_z}
use Rattle.std.proofs.lemmas.List.{get_or_read}
use Rattle.std.proofs.lemmas.Option.{get_or_from_slice_get}
use mir.Syntax.{w128}
use mir.Val.{to_z, of_z, SFits}
use Rattle.flow_cost.specs.Cost.{IsWithin}
use Rattle.flow_residual.specs.Edges.{potential_at}
use Rattle.flow_search.specs.Labels.{labels_of, distance}
use Rattle.flow_search.specs.Frontier.{IsGain}
use Rattle.flow_search.proofs.Ways.{raised_more, gain_range, sum_in_range}
use Rattle.flow_search.proofs.raising.raise.Goals as goal

self_least : (v : ℕ) → v ≤ v
self_least v = omega arith

pub set_potential-requires-clause-in_range : goal.set_potential-requires-clause-in_range
set_potential-requires-clause-in_range g c =
    let there : c.loop-v.v < length c.args.s.now.graph.nodes = subst (λ z. c.loop-v.v < length z.nodes) c.graph.ensures.value (rw (← c.node_count-v-end.ensures.count) c.loop-v-test.true) in
    let fit : to_z w128 (of_z w128 c.args.top) ≡ c.args.top = to_z-of_z w128 c.args.top c.ranges.top in
    let k = gain_range (to_z w128 (of_z w128 c.index.result.now)) c.args.top c.gain-up.result c.requires.low (rw fit at c.gain-up.ensures) in
    let old : potential_at c.args.s.now c.loop-v.v ≡ c.potential-p.result =
    sym (c.loop-v.invariant.other c.loop-v.v (self_least c.loop-v.v)) ∙ get_or_from_slice_get c.loop-v.s.potentials c.loop-v.v c.potential-p.result (pos 0) c.potential-p.ensures in
    let w = subst (λ z. IsWithin (pos (2 * 10 ^ 22)) z) old (c.requires.potentials.within c.loop-v.v (pos 0) (subst (λ z. c.loop-v.v < z) (sym c.requires.potentials.counted) there)) in
    (sum_in_range c.potential-p.result c.gain-up.result c.args.top w k.0 k.1 c.requires.high).0

pub loop-v-preserved : goal.loop-v-preserved
loop-v-preserved g c =
    let there : c.loop-v.v < length c.args.s.now.graph.nodes = subst (λ z. c.loop-v.v < length z.nodes) c.graph.ensures.value (rw (← c.node_count-v-end.ensures.count) c.loop-v-test.true) in
    let fit : to_z w128 (of_z w128 c.args.top) ≡ c.args.top = to_z-of_z w128 c.args.top c.ranges.top in
    let k = gain_range (to_z w128 (of_z w128 c.index.result.now)) c.args.top c.gain-up.result c.requires.low (rw fit at c.gain-up.ensures) in
    let old : potential_at c.args.s.now c.loop-v.v ≡ c.potential-p.result =
    sym (c.loop-v.invariant.other c.loop-v.v (self_least c.loop-v.v)) ∙ get_or_from_slice_get c.loop-v.s.potentials c.loop-v.v c.potential-p.result (pos 0) c.potential-p.ensures in
    let w = subst (λ z. IsWithin (pos (2 * 10 ^ 22)) z) old (c.requires.potentials.within c.loop-v.v (pos 0) (subst (λ z. c.loop-v.v < z) (sym c.requires.potentials.counted) there)) in
    let sum = (sum_in_range c.potential-p.result c.gain-up.result c.args.top w k.0 k.1 c.requires.high).1 in
    let f : SFits w128 c.index.result.now = search rules in
    let read : to_z w128 (of_z w128 c.index.result.now) ≡ distance (labels_of c.args.room.now) c.loop-v.v =
    to_z-of_z w128 c.index.result.now f ∙ get_or_read c.args.room.now.dist.items c.loop-v.v c.index.result.now (subst (λ z. c.loop-v.v < z) (sym c.requires.room.dist ∙ c.args.room.now.dist.ok.0) there) c.index.ensures (negsuc 0) in
    let gain : IsGain (distance (labels_of c.args.room.now) c.loop-v.v) (to_z w128 (of_z w128 c.args.top)) c.gain-up.result =
    subst (λ z. IsGain z (to_z w128 (of_z w128 c.args.top)) c.gain-up.result) read c.gain-up.ensures in
    let m = raised_more (labels_of c.args.room.now) (to_z w128 (of_z w128 c.args.top)) c.args.s.now c.loop-v.s c.set_potential.new.self c.loop-v.v c.potential-p.result c.gain-up.result
    (record { rest = c.loop-v.invariant.rest; sized = c.loop-v.invariant.sized; done = c.loop-v.invariant.done; other = c.loop-v.invariant.other })
    (subst (λ z. c.loop-v.v < z) (sym c.requires.potentials.counted) there) c.potential-p.ensures gain (rw sum at c.set_potential.ensures) in
    record { rest = m.rest; sized = m.sized; done = m.done; other = m.other }
