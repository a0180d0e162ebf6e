use Rattle.std.proofs.Common.{◌≡◌, ◌<◌, ◌≤◌, ◌^◌, ◌∙◌, length, pos, negsuc, sym, subst, rules}
use Rattle.std.proofs.lemmas.Int.{to_z-of_z}
use Rattle.std.proofs.lemmas.List.{get_or_read}
use mir.Syntax.{w64, w128}
use mir.Val.{to_z, of_z, SFits}
use Rattle.flow_residual.specs.Edges.{IsEdge}
use Rattle.flow_search.proofs.Offered.{IsReadAt, IsOffer, read_at, offered}
use Rattle.flow_search.proofs.Ready.{near_relaxed}
use Rattle.flow_search.specs.Labels.{labels_of, distance}
use Rattle.flow_search.specs.Frontier.{ready_at}
use Rattle.flow_search.proofs.relaxing.relax_move.Given.{Over}
use Rattle.flow_cost.specs.Cost.{IsWithin}
use Rattle.flow_search.proofs.relaxing.relax_move.Goals as goal

pub further-d-requires-clause-at : goal.further-d-requires-clause-at
further-d-requires-clause-at g c =
    let at = read_at g.C.Cost.value_at c.args.step c.args.s.now (labels_of c.args.room.now) c.args.u.0 c.index-at.result.now
    c.requires.relaxing c.requires.potentials c.requires.kept.network.node_limit c.index-at.ensures in
    subst (λ z. IsWithin (pos (10 ^ 23)) z) (sym at.is) at.small

-- what the offer gives, and the node's own distance
offer_is : (g : Over) (c : goal.After-offer-arg-in-Some-1 g) →
    IsReadAt g.C.Cost.value_at c.args.step c.args.s.now (labels_of c.args.room.now) c.args.u.0 c.index-at.result.now
    × IsOffer g.C.Cost.value_at c.args.step c.args.s.now (labels_of c.args.room.now) c.args.u.0 (record { arc = c.args.a.0; up = c.args.up }) c.in-Some.v.0 (to_z w128 (of_z w128 c.further-d.result))
offer_is g c =
    let at = read_at g.C.Cost.value_at c.args.step c.args.s.now (labels_of c.args.room.now) c.args.u.0 c.index-at.result.now
    c.requires.relaxing c.requires.potentials c.requires.kept.network.node_limit c.index-at.ensures in
    let e : IsEdge g.C.Cost.value_at c.args.step c.args.s.now (record { arc = c.args.a.0; up = c.args.up }) c.args.u.0 c.in-Some.v.0 c.in-Some.price =
    rw (to_z-of_z w64 c.args.step c.ranges.step) at c.in-Some.ensures.edge in (
      at,
      offered g.C.Cost.value_at c.args.step c.args.s.now (labels_of c.args.room.now) c.args.u.0 (record { arc = c.args.a.0; up = c.args.up }) c.in-Some.v.0 c.in-Some.price c.index-at.result.now c.further-d.result
          c.requires.relaxing c.requires.condition at e c.in-Some.ensures.small (record { sfits = c.further-d.type_inv }) c.further-d.ensures,
    )

pub offer-requires-clause-low : goal.offer-requires-clause-low
offer-requires-clause-low g c = (offer_is g c).1.low

pub offer-requires-clause-small : goal.offer-requires-clause-small
offer-requires-clause-small g c = subst (λ z. z ≤ 262_144) (sym c.requires.room.set) c.requires.kept.network.node_limit

pub offer-requires-clause-lists : goal.offer-requires-clause-lists
offer-requires-clause-lists g c = let e = (offer_is g c).0.is in rw e c.requires.lists

pub is_sink_next-before_last-requires-clause-there : goal.is_sink_next-before_last-requires-clause-there
is_sink_next-before_last-requires-clause-there g c = λ j h.
    rw c.deref.ensures.value (subst (λ z. ready_at c.args.room.now.heap.items j < z) c.requires.relaxing.explored.frontier.dist (c.requires.lists.kept.ready.within j h))

-- the same, after the offer
offered_is : (g : Over) (c : goal.After-offer g) →
    IsReadAt g.C.Cost.value_at c.args.step c.args.s.now (labels_of c.args.room.now) c.args.u.0 c.index-at.result.now
    × IsOffer g.C.Cost.value_at c.args.step c.args.s.now (labels_of c.args.room.now) c.args.u.0 (record { arc = c.args.a.0; up = c.args.up }) c.in-Some.v.0 (to_z w128 (of_z w128 c.further-d.result))
offered_is g c =
    let at = read_at g.C.Cost.value_at c.args.step c.args.s.now (labels_of c.args.room.now) c.args.u.0 c.index-at.result.now
    c.requires.relaxing c.requires.potentials c.requires.kept.network.node_limit c.index-at.ensures in
    let e : IsEdge g.C.Cost.value_at c.args.step c.args.s.now (record { arc = c.args.a.0; up = c.args.up }) c.args.u.0 c.in-Some.v.0 c.in-Some.price =
    rw (to_z-of_z w64 c.args.step c.ranges.step) at c.in-Some.ensures.edge in (
      at,
      offered g.C.Cost.value_at c.args.step c.args.s.now (labels_of c.args.room.now) c.args.u.0 (record { arc = c.args.a.0; up = c.args.up }) c.in-Some.v.0 c.in-Some.price c.index-at.result.now c.further-d.result
          c.requires.relaxing c.requires.condition at e c.in-Some.ensures.small (record { sfits = c.further-d.type_inv }) c.further-d.ensures,
    )

pub returns-in-Some-clause-relaxing : goal.returns-in-Some-clause-relaxing
returns-in-Some-clause-relaxing g c = ((offered_is g c).1.after (labels_of c.offer.new.room) c.offer.ensures.offered).0

pub returns-in-Some-clause-lowered : goal.returns-in-Some-clause-lowered
returns-in-Some-clause-lowered g c = ((offered_is g c).1.after (labels_of c.offer.new.room) c.offer.ensures.offered).1

pub returns-in-Some-clause-relaxed : goal.returns-in-Some-clause-relaxed
returns-in-Some-clause-relaxed g c = ((offered_is g c).1.after (labels_of c.offer.new.room) c.offer.ensures.offered).2

pub returns-in-Some-clause-lists : goal.returns-in-Some-clause-lists
returns-in-Some-clause-lists g c =
    let o = offered_is g c in
    let same : distance (labels_of c.offer.new.room) c.args.u.0 ≡ distance (labels_of c.args.room.now) c.args.u.0 =
    (o.1.after (labels_of c.offer.new.room) c.offer.ensures.offered).1.done c.args.u.0 c.requires.relaxing.done in
    let e = o.0.is in
    rw same (rw e at c.offer.ensures.lists)

pub returns-in_default-clause-relaxed : goal.returns-in_default-clause-relaxed
returns-in_default-clause-relaxed g c = λ v price e. absurd ((rw (to_z-of_z w64 c.args.step c.ranges.step) at c.in_default.ensures.edge) v price e)

pub returns-then-is_within-clause-relaxed : goal.returns-then-is_within-clause-relaxed
returns-then-is_within-clause-relaxed g c =
    let l = labels_of c.args.room.now in
    let at = read_at g.C.Cost.value_at c.args.step c.args.s.now l c.args.u.0 c.index-at.result.now
    c.requires.relaxing c.requires.potentials c.requires.kept.network.node_limit c.index-at.ensures in
    let f : SFits w128 c.index.result.now = search rules in
    let there : c.entered-to.result.0 < length l.dist = subst (λ z. c.entered-to.result.0 < z) (sym c.requires.relaxing.explored.frontier.dist) c.entered-to.ensures.there in
    let to : to_z w128 (of_z w128 c.index.result.now) ≡ distance l c.entered-to.result.0 =
    to_z-of_z w128 c.index.result.now f ∙ get_or_read c.args.room.now.dist.items c.entered-to.result.0 c.index.result.now there c.index.ensures (negsuc 0) in
    let a = at.is in
    near_relaxed g.C.Cost.value_at c.args.step c.args.s.now l c.args.u.0 c.args.a.0 c.entered-to.result.0 c.args.up c.requires.condition c.entered-to.ensures.node
    (rw (a, to) at (c.is_within.ensures c.if-is_within.true))
