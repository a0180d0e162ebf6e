use Rattle.std.proofs.Common.{◌≡◌, subst, arith, refl}
use Rattle.std.proofs.lemmas.Int.{ints}
use Rattle.std.proofs.lemmas.List.Sorted.{length_permutation}
use Rattle.flow_residual.specs.Flows.{Flow}
use Rattle.flow_residual.specs.Rooms.{KeepsShown}
use Rattle.flow_residual.proofs.Closed.{order_from, shown_kept}
use Rattle.flow_residual.proofs.Kept.{kept_potentials}
use Rattle.flow_residual.proofs.states.State.close_gaps.Goals as goal

pub number_nodes-requires : goal.number_nodes-requires
number_nodes-requires g c =
    omega (arith, c.requires.heap, c.args.room.now.heap.ok, c.graph.ensures.kept.network.node_limit)

pub close-requires-clause-order : goal.close-requires-clause-order
close-requires-clause-order g c =
    let room = rw (← c.self.view_is) at c.requires in
    rw (c.deref-2.ensures.value) (order_from c.number_nodes.new.nodes.items c.sort_nodes.new.nodes.items c.self.inside.potentials.items c.number_nodes.ensures.numbered c.sort_nodes.ensures.permutation
    (omega (arith, room.heap, c.args.room.now.heap.ok, c.number_nodes.ensures.counted, c.self.invariant.flow.potentials.counted))
    (rw (c.deref.ensures.value) at c.sort_nodes.ensures.ascending))

pub close-requires-clause-small : goal.close-requires-clause-small
close-requires-clause-small g c =
    let room = rw (← c.self.view_is) at c.requires in
    let p = length_permutation c.number_nodes.new.nodes.items c.sort_nodes.new.nodes.items c.sort_nodes.ensures.permutation in
    rw (c.deref-2.ensures.value) (omega (arith, p, room.heap, c.args.room.now.heap.ok, c.number_nodes.ensures.counted, c.self.invariant.flow.network.node_limit))

pub invariant_of-self : goal.invariant_of-self
invariant_of-self g c = kept_potentials g.N.PartialEq.eq g.A.PartialEq.eq g.C.Cost.span_of _ c.self.inside.excesses.items c.close.new.potentials.items c.self.invariant c.close.ensures.counted
    (λ k d l. let r = c.close.ensures.range k d l in record { low = omega (arith, ints, r.0); high = omega (arith, ints, r.1) })

pub returns-clause-rest : goal.returns-clause-rest
returns-clause-rest g c =
    let new : Flow g.row.N.Denot g.row.A.Denot g.row.C.Denot = record { graph = c.self.inside.graph; costs = c.self.inside.costs.items; flows = c.self.inside.flows.items; potentials = c.close.new.potentials.items } in
    subst (λ (z : Flow g.row.N.Denot g.row.A.Denot g.row.C.Denot). new ≡ record z { potentials = c.close.new.potentials.items }) c.self.view_is refl

pub returns-clause-shown : goal.returns-clause-shown
returns-clause-shown g c =
    let new : Flow g.row.N.Denot g.row.A.Denot g.row.C.Denot = record { graph = c.self.inside.graph; costs = c.self.inside.costs.items; flows = c.self.inside.flows.items; potentials = c.close.new.potentials.items } in
    subst (λ (z : Flow g.row.N.Denot g.row.A.Denot g.row.C.Denot). KeepsShown g.C.Cost.value_at z new) c.self.view_is
    (shown_kept g.N.PartialEq.eq g.A.PartialEq.eq g.C.Cost.value_at g.C.Cost.span_of g.met.C.Cost.lawful
    (record { graph = c.self.inside.graph; costs = c.self.inside.costs.items; flows = c.self.inside.flows.items; potentials = c.self.inside.potentials.items })
    c.close.new.potentials.items c.self.invariant.flow c.close.ensures.kept)

pub returns-clause-room : goal.returns-clause-room
returns-clause-room g c =
    let room = rw (← c.self.view_is) at c.requires in
    let p = length_permutation c.number_nodes.new.nodes.items c.sort_nodes.new.nodes.items c.sort_nodes.ensures.permutation in
    record {
      set = room.set;
      dist = room.dist;
      by = room.by;
      heap = omega (arith, p, room.heap, c.args.room.now.heap.ok, c.number_nodes.ensures.counted, c.sort_nodes.new.nodes.ok);
      place = room.place;
      aside = room.aside;
    }
