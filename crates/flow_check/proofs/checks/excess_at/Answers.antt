use Rattle.std.proofs.Common.{◌≡◌, ◌<◌, ◌*◌, ◌^◌, length, All, List, get_or, pos, ◌+ℤ◌, refl, sym, subst, ap, ◌∙◌, rules, arith}
use Rattle.std.specs.List.Sorted.{IsPermutation}
use Rattle.std.proofs.lemmas.Int.{ints, to_z-of_z}
use Rattle.std.proofs.lemmas.List.Sorted.{All-permutation, length_permutation}
use Rattle.std.proofs.lemmas.List.Elements.{All-tail}
use mir.Syntax.{w64, w128}
use mir.Val.{to_z, SFits}
use Rattle.flow_graph.specs.declared.arcs.ArcId.{ArcId}
use Rattle.flow_graph.specs.Network.{arcs_touching}
use Rattle.flow_graph.proofs.Linked.{arcs_touching_within, length-arcs_touching}
use Rattle.flow_check.proofs.Touching.{adds, adds_is, adds_small, fits_small, excess_by_arcs, next_arc, last_arc, next_small}
use Rattle.flow_check.proofs.checks.excess_at.Goals as goal

pub loop-a-init : goal.loop-a-init
loop-a-init g c =
    let touching : List ArcId = arcs_touching c.args.node.0 0 c.args.g.now.arcs in
    let order : IsPermutation (arcs_touching c.args.node.0 0 c.args.g.now.arcs) c.into_iter-a-iterator.result =
    subst (λ (z : List ArcId). IsPermutation (arcs_touching c.args.node.0 0 c.args.g.now.arcs) z) (sym c.into_iter-a-iterator.ensures.into_iter_gives) c.arcs_at-a-items.ensures in
    record {
      there = All-permutation (λ (a : ArcId). a.0 < length c.args.g.now.arcs) touching c.into_iter-a-iterator.result order
          (arcs_touching_within c.args.node.0 0 (length c.args.g.now.arcs) c.args.g.now.arcs (omega arith));
      sum = omega (arith, ints, excess_by_arcs c.args.g.now.arcs c.args.flows.now c.args.node.0 c.into_iter-a-iterator.result c.requires.flows order);
      small = omega (arith, length_permutation touching c.into_iter-a-iterator.result order, length-arcs_touching c.args.node.0 0 c.args.g.now.arcs, c.requires.network.arc_limit);
    }

pub loop-a-preserved : goal.loop-a-preserved
loop-a-preserved g c =
    let a : ArcId = c.in-Some.a in
    let flow : SFits w64 (get_or c.args.flows.now c.in-Some.a.0 (pos 0)) = search rules in
    let fits : SFits w128 c.with_arc-excess.result = record { sfits = c.with_arc-excess.type_inv } in
    let added : c.with_arc-excess.result ≡ to_z w128 c.loop-a.excess-bits +ℤ adds c.args.g.now.arcs c.args.flows.now c.args.node.0 c.in-Some.a =
    (rw (to_z-of_z w64 (get_or c.args.flows.now c.in-Some.a.0 (pos 0)) flow) at c.with_arc-excess.ensures)
    ∙ ap (λ z. to_z w128 c.loop-a.excess-bits +ℤ z) (adds_is c.args.g.now.arcs c.args.flows.now c.args.node.0 c.in-Some.a c.ends.result.0.0 c.ends.result.1.0 _ c.ends.ensures.ends refl) in
    record {
      there = All-tail (λ (a : ArcId). a.0 < length c.args.g.now.arcs) c.in-Some.a c.next.new.self (subst (λ z. All (λ (a : ArcId). a.0 < length c.args.g.now.arcs) z) c.in-Some.ensures.steps c.loop-a.invariant.there);
      sum = rw (to_z-of_z w128 c.with_arc-excess.result fits, added)
          (next_arc c.args.g.now.arcs c.args.flows.now c.args.node.0 c.in-Some.a c.loop-a.a-iterator c.next.new.self _ _ _ c.in-Some.ensures.steps refl c.loop-a.invariant.sum);
      small = rw (to_z-of_z w128 c.with_arc-excess.result fits, added)
          (next_small c.in-Some.a c.loop-a.a-iterator c.next.new.self (to_z w128 c.loop-a.excess-bits) (adds c.args.g.now.arcs c.args.flows.now c.args.node.0 c.in-Some.a) (524_288 * 2 ^ 63) c.in-Some.ensures.steps
          (adds_small c.args.g.now.arcs c.args.flows.now c.args.node.0 c.in-Some.a (fits_small _ flow)) c.loop-a.invariant.small);
    }

pub returns : goal.returns
returns g c = last_arc c.args.g.now.arcs c.args.flows.now c.args.node.0 c.loop-a.a-iterator _ _ c.in-None.ensures.steps.0 c.loop-a.invariant.sum
