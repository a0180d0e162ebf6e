use Rattle.std.proofs.Common.{◌<◌, length, All, refl, sym, subst, ◌∙◌, List, arith}
use Rattle.std.specs.List.Sorted.{IsPermutation}
use Rattle.std.proofs.lemmas.List.Sorted.{All-permutation}
use Rattle.std.proofs.lemmas.List.Elements.{All-head, All-tail}
use Rattle.flow_graph.specs.declared.arcs.ArcId.{ArcId}
use Rattle.flow_graph.specs.Network.{arcs_touching}
use Rattle.flow_search.proofs.Touching.{touching_below}
use Rattle.flow_search.proofs.meeting.look.Goals as goal

pub loop-a-init : goal.loop-a-init
loop-a-init g c =
    let p = subst (λ z. IsPermutation (arcs_touching c.args.u.0 0 z.arcs) c.arcs_at-a-items.result) c.graph.ensures.value c.arcs_at-a-items.ensures in
    let q : IsPermutation (arcs_touching c.args.u.0 0 c.args.s.now.graph.arcs) c.into_iter-a-iterator.result =
    subst (λ (z : List ArcId). IsPermutation (arcs_touching c.args.u.0 0 c.args.s.now.graph.arcs) z) (sym c.into_iter-a-iterator.ensures.into_iter_gives) p in
    record {
      within = All-permutation (λ (a : ArcId). a.0 < length c.args.s.now.graph.arcs) (arcs_touching c.args.u.0 0 c.args.s.now.graph.arcs) c.into_iter-a-iterator.result q
          (touching_below c.args.u.0 0 (length c.args.s.now.graph.arcs) c.args.s.now.graph.arcs (omega arith));
      room = c.requires.room;
      source = refl;
      aside = refl;
    }

pub try_arc-requires-clause-there : goal.try_arc-requires-clause-there
try_arc-requires-clause-there g c =
    All-head (λ (a : ArcId). a.0 < length c.args.s.now.graph.arcs) c.in-Some.a c.next.new.self (subst (λ z. All (λ (a : ArcId). a.0 < length c.args.s.now.graph.arcs) z) c.in-Some.ensures.steps c.loop-a.invariant.within)

pub returns-then-try_arc-clause-arc : goal.returns-then-try_arc-clause-arc
returns-then-try_arc-clause-arc g c =
    All-head (λ (a : ArcId). a.0 < length c.args.s.now.graph.arcs) c.in-Some.a c.next.new.self (subst (λ z. All (λ (a : ArcId). a.0 < length c.args.s.now.graph.arcs) z) c.in-Some.ensures.steps c.loop-a.invariant.within)

pub loop-a-preserved : goal.loop-a-preserved
loop-a-preserved g c = record {
  within = All-tail (λ (a : ArcId). a.0 < length c.args.s.now.graph.arcs) c.in-Some.a c.next.new.self (subst (λ z. All (λ (a : ArcId). a.0 < length c.args.s.now.graph.arcs) z) c.in-Some.ensures.steps c.loop-a.invariant.within);
  room = c.try_arc.ensures.room;
  source = c.try_arc.ensures.source ∙ c.loop-a.invariant.source;
  aside = c.try_arc.ensures.aside ∙ c.loop-a.invariant.aside;
}
