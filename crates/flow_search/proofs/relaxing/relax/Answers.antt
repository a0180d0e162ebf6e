use Rattle.std.proofs.Common.{◌<◌, length, All, Contains, inl, inr, refl, sym, subst, ◌∙◌, [], List, arith}
use Rattle.std.proofs.lemmas.Int.{to_z-of_z}
use mir.Syntax.{w64}
use mir.Val.{to_z, of_z}
use Rattle.std.specs.List.Sorted.{IsPermutation}
use Rattle.std.proofs.lemmas.List.Sorted.{All-permutation, Contains-permutation}
use Rattle.std.proofs.lemmas.List.Elements.{All-head, All-tail}
use Rattle.flow_search.specs.Labels.{labels_of}
use Rattle.flow_graph.specs.declared.arcs.ArcId.{ArcId}
use Rattle.flow_graph.specs.Network.{arcs_touching}
use Rattle.flow_search.proofs.Labelled.{next_edges, same_lowered, lowered_twice}
use Rattle.flow_search.proofs.Touching.{touching_below, edge_touches}
use Rattle.flow_search.proofs.relaxing.relax.Goals as goal

no_member : (a : ArcId) → Contains [] a → ⊥
no_member a (k, l, e) = omega (arith, l)

pub loop-a-init : goal.loop-a-init
loop-a-init g c =
    let p = subst (λ z. IsPermutation (arcs_touching c.args.u.0 0 z.arcs) c.arcs_at-a-items.result) c.graph.ensures.value c.arcs_at-a-items.ensures in
    let q : IsPermutation (arcs_touching c.args.u.0 0 c.args.s.now.graph.arcs) c.into_iter-a-iterator.result =
    subst (λ (z : List ArcId). IsPermutation (arcs_touching c.args.u.0 0 c.args.s.now.graph.arcs) z) (sym c.into_iter-a-iterator.ensures.into_iter_gives) p in
    record {
      within = All-permutation (λ (a : ArcId). a.0 < length c.args.s.now.graph.arcs) (arcs_touching c.args.u.0 0 c.args.s.now.graph.arcs) c.into_iter-a-iterator.result q
          (touching_below c.args.u.0 0 (length c.args.s.now.graph.arcs) c.args.s.now.graph.arcs (omega arith));
      relaxing = rw (to_z-of_z w64 c.args.step c.ranges.step) c.requires.relaxing;
      lowered = same_lowered g.C.Cost.value_at c.args.step c.args.s.now (labels_of c.args.room.now);
      relaxed = λ m v price e. inl (Contains-permutation (arcs_touching c.args.u.0 0 c.args.s.now.graph.arcs) c.into_iter-a-iterator.result (record { 0 = m.arc }) q
          (edge_touches g.C.Cost.value_at (to_z w64 (of_z w64 c.args.step)) c.args.s.now m c.args.u.0 v price e));
      lists = c.requires.lists;
      source = refl;
      aside = refl;
      room = c.requires.room;
    }

pub relax_move-requires-clause-there : goal.relax_move-requires-clause-there
relax_move-requires-clause-there g c =
    All-head (λ (a : ArcId). a.0 < length c.args.s.now.graph.arcs) c.in-Some.a c.next.new.self (subst (λ z. All (λ (a : ArcId). a.0 < length c.args.s.now.graph.arcs) z) c.in-Some.ensures.steps c.loop-a.invariant.within)

pub relax_move-requires-in-loop-a-clause-there : goal.relax_move-requires-in-loop-a-clause-there
relax_move-requires-in-loop-a-clause-there g c =
    All-head (λ (a : ArcId). a.0 < length c.args.s.now.graph.arcs) c.in-Some.a c.next.new.self (subst (λ z. All (λ (a : ArcId). a.0 < length c.args.s.now.graph.arcs) z) c.in-Some.ensures.steps c.loop-a.invariant.within)

pub relax_move-requires-in-loop-a-clause-condition : goal.relax_move-requires-in-loop-a-clause-condition
relax_move-requires-in-loop-a-clause-condition g c = rw (to_z-of_z w64 c.args.step c.ranges.step) c.requires.condition

pub relax_move-requires-clause-condition : goal.relax_move-requires-clause-condition
relax_move-requires-clause-condition g c = rw (to_z-of_z w64 c.args.step c.ranges.step) c.requires.condition

pub loop-a-preserved : goal.loop-a-preserved
loop-a-preserved g c = record {
  within = All-tail (λ (a : ArcId). a.0 < length c.args.s.now.graph.arcs) c.in-Some.a c.next.new.self (subst (λ z. All (λ (a : ArcId). a.0 < length c.args.s.now.graph.arcs) z) c.in-Some.ensures.steps c.loop-a.invariant.within);
  relaxing = c.relax_move-in-loop-a.ensures.relaxing;
  lowered = lowered_twice g.C.Cost.value_at c.args.step c.args.s.now (labels_of c.args.room.now) (labels_of c.relax_move.new.room) (labels_of c.relax_move-in-loop-a.new.room)
      (lowered_twice g.C.Cost.value_at c.args.step c.args.s.now (labels_of c.args.room.now) (labels_of c.loop-a.room) (labels_of c.relax_move.new.room) c.loop-a.invariant.lowered c.relax_move.ensures.lowered)
      c.relax_move-in-loop-a.ensures.lowered;
  relaxed = next_edges g.C.Cost.value_at (to_z w64 (of_z w64 c.args.step)) c.args.s.now (labels_of c.loop-a.room) (labels_of c.relax_move.new.room) (labels_of c.relax_move-in-loop-a.new.room) c.args.u.0
      c.loop-a.a-iterator c.in-Some.a c.next.new.self c.in-Some.ensures.steps c.loop-a.invariant.relaxing.done c.relax_move.ensures.relaxing.done c.relax_move.ensures.lowered c.relax_move-in-loop-a.ensures.lowered
      c.relax_move.ensures.relaxed c.relax_move-in-loop-a.ensures.relaxed c.loop-a.invariant.relaxed;
  lists = c.relax_move-in-loop-a.ensures.lists;
  source = c.relax_move-in-loop-a.ensures.source ∙ c.relax_move.ensures.source ∙ c.loop-a.invariant.source;
  aside = c.relax_move-in-loop-a.ensures.aside ∙ c.relax_move.ensures.aside ∙ c.loop-a.invariant.aside;
  room = c.relax_move-in-loop-a.ensures.room;
}

pub returns-clause-relaxed : goal.returns-clause-relaxed
returns-clause-relaxed g c = λ m v price e.
    let none = c.in-None.ensures.steps.0 in
    let k = (rw (to_z-of_z w64 c.args.step c.ranges.step) at c.loop-a.invariant.relaxed) m v price e in
    elim k [
      | inl w ↦ absurd (no_member (record { 0 = m.arc }) (subst (λ (z : List ArcId). Contains z (record { 0 = m.arc })) none w))
      | inr r ↦ r
    ]
