use Rattle.std.proofs.Common.{rules, ◌<◌, length, refl, sym, ◌∙◌, arith, length-set}
use Rattle.std.proofs.lemmas.Int.{to_z-of_z}
use Rattle.std.proofs.lemmas.Option.{slice_get_read, slice_get_within}
use mir.Syntax.{w64}
use mir.Val.{to_z, of_z, SFits}
use Rattle.flow_residual.proofs.Excesses.{zip_length}
use Rattle.flow_residual.proofs.Settles.{same_settled, flow_here, other_more, settled_more}
use Rattle.flow_residual.proofs.settling.settle_flows.Goals as goal

pub loop-a-init : goal.loop-a-init
loop-a-init g c = record { counted = refl; done = λ k l. absurd (omega (arith, l)); other = λ k l. refl }

pub index-x-requires : goal.index-x-requires
index-x-requires g c = omega (arith, c.loop-a.flows.ok, c.loop-a.invariant.counted, zip_length c.args.g.now.arcs c.args.flows.now.items c.requires.bounded, c.loop-a-test.true, c.arc_count-a-end.ensures.count)

pub settled-requires-clause-within : goal.settled-requires-clause-within
settled-requires-clause-within g c =
    let there : c.loop-a.a < length c.args.g.now.arcs = omega (arith, c.loop-a-test.true, c.arc_count-a-end.ensures.count) in
    let f : SFits w64 c.index-x.result.now = search rules in
    let counted = zip_length c.args.g.now.arcs c.args.flows.now.items c.requires.bounded in
    let x = slice_get_read c.loop-a.flows.items (length c.loop-a.flows.items) c.loop-a.a c.index-x.result.now refl (omega (arith, c.loop-a.invariant.counted, counted, there)) c.index-x.ensures in
    rw (to_z-of_z w64 c.index-x.result.now f) (flow_here c.args.g.now.arcs c.args.flows.now.items c.loop-a.a c.index-x.result.now c.requires.bounded there (sym (c.loop-a.invariant.other c.loop-a.a (omega arith)) ∙ x))

pub index_mut-requires : goal.index_mut-requires
index_mut-requires g c = omega (arith, c.loop-a.flows.ok, c.loop-a.invariant.counted, zip_length c.args.g.now.arcs c.args.flows.now.items c.requires.bounded, c.loop-a-test.true, c.arc_count-a-end.ensures.count)

pub loop-a-preserved : goal.loop-a-preserved
loop-a-preserved g c =
    let there : c.loop-a.a < length c.args.g.now.arcs = omega (arith, c.loop-a-test.true, c.arc_count-a-end.ensures.count) in
    let f : SFits w64 c.index-x.result.now = search rules in
    let fr : SFits w64 c.settled.result = search rules in
    let counted = zip_length c.args.g.now.arcs c.args.flows.now.items c.requires.bounded in
    let long : c.loop-a.a < length c.loop-a.flows.items = omega (arith, c.loop-a.invariant.counted, counted, there) in
    let x = slice_get_read c.loop-a.flows.items (length c.loop-a.flows.items) c.loop-a.a c.index-x.result.now refl long c.index-x.ensures in
    let start = sym (c.loop-a.invariant.other c.loop-a.a (omega arith)) ∙ x in
    let v = to_z w64 (of_z w64 c.settled.result) in
    record {
      counted = length-set c.loop-a.flows.items c.loop-a.a v ∙ c.loop-a.invariant.counted;
      done = settled_more g.C.Cost.value_at (to_z w64 (of_z w64 c.args.step)) c.args.potentials.now c.args.g.now.arcs c.args.costs.now c.loop-a.flows.items c.args.flows.now.items c.loop-a.a c.index-x.result.now v long start
          (λ arc cost i j. same_settled g.C.Cost.value_at cost cost (to_z w64 (of_z w64 c.index-x.result.now)) c.index-x.result.now arc.lo arc.lo arc.hi arc.hi (to_z w64 (of_z w64 c.args.step)) (to_z w64 (of_z w64 c.args.step)) _ _ c.settled.result v
          refl (to_z-of_z w64 c.index-x.result.now f) refl refl refl refl (sym (to_z-of_z w64 c.settled.result fr)) (c.settled.ensures arc cost i j))
          c.loop-a.invariant.done;
      other = other_more g.C.Cost.value_at (to_z w64 (of_z w64 c.args.step)) c.args.potentials.now c.args.g.now.arcs c.args.costs.now c.loop-a.flows.items c.args.flows.now.items c.loop-a.a c.index-x.result.now v long start c.loop-a.invariant.other;
    }

pub returns-clause-each : goal.returns-clause-each
returns-clause-each g c = λ a arc cost x y h e.
    let past : a < c.loop-a.a = omega (arith, slice_get_within c.args.g.now.arcs a arc h.arc_is, c.loop-a-test.false, c.arc_count-a-end.ensures.count) in
    rw (← to_z-of_z w64 c.args.step c.ranges.step) (c.loop-a.invariant.done a past arc cost x y h e)
