use Rattle.std.proofs.Common.{◌≡◌, ◌+ℤ◌, ◌-ℤ◌, sym, subst}
use Rattle.std.proofs.lemmas.Int.{to_z-of_z}
use mir.Syntax.{w64}
use Rattle.flow_residual.specs.Flows.{MeetsAll, excess_of, only_at}
use Rattle.flow_residual.specs.Rooms.{HoldsPath}
use Rattle.flow_residual.proofs.Augmented.{path_excess, meets_after}
use Rattle.flow_residual.proofs.states.State.augment.Goals as goal

pub push_path-requires-clause-path : goal.push_path-requires-clause-path
push_path-requires-clause-path g c = (c.requires.path.0, subst (λ z. HoldsPath c.args.self.now z c.args.room.now c.requires.path.0) (sym (to_z-of_z w64 c.args.step c.ranges.step)) c.requires.path.1)

pub returns-clause-flows : goal.returns-clause-flows
returns-clause-flows g c = rw (to_z-of_z w64 c.args.step c.ranges.step) at c.push_path.ensures

pub returns-clause-excess : goal.returns-clause-excess
returns-clause-excess g c = λ n l.
    let is = rw (to_z-of_z w64 c.args.step c.ranges.step) at c.push_path.ensures in
    let h = c.requires.path.1 in
    subst (λ z. excess_of z n ≡ (excess_of c.args.self.now n -ℤ only_at c.args.room.now.source.0 c.args.step n) +ℤ only_at c.args.room.now.last.0 c.args.step n) (sym (is c.requires.path.0 h))
    (path_excess c.args.self.now c.args.step c.args.room.now.source.0 c.args.room.now.last.0 c.requires.path.0 h.path.by_way_of c.args.self.now.flows n c.graph.ensures.kept.counted h.path.leads)

pub returns-clause-condition : goal.returns-clause-condition
returns-clause-condition g c = λ meets.
    let is = rw (to_z-of_z w64 c.args.step c.ranges.step) at c.push_path.ensures in
    subst (λ z. MeetsAll g.C.Cost.value_at c.args.step z) (sym (is c.requires.path.0 c.requires.path.1))
    (meets_after g.N.PartialEq.eq g.A.PartialEq.eq g.C.Cost.value_at g.C.Cost.span_of c.args.step c.args.self.now c.args.room.now c.requires.path.0 g.met.C.Cost.lawful c.graph.ensures.kept c.requires.step.low c.requires.path.1 c.requires.path.2 meets)
