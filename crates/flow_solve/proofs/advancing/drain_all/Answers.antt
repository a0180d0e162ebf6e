use Rattle.std.proofs.Common.{rules, ◌≡◌, ◌<ℤ◌, inl, inr, subst, arith, IsTrue}
use Rattle.std.proofs.lemmas.Int.{to_z-of_z}
use Rattle.std.proofs.lemmas.Bool.{cases_lt}
use mir.Syntax.{w64}
use mir.Val.{to_z, of_z}
use Rattle.flow_residual.specs.Flows.{excess_of}
use Rattle.flow_solve.specs.Progress.{IsUnderway}
use Rattle.flow_solve.proofs.Underway.{same_nodes, underway_on}
use Rattle.flow_solve.proofs.advancing.drain_all.Goals as goal

pub returns-then-not-drain-clause-underway : goal.returns-then-not-drain-clause-underway
returns-then-not-drain-clause-underway g c =
    subst (λ z. IsUnderway g.C.Cost.value_at z c.args.s.now c.drain.new.s c.args.steps.now c.drain.new.steps) (to_z-of_z w64 c.args.step c.ranges.step)
    (underway_on g.C.Cost.value_at (to_z w64 (of_z w64 c.args.step)) c.args.s.now c.loop-n.s c.drain.new.s c.args.steps.now c.loop-n.steps c.drain.new.steps c.loop-n.invariant.underway c.drain.ensures.underway)

pub loop-n-preserved : goal.loop-n-preserved
loop-n-preserved g c =
    let done : IsTrue c.drain.result = search rules in
    let u = c.drain.ensures.underway in
    let same = same_nodes g.C.Cost.value_at (to_z w64 (of_z w64 c.args.step)) c.loop-n.s c.drain.new.s c.loop-n.steps c.drain.new.steps u in
    record {
      underway = underway_on g.C.Cost.value_at (to_z w64 (of_z w64 c.args.step)) c.args.s.now c.loop-n.s c.drain.new.s c.args.steps.now c.loop-n.steps c.drain.new.steps c.loop-n.invariant.underway u;
      room = c.drain.ensures.room;
      spent = λ k l m. elim (cases_lt k c.loop-n.n) [
        | inl q ↦ u.spent k (omega (arith, same, m)) (c.loop-n.invariant.spent k q (omega (arith, same, m)))
        | inr q ↦ (let here : c.loop-n.n ≡ k = omega (arith, l, q) in subst (λ z. excess_of c.drain.new.s z <ℤ to_z w64 (of_z w64 c.args.step)) here (c.drain.ensures.spent done))
      ];
    }
