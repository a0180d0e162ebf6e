use Rattle.std.proofs.Common.{◌≡◌, ◌*◌, ◌^◌, ◌<◌, ℕ, subst, arith, pos}
use Rattle.std.proofs.Common.{◌≤ℤ◌, ◌<ℤ◌}
use Rattle.std.proofs.lemmas.Int.{ints, to_z-of_z}
use mir.Syntax.{w128}
use mir.Val.{to_z, of_z, SFits}
use Rattle.flow_solve.specs.Bounds.{surplus, size_of}
use Rattle.flow_solve.proofs.Powers.{power_some}
use Rattle.flow_solve.proofs.Scaled.{first_fits, first_near, falls_at, later_more}
use Rattle.flow_solve.proofs.scaling.approach.Goals as goal

pub returns-clause-scaled : goal.returns-clause-scaled
returns-clause-scaled g c = λ big k l few.
    let fits : SFits w128 c.total_excess-excess.result = record { sfits = c.total_excess-excess.type_inv } in
    let is : to_z w128 (of_z w128 c.total_excess-excess.result) ≡ surplus c.args.s.now c.args.s.now.flows = rw (to_z-of_z w128 c.total_excess-excess.result fits) c.total_excess-excess.ensures in
    let size = c.size.ensures.value in
    let first = c.first_scale-first.result in
    let covers : first < 40 → surplus c.args.s.now c.args.s.now.flows ≤ℤ pos (size_of c.args.s.now * 2 ^ first) = λ h. subst (λ z. z ≤ℤ pos (size_of c.args.s.now * 2 ^ first)) is (subst (λ z. to_z w128 (of_z w128 c.total_excess-excess.result) ≤ℤ pos (z * 2 ^ first)) size (c.first_scale-first.ensures.covers h)) in
    let least : (j : ℕ) → j < first → pos (size_of c.args.s.now * 2 ^ j) <ℤ surplus c.args.s.now c.args.s.now.flows = λ j h. subst (λ z. pos (size_of c.args.s.now * 2 ^ j) <ℤ z) is (subst (λ z. pos (z * 2 ^ j) <ℤ to_z w128 (of_z w128 c.total_excess-excess.result)) size (c.first_scale-first.ensures.least j h)) in
    let at = first_fits (size_of c.args.s.now) first k (surplus c.args.s.now c.args.s.now.flows) c.first_scale-first.ensures.highest covers least l few in
    let most : surplus c.args.s.now c.args.s.now.flows ≤ℤ pos (4 * size_of c.args.s.now * 2 ^ first) = let m = at.1 in omega (arith, ints, m) in
    let near = first_near g.N.PartialEq.eq g.A.PartialEq.eq g.C.Cost.span_of g.C.Cost.value_at g.met.C.Cost.lawful c.args.s.now c.graph.ensures.kept (2 ^ first) (4 * size_of c.args.s.now * 2 ^ first) (power_some first) c.requires.condition most in (
      falls_at (pos (4 * size_of c.args.s.now)) c.descend.new.s c.settle_all.new.self c.settle_all.ensures.rest (c.descend.ensures.near near c.settle_all.new.self.flows c.settle_all.ensures.settled),
      later_more c.args.steps.now c.descend.new.steps (4 * size_of c.args.s.now) first k at.0 (c.descend.ensures.few near),
    )
