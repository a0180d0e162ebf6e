use Rattle.std.proofs.Common.{pos, ◌-ℤ◌, ◌≤ℤ◌, neg_ℤ, rules, subst, IsTrue, ◌↔◌}
use lib.Signed.{le_z}
use mir.Syntax.{w64, w128}
use mir.Val.{to_z, of_z, SFits}
use Rattle.flow_residual.proofs.Casts.{lacks_is}
use Rattle.flow_search.proofs.relaxing.lacks.Goals as goal

pub returns : goal.returns
returns g c =
    let f : SFits w128 c.excess.result = search rules in
    subst (λ z. IsTrue (le_z (to_z w128 (of_z w128 c.excess.result)) (to_z w128 (of_z w128 (pos 0 -ℤ to_z w128 (of_z w128 (to_z w64 (of_z w64 c.args.step))))))) ↔ (c.args.step ≤ℤ neg_ℤ z)) c.excess.ensures
    (lacks_is c.excess.result c.args.step f c.requires.step)
