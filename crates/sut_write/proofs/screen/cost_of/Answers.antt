use Rattle.std.proofs.Common.{◌<◌, ◌*◌, ◌^◌, subst, sym}
use Rattle.sut_tables.proofs.CostBound.{cost-below}
use Rattle.sut_write.proofs.screen.cost_of.Goals as goal

pub cost_field-requires : goal.cost_field-requires
cost_field-requires c =
    subst (λ n. n < 6 * 10 ^ 33) (sym c.cost.ensures) (cost-below c.args.p.now c.args.t.now c.kept.ensures.problem c.kept.ensures.limits c.requires)
