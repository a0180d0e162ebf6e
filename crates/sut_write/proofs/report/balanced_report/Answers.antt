use Rattle.std.proofs.Common.{All, subst}
use Rattle.sut_tables.specs.Gdp.{expenditure, income, production}
use Rattle.sut_tables.specs.Rows.{InRange}
use Rattle.sut_tables.specs.declared.tables.Held.{Held}
use Rattle.sut_write.proofs.GdpBounds.{expenditure-up_to, income-up_to, kept-up_to, production-up_to}
use Rattle.sut_write.proofs.report.balanced_report.Goals as goal

pub narrow-expenditure-requires : goal.narrow-expenditure-requires
narrow-expenditure-requires c =
    kept-up_to c.gdp-sums.result.expenditure (expenditure c.args.t.now) c.gdp-sums.ensures.expenditure (expenditure-up_to c.args.p.now c.args.t.now c.kept.ensures c.requires.of_problem (subst (All (λ (h : Held). InRange h.number)) c.cells.ensures.all c.cells.ensures.in_range))

pub narrow-income-requires : goal.narrow-income-requires
narrow-income-requires c =
    kept-up_to c.gdp-sums.result.income (income c.args.t.now) c.gdp-sums.ensures.income (income-up_to c.args.p.now c.args.t.now c.kept.ensures c.requires.of_problem (subst (All (λ (h : Held). InRange h.number)) c.cells.ensures.all c.cells.ensures.in_range))

pub narrow-production-requires : goal.narrow-production-requires
narrow-production-requires c =
    kept-up_to c.gdp-sums.result.production (production c.args.t.now) c.gdp-sums.ensures.production (production-up_to c.args.p.now c.args.t.now c.kept.ensures c.requires.of_problem (subst (All (λ (h : Held). InRange h.number)) c.cells.ensures.all c.cells.ensures.in_range))
