use Rattle.std.proofs.Common.{subst}
use Rattle.std.specs.Prelude.{All}
use Rattle.sut_tables.specs.Rows.{InRange}
use Rattle.sut_tables.specs.declared.tables.Held.{Held}
use Rattle.sut_review.proofs.Asked.{marks-asked, marks-few, values-asked}
use Rattle.sut_review.proofs.laws.values_asked.Goals as goal

pub returns-clause-values : goal.returns-clause-values
returns-clause-values c =
    values-asked c.args.p.now c.args.t.now c.kept.ensures c.requires (subst (All (λ (h : Held). InRange h.number)) c.cells.ensures.all c.cells.ensures.in_range)

pub returns-clause-counts : goal.returns-clause-counts
returns-clause-counts c = λ rule.
    marks-asked rule c.args.p.now c.args.t.now (values-asked c.args.p.now c.args.t.now c.kept.ensures c.requires (subst (All (λ (h : Held). InRange h.number)) c.cells.ensures.all c.cells.ensures.in_range))

pub returns-clause-few : goal.returns-clause-few
returns-clause-few c = λ rule. marks-few rule c.args.p.now c.args.t.now c.kept.ensures
