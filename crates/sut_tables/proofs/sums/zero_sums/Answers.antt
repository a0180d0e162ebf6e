use Rattle.std.proofs.Common.{◌≡◌, ◌<◌, ◌∙◌, ap, sym, subst, rules, arith, length, refl}
use Rattle.std.proofs.lemmas.List.{take_all}
use Rattle.sut_classes.specs.Groups.{Groups}
use Rattle.sut_tables.specs.CellSums.{IsZeroFor, kept_for, sums_by}
use Rattle.sut_tables.proofs.ZeroTables.{zero-more, zero-nothing}
use Rattle.sut_tables.proofs.sums.zero_sums.Goals as goal

pub loop-held-preserved : goal.loop-held-preserved
loop-held-preserved c = λ q.
    let gs : Groups = record { of_product = c.args.product_groups.now; of_industry = c.args.industry_groups.now } in
    let hs = c.args.cells.now in
    zero-more gs hs c.loop-held.held-index _ _ c.loop-held-test.true refl q c.loop-held.sums c.start_sums.new.sums (c.loop-held.invariant q) c.product_group_of-product_group.result c.industry_group_of-industry_group.result c.product_group_of-product_group.ensures c.industry_group_of-industry_group.ensures (c.in_ok-start_sums.ensures q)

pub returns : goal.returns
returns c = λ q.
    let gs : Groups = record { of_product = c.args.product_groups.now; of_industry = c.args.industry_groups.now } in
    subst (λ hs. IsZeroFor gs hs q c.loop-held.sums) (take_all c.loop-held.held-index c.args.cells.now c.loop-held-test.false) (c.loop-held.invariant q)
