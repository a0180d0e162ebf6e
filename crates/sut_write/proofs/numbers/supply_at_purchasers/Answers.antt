use Rattle.std.proofs.Common.{◌≡◌, ◌∙◌, ◌+ℤ◌, ap, length}
use Rattle.sut_classes.specs.Places.{codes_of}
use Rattle.sut_classes.specs.declared.ids.Axis.TheVariants as axis
use Rattle.sut_write.specs.Numbers.{net_margin, product_tax}
use Rattle.sut_write.proofs.Below.{sum-below}
use Rattle.sut_write.proofs.Sums.{three-sum}
use Rattle.sut_write.proofs.numbers.supply_at_purchasers.Goals as goal

pub returns-clause-value : goal.returns-clause-value
returns-clause-value c =
    let cs = c.args.p.now.classes in
    let t = c.args.t.now in
    let kinds : c.count.result ≡ length cs.margins = c.count.ensures.count ∙ ap (λ cs. length (codes_of cs axis.Margin)) c.classes.ensures in
    let taxes : c.count-2.result ≡ length cs.taxes = c.count-2.ensures.count ∙ ap (λ cs. length (codes_of cs axis.Tax)) c.classes-2.ensures in
    let margins = sum-below (λ k. net_margin t k c.args.i) (λ n. record { 0 = n }) c.margins_on-margins.result c.count.result (length cs.margins) c.margins_on-margins.ensures.sum kinds in
    let levied = sum-below (λ x. product_tax t x c.args.i) (λ n. record { 0 = n }) c.sum_of-taxes.result c.count-2.result (length cs.taxes) c.sum_of-taxes.ensures.sum taxes in
    three-sum c.value_in-supply.result c.margins_on-margins.result c.sum_of-taxes.result c.value_in-supply.ensures.small c.margins_on-margins.ensures.small c.sum_of-taxes.ensures.small
    ∙ (λ i. (c.value_in-supply.ensures.value i +ℤ margins i) +ℤ levied i)
