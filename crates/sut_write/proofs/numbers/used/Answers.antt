use Rattle.std.proofs.Common.{◌≡◌, ◌∙◌, ◌+ℤ◌, ap, length, sym}
use Rattle.std.proofs.lemmas.List.{length-map}
use Rattle.sut_classes.specs.ClassLists.{IndustryClass}
use Rattle.sut_classes.specs.Places.{codes_of}
use Rattle.sut_classes.specs.declared.ids.Axis.TheVariants as axis
use Rattle.sut_classes.specs.declared.ids.Column.TheVariants as column
use Rattle.sut_measures.specs.declared.measures.Cell.TheVariants as cell
use Rattle.sut_measures.specs.declared.measures.Measure.TheVariants as measure
use Rattle.sut_tables.specs.Values.{int_sum_by, value_of}
use Rattle.sut_write.specs.Places.{below}
use Rattle.sut_write.proofs.Below.{sum-below}
use Rattle.sut_write.proofs.Layers.{used-parts}
use Rattle.sut_write.proofs.Sums.{three-series}
use Rattle.sut_write.proofs.numbers.used.Goals as goal

pub returns : goal.returns
returns c =
    let p = c.args.p.now in
    let t = c.args.t.now in
    let i = c.args.i in
    let industries : c.count.result ≡ length p.classes.industries = c.count.ensures.count ∙ ap (λ cs. length (codes_of cs axis.Industry)) c.classes.ensures ∙ length-map p.classes.industries (λ (x : IndustryClass). x.code) in
    let finals : c.count-2.result ≡ length p.classes.finals = c.count-2.ensures.count ∙ ap (λ cs. length (codes_of cs axis.Final)) c.classes-2.ensures in
    let margins : c.count-3.result ≡ length p.classes.margins = c.count-3.ensures.count ∙ ap (λ cs. length (codes_of cs axis.Margin)) c.classes-3.ensures in
    let intermediate = c.sum_of-intermediate.ensures.sum ∙ ap (λ n. int_sum_by (λ n. value_of t (measure.Cell (cell.Basic i (column.Industry (record { 0 = n }))))) (below n)) industries in
    let by_finals = c.sum_of-by_finals.ensures.sum ∙ ap (λ n. int_sum_by (λ n. value_of t (measure.Cell (cell.Basic i (column.Final (record { 0 = n }))))) (below n)) finals in
    let services = sum-below (λ k. value_of t (measure.Cell (cell.Service i k))) (λ n. record { 0 = n }) c.sum_of-services.result c.count-3.result (length p.classes.margins) c.sum_of-services.ensures.sum margins in
    three-series c.sum_of-intermediate.result c.sum_of-by_finals.result c.sum_of-services.result c.sum_of-intermediate.ensures.small c.sum_of-by_finals.ensures.small c.sum_of-services.ensures.small
    ∙ (λ d. (intermediate d +ℤ by_finals d) +ℤ services d)
    ∙ sym (used-parts p t c.kept.ensures.problem c.requires i)
