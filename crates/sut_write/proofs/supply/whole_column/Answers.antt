use Rattle.std.proofs.Common.{◌≡◌, ◌∙◌, ap, length}
use Rattle.std.proofs.lemmas.Int.{to_z-of_z}
use mir.Syntax.{w128}
use mir.Val.{SFits}
use Rattle.std.proofs.lemmas.List.{length-map}
use Rattle.sut_classes.specs.ClassLists.{ProductClass}
use Rattle.sut_classes.specs.Places.{codes_of}
use Rattle.sut_classes.specs.declared.ids.Axis.TheVariants as axis
use Rattle.sut_write.specs.Supply.{supply_number}
use Rattle.sut_write.proofs.Below.{sum-below}
use Rattle.sut_write.proofs.supply.whole_column.Goals as goal

pub returns : goal.returns
returns c =
    let cs = c.args.p.now.classes in
    let fits : SFits w128 c.column_sum.result = record { sfits = c.column_sum.type_inv } in
    let count : c.count.result ≡ length cs.products = c.count.ensures.count ∙ ap (λ cs. length (codes_of cs axis.Product)) c.classes.ensures ∙ length-map cs.products (λ (x : ProductClass). x.code) in
    to_z-of_z w128 c.column_sum.result fits
    ∙ sum-below (supply_number cs c.args.t.now c.args.column) (λ n. record { 0 = n }) c.column_sum.result c.count.result (length cs.products) c.column_sum.ensures count
