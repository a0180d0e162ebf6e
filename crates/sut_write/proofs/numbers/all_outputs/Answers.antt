use Rattle.std.proofs.Common.{◌≡◌, ◌∙◌, ap, length}
use Rattle.std.proofs.lemmas.Int.{to_z-of_z}
use mir.Syntax.{w128}
use mir.Val.{SFits}
use Rattle.std.proofs.lemmas.List.{length-map}
use Rattle.sut_classes.specs.ClassLists.{IndustryClass}
use Rattle.sut_classes.specs.Places.{codes_of}
use Rattle.sut_classes.specs.declared.ids.Axis.TheVariants as axis
use Rattle.sut_measures.specs.declared.measures.Total.TheVariants as total
use Rattle.sut_write.specs.Numbers.{total_of}
use Rattle.sut_write.proofs.Below.{sum-below}
use Rattle.sut_write.proofs.numbers.all_outputs.Goals as goal

pub returns : goal.returns
returns c =
    let cs = c.args.p.now.classes in
    let fits : SFits w128 c.sum_of.result = record { sfits = c.sum_of.type_inv } in
    let count : c.count.result ≡ length cs.industries = c.count.ensures.count ∙ ap (λ cs. length (codes_of cs axis.Industry)) c.classes.ensures ∙ length-map cs.industries (λ (x : IndustryClass). x.code) in
    to_z-of_z w128 c.sum_of.result fits
    ∙ sum-below (λ j. total_of c.args.t.now (total.Output j)) (λ n. record { 0 = n }) c.sum_of.result c.count.result (length cs.industries) c.sum_of.ensures.sum count
