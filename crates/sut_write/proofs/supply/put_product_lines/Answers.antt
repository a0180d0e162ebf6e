use Rattle.std.proofs.Common.{◌≡◌, ◌∙◌, ap, arith, length}
use Rattle.std.proofs.lemmas.List.{length-map}
use Rattle.sut_classes.specs.ClassLists.{ProductClass}
use Rattle.sut_classes.specs.Places.{codes_of}
use Rattle.sut_classes.specs.declared.ids.Axis.TheVariants as axis
use Rattle.sut_text.specs.Text.{line_text}
use Rattle.sut_write.specs.Supply.{supply_line}
use Rattle.sut_write.specs.Places.{below}
use Rattle.sut_write.proofs.Below.{printed-all, printed-more}
use Rattle.sut_write.proofs.SupplyLines.{lines-of}
use Rattle.sut_write.proofs.supply.put_product_lines.Goals as goal

pub loop-place-preserved : goal.loop-place-preserved
loop-place-preserved c =
    let cs = c.args.p.now.classes in
    let t = c.args.t.now in
    printed-more (λ n. line_text (supply_line cs t (record { 0 = n }))) c.loop-place.place c.args.out.now.items c.loop-place.out.items c.put_product_line.new.out.items c.loop-place.invariant c.in_ok-put_product_line.ensures

pub returns : goal.returns
returns c =
    let cs = c.args.p.now.classes in
    let t = c.args.t.now in
    let count : c.count-place-end.result ≡ length cs.products = c.count-place-end.ensures.count ∙ ap (λ cs. length (codes_of cs axis.Product)) c.classes.ensures ∙ length-map cs.products (λ (x : ProductClass). x.code) in
    printed-all (λ n. line_text (supply_line cs t (record { 0 = n }))) c.loop-place.place (length cs.products) c.args.out.now.items c.loop-place.out.items _ c.loop-place.invariant (omega (arith, count)) (lines-of (supply_line cs t) (λ n. record { 0 = n }) (below (length cs.products)))
