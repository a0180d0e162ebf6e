use Rattle.std.proofs.Common.{◌++◌, ap, ◌≡◌, ◌∙◌, arith, length}
use Rattle.sut_classes.specs.ClassLists.{ProductClass}
use Rattle.sut_classes.specs.ClassText.{product_line}
use Rattle.sut_classes.proofs.CodeLemmas.{mapped-length}
use Rattle.sut_classes.proofs.PrintLemmas.{got, printed-all, printed-more, product-printed}
use Rattle.sut_classes.proofs.print.put_products.Goals as goal

pub loop-place-preserved : goal.loop-place-preserved
loop-place-preserved c =
    let cs = c.args.classes.now in
    let count : c.count-place-end.result ≡ length cs.products = c.count-place-end.ensures.count ∙ mapped-length (λ (p : ProductClass). p.code) cs.products in
    let at = got cs.products c.loop-place.place (omega arith) in
    printed-more (product_line cs) cs.products c.loop-place.place at.0 c.args.out.now.items c.loop-place.out.items c.put_line.new.out.items at.1 c.loop-place.invariant
    (c.in_ok-put_line.ensures ∙ ap (λ t. c.loop-place.out.items ++ t) (product-printed cs c.loop-place.place at.0 c.axis_word.result.now c.code_text.result.now c.kind_text.result.now c.group_text.result.now at.1 c.axis_word.ensures c.code_text.ensures c.kind_text.ensures c.group_text.ensures))

pub returns : goal.returns
returns c =
    let cs = c.args.classes.now in
    let count : c.count-place-end.result ≡ length cs.products = c.count-place-end.ensures.count ∙ mapped-length (λ (p : ProductClass). p.code) cs.products in
    printed-all (product_line cs) cs.products c.loop-place.place c.args.out.now.items c.loop-place.out.items (omega arith) c.loop-place.invariant
