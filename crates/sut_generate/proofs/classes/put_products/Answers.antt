use Rattle.std.proofs.Common.{◌∙◌, ◌++◌, ◌∷◌, ◌+◌, [], ap}
use Rattle.std.specs.Prelude.{codes}
use Rattle.sut_text.specs.Text.{line_text}
use Rattle.sut_generate.specs.Generator.{product_code, product_line}
use Rattle.sut_generate.proofs.Lines.{numbered-none, numbered-more}
use Rattle.sut_generate.proofs.classes.put_products.Goals as goal

pub loop-i-init : goal.loop-i-init
loop-i-init c = numbered-none product_line c.args.out.now.items

pub loop-i-preserved : goal.loop-i-preserved
loop-i-preserved c =
    numbered-more product_line _ c.loop-i.out.items _ c.loop-i.i c.loop-i.invariant
    (c.in_ok-put_line.ensures ∙ ap (λ k. c.loop-i.out.items ++ line_text (codes "product" ∷ product_code (c.loop-i.i + 1) ∷ k ∷ [])) c.kind_of.ensures)
