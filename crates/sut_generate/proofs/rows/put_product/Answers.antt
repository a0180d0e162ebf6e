use Rattle.std.proofs.lemmas.Result.{IfOk-weaker}
use Rattle.sut_generate.proofs.Drawing.{Draws-product}
use Rattle.sut_generate.proofs.rows.put_product.Goals as goal

pub returns : goal.returns
returns c =
    IfOk-weaker c.put_drawn-3.result _ _
    (λ s d. Draws-product _ _ _ _ _ _ _ _ _ _ _ _ _ _ _ _ _ _ _ _ c.in_ok-made.ensures c.in_ok-imported.ensures c.in_ok-used.ensures c.in_ok-spent.ensures c.in_ok-margined.ensures d)
    c.put_drawn-3.ensures
