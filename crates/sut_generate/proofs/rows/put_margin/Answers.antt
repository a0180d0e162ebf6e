use Rattle.sut_generate.proofs.Drawing.{Draws-no_margin}
use Rattle.sut_generate.proofs.rows.put_margin.Goals as goal

pub returns-then-product-eq1 : goal.returns-then-product-eq1
returns-then-product-eq1 c = Draws-no_margin _ _ _ c.if-product-eq1.true
