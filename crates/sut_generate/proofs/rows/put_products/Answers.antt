use Rattle.sut_generate.proofs.Drawing.{Draws-none, Draws-more_rows}
use Rattle.sut_generate.specs.Generator.{rows_of_product}
use Rattle.sut_generate.proofs.rows.put_products.Goals as goal

pub loop-i-init : goal.loop-i-init
loop-i-init c = Draws-none c.args.out.now.items c.args.state

pub loop-i-preserved : goal.loop-i-preserved
loop-i-preserved c = Draws-more_rows (rows_of_product c.args.industries) _ _ _ _ _ _ _ c.loop-i.invariant c.in_ok-state.ensures
