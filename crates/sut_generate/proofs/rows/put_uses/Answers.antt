use Rattle.sut_generate.proofs.Drawing.{Draws-none, Draws-more}
use Rattle.sut_generate.specs.Generator.{industry_row}
use Rattle.sut_generate.proofs.rows.put_uses.Goals as goal

pub loop-j-init : goal.loop-j-init
loop-j-init c = Draws-none c.args.out.now.items c.args.state

pub loop-j-preserved : goal.loop-j-preserved
loop-j-preserved c = Draws-more (industry_row c.args.product) _ _ _ _ _ _ _ c.loop-j.invariant c.in_ok-state.ensures
