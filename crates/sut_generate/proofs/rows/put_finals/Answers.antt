use Rattle.sut_generate.proofs.Drawing.{Draws-none, Draws-more}
use Rattle.sut_generate.specs.Generator.{final_row}
use Rattle.sut_generate.proofs.rows.put_finals.Goals as goal

pub loop-k-init : goal.loop-k-init
loop-k-init c = Draws-none c.args.out.now.items c.args.state

pub loop-k-preserved : goal.loop-k-preserved
loop-k-preserved c = Draws-more (final_row c.args.product) _ _ _ _ _ _ _ c.loop-k.invariant c.in_ok-state.ensures
