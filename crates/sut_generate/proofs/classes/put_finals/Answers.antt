use Rattle.sut_generate.specs.Generator.{final_line}
use Rattle.sut_generate.proofs.Lines.{numbered-none, numbered-more}
use Rattle.sut_generate.proofs.classes.put_finals.Goals as goal

pub loop-k-init : goal.loop-k-init
loop-k-init c = numbered-none final_line c.args.out.now.items

pub loop-k-preserved : goal.loop-k-preserved
loop-k-preserved c = numbered-more final_line _ _ _ _ c.loop-k.invariant c.in_ok-put_line.ensures
