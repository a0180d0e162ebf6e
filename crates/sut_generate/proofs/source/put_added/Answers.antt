use Rattle.sut_generate.specs.Generator.{added_line}
use Rattle.sut_generate.proofs.Lines.{numbered-none, numbered-more}
use Rattle.sut_generate.proofs.source.put_added.Goals as goal

pub loop-j-init : goal.loop-j-init
loop-j-init c = numbered-none added_line c.args.out.now.items

pub loop-j-preserved : goal.loop-j-preserved
loop-j-preserved c = numbered-more added_line _ _ _ _ c.loop-j.invariant c.in_ok-put_line.ensures
