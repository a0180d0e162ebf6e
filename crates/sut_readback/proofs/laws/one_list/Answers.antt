use Rattle.sut_readback.proofs.OneList.{one-list}
use Rattle.sut_readback.proofs.laws.one_list.Goals as goal

pub returns : goal.returns
returns c = one-list c.args.p.now c.kept.ensures.problem
