use Rattle.sut_write.proofs.Layers.{no-net_margins}
use Rattle.sut_write.proofs.laws.margins_cancel.Goals as goal

pub returns : goal.returns
returns c = no-net_margins c.args.p.now c.args.t.now c.kept.ensures.problem c.requires.of_problem c.requires.identities c.args.k
