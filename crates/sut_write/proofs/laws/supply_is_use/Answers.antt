use Rattle.sut_write.proofs.Layers.{purchased}
use Rattle.sut_write.proofs.laws.supply_is_use.Goals as goal

pub returns : goal.returns
returns c = purchased c.args.p.now c.args.t.now c.kept.ensures.problem c.requires.of_problem c.requires.identities c.args.i
