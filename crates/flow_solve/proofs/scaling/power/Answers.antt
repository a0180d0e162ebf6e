use Rattle.std.proofs.Common.{arith}
use Rattle.std.proofs.lemmas.Nat.{one_shl}
use Rattle.flow_solve.proofs.Powers.{power_small}
use Rattle.flow_solve.proofs.scaling.power.Goals as goal

pub returns-clause-small : goal.returns-clause-small
returns-clause-small c = omega (arith, one_shl c.args.k 64 (omega (arith, c.requires)), power_small c.args.k c.requires)
