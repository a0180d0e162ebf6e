use Rattle.sut_laws.proofs.GroupSums.{group-sums}
use Rattle.sut_laws.proofs.balances.group_sums.Goals as goal

pub returns : goal.returns
returns c = group-sums
