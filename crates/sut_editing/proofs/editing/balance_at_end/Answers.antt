use Rattle.sut_editing.proofs.Finishing.{balanced-end}
use Rattle.sut_editing.proofs.editing.balance_at_end.Goals as goal

pub returns-in_ok-rebalance-clause-ended : goal.returns-in_ok-rebalance-clause-ended
returns-in_ok-rebalance-clause-ended g c first stage events r = balanced-end first stage events _ _ c.if-log.false c.in_ok-rebalance.ensures.balanced r
