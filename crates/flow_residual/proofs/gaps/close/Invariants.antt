use Rattle.std.proofs.Common.{◌^◌, pos}
use Rattle.flow_cost.specs.Cost.{IsWithin}
use Rattle.flow_residual.proofs.Closed.{IsClosed}
use Rattle.flow_residual.proofs.gaps.close.Given as goal

abbrev pub invariant-loop-n : goal.invariant-loop-n
invariant-loop-n l = record {
  closed : IsClosed l.nodes l.initial.potentials.items l.potentials.items l.before l.top l.n-index;
  small : IsWithin (pos (10 ^ 24)) l.before;
}
